use mathlib.Core.Bool.{Bool}
use mathlib.Core.List.{List}
use mathlib.Core.Path.{◌≡◌}
use Prim.Native.Nat.{◌≤◌}
use lib.ListN.{length, take}
use lib.Seq.{slice}
use Rattle.flat_json.specs.Tree.{Entry}
use Rattle.pe_header.specs.Find.{repeated}
use Rattle.pe_header.specs.Names.{NamesAt}
use Rattle.pe_header.proofs.TwiceLaws.{Twice}
use Rattle.pe_header.proofs.names.stands_twice.Given as goal

abbrev pub invariant-loop-k : goal.invariant-loop-k
invariant-loop-k l =
    (l.k ≤ l.count) × (length l.prints ≡ length l.initial.prints)
    × ((t : Bool) → Twice l.text (take l.k l.names) (take l.k l.prints) (slice l.k l.count l.names) t
    → (es : List Entry) → NamesAt l.text (take l.count l.names) es → t ≡ repeated es)
