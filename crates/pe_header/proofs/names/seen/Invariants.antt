use mathlib.Core.Bool.{Bool}
use mathlib.Core.List.{List}
use mathlib.Core.Path.{◌≡◌}
use Prim.Native.Nat.{ℕ, ◌-◌, ◌≤◌}
use lib.ListN.{take, get_or}
use lib.Seq.{slice}
use Rattle.flat_json.specs.Tree.{Piece}
use Rattle.pe_header.specs.Find.{units}
use Rattle.pe_header.specs.Names.{NameAt, print_of, IsAmong}
use Rattle.pe_header.proofs.names.seen.Given as goal

-- what holds of the names from j up to k holds of all before k
abbrev pub Whole : List ℕ → List ℕ → List ℕ → ℕ → ℕ → ℕ → Type 0
Whole text names prints k print j =
    (ps : List Piece) → NameAt text (get_or names k 0) ps → print ≡ print_of (units ps) → (t : Bool)
    → IsAmong text (slice j k names) (slice j k prints) ps t → IsAmong text (take k names) (take k prints) ps t

abbrev pub invariant-loop-at : goal.invariant-loop-at
invariant-loop-at l = (l.j ≤ l.k) × Whole l.text l.names l.prints l.k l.print l.j

abbrev pub decreases-loop-at : goal.decreases-loop-at
decreases-loop-at l = l.k - l.j
