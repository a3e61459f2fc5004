use mathlib.Core.Bool.{Bool}
use Prim.Native.Nat.{◌-◌}
use lib.ListN.{length}
use Rattle.pe_header.proofs.NameLaws.{Same}
use Rattle.pe_header.proofs.names.same_name.Given as goal

abbrev pub invariant-loop-a : goal.invariant-loop-a
invariant-loop-a l = (t : Bool) → Same l.text l.i l.j t → Same l.text l.one l.other t

abbrev pub decreases-loop-a : goal.decreases-loop-a
decreases-loop-a l = length l.text - l.i
