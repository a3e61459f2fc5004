use Prim.Native.Nat.{ℕ, ◌-◌, ◌<◌}
use lib.ListN.{length}
use Rattle.pe_header.proofs.NameLaws.{Printed}
use Rattle.pe_header.proofs.names.fingerprint.Given as goal

abbrev pub invariant-loop-a : goal.invariant-loop-a
invariant-loop-a l = (l.print < 65536) × ((t : ℕ) → Printed l.text l.i l.print t → Printed l.text l.at 0 t)

abbrev pub decreases-loop-a : goal.decreases-loop-a
decreases-loop-a l = length l.text - l.i
