use Prim.Native.Nat.{◌-◌, ◌≤◌}
use Rattle.pe_header.specs.Names.{Lacks}
use Rattle.pe_header.proofs.names.pass_blocks.Given as goal

abbrev pub invariant-loop-i : goal.invariant-loop-i
invariant-loop-i l = (l.from ≤ l.i) × (l.i ≤ l.to) × Lacks l.prints l.print l.from l.i

abbrev pub decreases-loop-i : goal.decreases-loop-i
decreases-loop-i l = l.to - l.i
