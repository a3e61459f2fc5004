use mathlib.Core.Path.{◌≡◌}
use Prim.Native.Nat.{◌≤◌}
use Rattle.seven_bit.specs.Parts.{part, put}
use Rattle.seven_bit.proofs.read_block.Given as goal

abbrev pub invariant-loop-i : goal.invariant-loop-i
invariant-loop-i l = (l.i ≤ 16) × (l.block ≡ put l.initial.block 0 (part l.from l.i l.src))
