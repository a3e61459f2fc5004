use mathlib.Core.Path.{◌≡◌}
use Prim.Native.Nat.{◌≤◌}
use lib.ListN.{length, take}
use Rattle.seven_bit.specs.Parts.{put}
use Rattle.seven_bit.proofs.put_block.Given as goal

abbrev pub invariant-loop-i : goal.invariant-loop-i
invariant-loop-i l = (l.i ≤ 16) × (l.dst ≡ put l.initial.dst l.at (take l.i l.block)) × (length l.dst ≡ length l.initial.dst)
