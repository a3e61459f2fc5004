use Prim.Native.Nat.{◌-◌, ◌≤◌}
use mathlib.Core.Bool.{◌&&◌}
use mathlib.Core.Path.{◌≡◌}
use lib.ListN.{length, take}
use Rattle.seven_bit.specs.SevenBit.{is_seven_bit}
use Rattle.pe_frame.proofs.low.gather_blocks.Given as goal

abbrev pub invariant-loop-at : goal.invariant-loop-at
invariant-loop-at l =
    (l.at ≤ length l.s) × (length l.largest ≡ 32) × (is_seven_bit l.largest ≡ (is_seven_bit l.initial.largest && is_seven_bit (take l.at l.s)))

abbrev pub decreases-loop-at : goal.decreases-loop-at
decreases-loop-at l = length l.s - l.at
