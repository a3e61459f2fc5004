use Prim.Native.Nat.{◌≤◌}
use mathlib.Core.Bool.{◌&&◌}
use mathlib.Core.Path.{◌≡◌}
use lib.ListN.{length}
use Rattle.seven_bit.specs.Parts.{part}
use Rattle.seven_bit.specs.SevenBit.{is_seven_bit}
use Rattle.pe_frame.proofs.low.gather.Given as goal

abbrev pub invariant-loop-i : goal.invariant-loop-i
invariant-loop-i l =
    (length l.largest ≡ length l.initial.largest) × (is_seven_bit l.largest ≡ (is_seven_bit l.initial.largest && is_seven_bit (part l.at l.i l.s)))
