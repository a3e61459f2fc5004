use mathlib.Core.Path.{◌≡◌}
use lib.ListN.{drop}
use mathlib.Core.Bool.{cond, false}
use lib.Dec.{leb}
use Rattle.seven_bit.specs.SevenBit.{is_seven_bit}
use Rattle.seven_bit.proofs.all_seven_bit.Given as goal

abbrev pub invariant-loop-b : goal.invariant-loop-b
invariant-loop-b l = is_seven_bit l.s ≡ cond (leb l.above 127) (is_seven_bit (drop l.b-index l.s)) false
