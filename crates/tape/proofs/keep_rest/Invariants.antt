use Prim.Native.Nat.{◌-◌}
use mathlib.Core.Path.{◌≡◌}
use Rattle.seven_bit.specs.Parts.{part, put}
use Rattle.tape.proofs.keep_rest.Given as goal

abbrev pub invariant-loop-i : goal.invariant-loop-i
invariant-loop-i l = l.block ≡ put l.initial.block 0 (part l.from (l.i - l.from) l.initial.block)
