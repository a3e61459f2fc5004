use mathlib.Core.Path.{◌≡◌}
use Prim.Native.Nat.{◌+◌, ◌-◌, ◌≤◌}
use lib.ListN.{length}
use Rattle.seven_bit.specs.Parts.{part, put}
use Rattle.seven_bit.proofs.copy_range.Given as goal

abbrev pub invariant-loop-i : goal.invariant-loop-i
invariant-loop-i l = (l.from ≤ l.i) × (l.i ≤ l.to) × (l.dst ≡ put l.initial.dst (l.at + l.from) (part l.from (l.i - l.from) l.src)) × (length l.dst ≡ length l.initial.dst)
