use mathlib.Core.Path.{◌≡◌}
use Prim.Native.Nat.{◌-◌, ◌≤◌}
use lib.ListN.{length, drop}
use Rattle.syx.specs.Syx.{outside, read_from, read_file}
use Rattle.syx.specs.Walk.{SameColumns, walked_on_in}
use Rattle.syx.proofs.walk.Given as goal

abbrev pub invariant-loop-tally : goal.invariant-loop-tally
invariant-loop-tally l =
    SameColumns l.initial.columns l.columns
    × (l.tally.from ≤ length l.file) × (l.tally.messages ≤ l.tally.from) × (l.tally.torn ≤ l.tally.from)
    × (walked_on_in l.columns (read_from outside l.tally.from (drop l.tally.from l.file)) l.tally.messages l.tally.torn
    ≡ walked_on_in l.initial.columns (read_file l.file) 0 0)

abbrev pub decreases-loop-tally : goal.decreases-loop-tally
decreases-loop-tally l = length l.file - l.tally.from
