use Rattle.std.specs.Prelude.{length}
use Rattle.replay.proofs.main.Given as goal

abbrev pub invariant-loop-record : goal.invariant-loop-record
invariant-loop-record l = Unit {0}

abbrev pub decreases-loop-record : goal.decreases-loop-record
decreases-loop-record l = length l.rest
