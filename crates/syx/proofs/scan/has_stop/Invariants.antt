use mathlib.Core.Path.{◌≡◌}
use mathlib.Core.Bool.{◌||◌}
use lib.ListN.{drop}
use Rattle.syx.specs.Scan.{has_stop}
use Rattle.syx.proofs.scan.has_stop.Given as goal

abbrev pub invariant-loop-b : goal.invariant-loop-b
invariant-loop-b l = has_stop l.inside l.s ≡ (l.found || has_stop l.inside (drop l.b-index l.s))
