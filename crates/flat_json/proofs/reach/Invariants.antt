use mathlib.Core.Path.{◌≡◌}
use Prim.Native.Nat.{◌-◌}
use lib.ListN.{length, drop}
use Rattle.flat_json.specs.Table.{reached_over}
use Rattle.flat_json.proofs.reach.Given as goal

abbrev pub invariant-loop-here : goal.invariant-loop-here
invariant-loop-here l = reached_over l.table l.stop l.initial.here.place l.initial.here.state (drop l.initial.here.place l.text)
    ≡ reached_over l.table l.stop l.here.place l.here.state (drop l.here.place l.text)

abbrev pub decreases-loop-here : goal.decreases-loop-here
decreases-loop-here l = length l.text - l.here.place
