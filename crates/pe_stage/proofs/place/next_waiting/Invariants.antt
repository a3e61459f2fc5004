use Prim.Native.Nat.{◌+◌, ◌-◌, ◌%◌}
use mathlib.Core.Path.{◌≡◌}
use Rattle.pe_stage.specs.Stage.{first_waiting}
use Rattle.pe_stage.specs.Words.{stage_in}
use Rattle.pe_stage.proofs.place.next_waiting.Given as goal

abbrev pub invariant-loop-asked : goal.invariant-loop-asked
invariant-loop-asked l =
    let places = (stage_in l.stage).places in
    first_waiting places 16 l.first ≡ first_waiting places (16 - l.asked) ((l.first + l.asked) % 16)
