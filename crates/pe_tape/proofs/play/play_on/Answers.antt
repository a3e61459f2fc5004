use native.Mathlib.Omega.{arith}
use Rattle.pe_tape.proofs.StepLaws.{go_on, end, same_on}
use Rattle.pe_tape.proofs.play.play_on.Goals as goal

pub loop-line-smaller : goal.loop-line-smaller
loop-line-smaller c =
    let r = rw c.in-Ok-Some.field-0-is at c.in-Ok-Some.ensures in
    let on = go_on c.loop-line.invariant.going c.in-Ok-Some.line _ _ r.out_after r.in_output in
    omega (arith, on.0, on.1.within)

pub loop-line-preserved : goal.loop-line-preserved
loop-line-preserved c =
    let r = rw c.in-Ok-Some.field-0-is at c.in-Ok-Some.ensures in
    record {
      going = (go_on c.loop-line.invariant.going c.in-Ok-Some.line _ _ r.out_after r.in_output).1;
      same = same_on c.args.table.now c.loop-line.table c.play_next.new.table c.loop-line.invariant.same r.same;
    }

pub returns-in-Ok-None-clause-out_after : goal.returns-in-Ok-None-clause-out_after
returns-in-Ok-None-clause-out_after c =
    end c.loop-line.invariant.going _ _ _ (rw c.in-Ok-None.field-0-is at c.in-Ok-None.ensures).out_after

pub returns-in-Err-clause-out_after : goal.returns-in-Err-clause-out_after
returns-in-Err-clause-out_after c = end c.loop-line.invariant.going _ _ _ c.in-Err.ensures.out_after
