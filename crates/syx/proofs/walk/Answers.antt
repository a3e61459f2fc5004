use native.Mathlib.Omega.{arith}
use Rattle.syx.proofs.WalkLaws.{all_walked}
use Rattle.syx.proofs.walk.Goals as goal

pub returns-clause-all : goal.returns-clause-all
returns-clause-all c =
    let a = c.args in
    let l = c.loop-tally in
    all_walked a.file.now l.columns.room l.tally.from l.tally.messages l.tally.torn _ _ (omega arith) l.invariant.4
