use mathlib.Core.Path.{sym, ◌∙◌}
use lib.ListN.{drop_of_length-le}
use borrow.Author.Rules.{rules}
use Rattle.syx.proofs.ScanLaws.{asked_next, asked_all}
use Rattle.syx.proofs.scan.has_stop.Goals as goal

pub loop-b-preserved : goal.loop-b-preserved
loop-b-preserved c =
    let a = c.args in
    let l = c.loop-b in
    l.invariant ∙ asked_next a.inside l.found a.s.now l.b-index (search rules)

pub returns : goal.returns
returns c =
    let a = c.args in
    let l = c.loop-b in
    sym (l.invariant ∙ asked_all a.inside l.found _ (drop_of_length-le a.s.now (search rules)))
