use mathlib.Core.Path.{◌∙◌, sym}
use lib.ListN.{drop_of_length-le}
use borrow.Author.Rules.{rules}
use Rattle.seven_bit.proofs.SevenBitLaws.{gather_next, gather_end}
use Rattle.seven_bit.proofs.all_seven_bit.Goals as goal

pub loop-b-preserved : goal.loop-b-preserved
loop-b-preserved c =
    let l = c.loop-b in
    l.invariant ∙ gather_next l.above c.args.s.now l.b-index (search rules)

pub returns : goal.returns
returns c = sym (c.loop-b.invariant ∙ gather_end c.loop-b.above _ (drop_of_length-le c.args.s.now (search rules)))
