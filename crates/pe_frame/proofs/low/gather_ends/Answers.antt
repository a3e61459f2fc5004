use borrow.Author.Rules.{rules}
use Rattle.pe_frame.proofs.LowLaws.{gathered_last}
use Rattle.pe_frame.proofs.low.gather_ends.Goals as goal

pub returns : goal.returns
returns c =
    let a = c.args in
    gathered_last a.largest.now a.s.now _ _ a.k a.k c.gather.ensures c.gather-2.ensures (search rules) (search rules)
