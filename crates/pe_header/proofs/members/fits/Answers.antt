use Rattle.pe_header.proofs.NumberLaws.{next_digit, too_large, all_read}
use borrow.Author.Rules.{rules}
use Rattle.pe_header.proofs.members.fits.Goals as goal

pub returns-then-n-gt65535 : goal.returns-then-n-gt65535
returns-then-n-gt65535 c ds rest a w u =
    let l = c.loop-i in
    let text = c.args.text.now in
    let more = next_digit text c.args.to l.n l.i ds rest (l.invariant.1 ds rest a w u) (search rules) (search rules) in
    too_large text c.args.to _ _ ds rest more c.if-n-gt65535.true

pub loop-i-preserved : goal.loop-i-preserved
loop-i-preserved c =
    let l = c.loop-i in
    let text = c.args.text.now in (
      search rules,
      λ ds rest a w u. next_digit text c.args.to l.n l.i ds rest (l.invariant.1 ds rest a w u) (search rules)
          (search rules),
    )

pub returns : goal.returns
returns c ds rest a w u =
    let l = c.loop-i in
    all_read c.args.text.now c.args.to l.n l.i ds rest (l.invariant.1 ds rest a w u) (search rules) l.invariant.0
