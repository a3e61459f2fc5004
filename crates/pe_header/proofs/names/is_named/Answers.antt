use borrow.Author.Rules.{rules}
use Rattle.pe_header.proofs.NameLaws.{named_over, named_short, named_not, named_on}
use Rattle.pe_header.proofs.names.is_named.Goals as goal

pub returns-in_default : goal.returns-in_default
returns-in_default c =
    let a = c.args in
    let l = c.loop-b in
    l.invariant _ (named_not a.text.now l.i a.name.now l.b-index (search rules) c.in-Some.a c.in-Some.ensures.unit_at c.if-a-b.false)

pub returns-in_default-2 : goal.returns-in_default-2
returns-in_default-2 c =
    let a = c.args in
    let l = c.loop-b in
    l.invariant _ (named_short a.text.now l.i a.name.now l.b-index (search rules) c.in_default.ensures.unit_at)

pub loop-b-preserved : goal.loop-b-preserved
loop-b-preserved c =
    let a = c.args in
    let l = c.loop-b in
    λ t h. l.invariant t (named_on a.text.now l.i a.name.now l.b-index (search rules) c.in-Some.a c.in-Some.ensures.unit_at c.if-a-b.true t h)

pub returns : goal.returns
returns c =
    let a = c.args in
    let l = c.loop-b in
    l.invariant _ (named_over a.text.now l.i a.name.now l.b-index (search rules) c.unit_at-2.result c.unit_at-2.ensures.unit_at _ c.is_none.ensures)
