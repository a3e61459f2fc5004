use Rattle.pe_header.proofs.NameLaws.{same_over, same_short, same_not, same_on}
use Rattle.pe_header.proofs.names.same_name.Goals as goal

pub loop-a-preserved : goal.loop-a-preserved
loop-a-preserved c =
    let l = c.loop-a in
    let x = c.in-Some in
    let y = c.in-Some-unit_at in
    λ t h. l.invariant t (same_on c.args.text.now l.i l.j x.a x.ensures.unit_at y.b y.ensures.unit_at c.if-a-b.true t h)

pub returns-in_default-unit_at : goal.returns-in_default-unit_at
returns-in_default-unit_at c =
    let l = c.loop-a in
    let x = c.in-Some in
    let y = c.in-Some-unit_at in
    l.invariant _ (same_not c.args.text.now l.i l.j x.a x.ensures.unit_at y.b y.ensures.unit_at c.if-a-b.false)

pub returns-in_default-unit_at-2 : goal.returns-in_default-unit_at-2
returns-in_default-unit_at-2 c =
    let l = c.loop-a in
    let x = c.in-Some in
    l.invariant _ (same_short c.args.text.now l.i l.j x.a x.ensures.unit_at c.in_default-unit_at.ensures.unit_at)

pub returns : goal.returns
returns c =
    let l = c.loop-a in
    l.invariant _ (same_over c.args.text.now l.i l.j c.in_default.ensures.unit_at c.unit_at-2.result c.unit_at-2.ensures.unit_at _ c.is_none.ensures)
