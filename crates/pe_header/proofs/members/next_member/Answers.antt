use mathlib.Core.Logic.{inl, inr}
use mathlib.Core.Path.{◌∙◌}
use Rattle.pe_header.proofs.MemberLaws.{next_told}
use Rattle.pe_header.proofs.members.next_member.Goals as goal
use Rattle.pe_header.proofs.members.next_member.Goals.{then-walk, else-walk}

pub returns : goal.returns
returns c =
    let a = c.args in
    let v = c.value_of-value.ensures in
    let p = next_told a.table.now c.requires.0 a.text.now a.name.now a.walk a.names.now c.note.new.names c.value_of-value.result
    c.first_found-found.result
    c.reach.result c.if-walk.small c.requires.2 c.requires.4
    (v.same_run, (v.within, (v.goes_on, v.read_right))) c.reach.ensures
    (elim c.if-walk.branch [
      | then-walk w ↦ inr (w.if-walk.true, (λ n. w.small-is ∙ w.is_small-small.ensures.other n, λ q ds r h d e. w.small-is ∙ w.is_small-small.ensures.number q ds r h d e))
      | else-walk w ↦ inl (w.if-walk.false, w.small-is ∙ w.if-walk.false)
    ])
    c.note.ensures
    c.first_found-found.ensures
    in
    record { goes_on = p.0; same_run = p.1.0; so_far = p.1.1 }
