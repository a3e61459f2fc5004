use mathlib.Core.Path.{◌≡◌, sym, ap, ◌∙◌}
use mathlib.Core.Bool.{Bool, true, false, cond, not}
use Rattle.std.specs.Prelude.{Some, None, is_some}
use Rattle.pe_header.specs.Find.{units, same_units}
use Rattle.pe_header.specs.Members.{found_of, first_of}
use Rattle.pe_header.proofs.MemberLaws.{first_now, first_none, first_before}
use Rattle.pe_header.proofs.members.first_found.Goals as goal
use Rattle.pe_header.proofs.members.first_found.Goals.{else-is_none-via-then-is_none+else-is_named, else-is_none-via-else-is_none}

pub returns-then-is_named : goal.returns-then-is_named
returns-then-is_named c ps at =
    let e : is_some c.args.found ≡ false = c.is_none.ensures ∙ ap not c.if-is_none.true in
    let q : same_units (units ps) c.args.name.now ≡ true = sym (c.is_named.ensures ps at) ∙ c.if-is_named.true in
    ap Some c.found.ensures ∙ sym (first_now c.args.found _ e ∙ ap (λ (b : Bool). cond b (Some (found_of c.args.value)) None) q)

pub returns : goal.returns
returns c ps at =
    elim c.else-is_none.branch [
      | else-is_none-via-then-is_none+else-is_named w ↦
          let q : same_units (units ps) c.args.name.now ≡ false = sym (w.is_named.ensures ps at) ∙ w.if-is_named.false in
          first_none c.args.found ∙ ap (λ (b : Bool). first_of c.args.found (cond b (Some (found_of c.args.value)) None)) (sym q)
      | else-is_none-via-else-is_none w ↦ sym (first_before c.args.found _ (c.is_none.ensures ∙ ap not w.if-is_none.false))
    ]
