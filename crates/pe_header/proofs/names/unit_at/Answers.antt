use mathlib.Core.Path.{refl, sym, ◌∙◌}
use Rattle.pe_header.proofs.UnitLaws.{first_state_law, unit_past, unit_plain, unit_escaped, unit_none}
use Rattle.pe_header.proofs.names.unit_at.Goals as goal

pub returns-then-text-at-clause-unit_at : goal.returns-then-text-at-clause-unit_at
returns-then-text-at-clause-unit_at c = unit_past c.args.text.now c.args.at c.if-text-at.true

pub returns-then-state-eq-IN_NAME-clause-unit_at : goal.returns-then-state-eq-IN_NAME-clause-unit_at
returns-then-state-eq-IN_NAME-clause-unit_at c ps m =
    let a = c.args in
    let t = sym c.step-state.ensures ∙ c.if-state-eq-IN_NAME.true in
    unit_plain a.text.now a.at ps m (sym (first_state_law a.table.now c.requires a.text.now a.at ps m) ∙ t) _ refl refl

pub returns-then-state-eq-NAME_ESCAPE-clause-unit_at : goal.returns-then-state-eq-NAME_ESCAPE-clause-unit_at
returns-then-state-eq-NAME_ESCAPE-clause-unit_at c ps m =
    let a = c.args in
    let t = sym c.step-state.ensures ∙ c.if-state-eq-NAME_ESCAPE.true in
    unit_escaped a.text.now a.at _ c.escaped_at.ensures.escape_at ps m (sym (first_state_law a.table.now c.requires a.text.now a.at ps m) ∙ t)

pub returns-clause-unit_at : goal.returns-clause-unit_at
returns-clause-unit_at c ps m =
    let a = c.args in
    let e = c.step-state.ensures ∙ first_state_law a.table.now c.requires a.text.now a.at ps m in
    unit_none a.text.now a.at ps m (λ k. c.if-state-eq-IN_NAME.false (e ∙ k)) (λ k. c.if-state-eq-NAME_ESCAPE.false (e ∙ k))
