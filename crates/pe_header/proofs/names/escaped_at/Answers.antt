use mathlib.Core.Path.{refl, sym, ◌∙◌}
use native.Mathlib.Omega.{arith}
use Rattle.pe_header.proofs.UnitLaws.{none_left, short_there, no_room, long_there}
use Rattle.pe_header.proofs.names.escaped_at.Goals as goal

pub returns-then-at-text-clause-escape_at : goal.returns-then-at-text-clause-escape_at
returns-then-at-text-clause-escape_at c =
    let a = c.args in
    none_left a.text.now a.at _ (omega arith)

pub returns-then-step-eq-IN_NAME-clause-escape_at : goal.returns-then-step-eq-IN_NAME-clause-escape_at
returns-then-step-eq-IN_NAME-clause-escape_at c =
    let a = c.args in
    short_there a.table.now c.requires.0 a.text.now a.at _ c.short_unit.ensures.value refl (sym c.step.ensures ∙ c.if-step-eq-IN_NAME.true)

pub returns-then-text-at-lt5-clause-escape_at : goal.returns-then-text-at-lt5-clause-escape_at
returns-then-text-at-lt5-clause-escape_at c =
    let a = c.args in
    no_room a.table.now c.requires.0 a.text.now a.at (λ e. c.if-step-eq-IN_NAME.false (c.step.ensures ∙ e)) c.if-text-at-lt5.true _

pub returns-clause-escape_at : goal.returns-clause-escape_at
returns-clause-escape_at c =
    let a = c.args in
    long_there a.table.now c.requires.0 a.text.now a.at _ _ (λ e. c.if-step-eq-IN_NAME.false (c.step.ensures ∙ e)) c.hex_pair.ensures.pair_at
    c.hex_pair-2.ensures.pair_at _ refl refl
