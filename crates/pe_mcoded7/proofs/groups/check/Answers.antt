use Rattle.std.specs.Prelude.{ℕ, ◌≡◌}
use mathlib.Core.Path.{sym, ◌∙◌}
use native.Mathlib.Omega.{arith}
use Rattle.std.proofs.lemmas.Grind.{common_steps}
use Rattle.std.specs.Slice.Iter.{chunks_rest}
use Rattle.seven_bit.specs.Reply.{granted, and_next}
use Rattle.pe_mcoded7.specs.Mcoded7.{ask_group}
use Rattle.pe_mcoded7.proofs.AskLaws.{ask_text, check_next, check_end}
use Rattle.pe_mcoded7.proofs.groups.check.Goals as goal
use Rattle.pe_mcoded7.proofs.groups.check.Goals.{In-Some}

-- the group's answer, and then that of what follows it
answer : (c : In-Some) → ask_text c.args.input.now ≡ and_next (ask_group c.in-Some.group.now (granted 0)) (λ (_ : ℕ). ask_text (chunks_rest c.next.new.self))
answer c =
    let s = c.in-Some.ensures.steps in
    c.loop-group.invariant.left ∙ check_next (record { whole = s.1.0; size = rw c.loop-group.invariant.size at s.1.1; some = s.1.2 })

pub loop-group-preserved : goal.loop-group-preserved
loop-group-preserved c =
    let a = answer (goal.at.loop-group-preserved c).In-Some in
    record {
      next = omega (arith, c.in-Some.ensures.steps.0);
      finite = tt;
      size = c.in-Some.ensures.steps.0 ∙ c.loop-group.invariant.size;
      left = rw (sym c.check_group.ensures, c.in_ok-check_group.was) at a;
    }

pub returns-in_err-check_group : goal.returns-in_err-check_group
returns-in_err-check_group c =
    let a = answer (goal.at.returns-in_err-check_group c).In-Some in
    let e = rw (sym c.check_group.ensures, c.in_err-check_group.was) at a in
    grind (arith, common_steps, e)

pub returns : goal.returns
returns c = sym (c.loop-group.invariant.left ∙ check_end _ c.in-None.ensures.steps.1.0)
