use mathlib.Core.Path.{◌≡◌, refl, sym, ap, ◌∙◌}
use lib.ListN.{get_or}
use Rattle.std.specs.Prelude.{Some, Result}
use native.Mathlib.Omega.{arith}
use Rattle.pe_tape.specs.declared.error.TapeError.{TapeError}
use Rattle.pe_tape.specs.declared.read.Next.{Next}
use Rattle.pe_tape.specs.Command.{read_feed, read_cancel, read_drop, read_poll, read_command}
use Rattle.pe_tape.specs.Errors.{tape_told}
use Rattle.pe_tape.specs.Told.{placed_of}
use Rattle.pe_tape.proofs.ReadLaws.{mapped, known, unknown_byte, no_byte}
use Rattle.pe_tape.proofs.read.read_command.Goals as goal
use Rattle.pe_tape.proofs.read.read_command.Goals.{in-1, in-2, in-3, in-4, in_default-kind}

pub returns-in_default-clause-result_value : goal.returns-in_default-clause-result_value
returns-in_default-clause-result_value c = no_byte c.args.at c.args.tape.now c.in_default.ensures.lookup.3

pub returns-clause-result_value : goal.returns-clause-result_value
unfolding read_command
returns-clause-result_value c =
    let a = c.args in
    let k = c.in-Some.ensures.lookup.3 in
    let byte : get_or a.tape.now a.at 0 ≡ c.in-Some.field-0.now = sym (k.1 0) in
    let one = λ (r : Result Next TapeError) (e : c.match-kind.map ≡ r).
    mapped a.tape.now _ c.match-kind.map c.map.result c.map.ensures.cases (λ m o h. h)
    ∙ ap (tape_told (λ (m : Next). Some (placed_of a.tape.now m))) e in
    elim c.match-kind.branch [
      | in-1 w ↦ known 1 read_feed (λ s. refl) a.at a.tape.now _ k.0 (byte ∙ w.in-1.is) (one _ w.map-is ∙ w.read_feed.ensures.result_value)
      | in-2 w ↦ known 2 read_cancel (λ s. refl) a.at a.tape.now _ k.0 (byte ∙ w.in-2.is) (one _ w.map-is ∙ w.read_cancel.ensures.result_value)
      | in-3 w ↦ known 3 read_drop (λ s. refl) a.at a.tape.now _ k.0 (byte ∙ w.in-3.is) (one _ w.map-is ∙ w.read_drop.ensures.result_value)
      | in-4 w ↦ known 4 read_poll (λ s. refl) a.at a.tape.now _ k.0 (byte ∙ w.in-4.is) (one _ w.map-is ∙ w.read_poll.ensures.result_value)
      | in_default-kind w ↦ one _ w.map-is ∙ unknown_byte a.at a.tape.now k.0 (grind arith) (grind arith) (grind arith) (grind arith)
    ]
