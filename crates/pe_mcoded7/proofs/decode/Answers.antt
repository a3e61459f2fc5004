use Rattle.std.specs.Prelude.{◌≡◌}
use mathlib.Core.Path.{sym}
use native.Mathlib.Omega.{arith}
use lib.ListN.{length}
use Rattle.std.proofs.lemmas.Grind.{common_steps}
use Rattle.seven_bit.specs.Reply.{granted}
use Rattle.pe_mcoded7.proofs.TextLaws.{length_decoded}
use Rattle.pe_mcoded7.proofs.AskLaws.{ask_text, groups_low, read_then, read_short, read_granted}
use Rattle.pe_mcoded7.proofs.StoreLaws.{put_written}
use Rattle.pe_mcoded7.proofs.decode.Goals as goal
use Rattle.pe_mcoded7.proofs.decode.Goals.{In_ok-check}

-- the check found nothing
checked : (c : In_ok-check) → ask_text c.args.input.now ≡ granted 0
checked c = rw c.in_ok-check.was at (sym c.check.ensures)

pub returns-in_err-check : goal.returns-in_err-check
returns-in_err-check c =
    let r = read_then c.args.input.now (length c.args.out.now) in
    grind (arith, common_steps, r)

pub returns-then-out-len : goal.returns-then-out-len
returns-then-out-len c =
    let a = c.args in
    rw (read_short a.input.now (length a.out.now) (checked (goal.at.returns-then-out-len c).In_ok-check) (omega (arith, length_decoded a.input.now)))

pub decode_into-requires : goal.decode_into-requires
decode_into-requires c =
    let s = c.args.input.now in
    (groups_low s (checked (goal.at.decode_into-requires c).In_ok-check), omega (arith, length_decoded s))

pub returns : goal.returns
returns c =
    let a = c.args in
    let l = length_decoded a.input.now in
    let q = read_granted a.input.now (length a.out.now) (checked (goal.at.returns c).In_ok-check) (omega arith) in
    put_written _ _ a.out.now _ _ q l c.if-out-len.false c.decode_into.ensures
