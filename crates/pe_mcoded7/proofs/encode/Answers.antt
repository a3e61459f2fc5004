use native.Mathlib.Omega.{arith}
use lib.ListN.{length}
use Rattle.pe_mcoded7.proofs.TextLaws.{length_encoded}
use Rattle.pe_mcoded7.proofs.AskLaws.{write_granted}
use Rattle.pe_mcoded7.proofs.StoreLaws.{put_written}
use Rattle.pe_mcoded7.proofs.encode.Goals as goal

pub returns : goal.returns
returns c =
    let a = c.args in
    let l = length_encoded a.input.now in
    let q = write_granted a.input.now (length a.out.now) (omega arith) in
    put_written _ _ a.out.now _ _ q l c.if-out-len.false c.encode_into.ensures
