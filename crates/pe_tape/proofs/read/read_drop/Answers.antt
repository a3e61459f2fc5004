use Prim.Native.Nat.{◌+◌}
use native.Mathlib.Omega.{arith}
use Rattle.pe_tape.specs.Command.{drop_peer, read_drop}
use Rattle.pe_tape.proofs.OperandLaws.{number_read}
use Rattle.pe_tape.proofs.ReadLaws.{cut_off, operand_read}
use Rattle.pe_tape.proofs.read.read_drop.Goals as goal

pub returns-in_err-operands-clause-result_value : goal.returns-in_err-operands-clause-result_value
unfolding read_drop
returns-in_err-operands-clause-result_value c =
    let short = c.in_err-operands.ensures in
    cut_off 4 c.args.at c.args.tape.now _ _ _ c.from_residual.ensures.1 short.1 (omega (arith, short.0))

pub returns-clause-result_value : goal.returns-clause-result_value
unfolding read_drop
returns-clause-result_value c =
    let a = c.args in
    let all = c.in_ok-operands.ensures in
    operand_read 4 drop_peer a.at a.tape.now _ _ (omega (arith, all.0))
    (number_read 3 (a.at + 1) a.tape.now c.in_ok-operands.field-0 _ all.0 all.1 c.from_le_bytes-peer.ensures) (omega arith)
