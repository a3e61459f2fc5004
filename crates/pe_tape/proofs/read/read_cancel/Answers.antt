use Prim.Native.Nat.{◌+◌}
use native.Mathlib.Omega.{arith}
use mathlib.Core.Path.{◌≡◌, ap₂}
use lib.ListN.{get_or, drop}
use Rattle.pe_tape.specs.Command.{cancel, read_cancel}
use Rattle.pe_tape.proofs.OperandLaws.{number_read, byte_read}
use Rattle.pe_tape.proofs.ReadLaws.{cut_off, enough, one_read}
use Rattle.pe_tape.proofs.read.read_cancel.Goals as goal

pub returns-in_err-operands-clause-result_value : goal.returns-in_err-operands-clause-result_value
unfolding read_cancel
returns-in_err-operands-clause-result_value c =
    let short = c.in_err-operands.ensures in
    cut_off 5 c.args.at c.args.tape.now _ _ _ c.from_residual.ensures.1 short.1 (omega (arith, short.0))

pub returns-in_err-request_id-clause-result_value : goal.returns-in_err-request_id-clause-result_value
unfolding read_cancel
returns-in_err-request_id-clause-result_value c =
    let short = c.in_err-request_id.ensures in
    cut_off 5 c.args.at c.args.tape.now _ _ _ c.from_residual-in_err-request_id.ensures.1 short.1 (omega (arith, short.0))

pub returns-clause-result_value : goal.returns-clause-result_value
unfolding read_cancel
returns-clause-result_value c =
    let a = c.args in
    let four = c.in_ok-operands.ensures in
    let one = c.in_ok-request_id.ensures in
    let peer = number_read 3 (a.at + 1) a.tape.now c.in_ok-operands.field-0 _ four.0 four.1 c.from_le_bytes-peer.ensures in
    let id : get_or c.in_ok-request_id.field-0 0 0 ≡ get_or (drop (a.at + 1) a.tape.now) 4 0 = byte_read (a.at + 1) 4 (a.at + 5) a.tape.now _ (omega arith) (omega (arith, one.0)) one.1 in
    enough 5 a.at a.tape.now _ _ (omega (arith, one.0)) (one_read _ _ _ _ (ap₂ cancel peer id) (omega arith))
