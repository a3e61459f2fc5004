use Prim.Native.Nat.{◌+◌}
use native.Mathlib.Omega.{arith}
use mathlib.Core.Path.{◌≡◌, ◌∙◌}
use lib.ListN.{drop}
use Rattle.pe_tape.specs.Command.{read_feed, chunk_len}
use Rattle.pe_tape.proofs.OperandLaws.{number_read}
use Rattle.pe_tape.proofs.ReadLaws.{operand_behind, cut_off, too_few, enough, feed_read}
use Rattle.pe_tape.proofs.read.read_feed.Goals as goal
use Rattle.pe_tape.proofs.read.read_feed.Goals.{After-from_le_bytes-chunk_len}

-- how long the chunk is
counted : (c : After-from_le_bytes-chunk_len) → c.from_le_bytes-chunk_len.result ≡ chunk_len (drop (c.args.at + 1) c.args.tape.now)
counted c =
    let a = c.args in
    let two = c.in_ok-operands-3.ensures in
    number_read 1 (a.at + 13) a.tape.now c.in_ok-operands-3.field-0 _ two.0 two.1 c.from_le_bytes-chunk_len.ensures
    ∙ operand_behind (a.at + 1) 12 2 (a.at + 13) a.tape.now (omega arith)

pub returns-in_err-operands-clause-result_value : goal.returns-in_err-operands-clause-result_value
unfolding read_feed
returns-in_err-operands-clause-result_value c =
    let short = c.in_err-operands.ensures in
    cut_off 14 c.args.at c.args.tape.now _ _ _ c.from_residual.ensures.1 short.1 (omega (arith, short.0))

pub returns-in_err-operands-2-clause-result_value : goal.returns-in_err-operands-2-clause-result_value
unfolding read_feed
returns-in_err-operands-2-clause-result_value c =
    let short = c.in_err-operands-2.ensures in
    cut_off 14 c.args.at c.args.tape.now _ _ _ c.from_residual-in_err-operands-2.ensures.1 short.1 (omega (arith, short.0))

pub returns-in_err-operands-3-clause-result_value : goal.returns-in_err-operands-3-clause-result_value
unfolding read_feed
returns-in_err-operands-3-clause-result_value c =
    let short = c.in_err-operands-3.ensures in
    cut_off 14 c.args.at c.args.tape.now _ _ _ c.from_residual-in_err-operands-3.ensures.1 short.1 (omega (arith, short.0))

pub returns-then-tape-chunk_at-clause-result_value : goal.returns-then-tape-chunk_at-clause-result_value
unfolding read_feed
returns-then-tape-chunk_at-clause-result_value c =
    let a = c.args in
    let n = counted (goal.at.returns-then-tape-chunk_at-clause-result_value c).After-from_le_bytes-chunk_len in
    let two = c.in_ok-operands-3.ensures in
    enough 14 a.at a.tape.now _ _ (omega (arith, two.0)) (too_few _ a.at a.tape.now _ (omega (arith, n, c.if-tape-chunk_at.true)))

pub returns-clause-result_value : goal.returns-clause-result_value
returns-clause-result_value c =
    let a = c.args in
    let n = counted (goal.at.returns-clause-result_value c).After-from_le_bytes-chunk_len in
    let four = c.in_ok-operands.ensures in
    let eight = c.in_ok-operands-2.ensures in
    let two = c.in_ok-operands-3.ensures in
    feed_read a.at a.tape.now _ _ _ (omega (arith, two.0, c.if-tape-chunk_at.false)) n
    (number_read 3 (a.at + 1) a.tape.now c.in_ok-operands.field-0 _ four.0 four.1 c.from_le_bytes-peer.ensures)
    (number_read 7 (a.at + 5) a.tape.now c.in_ok-operands-2.field-0 _ eight.0 eight.1 c.from_le_bytes-now_ms.ensures)
