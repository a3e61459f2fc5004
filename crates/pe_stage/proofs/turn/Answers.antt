use mathlib.Core.Path.{sym}
use native.Mathlib.Omega.{arith}
use Rattle.std.proofs.lemmas.Result.{err_from_is_err_and}
use Rattle.pe_stage.proofs.CallLaws.{written_number, turn_refused, turn_granted}
use Rattle.pe_stage.proofs.turn.Goals as goal

pub returns-in_err-chunk : goal.returns-in_err-chunk
returns-in_err-chunk c =
    let p = err_from_is_err_and c.from_residual-in_err-chunk.result c.from_residual-in_err-chunk.ensures.1 in
    rw (p.1, p.2)
    (turn_refused _ _ _ _ _ _ _ _ _ c.in_ok-check_memory.ensures (sym c.in-Some.ensures) (sym c.place_at-place.ensures) c.in_err-chunk.ensures)

pub overflow_cast-result : goal.overflow_cast-result
overflow_cast-result c =
    omega (arith, written_number c.args.buffer.now c.args.out.now c.place_at-place.result.list c.place_at-place.result.next_chunk _ _ _ c.in_ok-chunk.ensures)

pub returns : goal.returns
returns c =
    turn_granted _ _ _ _ _ _ _ _ _ _ _ c.in_ok-check_memory.ensures (sym c.in-Some.ensures) (sym c.place_at-place.ensures) c.in_ok-chunk.ensures
    c.following-next_chunk.ensures
    c.move_on.ensures
