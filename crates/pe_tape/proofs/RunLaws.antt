-- A tape's commands are a run of calls in the sense of demand 3, and its lines are those of the answers; so each answer is the model's.
-- Assumes nothing.
use Prim.Native.Nat.{ℕ}
use mathlib.Core.List.{List, [], ◌∷◌, ◌++◌}
use mathlib.Core.Path.{◌≡◌, refl, ap, ◌∙◌}
use Rattle.pe_reassembler.specs.Feed.{Memory}
use Rattle.pe_run.specs.Calls.{AllRight}
use Rattle.pe_run.specs.Model.{start}
use Rattle.pe_run.specs.Run.{Table, LongFor, step, table_from, Answers, Run}
use Rattle.pe_run.proofs.Demand.{answers_right}
use Rattle.pe_tape.specs.Command.{Command, feed, cancel, drop_peer, poll}
use Rattle.pe_tape.specs.Tape.{tape_of}
use Rattle.pe_tape.specs.Line.{end_text}
use Rattle.pe_tape.specs.Play.{tape_shape, make_call, line_of}
use Rattle.pe_tape.specs.Replay.{memory_after, lines_of, text_of, started, replay}
use Rattle.pe_tape.specs.Runs.{table_of, call_of, answer_of, calls_of, answers_of, answer_line, answer_lines}

-- ---- one command
step_is : (m : Memory) (c : Command) → step tape_shape (table_of m) (call_of m c) ≡ table_of (make_call m c).memory
unfolding make_call
step_is m (feed peer now_ms chunk) = refl
step_is m (cancel peer request_id) = refl
step_is m (drop_peer peer) = refl
step_is m (poll now_ms) = refl

answers_are : (m : Memory) (c : Command) → Answers tape_shape (table_of m) (call_of m c) (answer_of m c)
answers_are m (feed peer now_ms chunk) = refl
answers_are m (cancel peer request_id) = refl
answers_are m (drop_peer peer) = refl
answers_are m (poll now_ms) = refl

line_is : (m : Memory) (c : Command) → line_of m c ≡ answer_line (answer_of m c)
unfolding make_call
line_is m (feed peer now_ms chunk) = refl
line_is m (cancel peer request_id) = refl
line_is m (drop_peer peer) = refl
line_is m (poll now_ms) = refl

-- ---- all of them
pub runs : (m : Memory) (cs : List Command) → Run tape_shape (table_of m) (calls_of m cs) (answers_of m cs)
unfolding calls_of answers_of
runs m [] = tt
runs m (c ∷ cs) = (answers_are m c, rw (step_is m c) (runs (make_call m c).memory cs))

pub table_after : (m : Memory) (cs : List Command) → table_from tape_shape (table_of m) (calls_of m cs) ≡ table_of (memory_after m cs)
unfolding calls_of memory_after
table_after m [] = refl
table_after m (c ∷ cs) =
    ap (λ (t : Table). table_from tape_shape t (calls_of (make_call m c).memory cs)) (step_is m c) ∙ table_after (make_call m c).memory cs

pub lines_told : (m : Memory) (cs : List Command) → lines_of m cs ≡ answer_lines (answers_of m cs)
unfolding lines_of answers_of answer_lines
lines_told m [] = refl
lines_told m (c ∷ cs) = rw (line_is m c, lines_told (make_call m c).memory cs)

-- a tape's text: the lines of the answers, and the last line
pub replay_told : (m : Memory) (s : List ℕ) → replay m s ≡ answer_lines (answers_of (started m) (tape_of s).commands) ++ end_text (tape_of s).end
unfolding text_of
replay_told m s = rw (lines_told (started m) (tape_of s).commands)

-- on a table that `new` has just made, each answer is the model's
pub tape_right : (m : Memory) → LongFor tape_shape (table_of m) → (cs : List Command)
    → AllRight tape_shape start (calls_of (started m) cs) (answers_of (started m) cs)
tape_right m long cs = answers_right tape_shape (table_of m) long [] (calls_of (started m) cs) (answers_of (started m) cs) (runs (started m) cs)
