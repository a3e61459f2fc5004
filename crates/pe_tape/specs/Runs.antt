-- A tape's commands as a run of calls on a table (demand 3): the calls, and what they answer.
-- Assumes nothing.
use Rattle.std.specs.Prelude.{ℕ, List, [], ◌∷◌, ◌++◌}
use Rattle.pe_reassembler.specs.Feed.{Memory, feed_call}
use Rattle.pe_reassembler.specs.Calls.{cancel_call, drop_call}
use Rattle.pe_reassembler.specs.Poll.{poll_call}
use Rattle.pe_run.specs.Calls.{Call, Answer, fed, was_open, counted, timed_out, totals, listed}
use Rattle.pe_run.specs.Run.{Table, table, feed_told}
use Rattle.pe_tape.specs.Command.{Command, feed, cancel, drop_peer, poll}
use Rattle.pe_tape.specs.Line.{feed_shown, cancel_shown, count_shown, line_text}
use Rattle.pe_tape.specs.Play.{tape_shape, column, make_call}

-- Memory without the outputs of a feed.
abbrev pub table_of : Memory → Table
table_of m = table m.numbers m.index m.headers m.arenas

-- The call of a command. A feed is lent the outputs that memory holds then, a poll two columns.
abbrev pub call_of : Memory → Command → Call
call_of m (feed peer now_ms chunk) = Call.feed peer chunk now_ms m.out_header m.out_body
call_of m (cancel peer request_id) = Call.cancel peer request_id
call_of m (drop_peer peer) = Call.drop_peer peer
call_of m (poll now_ms) = Call.poll now_ms column column

-- Its answer.
abbrev pub answer_of : Memory → Command → Answer
answer_of m (feed peer now_ms chunk) = feed_told (feed_call tape_shape m peer chunk now_ms)
answer_of m (cancel peer request_id) = was_open (cancel_call tape_shape m.numbers peer request_id).answer
answer_of m (drop_peer peer) = counted (drop_call tape_shape m.numbers peer).answer
answer_of m (poll now_ms) =
    let r = poll_call tape_shape m.numbers now_ms column column in
    timed_out r.answer r.out_peers r.out_ids

-- Each call gets the memory that the last one left.
unfoldable pub calls_of : Memory → List Command → List Call
calls_of m [] = []
calls_of m (c ∷ cs) = call_of m c ∷ calls_of (make_call m c).memory cs

unfoldable pub answers_of : Memory → List Command → List Answer
answers_of m [] = []
answers_of m (c ∷ cs) = answer_of m c ∷ answers_of (make_call m c).memory cs

-- The line of an answer. No command asks for totals or for the open list.
abbrev pub answer_line : Answer → List ℕ
answer_line (fed answer out_header out_body) = line_text 1 (feed_shown answer)
answer_line (was_open answer) = line_text 2 (cancel_shown answer)
answer_line (counted answer) = line_text 3 (count_shown answer)
answer_line (timed_out answer out_peers out_ids) = line_text 4 (count_shown answer)
answer_line (totals answer) = []
answer_line (listed answer out_peers out_ids out_held) = []

unfoldable pub answer_lines : List Answer → List ℕ
answer_lines [] = []
answer_lines (a ∷ answers) = answer_line a ++ answer_lines answers
