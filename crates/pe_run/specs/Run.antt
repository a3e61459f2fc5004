-- The run: "any sequence of the eight .. with any arguments, naming the shape of a .. table .. that `new` has just made. Each gets the table
-- the last one left; nobody else writes it meanwhile." What a call answers and leaves is what its contract says. Demand 3 is about full size.
-- Assumes nothing.
use Rattle.std.specs.Prelude.{ℕ, true, List, [], ◌∷◌, ◌≡◌}
use Rattle.pe_reassembler.specs.declared.shape.Shape.{Shape}
use Rattle.pe_reassembler.specs.Table.{has_rooms}
use Rattle.pe_reassembler.specs.Feed.{Memory, memory, FeedLeft, feed_call, message_call}
use Rattle.pe_reassembler.specs.Calls.{new_call, cancel_call, drop_call, stats_call, reserved_call}
use Rattle.pe_reassembler.specs.Poll.{poll_call}
use Rattle.pe_reassembler.specs.Open.{open_call}
use Rattle.pe_run.specs.Calls.{Call, feed, feed_message, cancel, drop_peer, poll, memory_stats, reserved_bytes, open_list, Answer, fed}
use Rattle.pe_run.specs.Calls.{was_open, counted, timed_out, totals, list_told}

-- The table's lent memory, without the outputs of a call.
pub record Table : Type 0 where
  pub numbers : List ℕ
  pub index : List ℕ
  pub headers : List ℕ
  pub arenas : List ℕ

abbrev pub table : List ℕ → List ℕ → List ℕ → List ℕ → Table
table numbers index headers arenas = record { numbers = numbers; index = index; headers = headers; arenas = arenas }

-- Shape in range and memory long enough for it, whatever it holds.
abbrev pub LongFor : Shape → Table → Type 0
LongFor shape t = has_rooms shape t.numbers t.index t.headers t.arenas ≡ true

-- What `new` leaves of lent memory; the rooms are lent to be read only.
abbrev pub made : Shape → Table → Table
made shape t =
    let r = new_call shape t.numbers t.index t.headers t.arenas in
    table r.numbers r.index t.headers t.arenas

abbrev pub lent : Table → List ℕ → List ℕ → Memory
lent t out_header out_body = memory t.numbers t.index t.headers t.arenas out_header out_body

abbrev pub kept : FeedLeft → Table
kept r = table r.memory.numbers r.memory.index r.memory.headers r.memory.arenas

abbrev pub renumbered : Table → List ℕ → Table
renumbered t numbers = table numbers t.index t.headers t.arenas

-- The table after a call.
abbrev pub step : Shape → Table → Call → Table
step shape t (feed peer chunk now_ms out_header out_body) = kept (feed_call shape (lent t out_header out_body) peer chunk now_ms)
step shape t (feed_message message now_ms out_header out_body) = kept (message_call shape (lent t out_header out_body) message now_ms)
step shape t (cancel peer request_id) = renumbered t (cancel_call shape t.numbers peer request_id).numbers
step shape t (drop_peer peer) = renumbered t (drop_call shape t.numbers peer).numbers
step shape t (poll now_ms out_peers out_ids) = renumbered t (poll_call shape t.numbers now_ms out_peers out_ids).numbers
step shape t memory_stats = t
step shape t reserved_bytes = t
step shape t (open_list out_peers out_ids out_held) = t

abbrev pub table_from : Shape → Table → List Call → Table
table_from shape t [] = t
table_from shape t (c ∷ calls) = table_from shape (step shape t c) calls

abbrev pub feed_told : FeedLeft → Answer
feed_told r = fed r.answer r.memory.out_header r.memory.out_body

-- Is it the answer that the call's contract gives?
abbrev pub Answers : Shape → Table → Call → Answer → Type 0
Answers shape t (feed peer chunk now_ms out_header out_body) a = a ≡ feed_told (feed_call shape (lent t out_header out_body) peer chunk now_ms)
Answers shape t (feed_message message now_ms out_header out_body) a = a ≡ feed_told (message_call shape (lent t out_header out_body) message now_ms)
Answers shape t (cancel peer request_id) a = a ≡ was_open (cancel_call shape t.numbers peer request_id).answer
Answers shape t (drop_peer peer) a = a ≡ counted (drop_call shape t.numbers peer).answer
Answers shape t (poll now_ms out_peers out_ids) a =
    let r = poll_call shape t.numbers now_ms out_peers out_ids in
    a ≡ timed_out r.answer r.out_peers r.out_ids
Answers shape t memory_stats a = a ≡ totals (stats_call shape t.numbers)
Answers shape t reserved_bytes a = a ≡ counted (reserved_call shape)
Answers shape t (open_list out_peers out_ids out_held) a = a ≡ list_told (open_call shape t.numbers out_peers out_ids out_held)

-- Answers that the contracts give, from one end of the run to the other.
abbrev pub Run : Shape → Table → List Call → List Answer → Type 0
Run shape t [] [] = Unit {0}
Run shape t [] (a ∷ answers) = ⊥
Run shape t (c ∷ calls) [] = ⊥
Run shape t (c ∷ calls) (a ∷ answers) = Answers shape t c a × Run shape (step shape t c) calls answers
