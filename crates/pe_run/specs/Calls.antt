-- The eight calls of a run, what they mean for the model, and what the model answers.
-- Assumes nothing.
use Rattle.std.specs.Prelude.{ℕ, ◌+◌, ◌*◌, min, Bool, cond, not, ◌&&◌, List, [], ◌∷◌, ◌++◌, map, ◌≡◌, leb, length, drop}
use Rattle.std.proofs.Math.Option.{Option, none, some}
use Rattle.seven_bit.specs.Reply.{Reply, granted, refused, ◌else◌then◌, and_next}
use Rattle.midici_core.specs.Message.{read_message}
use Rattle.pe_frame.specs.Chunk.{Chunk, read_chunk}
use Rattle.pe_slot.specs.Slot.{Event, body_length}
use Rattle.pe_slot.specs.Feed.{Told, told_answer, header_out, body_out}
use Rattle.pe_reassembler.specs.declared.shape.Shape.{Shape}
use Rattle.pe_reassembler.specs.Table.{is_muid}
use Rattle.pe_reassembler.specs.Calls.{Totals, reserved_of}
use Rattle.pe_reassembler.specs.Open.{Shown, ahead, Listed, listed as listing, listed_rows}
use Rattle.pe_reassembler.specs.Order.{ranked, Ascending}
use Rattle.pe_reassembler.specs.Poll.{Timeout, by_tick}
use Rattle.pe_run.specs.Lists.{keep, Perm}
use Rattle.pe_run.specs.Model.{Entry, Model, Clocked, start, is_late, find, is_none, open_of, arrives, Act, arrive, cancel as cancelled, drop as dropped}
use Rattle.pe_run.specs.Model.{poll as polled, nothing, acted}

-- "any sequence of the eight .. with any arguments": the arguments are those of the calls, the lent outputs among them.
pub data Call : Type 0 where
  feed : (peer : ℕ) (chunk : List ℕ) (now_ms : ℕ) (out_header out_body : List ℕ) → Call
  feed_message : (message : List ℕ) (now_ms : ℕ) (out_header out_body : List ℕ) → Call
  cancel : (peer request_id : ℕ) → Call
  drop_peer : (peer : ℕ) → Call
  poll : (now_ms : ℕ) (out_peers out_ids : List ℕ) → Call
  memory_stats : Call
  reserved_bytes : Call
  open_list : (out_peers out_ids out_held : List ℕ) → Call

-- What a call answers, and its lent outputs afterwards.
pub data Answer : Type 0 where
  fed : Reply Told → (out_header out_body : List ℕ) → Answer
  was_open : Reply Bool → Answer
  counted : Reply ℕ → Answer
  timed_out : Reply ℕ → (out_peers out_ids : List ℕ) → Answer
  totals : Reply Totals → Answer
  listed : Reply ℕ → (out_peers out_ids out_held : List ℕ) → Answer

-- A chunk that arrives: its peer, its bytes, what they say, the call's time, and the outputs that are lent for it.
pub record Arrival : Type 0 where
  pub peer : ℕ
  pub bytes : List ℕ
  pub chunk : Chunk
  pub time : ℕ
  pub out_header : List ℕ
  pub out_body : List ℕ

abbrev pub arrival : ℕ → List ℕ → Chunk → ℕ → List ℕ → List ℕ → Arrival
arrival peer bytes chunk now_ms out_header out_body =
    record { peer = peer; bytes = bytes; chunk = chunk; time = now_ms; out_header = out_header; out_body = out_body }

abbrev pub arriving : ℕ → List ℕ → ℕ → List ℕ → List ℕ → Reply Arrival
arriving peer bytes now_ms out_header out_body =
    and_next (read_chunk bytes) (λ c. granted (arrival peer bytes c now_ms out_header out_body))

-- "A frame *arrives* when its call gets yes to every question asked ahead of **Table**'s; otherwise the book stays." Those questions: 30, of
-- which only the outputs' lengths can have a no in a run, 28, **Frame**'s, or **CI**'s and then **Frame**'s.
abbrev pub has_outputs : Shape → List ℕ → List ℕ → Bool
has_outputs shape out_header out_body = leb shape.header_bytes (length out_header) && leb shape.tx_bytes (length out_body)

unfoldable pub fed_arrival : Shape → ℕ → List ℕ → ℕ → List ℕ → List ℕ → Reply Arrival
fed_arrival shape peer chunk now_ms out_header out_body =
    has_outputs shape out_header out_body else 30 then
    is_muid peer else 28 then
    arriving peer chunk now_ms out_header out_body

unfoldable pub message_arrival : Shape → List ℕ → ℕ → List ℕ → List ℕ → Reply Arrival
message_arrival shape message now_ms out_header out_body =
    has_outputs shape out_header out_body else 30 then
    and_next (read_message message) (λ m. arriving m.header.source (drop 13 message) now_ms out_header out_body)

-- What arrives with a call, if anything does.
abbrev pub granted_of : {A : Type 0} → Reply A → Option A
granted_of (granted a) = some a
granted_of (refused number value) = none

abbrev pub arrival_of : Shape → Call → Option Arrival
arrival_of shape (feed peer chunk now_ms out_header out_body) = granted_of (fed_arrival shape peer chunk now_ms out_header out_body)
arrival_of shape (feed_message message now_ms out_header out_body) = granted_of (message_arrival shape message now_ms out_header out_body)
arrival_of shape (cancel peer request_id) = none
arrival_of shape (drop_peer peer) = none
arrival_of shape (poll now_ms out_peers out_ids) = none
arrival_of shape memory_stats = none
arrival_of shape reserved_bytes = none
arrival_of shape (open_list out_peers out_ids out_held) = none

abbrev pub arrival_act : Option Arrival → Act
arrival_act none = nothing
arrival_act (some a) = arrive a.peer a.chunk a.time

-- "a poll or an open list into at least 4n places"
abbrev pub has_places : ℕ → List ℕ → Bool
has_places n out = leb (4 * n) (length out)

-- What a call means for the model.
abbrev pub act_of : Shape → Call → Act
act_of shape (feed peer chunk now_ms out_header out_body) = arrival_act (arrival_of shape (feed peer chunk now_ms out_header out_body))
act_of shape (feed_message message now_ms out_header out_body) = arrival_act (arrival_of shape (feed_message message now_ms out_header out_body))
act_of shape (cancel peer request_id) = cond (is_muid peer) (cancelled peer request_id) nothing
act_of shape (drop_peer peer) = cond (is_muid peer) (dropped peer) nothing
act_of shape (poll now_ms out_peers out_ids) =
    cond (has_places shape.max_peers out_peers && has_places shape.max_peers out_ids) (polled now_ms) nothing
act_of shape memory_stats = nothing
act_of shape reserved_bytes = nothing
act_of shape (open_list out_peers out_ids out_held) = nothing

-- The model after calls; "It starts empty."
abbrev pub model_from : Shape → Clocked → List Call → Clocked
model_from shape b [] = b
model_from shape b (c ∷ calls) = model_from shape (acted shape b (act_of shape c)) calls

abbrev pub model_after : Shape → List Call → Clocked
model_after shape calls = model_from shape start calls

-- ---- what the model answers
-- "A list is *handed out* when the answer is whole with its two lengths and the outputs begin with exactly its header and body; an answer of
-- waiting leaves both outputs unchanged.": `header_out` and `body_out`; a refusal leaves them too.
abbrev pub arrival_answer : Shape → Clocked → Reply Arrival → List ℕ → List ℕ → Answer
arrival_answer shape b (granted a) out_header out_body =
    let answer : Reply Event = (arrives shape b a.peer a.chunk a.time).answer in
    fed (told_answer answer) (header_out answer out_header) (body_out answer out_body)
arrival_answer shape b (refused number value) out_header out_body = fed (refused number value) out_header out_body

-- Bytes of an open slot as the totals have them: header, body, and 8 for each piece.
abbrev pub header_len : Option (List ℕ) → ℕ
header_len none = 0
header_len (some header) = length header

abbrev pub entry_bytes : Entry → ℕ
entry_bytes e = header_len e.state.slot.header + body_length e.state.slot.pieces + 8 * length e.state.slot.pieces

abbrev pub bytes_open : Model → ℕ
bytes_open [] = 0
bytes_open (e ∷ b) = entry_bytes e + bytes_open b

-- A slot whose time is up, as a poll lists it.
abbrev pub due_of : Entry → Timeout
due_of e = record { tick = e.state.tick; peer = e.peer; request_id = e.request_id }

-- Rows "by tick", each once, and the columns with them. Those of one tick, which "then by place" puts in order, may be in any: the model has no places.
pub record TimedOut (b : Model) (now_ms : ℕ) (out_peers out_ids : List ℕ) (a : Answer) : Type 0 where
  pub rows : List Timeout
  pub each_once : Perm rows (map due_of (keep (is_late now_ms) b))
  pub in_tick_order : Ascending by_tick rows
  pub told : a ≡ timed_out (granted (length rows))
      (map (λ (r : Timeout). r.peer) rows ++ drop (length rows) out_peers)
      (map (λ (r : Timeout). r.request_id) rows ++ drop (length rows) out_ids)

-- An open slot as an open list shows it: "each transfer open in the book once, its frames held being the number of pieces"; "lowest tick, then lowest
-- console number, lowest request id".
abbrev pub shown_of : Entry → Shown
shown_of e = record { tick = e.state.tick; peer = e.peer; request_id = e.request_id; held = length e.state.slot.pieces }

abbrev pub shows : Model → List Shown
shows b = ranked ahead [] (map shown_of b)

abbrev pub list_told : Listed → Answer
list_told l = listed l.answer l.out_peers l.out_ids l.out_held

-- Is it the answer that the model gives to the call?
abbrev pub Right : Shape → Clocked → Call → Answer → Type 0
Right shape b (feed peer chunk now_ms out_header out_body) a =
    a ≡ arrival_answer shape b (fed_arrival shape peer chunk now_ms out_header out_body) out_header out_body
Right shape b (feed_message message now_ms out_header out_body) a =
    a ≡ arrival_answer shape b (message_arrival shape message now_ms out_header out_body) out_header out_body
Right shape b (cancel peer request_id) a = a ≡ was_open (is_muid peer else 28 then granted (not (is_none (find peer request_id b.model))))
Right shape b (drop_peer peer) a = a ≡ counted (is_muid peer else 28 then granted (open_of peer b.model))
Right shape b (poll now_ms out_peers out_ids) a =
    cond (has_places shape.max_peers out_peers && has_places shape.max_peers out_ids)
    (TimedOut b.model now_ms out_peers out_ids a)
    (a ≡ timed_out (refused 30 0) out_peers out_ids)
Right shape b memory_stats a =
    a ≡ totals (granted (record {
      reserved_bytes = reserved_of shape;
      active_bytes = min (bytes_open b.model) 18446744073709551615;
      active_slots = length b.model;
    }))
Right shape b reserved_bytes a = a ≡ counted (granted (reserved_of shape))
Right shape b (open_list out_peers out_ids out_held) a =
    a ≡ list_told (cond
    (has_places shape.max_peers out_peers && has_places shape.max_peers out_ids && has_places shape.max_peers out_held)
    (listed_rows (shows b.model) out_peers out_ids out_held)
    (listing (refused 30 0) out_peers out_ids out_held))

-- Every answer, from one end of the run to the other.
abbrev pub AllRight : Shape → Clocked → List Call → List Answer → Type 0
AllRight shape b [] [] = Unit {0}
AllRight shape b [] (a ∷ answers) = ⊥
AllRight shape b (c ∷ calls) [] = ⊥
AllRight shape b (c ∷ calls) (a ∷ answers) = Right shape b c a × AllRight shape (acted shape b (act_of shape c)) calls answers
