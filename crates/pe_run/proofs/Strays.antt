-- In no run does a slot ever hold a number above its count (document 02, K3).
-- Assumes nothing.
use Prim.Native.Nat.{ℕ}
use mathlib.Core.Bool.{Bool, true, false, cond, not, ◌&&◌}
use mathlib.Core.List.{List, [], ◌∷◌}
use mathlib.Core.Option.{none, some}
use mathlib.Core.Path.{◌≡◌, refl}
use lib.ListN.{drop as drop-list}
use Rattle.seven_bit.specs.Reply.{Reply, granted, refused, ◌else◌then◌, and_next}
use Rattle.midici_core.specs.Message.{Message, read_message}
use Rattle.pe_frame.specs.Chunk.{Chunk, Fields, within_count, read_fields, chunk_of}
use Rattle.pe_frame.proofs.RoundTrip.{read_told}
use Rattle.pe_slot.specs.Slot.{Verdict, all_within, judge, slot_after}
use Rattle.pe_slot.proofs.WithinLaws.{all_within_law, none_yet}
use Rattle.pe_reassembler.specs.Feed.{next_tick}
use Rattle.pe_reassembler.specs.declared.shape.Shape.{Shape}
use Rattle.pe_reassembler.specs.Table.{is_muid}
use Rattle.pe_run.specs.Lists.{keep}
use Rattle.pe_run.specs.Model.{Open, Entry, Model, Clocked, start, is_at, is_of, is_late, find, touched_at, judged, entry_of, without, acted}
use Rattle.pe_run.specs.Model.{Act, arrive, cancel, drop, poll, nothing}
use Rattle.pe_run.specs.Calls.{Call, feed, feed_message, cancel as cancel_call, drop_peer, poll as poll_call, memory_stats, reserved_bytes, open_list}
use Rattle.pe_run.specs.Calls.{Arrival, arrival, arriving, has_outputs, has_places, fed_arrival, message_arrival}
use Rattle.pe_run.specs.Calls.{arrival_act, granted_of, act_of, model_from, model_after}
use Rattle.pe_run.proofs.ListLaws.{All, all_append}
use Rattle.pe_run.proofs.ModelLaws.{reached_open, arrives_keeps}

-- each open slot's numbers are within its count
abbrev pub NoStrays : Model → Type 0
NoStrays b = All (λ (e : Entry). all_within e.state.slot ≡ true) b

kept : (test : Entry → Bool) (b : Model) → NoStrays b → NoStrays (keep test b)
kept test [] a = tt
kept test (e ∷ b) a = go (test e) (kept test b a.1)
  where
    go : (t : Bool) → NoStrays (keep test b) → NoStrays (cond t (e ∷ keep test b) (keep test b))
    go true r = (a.0, r)
    go false r = r

-- the slot that a chunk reaches
reached : (peer id now_ms tick : ℕ) (b : Model) → NoStrays b → all_within (touched_at (find peer id b) now_ms tick).slot ≡ true
reached peer id now_ms tick [] a = none_yet
reached peer id now_ms tick (e ∷ b) a = go (is_at peer id e) (reached peer id now_ms tick b a.1)
  where
    go : (t : Bool) → all_within (touched_at (find peer id b) now_ms tick).slot ≡ true
        → all_within (touched_at (cond t (some e.state) (find peer id b)) now_ms tick).slot ≡ true
    go true r = a.0
    go false r = r

-- and what is left of it
left : (shape : Shape) (peer id : ℕ) (o : Open) (c : Chunk) → within_count c.chunk_num c.num_chunks ≡ true → all_within o.slot ≡ true
    → NoStrays (entry_of peer id (judged shape o c).left)
unfolding judged
left shape peer id o c w a = go v.closes (all_within_law o.slot c w a shape.header_bytes shape.tx_bytes shape.fragment_records)
  where
    v : Verdict
    v = judge shape.header_bytes shape.tx_bytes shape.fragment_records o.slot c

    go : (t : Bool) → all_within (slot_after o.slot c v) ≡ true
        → NoStrays (entry_of peer id (cond t none (some (record { time = o.time; tick = o.tick; slot = slot_after o.slot c v }))))
    go true r = tt
    go false r = (r, tt)

-- what an act asks: a chunk that arrives is within its own count, as every chunk is that was read
abbrev Read : Act → Type 0
Read (arrive peer c now_ms) = within_count c.chunk_num c.num_chunks ≡ true
Read (cancel peer id) = Unit {0}
Read (drop peer) = Unit {0}
Read (poll now_ms) = Unit {0}
Read nothing = Unit {0}

step_none : (shape : Shape) (b : Clocked) (act : Act) → Read act → NoStrays b.model → NoStrays (acted shape b act).model
step_none shape b (arrive peer c now_ms) w a =
    arrives_keeps shape b peer c now_ms NoStrays a (λ e.
    all_append _ (entry_of peer c.request_id (judged shape (reached_open b peer c now_ms) c).left) (without peer c.request_id b.model)
    (left shape peer c.request_id (reached_open b peer c now_ms) c w (reached peer c.request_id now_ms (next_tick b.clock) b.model a))
    (kept (λ (y : Entry). not (is_at peer c.request_id y)) b.model a))
step_none shape b (cancel peer id) w a = kept (λ (e : Entry). not (is_at peer id e)) b.model a
step_none shape b (drop peer) w a = kept (λ (e : Entry). not (is_of peer e)) b.model a
step_none shape b (poll now_ms) w a = kept (λ (e : Entry). not (is_late now_ms e)) b.model a
step_none shape b nothing w a = a

-- the acts of calls are such
read_within : (peer : ℕ) (bytes : List ℕ) (now_ms : ℕ) (out_header out_body : List ℕ)
    → Read (arrival_act (granted_of (arriving peer bytes now_ms out_header out_body)))
read_within peer bytes now_ms out_header out_body = go (read_fields bytes) refl
  where
    go : (r : Reply Fields) → read_fields bytes ≡ r
        → Read (arrival_act (granted_of (and_next (and_next r (λ (f : Fields). granted (chunk_of bytes f)))
        (λ (c : Chunk). granted (arrival peer bytes c now_ms out_header out_body)))))
    go (granted f) e = (read_told bytes f e).within
    go (refused number value) e = tt

asked_read : (yes : Bool) (number : ℕ) (r : Reply Arrival) → Read (arrival_act (granted_of r)) → Read (arrival_act (granted_of (yes else number then r)))
asked_read true number r w = w
asked_read false number r w = tt

message_read : (r : Reply Message) (bytes : List ℕ) (now_ms : ℕ) (out_header out_body : List ℕ)
    → Read (arrival_act (granted_of (and_next r (λ (m : Message). arriving m.header.source bytes now_ms out_header out_body))))
message_read (granted m) bytes now_ms out_header out_body = read_within m.header.source bytes now_ms out_header out_body
message_read (refused number value) bytes now_ms out_header out_body = tt

either : (yes : Bool) (act : Act) → Read act → Read (cond yes act nothing)
either true act w = w
either false act w = tt

act_read : (shape : Shape) (c : Call) → Read (act_of shape c)
unfolding fed_arrival message_arrival
act_read shape (feed peer chunk now_ms out_header out_body) =
    asked_read (has_outputs shape out_header out_body) 30 _ (asked_read (is_muid peer) 28 _ (read_within peer chunk now_ms out_header out_body))
act_read shape (feed_message message now_ms out_header out_body) =
    asked_read (has_outputs shape out_header out_body) 30 _ (message_read (read_message message) (drop-list 13 message) now_ms out_header out_body)
act_read shape (cancel_call peer id) = either (is_muid peer) (cancel peer id) tt
act_read shape (drop_peer peer) = either (is_muid peer) (drop peer) tt
act_read shape (poll_call now_ms out_peers out_ids) =
    either (has_places shape.max_peers out_peers && has_places shape.max_peers out_ids) (poll now_ms) tt
act_read shape memory_stats = tt
act_read shape reserved_bytes = tt
act_read shape (open_list out_peers out_ids out_held) = tt

from : (shape : Shape) (b : Clocked) (calls : List Call) → NoStrays b.model → NoStrays (model_from shape b calls).model
from shape b [] a = a
from shape b (c ∷ calls) a = from shape (acted shape b (act_of shape c)) calls (step_none shape b (act_of shape c) (act_read shape c) a)

-- Whatever is called, on a table of any shape: no open slot holds a number above its count.
pub no_strays : (shape : Shape) (calls : List Call) → NoStrays (model_after shape calls).model
no_strays shape calls = from shape start calls tt
