-- The model of what is open (document 01's book): "kept from the calls' arguments alone: open transfers, each with console, request id,
-- time, header or none, count or 0, and pieces (frame number, property bytes). It starts empty." Document 02, K7, orders the open list by tick; so
-- the model keeps ticks too.
-- Assumes nothing.
use Rattle.std.specs.Prelude.{ℕ, ◌-◌, Bool, true, false, cond, not, ◌&&◌, ◌||◌, List, [], ◌∷◌, ◌++◌, map, leb, ltb, eqb}
use Rattle.std.proofs.Math.Option.{Option, none, some}
use Rattle.seven_bit.specs.Reply.{Reply, refused}
use Rattle.pe_frame.specs.Chunk.{Chunk}
use Rattle.pe_slot.specs.Slot.{Slot, Event, Verdict, judge, slot_after}
use Rattle.pe_reassembler.specs.declared.shape.Shape.{Shape}
use Rattle.pe_reassembler.specs.Feed.{next_tick}
use Rattle.pe_run.specs.Lists.{keep, tally, different}

-- What is open: time and tick of its last chunk, and header, count and pieces.
pub record Open : Type 0 where
  pub time : ℕ
  pub tick : ℕ
  pub slot : Slot

pub record Entry : Type 0 where
  pub peer : ℕ
  pub request_id : ℕ
  pub state : Open

abbrev pub Model : Type 0
Model = List Entry

-- The model, and the last tick that was given. "It starts empty"; "the first is 2".
pub record Clocked : Type 0 where
  pub clock : ℕ
  pub model : Model

abbrev pub clocked : ℕ → Model → Clocked
clocked clock b = record { clock = clock; model = b }

abbrev pub start : Clocked
start = clocked 1 []

-- Under this peer and request id? Under this peer? "now − time at least 3,000 (0 if the clock went back)"?
abbrev pub is_at : ℕ → ℕ → Entry → Bool
is_at peer request_id e = eqb peer e.peer && eqb request_id e.request_id

abbrev pub is_of : ℕ → Entry → Bool
is_of peer e = eqb peer e.peer

abbrev pub is_late : ℕ → Entry → Bool
is_late now_ms e = leb 3000 (now_ms - e.state.time)

abbrev pub find : ℕ → ℕ → Model → Option Open
find peer request_id [] = none
find peer request_id (e ∷ b) = cond (is_at peer request_id e) (some e.state) (find peer request_id b)

abbrev pub is_none : {A : Type 0} → Option A → Bool
is_none none = true
is_none (some x) = false

-- How many a peer has open, and how many peers have something open.
abbrev pub open_of : ℕ → Model → ℕ
open_of peer b = tally (is_of peer) b

abbrev pub peer_of : Entry → ℕ
peer_of e = e.peer

abbrev pub peers_open : Model → ℕ
peers_open b = different (map peer_of b)

-- "A console finds a record if it has a transfer open in the book, or fewer than n consoles have."
unfoldable pub finds_record : ℕ → ℕ → Model → Bool
finds_record n peer b = not (eqb (open_of peer b) 0) || ltb (peers_open b) n

-- "its id is not open there and four others are"
unfoldable pub has_four : ℕ → ℕ → Model → Bool
has_four peer request_id b = is_none (find peer request_id b) && leb 4 (open_of peer b)

-- "Else its transfer, opened if need be, takes the call's time", and "Each frame that reaches a transfer sets .. a tick"
abbrev pub touched_at : Option Open → ℕ → ℕ → Open
touched_at none now_ms tick = record { time = now_ms; tick = tick; slot = record { header = none; count = 0; pieces = [] } }
touched_at (some o) now_ms tick = record { time = now_ms; tick = tick; slot = o.slot }

-- "**Transfer**'s questions are put to the book, with what they store, take and close", at the shape's H, B and R.
pub record Judged : Type 0 where
  pub left : Option Open
  pub answer : Reply Event

unfoldable pub judged : Shape → Open → Chunk → Judged
judged shape o c =
    let v : Verdict = judge shape.header_bytes shape.tx_bytes shape.fragment_records o.slot c in
    record {
      left = cond v.closes none (some (record { time = o.time; tick = o.tick; slot = slot_after o.slot c v }));
      answer = v.answer;
    }

abbrev pub entry_of : ℕ → ℕ → Option Open → Model
entry_of peer request_id none = []
entry_of peer request_id (some o) = record { peer = peer; request_id = request_id; state = o } ∷ []

-- The model without what is open under this peer and id.
abbrev pub without : ℕ → ℕ → Model → Model
without peer request_id b = keep (λ (e : Entry). not (is_at peer request_id e)) b

pub record Arrived : Type 0 where
  pub left : Clocked
  pub answer : Reply Event

-- A chunk that reaches its slot: "a tick one above the last (the first is 2, held at 2^64 − 1)".
abbrev pub arrived : ℕ → ℕ → Clocked → Judged → Arrived
arrived peer request_id b j =
    record {
      left = clocked (next_tick b.clock) (entry_of peer request_id j.left ++ without peer request_id b.model);
      answer = j.answer;
    }

-- A chunk that arrives. "It stays too at 7, when its console has nothing open and n others have, and at 6, when its id is not open there
-- and four others are. Else its transfer, opened if need be, takes the call's time, and **Transfer**'s questions are put to the book".
unfoldable pub arrives : Shape → Clocked → ℕ → Chunk → ℕ → Arrived
arrives shape b peer c now_ms =
    cond (not (finds_record shape.max_peers peer b.model)) (record { left = b; answer = refused 7 0 })
    (cond (has_four peer c.request_id b.model) (record { left = b; answer = refused 6 0 })
    (arrived peer c.request_id b (judged shape (touched_at (find peer c.request_id b.model) now_ms (next_tick b.clock)) c)))

-- What a call means for the model. `nothing`: a call that is refused ahead of **Table**'s questions, and one that changes nothing.
pub data Act : Type 0 where
  arrive : ℕ → Chunk → ℕ → Act
  cancel : ℕ → ℕ → Act
  drop : ℕ → Act
  poll : ℕ → Act
  nothing : Act

-- "Cancel closes the transfer it names, drop all of its console, poll those with now − time at least 3,000 (0 if the clock went back).
-- Refused, they change nothing; the other calls never do."
abbrev pub acted : Shape → Clocked → Act → Clocked
acted shape b (arrive peer c now_ms) = (arrives shape b peer c now_ms).left
acted shape b (cancel peer request_id) = clocked b.clock (without peer request_id b.model)
acted shape b (drop peer) = clocked b.clock (keep (λ (e : Entry). not (is_of peer e)) b.model)
acted shape b (poll now_ms) = clocked b.clock (keep (λ (e : Entry). not (is_late now_ms e)) b.model)
acted shape b nothing = b
