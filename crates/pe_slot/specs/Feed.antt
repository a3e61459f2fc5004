-- A chunk that reaches a slot: the answer, and all the memory that is lent for it.
-- Assumes nothing.
use Rattle.std.specs.Prelude.{ℕ, ◌+◌, Bool, cond, ◌&&◌, List, ◌++◌, length, drop, ◌==◌, nat_le, slice_set, Option, Some, None, Result}
use Rattle.seven_bit.specs.Parts.{splice}
use Rattle.seven_bit.specs.Reply.{Reply, granted, refused}
use Rattle.pe_wire.specs.declared.error.PeError.{PeError}
use Rattle.pe_wire.specs.Errors.{pe_told}
use Rattle.pe_frame.specs.Chunk.{Chunk}
use Rattle.pe_slot.specs.declared.layout.TxSlot.{TxSlot}
use Rattle.pe_slot.specs.declared.slot.Whole.{Whole}
use Rattle.pe_slot.specs.Layout.{slot_words}
use Rattle.pe_slot.specs.Slot.{Event, waiting, whole, Verdict, judge}
use Rattle.pe_slot.specs.Memory.{slot_of, words_of, packed, contents, is_sound}

-- "From here time and tick are set and a free transfer is opened".
abbrev pub touched : TxSlot → ℕ → ℕ → ℕ → TxSlot
touched t request_id now_ms tick =
    record {
      active = cond (t.active == 0) 1 t.active;
      request_id = request_id;
      last_activity_ms = now_ms;
      lru_tick = tick;
      num_chunks = t.num_chunks;
      header_set = t.header_set;
      header_len = t.header_len;
      index_len = t.index_len;
      property_bytes = t.property_bytes;
    }

-- The words with what was stored, taken and added.
abbrev pub grown : TxSlot → Chunk → Verdict → TxSlot
grown t c v =
    record {
      active = t.active;
      request_id = t.request_id;
      last_activity_ms = t.last_activity_ms;
      lru_tick = t.lru_tick;
      num_chunks = cond v.takes c.num_chunks t.num_chunks;
      header_set = cond v.stores 1 t.header_set;
      header_len = cond v.stores (length c.header) t.header_len;
      index_len = cond v.adds (t.index_len + 1) t.index_len;
      property_bytes = cond v.adds (t.property_bytes + length c.property) t.property_bytes;
    }

-- "Closing zeroes id, time, count and lengths and leaves no header known; tick and old bytes stay."
abbrev pub closed_slot : TxSlot → TxSlot
closed_slot t =
    record {
      active = 0;
      request_id = 0;
      last_activity_ms = 0;
      lru_tick = t.lru_tick;
      num_chunks = 0;
      header_set = 0;
      header_len = 0;
      index_len = 0;
      property_bytes = 0;
    }

-- The words of a slot that closes.
abbrev pub cleared : List ℕ → List ℕ
cleared words = words_of (closed_slot (slot_of words))

-- Words that are not those of a slot stay.
unfoldable pub close_words : List ℕ → List ℕ
close_words words = cond (length words == slot_words) (cleared words) words

-- An answer in numbers: waiting, or the two lengths of a whole list.
pub data Told : Type 0 where
  still : Told
  lengths : ℕ → ℕ → Told

abbrev pub told_event : Event → Told
told_event waiting = still
told_event (whole header body) = lengths (length header) (length body)

abbrev pub told_answer : Reply Event → Reply Told
told_answer (granted e) = granted (told_event e)
told_answer (refused number value) = refused number value

-- What the code answers: nothing yet, or the lengths of a whole list.
abbrev pub whole_told : Option Whole → Told
whole_told None = still
whole_told (Some w) = lengths w.header_len w.body_len

abbrev pub fed_told : Result (Option Whole) PeError → Reply Told
fed_told r = pe_told whole_told r

-- The answer with a slot's memory and the two outputs as they are then.
pub record SlotLeft : Type 0 where
  pub answer : Reply Told
  pub words : List ℕ
  pub index : List ℕ
  pub header : List ℕ
  pub arena : List ℕ
  pub out_header : List ℕ
  pub out_body : List ℕ

abbrev pub slot_left : Reply Told → List ℕ → List ℕ → List ℕ → List ℕ → List ℕ → List ℕ → SlotLeft
slot_left answer words index header arena out_header out_body =
    record { answer = answer; words = words; index = index; header = header; arena = arena; out_header = out_header; out_body = out_body }

-- "the outputs begin with exactly its header and body"; waiting and refusals leave them
abbrev pub header_out : Reply Event → List ℕ → List ℕ
header_out (granted waiting) out = out
header_out (granted (whole header body)) out = header ++ drop (length header) out
header_out (refused number value) out = out

abbrev pub body_out : Reply Event → List ℕ → List ℕ
body_out (granted waiting) out = out
body_out (granted (whole header body)) out = body ++ drop (length body) out
body_out (refused number value) out = out

-- The rooms are as long as the shape says: H, B and R are their lengths.
unfoldable pub placed : TxSlot → List ℕ → List ℕ → List ℕ → Chunk → Verdict → List ℕ → List ℕ → SlotLeft
placed t index header arena c v out_header out_body =
    slot_left
    (told_answer v.answer)
    (words_of (cond v.closes (closed_slot (grown t c v)) (grown t c v)))
    (cond v.adds (slice_set index t.index_len (packed c.chunk_num (length c.property) t.property_bytes)) index)
    (cond v.stores (splice 0 (length c.header) header c.header) header)
    (cond v.adds (splice t.property_bytes (length c.property) arena c.property) arena)
    (header_out v.answer out_header)
    (body_out v.answer out_body)

-- Are the parts those of a slot, and the outputs long enough?
unfoldable pub is_shaped : List ℕ → List ℕ → List ℕ → List ℕ → List ℕ → List ℕ → Bool
is_shaped words index header arena out_header out_body =
    (length words == slot_words)
    && nat_le (length index) 2048
    && nat_le (length header) 4096
    && nat_le (length arena) 65536
    && nat_le (length header) (length out_header)
    && nat_le (length arena) (length out_body)

-- A chunk reaches a sound slot: time and tick are set, the slot's questions are put to what it holds, and their verdict is carried out.
abbrev pub reached_slot : List ℕ → List ℕ → List ℕ → List ℕ → Chunk → ℕ → ℕ → List ℕ → List ℕ → SlotLeft
reached_slot words index header arena c now_ms tick out_header out_body =
    placed (touched (slot_of words) c.request_id now_ms tick) index header arena c
    (judge (length header) (length arena) (length index) (contents (slot_of words) index header arena) c)
    out_header out_body

-- Questions 30 and 31, the length that a record can hold (1, which no chunk that was read fails), then the slot's own.
unfoldable pub feed_slot : List ℕ → List ℕ → List ℕ → List ℕ → Chunk → ℕ → ℕ → List ℕ → List ℕ → SlotLeft
feed_slot words index header arena c now_ms tick out_header out_body =
    cond (is_shaped words index header arena out_header out_body)
    (cond (is_sound (length header) (length arena) (length index) (slot_of words) index)
    (cond (nat_le (length c.property) 16383)
    (reached_slot words index header arena c now_ms tick out_header out_body)
    (slot_left (refused 1 0) words index header arena out_header out_body))
    (slot_left (refused 31 0) words index header arena out_header out_body))
    (slot_left (refused 30 0) words index header arena out_header out_body)
