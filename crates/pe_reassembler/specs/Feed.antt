-- `feed` and the whole-message entry (document 01, module 8 and 'Added').
-- Assumes nothing.
use Rattle.std.specs.Prelude.{ℕ, ◌+◌, Bool, cond, ◌&&◌, List, leb, ltb, length, get_or, set, drop, Option, Some, None}
use Rattle.seven_bit.specs.Parts.{part, splice}
use Rattle.seven_bit.specs.Reply.{Reply, granted, refused}
use Rattle.midici_core.specs.Message.{Message, read_message}
use Rattle.pe_frame.specs.Chunk.{Chunk, Fields, read_fields, chunk_of}
use Rattle.pe_slot.specs.Layout.{slot_words}
use Rattle.pe_slot.specs.Feed.{Told, SlotLeft, reached_slot}
use Rattle.pe_slot.specs.Memory.{slot_of, is_sound}
use Rattle.pe_reassembler.specs.declared.shape.Shape.{Shape}
use Rattle.pe_reassembler.specs.Table.{has_rooms, is_muid, bound_to, peer_at, slot_at, room_at, record_for, slot_for}

-- All that is lent for a feed.
pub record Memory : Type 0 where
  pub numbers : List ℕ
  pub index : List ℕ
  pub headers : List ℕ
  pub arenas : List ℕ
  pub out_header : List ℕ
  pub out_body : List ℕ

abbrev pub memory : List ℕ → List ℕ → List ℕ → List ℕ → List ℕ → List ℕ → Memory
memory numbers index headers arenas out_header out_body =
    record { numbers = numbers; index = index; headers = headers; arenas = arenas; out_header = out_header; out_body = out_body }

-- The answer, and all of it afterwards.
pub record FeedLeft : Type 0 where
  pub answer : Reply Told
  pub memory : Memory

abbrev pub feed_left : Reply Told → Memory → FeedLeft
feed_left answer m = record { answer = answer; memory = m }

-- "a tick one above the last (the first is 2, held at 2^64 − 1)"
unfoldable pub next_tick : ℕ → ℕ
next_tick clock = cond (ltb clock 18446744073709551615) (clock + 1) 18446744073709551615

-- "which is then bound to it": the record that is the console's own stays as it is
unfoldable pub bind : List ℕ → ℕ → ℕ → List ℕ
bind numbers peer p = cond (bound_to numbers peer p) numbers (set (set numbers (peer_at p) 1) (peer_at p + 1) peer)

-- A slot's parts.
abbrev pub words_part : List ℕ → ℕ → ℕ → List ℕ
words_part numbers p s = part (slot_at p s) slot_words numbers

abbrev pub room_part : ℕ → List ℕ → ℕ → ℕ → List ℕ
room_part size rooms p s = part (room_at size p s) size rooms

-- What the slot left, in its place; the clock and the binding.
unfoldable pub lifted : Shape → Memory → ℕ → ℕ → ℕ → SlotLeft → FeedLeft
lifted shape m peer p s a =
    feed_left a.answer
    (memory
    (splice (slot_at p s) slot_words (bind (set m.numbers 0 (next_tick (get_or m.numbers 0 0))) peer p) a.words)
    (splice (room_at shape.fragment_records p s) shape.fragment_records m.index a.index)
    (splice (room_at shape.header_bytes p s) shape.header_bytes m.headers a.header)
    (splice (room_at shape.tx_bytes p s) shape.tx_bytes m.arenas a.arena)
    a.out_header
    a.out_body)

-- What a chunk that reaches a slot leaves of it.
abbrev pub slot_reached : Shape → Memory → Chunk → ℕ → ℕ → ℕ → SlotLeft
slot_reached shape m c now_ms p s =
    reached_slot (words_part m.numbers p s) (room_part shape.fragment_records m.index p s)
    (room_part shape.header_bytes m.headers p s) (room_part shape.tx_bytes m.arenas p s)
    c now_ms (next_tick (get_or m.numbers 0 0)) m.out_header m.out_body

-- Question 31; from there on the slot is touched, and its own questions settle what is left of it.
unfoldable pub reach : Shape → Memory → ℕ → Chunk → ℕ → ℕ → ℕ → FeedLeft
reach shape m peer c now_ms p s =
    cond (is_sound shape.header_bytes shape.tx_bytes shape.fragment_records
    (slot_of (words_part m.numbers p s)) (room_part shape.fragment_records m.index p s))
    (lifted shape m peer p s (slot_reached shape m c now_ms p s))
    (feed_left (refused 31 0) m)

-- "Own, unbound or idle record? 7. Transfer open with this id, or a free one? 6."
abbrev pub in_slot : Option ℕ → Shape → Memory → ℕ → Chunk → ℕ → ℕ → FeedLeft
in_slot None shape m peer c now_ms p = feed_left (refused 6 0) m
in_slot (Some s) shape m peer c now_ms p = reach shape m peer c now_ms p s

abbrev pub in_record : Option ℕ → Shape → Memory → ℕ → Chunk → ℕ → FeedLeft
in_record None shape m peer c now_ms = feed_left (refused 7 0) m
in_record (Some p) shape m peer c now_ms = in_slot (slot_for m.numbers p c.request_id) shape m peer c now_ms p

unfoldable pub at_table : Shape → Memory → ℕ → Chunk → ℕ → FeedLeft
at_table shape m peer c now_ms = in_record (record_for shape m.numbers peer) shape m peer c now_ms

-- A chunk that is read reaches the table; one that is refused changes nothing.
abbrev pub chunk_read : Reply Fields → Shape → Memory → ℕ → List ℕ → ℕ → FeedLeft
chunk_read (granted f) shape m peer data' now_ms = at_table shape m peer (chunk_of data' f) now_ms
chunk_read (refused number value) shape m peer data' now_ms = feed_left (refused number value) m

-- "Shape in range and lent memory long enough? 30." The outputs have at least H and B bytes.
unfoldable pub has_all : Shape → Memory → Bool
has_all shape m =
    has_rooms shape m.numbers m.index m.headers m.arenas
    && leb shape.header_bytes (length m.out_header)
    && leb shape.tx_bytes (length m.out_body)

unfoldable pub feed_call : Shape → Memory → ℕ → List ℕ → ℕ → FeedLeft
feed_call shape m peer data' now_ms =
    cond (has_all shape m)
    (cond (is_muid peer)
    (chunk_read (read_fields data') shape m peer data' now_ms)
    (feed_left (refused 28 0) m))
    (feed_left (refused 30 0) m)

-- "one entry takes a whole CI message and feeds its frame under its source console"
abbrev pub message_read : Reply Message → Shape → Memory → List ℕ → ℕ → FeedLeft
message_read (granted h) shape m body now_ms =
    chunk_read (read_fields (drop 13 body)) shape m h.header.source (drop 13 body) now_ms
message_read (refused number value) shape m body now_ms = feed_left (refused number value) m

unfoldable pub message_call : Shape → Memory → List ℕ → ℕ → FeedLeft
message_call shape m body now_ms =
    cond (has_all shape m)
    (message_read (read_message body) shape m body now_ms)
    (feed_left (refused 30 0) m)
