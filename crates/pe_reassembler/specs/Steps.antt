-- What the private steps of a feed say.
-- Assumes nothing.
use Rattle.std.specs.Prelude.{ℕ, ◌≡◌, Bool, false, cond, List, eqb, set}
use Rattle.seven_bit.specs.Parts.{splice}
use Rattle.seven_bit.specs.Reply.{Reply, granted, refused}
use Rattle.pe_frame.specs.Chunk.{Chunk}
use Rattle.pe_slot.specs.Layout.{slot_words}
use Rattle.pe_slot.specs.Feed.{Told, SlotLeft, feed_slot}
use Rattle.pe_reassembler.specs.declared.feed.Rooms.{Rooms}
use Rattle.pe_reassembler.specs.declared.shape.Shape.{Shape}
use Rattle.pe_reassembler.specs.Table.{slot_at, room_at}
use Rattle.pe_reassembler.specs.Feed.{Memory, memory, FeedLeft, feed_left, bind, words_part, room_part}

-- The numbers, and what the rooms lead to; and do two have the same rooms?
abbrev pub memory_of : List ℕ → Rooms → Memory
memory_of numbers r = memory numbers r.index.now r.headers.now r.arenas.now r.out_header.now r.out_body.now

abbrev pub HasSameRooms : Rooms → Rooms → Type 0
HasSameRooms r q =
    (r.index.ghost_name ≡ q.index.ghost_name) × (r.headers.ghost_name ≡ q.headers.ghost_name) × (r.arenas.ghost_name ≡ q.arenas.ghost_name)
    × (r.out_header.ghost_name ≡ q.out_header.ghost_name) × (r.out_body.ghost_name ≡ q.out_body.ghost_name)

-- What the slot left, in its place; the clock and the binding as they were.
abbrev pub in_place : Shape → Memory → ℕ → ℕ → SlotLeft → FeedLeft
in_place shape m p s a =
    feed_left a.answer
    (memory
    (splice (slot_at p s) slot_words m.numbers a.words)
    (splice (room_at shape.fragment_records p s) shape.fragment_records m.index a.index)
    (splice (room_at shape.header_bytes p s) shape.header_bytes m.headers a.header)
    (splice (room_at shape.tx_bytes p s) shape.tx_bytes m.arenas a.arena)
    a.out_header
    a.out_body)

-- Slot s of record p, fed.
abbrev pub slot_fed : Shape → Memory → ℕ → ℕ → Chunk → ℕ → ℕ → FeedLeft
slot_fed shape m p s c now_ms tick =
    in_place shape m p s
    (feed_slot (words_part m.numbers p s) (room_part shape.fragment_records m.index p s) (room_part shape.header_bytes m.headers p s)
    (room_part shape.tx_bytes m.arenas p s) c now_ms tick m.out_header m.out_body)

-- Is the answer that the slot's memory is damaged?
abbrev pub is_damaged : Reply Told → Bool
is_damaged (granted t) = false
is_damaged (refused number value) = eqb number 31

-- The clock and the binding, which only a damaged slot leaves as they were.
abbrev pub noted : Reply Told → List ℕ → ℕ → ℕ → ℕ → List ℕ
noted answer numbers tick peer p = cond (is_damaged answer) numbers (bind (set numbers 0 tick) peer p)
