-- How a slot lies in lent memory: its words, its records, its header room and its arena.
-- Assumes nothing.
use Rattle.std.specs.Prelude.{ℕ, ◌+◌, ◌*◌, ◌/◌, ◌%◌, Bool, false, cond, not, ◌&&◌, ◌||◌, List, [], ◌∷◌, map, take, ◌==◌, nat_le, slice_index, Option, Some, None}
use Rattle.std.proofs.Math.Option.{none, some}
use Rattle.seven_bit.specs.Parts.{part}
use Rattle.pe_slot.specs.declared.layout.TxSlot.{TxSlot}
use Rattle.pe_slot.specs.Layout.{active_at, request_id_at, last_activity_at, lru_tick_at, num_chunks_at, header_set_at, header_len_at, index_len_at, property_bytes_at}
use Rattle.pe_slot.specs.Slot.{Piece, Slot}

-- The words in their order.
abbrev pub slot_of : List ℕ → TxSlot
slot_of w =
    record {
      active = slice_index w active_at;
      request_id = slice_index w request_id_at;
      last_activity_ms = slice_index w last_activity_at;
      lru_tick = slice_index w lru_tick_at;
      num_chunks = slice_index w num_chunks_at;
      header_set = slice_index w header_set_at;
      header_len = slice_index w header_len_at;
      index_len = slice_index w index_len_at;
      property_bytes = slice_index w property_bytes_at;
    }

abbrev pub words_of : TxSlot → List ℕ
words_of t =
    t.active
    ∷ t.request_id
    ∷ t.last_activity_ms
    ∷ t.lru_tick
    ∷ t.num_chunks
    ∷ t.header_set
    ∷ t.header_len
    ∷ t.index_len
    ∷ t.property_bytes
    ∷ []

-- A record of one word (a `FragmentMeta`, document 01's frame record): chunk number, length, and offset in the arena.
abbrev pub packed : ℕ → ℕ → ℕ → ℕ
packed number len offset = number + 65536 * len + 4294967296 * offset

abbrev pub meta_number : ℕ → ℕ
meta_number x = x % 65536

abbrev pub meta_len : ℕ → ℕ
meta_len x = x / 65536 % 65536

abbrev pub meta_offset : ℕ → ℕ
meta_offset x = x / 4294967296

unfoldable pub piece_of : List ℕ → ℕ → Piece
piece_of arena x = record { number = meta_number x; bytes = part (meta_offset x) (meta_len x) arena }

-- The pieces that the records name.
unfoldable pub pieces_of : List ℕ → List ℕ → List Piece
pieces_of records arena = map (piece_of arena) records

-- What the memory holds.
unfoldable pub contents : TxSlot → List ℕ → List ℕ → List ℕ → Slot
contents t index header arena =
    record {
      header = cond (t.header_set == 0) none (some (take t.header_len header));
      count = t.num_chunks;
      pieces = pieces_of (take t.index_len index) arena;
    }

-- Where records that start at a place and lie end to end end.
unfoldable pub ends_at : ℕ → List ℕ → Option ℕ
ends_at at [] = Some at
ends_at at (x ∷ xs) = cond (meta_offset x == at) (ends_at (at + meta_len x) xs) None

abbrev pub is_end : Option ℕ → ℕ → Bool
is_end None n = false
is_end (Some end) n = end == n

-- "Does that transfer's memory hold a header of at most H, at most R records lying end to end from 0, and a body length that is their sum
-- and at most B (all 0 if free)?" Without records the sum is 0.
unfoldable pub is_sound : ℕ → ℕ → ℕ → TxSlot → List ℕ → Bool
is_sound H B R t index =
    nat_le t.header_len H
    && nat_le t.index_len R
    && nat_le t.property_bytes B
    && is_end (ends_at 0 (take t.index_len index)) t.property_bytes
    && (not (t.active == 0) || (t.header_len == 0 && t.index_len == 0))
