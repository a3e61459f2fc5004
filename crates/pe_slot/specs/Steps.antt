-- What the private steps of a feed say: the answer, and the memory that the step may change.
-- Assumes nothing.
use Rattle.std.specs.Prelude.{◌≡◌, ℕ, ◌+◌, ◌≤◌, Bool, cond, not, ◌&&◌, ◌||◌, List, length, take, ◌==◌, nat_le, nat_lt, slice_set, Some, Result}
use Rattle.seven_bit.specs.Parts.{splice}
use Rattle.seven_bit.specs.Reply.{Reply, granted, refused, ◌else◌then◌}
use Rattle.pe_wire.specs.declared.error.PeError.{PeError}
use Rattle.pe_wire.specs.Errors.{pe_told}
use Rattle.pe_slot.specs.declared.layout.TxSlot.{TxSlot}
use Rattle.pe_slot.specs.Layout.{slot_words, num_chunks_at, header_set_at, header_len_at, index_len_at, property_bytes_at}
use Rattle.pe_slot.specs.Slot.{Slot, eq_list, is_whole, event_of}
use Rattle.pe_slot.specs.Memory.{slot_of, packed, ends_at, is_sound}
use Rattle.pe_slot.specs.Records.{holds, up_to}
use Rattle.pe_slot.specs.Feed.{Told, still, told_answer, header_out, body_out, cleared}

-- The part of question 31 that needs no pass over the records.
abbrev pub is_bounded : ℕ → ℕ → ℕ → TxSlot → Bool
is_bounded H B R t =
    nat_le t.header_len H
    && nat_le t.index_len R
    && nat_le t.property_bytes B
    && (not (t.active == 0) || (t.header_len == 0 && t.index_len == 0))

-- Question 31: of a sound slot it is told whether the chunk's number is among its records.
unfoldable pub ask_sound : List ℕ → List ℕ → List ℕ → List ℕ → ℕ → Reply Bool
ask_sound words index header arena number =
    is_sound (length header) (length arena) (length index) (slot_of words) index else 31 then
    granted (holds number (take (slot_of words).index_len index))

-- A slot's memory is sound, and the outputs have room.
pub record Ready (words index header arena out_header out_body : List ℕ) : Type 0 where
  pub nine : length words ≡ slot_words
  pub head : (slot_of words).header_len ≤ length header
  pub held : (slot_of words).index_len ≤ length index
  pub records : length index ≤ 2048
  pub ends : ends_at 0 (take (slot_of words).index_len index) ≡ Some (slot_of words).property_bytes
  pub body : (slot_of words).property_bytes ≤ length arena
  pub bytes : length arena ≤ 65536
  pub header_room : length header ≤ length out_header
  pub body_room : length arena ≤ length out_body

-- A step's answer in numbers: with a yes nothing is told yet, and a no is the feed's answer.
abbrev pub asked_told : {A : Type 0} → Result A PeError → Reply Told
asked_told r = pe_told (λ a. still) r

-- Chunk 1's header: 4 where it is too long; it is stored where none is known, and else the same, or 8.
pub record HeaderTaken : Type 0 where
  pub answer : Reply Told
  pub words : List ℕ
  pub header : List ℕ

abbrev pub header_taken : Reply Told → List ℕ → List ℕ → HeaderTaken
header_taken answer words header = record { answer = answer; words = words; header = header }

unfoldable pub take_header : List ℕ → List ℕ → ℕ → List ℕ → HeaderTaken
take_header words header number new =
    cond (number == 1)
    (cond (nat_le (length new) (length header))
    (cond ((slot_of words).header_set == 0)
    (header_taken (granted still) (slice_set (slice_set words header_set_at 1) header_len_at (length new)) (splice 0 (length new) header new))
    (cond (eq_list (take (slot_of words).header_len header) new)
    (header_taken (granted still) words header)
    (header_taken (refused 8 0) words header)))
    (header_taken (refused 4 0) words header))
    (header_taken (granted still) words header)

-- The count: where one is known, the chunk's is 0 or the same, and its number is within it; else the chunk's is taken, if no number that is
-- held is above it. No is 8.
pub record CountTaken : Type 0 where
  pub answer : Reply Told
  pub words : List ℕ

abbrev pub count_taken : Reply Told → List ℕ → CountTaken
count_taken answer words = record { answer = answer; words = words }

unfoldable pub take_count : List ℕ → List ℕ → ℕ → ℕ → CountTaken
take_count words index count number =
    cond ((slot_of words).num_chunks == 0)
    (cond (count == 0) (count_taken (granted still) words)
    (cond (up_to count (take (slot_of words).index_len index)) (count_taken (granted still) (slice_set words num_chunks_at count))
    (count_taken (refused 8 0) words)))
    (count_taken
    ((count == 0 || (slot_of words).num_chunks == count) && nat_le number (slot_of words).num_chunks else 8 then granted still)
    words)

-- The piece: number not 0, not held, fewer than R records, body still at most B.
pub record PieceAdded : Type 0 where
  pub answer : Reply Told
  pub words : List ℕ
  pub index : List ℕ
  pub arena : List ℕ

abbrev pub piece_added : Reply Told → List ℕ → List ℕ → List ℕ → PieceAdded
piece_added answer words index arena = record { answer = answer; words = words; index = index; arena = arena }

unfoldable pub add_piece : List ℕ → List ℕ → List ℕ → ℕ → List ℕ → Bool → PieceAdded
add_piece words index arena number property held =
    cond (number == 0) (piece_added (refused 8 0) (cleared words) index arena)
    (cond held (piece_added (refused 8 0) words index arena)
    (cond (nat_lt (slot_of words).index_len (length index))
    (cond (nat_le ((slot_of words).property_bytes + length property) (length arena))
    (piece_added (granted still)
    (slice_set (slice_set words index_len_at ((slot_of words).index_len + 1)) property_bytes_at ((slot_of words).property_bytes + length property))
    (slice_set index (slot_of words).index_len (packed number (length property) (slot_of words).property_bytes))
    (splice (slot_of words).property_bytes (length property) arena property))
    (piece_added (refused 5 0) (cleared words) index arena))
    (piece_added (refused 5 0) words index arena)))

-- What the last step leaves.
pub record Finished : Type 0 where
  pub answer : Reply Told
  pub words : List ℕ
  pub out_header : List ℕ
  pub out_body : List ℕ

abbrev pub finished : Reply Told → List ℕ → List ℕ → List ℕ → Finished
finished answer words out_header out_body = record { answer = answer; words = words; out_header = out_header; out_body = out_body }

-- A slot that holds a whole list is told and closes; else the answer is waiting.
unfoldable pub finish_of : List ℕ → Slot → List ℕ → List ℕ → Finished
finish_of words s out_header out_body =
    finished
    (told_answer (granted (event_of s.header s.count s.pieces)))
    (cond (is_whole s.header s.count s.pieces) (cleared words) words)
    (header_out (granted (event_of s.header s.count s.pieces)) out_header)
    (body_out (granted (event_of s.header s.count s.pieces)) out_body)
