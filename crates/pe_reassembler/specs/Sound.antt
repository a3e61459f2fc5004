-- What holds of every slot that `new` and the calls leave: the statement of the theorems `sound_new`, `sound_feed` and the like.
-- Assumes nothing.
use Rattle.std.specs.Prelude.{ℕ, ◌<◌, true, List, ◌≡◌}
use Rattle.pe_slot.specs.declared.layout.TxSlot.{TxSlot}
use Rattle.pe_slot.specs.Memory.{slot_of, is_sound}
use Rattle.pe_reassembler.specs.declared.shape.Shape.{Shape}
use Rattle.pe_reassembler.specs.Feed.{words_part, room_part}

-- A slot that is not open knows no header and no count.
abbrev pub Blank : TxSlot → Type 0
Blank t = t.active ≡ 0 → (t.header_set ≡ 0) × (t.num_chunks ≡ 0)

-- A header that is not set has no length.
abbrev pub Headed : TxSlot → Type 0
Headed t = t.header_set ≡ 0 → t.header_len ≡ 0

-- Question 31 has a yes of a slot's words and records.
pub record SlotSound (H B R : ℕ) (words records : List ℕ) : Type 0 where
  pub sound : is_sound H B R (slot_of words) records ≡ true
  pub blank : Blank (slot_of words)
  pub headed : Headed (slot_of words)

-- So it is with each slot of a table.
pub record SlotsSound (shape : Shape) (numbers index : List ℕ) : Type 0 where
  pub each : (p s : ℕ) → p < shape.max_peers → s < 4
      → SlotSound shape.header_bytes shape.tx_bytes shape.fragment_records
      (words_part numbers p s) (room_part shape.fragment_records index p s)
