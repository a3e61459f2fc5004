-- The lookup of a chunk number in a lent slice of `FragmentMeta`.
-- Document 01, 'Form by location': "slice of structs walked once, answer is the index or none".
-- A record's word is the one that lent numbers hold, so both forms have one definition: `holds` asks, over words, whether `place_of` finds a place.
-- Assumes nothing.
use Rattle.std.specs.Prelude.{ℕ}
use Rattle.pe_slot.specs.declared.meta.FragmentMeta.{FragmentMeta}
use Rattle.pe_slot.specs.Memory.{packed, meta_number, meta_len, meta_offset}

abbrev pub word_of : FragmentMeta → ℕ
word_of m = packed m.chunk_num m.len m.offset

-- The record of a word.
abbrev pub meta_of : ℕ → FragmentMeta
meta_of x = record { chunk_num = meta_number x; len = meta_len x; offset = meta_offset x }
