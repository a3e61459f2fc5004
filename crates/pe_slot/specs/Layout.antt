-- A slot's words: how many there are, and the place of each. Everything that names a word in lent memory goes through these.
-- Assumes nothing.
use Rattle.std.specs.Prelude.{ℕ}

abbrev pub slot_words : ℕ
slot_words = 9

abbrev pub active_at : ℕ
active_at = 0

abbrev pub request_id_at : ℕ
request_id_at = 1

abbrev pub last_activity_at : ℕ
last_activity_at = 2

abbrev pub lru_tick_at : ℕ
lru_tick_at = 3

abbrev pub num_chunks_at : ℕ
num_chunks_at = 4

abbrev pub header_set_at : ℕ
header_set_at = 5

abbrev pub header_len_at : ℕ
header_len_at = 6

abbrev pub index_len_at : ℕ
index_len_at = 7

abbrev pub property_bytes_at : ℕ
property_bytes_at = 8
