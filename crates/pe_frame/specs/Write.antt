-- A chunk written, alone and behind a CI header (document 01, **Write a frame**, and 'Added').
-- Assumes nothing.
use Rattle.std.specs.Prelude.{ℕ, ◌+◌, ◌≤◌, true, cond, ◌&&◌, ◌||◌, List, ◌∷◌, ◌++◌, ◌≡◌, leb, eqb, length}
use Rattle.seven_bit.specs.Parts.{put_fit}
use Rattle.seven_bit.specs.Reply.{Reply, granted, ◌else◌then◌, ◌else◌with◌then◌}
use Rattle.seven_bit.specs.SevenBit.{is_seven_bit, bytes_of}
use Rattle.midici_core.specs.Header.{Header, bytes_of_header, within28}
use Rattle.midici_core.specs.Kinds.{carries_chunk}
use Rattle.pe_frame.specs.Chunk.{Chunk, within_count}

-- The chunk's bytes, and how many there are.
unfoldable pub chunk_bytes : Chunk → List ℕ
chunk_bytes c =
    c.request_id
    ∷ (bytes_of 2 (length c.header)
    ++ (c.header
    ++ (bytes_of 2 c.num_chunks
    ++ (bytes_of 2 c.chunk_num
    ++ (bytes_of 2 (length c.property)
    ++ c.property)))))

unfoldable pub chunk_len : Chunk → ℕ
chunk_len c = 9 + length c.header + length c.property

-- "Id? 1. Header and property up to 16,383? 1. Count and number? 1. Header bytes? 1. Number 1 or no header? 8."
-- Document 02, K3: property bytes above 7F "after the header bytes", and a number beyond its count "before the buffer".
unfoldable pub ask_chunk : {A : Type 0} → Chunk → Reply A → Reply A
ask_chunk c next =
    leb c.request_id 0x7F else 1 then
    leb (length c.header) 16383 else 1 then
    leb (length c.property) 16383 else 1 then
    leb c.num_chunks 16383 else 1 then
    leb c.chunk_num 16383 else 1 then
    is_seven_bit c.header else 1 then
    is_seven_bit c.property else 1 then
    (eqb c.chunk_num 1 || eqb (length c.header) 0) else 8 then
    within_count c.chunk_num c.num_chunks else 8 then
    next

-- A chunk that has a yes to each of them.
pub record InRange (c : Chunk) : Type 0 where
  pub id : c.request_id ≤ 127
  pub header_len : length c.header ≤ 16383
  pub property_len : length c.property ≤ 16383
  pub count : c.num_chunks ≤ 16383
  pub number : c.chunk_num ≤ 16383
  pub header_bytes : is_seven_bit c.header ≡ true
  pub property_bytes : is_seven_bit c.property ≡ true
  pub first : (eqb c.chunk_num 1 || eqb (length c.header) 0) ≡ true
  pub within : within_count c.chunk_num c.num_chunks ≡ true

-- A chunk stored at a place of a list, where its numbers have 14 bits and it fits; its other questions are not asked here.
unfoldable pub put_chunk : Chunk → List ℕ → ℕ → List ℕ
put_chunk c out at =
    cond (leb (length c.header) 16383 && leb (length c.property) 16383 && leb c.num_chunks 16383 && leb c.chunk_num 16383)
    (put_fit out at (chunk_bytes c))
    out

-- and then "Buffer? 3."
unfoldable pub write_chunk : Chunk → ℕ → Reply (List ℕ)
write_chunk c room =
    ask_chunk c
    (leb (chunk_len c) room else 3 then
    granted (chunk_bytes c))

-- "header (device 7F, version 2)"
abbrev pub header_for : ℕ → ℕ → ℕ → Header
header_for kind source dest = record { device = 0x7F; kind = kind; version = 2; source = source; dest = dest }

-- "asking consoles (28), a kind that carries a frame (24), then the frame's questions, with the buffer (3) measured for both"
unfoldable pub write_whole : ℕ → ℕ → ℕ → Chunk → ℕ → Reply (List ℕ)
write_whole kind source dest c room =
    within28 (header_for kind source dest) else 28 then
    carries_chunk kind else 24 with kind then
    ask_chunk c
    (leb (13 + chunk_len c) room else 3 then
    granted (bytes_of_header (header_for kind source dest) ++ chunk_bytes c))
