-- The cases of writing a header and a chunk together.
-- Assumes nothing.
use Prim.Native.Nat.{ℕ, ◌+◌, ◌<◌, ◌≤◌}
use mathlib.Core.Bool.{true}
use mathlib.Core.List.{List, ◌++◌}
use mathlib.Core.Path.{◌≡◌}
use borrow.Author.Tests.{le-leb, lt-leb}
use lib.ListN.{length, length-append}
use Rattle.seven_bit.specs.Reply.{granted, refused}
use Rattle.seven_bit.proofs.PartLaws.{length_put}
use Rattle.midici_core.specs.Header.{bytes_of_header, within28}
use Rattle.midici_core.specs.Kinds.{carries_chunk}
use Rattle.midici_core.proofs.HeaderLaws.{header_length}
use Rattle.pe_frame.specs.Chunk.{Chunk}
use Rattle.pe_frame.specs.Write.{ask_chunk, chunk_bytes, chunk_len, header_for, write_whole}
use Rattle.pe_frame.proofs.ChunkLaws.{InRange, ask_yes, ask_told, ask_refused, chunk_length}

module _ (kind source dest : ℕ) (c : Chunk) where
  -- the message's bytes, and how many they are
  abbrev pub whole_bytes : List ℕ
  whole_bytes = bytes_of_header (header_for kind source dest) ++ chunk_bytes c

  pub whole_length : length whole_bytes ≡ 13 + chunk_len c
  whole_length = simp (length-append, header_length, chunk_length c)

  module _ (room : ℕ) (w : within28 (header_for kind source dest) ≡ true) (k : carries_chunk kind ≡ true) where
    pub whole_granted : InRange c → 13 + chunk_len c ≤ room → write_whole kind source dest c room ≡ granted whole_bytes
    unfolding write_whole
    whole_granted r h = rw (w, k, ask_yes c _ r, le-leb _ _ h)

    pub whole_short : InRange c → room < 13 + chunk_len c → write_whole kind source dest c room ≡ refused 3 0
    unfolding write_whole
    whole_short r h = rw (w, k, ask_yes c _ r, lt-leb _ _ h)

    pub whole_refused : (x number value : ℕ) → ask_chunk c (granted x) ≡ refused number value → write_whole kind source dest c room ≡ refused number value
    unfolding write_whole
    whole_refused x number value q = rw (w, k) (ask_refused c x _ number value q)

-- for the function that writes both
pub ruleset writes_whole = (ask_told, whole_refused, whole_short, length_put)
