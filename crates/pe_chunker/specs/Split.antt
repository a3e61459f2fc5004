-- A list cut into all its chunks at once (document 01: "`split` returns `Vec<Vec<u8>>`").
-- Assumes nothing.
use Rattle.std.specs.Prelude.{ℕ, zero, suc, List, [], ◌∷◌, ◌++◌, map, ◌≡◌, leb, length, drop, Result}
use Rattle.seven_bit.specs.Parts.{joined}
use Rattle.seven_bit.specs.Reply.{Reply, granted, refused, ◌else◌then◌}
use Rattle.pe_wire.specs.Errors.{pe_told}
use Rattle.pe_wire.specs.declared.error.PeError.{PeError}
use Rattle.pe_frame.specs.Chunk.{Chunk}
use Rattle.pe_frame.specs.Write.{chunk_bytes}
use Rattle.pe_chunker.specs.declared.piece.CutList.{CutList}
use Rattle.pe_chunker.specs.declared.split.Chunked.{Chunked}
use Rattle.pe_chunker.specs.Cut.{body_pieces, chunk_at, ask_cut, Cut}

-- The first n chunks, each as `cut_chunk` grants it.
unfoldable pub first_chunks : ℕ → List ℕ → List ℕ → ℕ → ℕ → List (List ℕ)
first_chunks request_id header body limit zero = []
first_chunks request_id header body limit (suc n) =
    first_chunks request_id header body limit n ++ (chunk_bytes (chunk_at request_id header body limit (suc n)) ∷ [])

-- All of them.
abbrev pub all_chunks : ℕ → List ℕ → List ℕ → ℕ → List (List ℕ)
all_chunks request_id header body limit = first_chunks request_id header body limit (length (body_pieces limit (length header) body))

-- The cutter's questions, once; then 3 where the buffer is shorter than all chunks, or the column has fewer places.
unfoldable pub cut_list : ℕ → List ℕ → List ℕ → ℕ → ℕ → ℕ → Reply (List (List ℕ))
cut_list request_id header body limit room places =
    ask_cut request_id header body limit
    (leb (length (joined (all_chunks request_id header body limit))) room else 3 then
    leb (length (all_chunks request_id header body limit)) places else 3 then
    granted (all_chunks request_id header body limit))

-- How many chunks there are, and how many bytes they have together.
pub record Sizes : Type 0 where
  pub chunks : ℕ
  pub bytes : ℕ

abbrev pub chunked_told : Result Chunked PeError → Reply Sizes
chunked_told r = pe_told (λ c. record { chunks = c.chunks; bytes = c.bytes }) r

-- The answer, the buffer, and the column of lengths.
pub record SplitLeft : Type 0 where
  pub answer : Reply Sizes
  pub out : List ℕ
  pub lengths : List ℕ

abbrev pub split_left : Reply Sizes → List ℕ → List ℕ → SplitLeft
split_left answer out lengths = record { answer = answer; out = out; lengths = lengths }

-- The chunks stand one after the other at the buffer's front, and their lengths at the column's; what is past them keeps its values. A
-- refusal leaves both as they were.
abbrev pub splitting : Reply (List (List ℕ)) → List ℕ → List ℕ → SplitLeft
splitting (granted chunks) out lengths =
    split_left (granted (record { chunks = length chunks; bytes = length (joined chunks) }))
    (joined chunks ++ drop (length (joined chunks)) out)
    (map length chunks ++ drop (length chunks) lengths)
splitting (refused number value) out lengths = split_left (refused number value) out lengths

-- A list of the code with its number of chunks, of which all questions of the cut had a yes.
pub record IsCut (l : CutList) : Type 0 where
  pub asked : Cut l.request_id l.header.now l.body.now l.max_sysex
  pub count : length (body_pieces l.max_sysex (length l.header.now) l.body.now) ≡ l.num_chunks

-- Its chunk of a number, and all of them.
abbrev pub chunk_in : CutList → ℕ → Chunk
chunk_in l k = chunk_at l.request_id l.header.now l.body.now l.max_sysex k

abbrev pub chunks_in : CutList → List (List ℕ)
chunks_in l = all_chunks l.request_id l.header.now l.body.now l.max_sysex
