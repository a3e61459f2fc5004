-- A header and a body cut into chunks (document 01, module 6, and the questions under **Cut**).
-- Assumes nothing.
use Rattle.std.specs.Prelude.{ℕ, zero, suc, ◌+◌, ◌-◌, ◌≤◌, true, cond, ◌&&◌, List, [], ◌∷◌, ◌++◌, ◌≡◌, leb, ltb, eqb, length, get_or, take, drop, Result}
use Rattle.seven_bit.specs.Reply.{Reply, granted, refused, ◌else◌then◌, and_next}
use Rattle.seven_bit.specs.SevenBit.{is_seven_bit}
use Rattle.midici_core.specs.Header.{Header, bytes_of_header}
use Rattle.pe_wire.specs.Errors.{pe_told}
use Rattle.pe_wire.specs.declared.error.PeError.{PeError}
use Rattle.pe_frame.specs.Chunk.{Chunk}
use Rattle.pe_frame.specs.Write.{chunk_bytes, chunk_len}
use Rattle.pe_chunker.specs.declared.Counted.{Counted}

-- Document 02, K6: "The upper clamp rises to 16,384".
abbrev pub max_sysex_max : ℕ
max_sysex_max = 16384

-- "Limit clamped to 128..4,096", with K6's upper clamp.
unfoldable pub clamped : ℕ → ℕ
clamped limit = cond (ltb limit 128) 128 (cond (ltb max_sysex_max limit) max_sysex_max limit)

-- "budget is limit − 15"
unfoldable pub budget : ℕ → ℕ
budget limit = clamped limit - 15

-- "later frames carry budget − 9"
unfoldable pub later_capacity : ℕ → ℕ
later_capacity limit = budget limit - 9

-- "the first budget − 9 − header length"; "Header + 9 within budget? 4."
unfoldable pub first_capacity : ℕ → ℕ → ℕ
first_capacity limit header_len = budget limit - 9 - header_len

unfoldable pub ask_first : ℕ → ℕ → Reply ℕ
ask_first limit header_len =
    leb (header_len + 9) (budget limit) else 4 then
    granted (first_capacity limit header_len)

-- Pieces of k elements until nothing is left; fuel is at least the list's length.
unfoldable pub cut_up : {A : Type 0} → ℕ → ℕ → List A → List (List A)
cut_up k zero xs = []
cut_up k (suc fuel) [] = []
cut_up k (suc fuel) (x ∷ xs) = take k (x ∷ xs) ∷ cut_up k fuel (drop k (x ∷ xs))

-- The body's pieces: the first chunk's, which may be empty, and those of the later chunks.
unfoldable pub body_pieces : ℕ → ℕ → List ℕ → List (List ℕ)
body_pieces limit header_len body =
    take (first_capacity limit header_len) body
    ∷ cut_up (later_capacity limit) (length body) (drop (first_capacity limit header_len) body)

-- The chunk of number k, from 1: the header in the first one only.
unfoldable pub chunk_at : ℕ → List ℕ → List ℕ → ℕ → ℕ → Chunk
chunk_at request_id header body limit k =
    record {
      request_id = request_id;
      header = cond (eqb k 1) header [];
      num_chunks = length (body_pieces limit (length header) body);
      chunk_num = k;
      property = get_or (body_pieces limit (length header) body) (k - 1) [];
    }

-- "Request id? 1. Header bytes? 1. Header up to 16,383? 4. Header + 9 within budget? 4. At most 16,383 frames? 5.": the fourth of these is
-- `ask_first`'s. Document 02, K3: property bytes above 7F give 1 "after the header bytes in writing and cutting", asked of all of the body.
-- K6: "a header over 4,096 bytes is now turned down by the cutter with 4, in place of the 16,383 limit", so that a full-size table has room for it.
unfoldable pub ask_cut : {A : Type 0} → ℕ → List ℕ → List ℕ → ℕ → Reply A → Reply A
ask_cut request_id header body limit next =
    leb request_id 0x7F else 1 then
    is_seven_bit header else 1 then
    is_seven_bit body else 1 then
    leb (length header) 4096 else 4 then
    and_next (ask_first limit (length header)) (λ _.
    leb (length (body_pieces limit (length header) body)) 16383 else 5 then
    next)

-- What a list is that has a yes to each of them.
pub record Cut (request_id : ℕ) (header body : List ℕ) (limit : ℕ) : Type 0 where
  pub low : request_id ≤ 127
  pub header_bytes : is_seven_bit header ≡ true
  pub body_bytes : is_seven_bit body ≡ true
  pub receivable : length header ≤ 4096
  pub fits : length header ≤ later_capacity limit
  pub few : length (body_pieces limit (length header) body) ≤ 16383

-- How many chunks there are.
unfoldable pub cut_count : ℕ → List ℕ → List ℕ → ℕ → Reply ℕ
cut_count request_id header body limit =
    ask_cut request_id header body limit
    (granted (length (body_pieces limit (length header) body)))

-- Chunk k: "Is k from 1 to the count? 29. Buffer long enough? 3."
unfoldable pub cut_chunk : ℕ → List ℕ → List ℕ → ℕ → ℕ → ℕ → Reply (List ℕ)
cut_chunk request_id header body limit k room =
    ask_cut request_id header body limit
    ((leb 1 k && leb k (length (body_pieces limit (length header) body))) else 29 then
    leb (chunk_len (chunk_at request_id header body limit k)) room else 3 then
    granted (chunk_bytes (chunk_at request_id header body limit k)))

-- "A whole SysEx message, F0 and F7 counted": F0, a CI header, a chunk and F7.
abbrev pub message : Header → Chunk → List ℕ
message ci c = 0xF0 ∷ bytes_of_header ci ++ chunk_bytes c ++ (0xF7 ∷ [])

-- The answer with the count: how many chunks there are, and how many bytes this one has. And the lent output.
pub record Sized : Type 0 where
  pub num_chunks : ℕ
  pub len : ℕ

pub record CountedLeft : Type 0 where
  pub answer : Reply Sized
  pub out : List ℕ

abbrev pub counted : Reply Sized → List ℕ → CountedLeft
counted answer out = record { answer = answer; out = out }

abbrev pub counted_told : Result Counted PeError → Reply Sized
counted_told r = pe_told (λ c. record { num_chunks = c.num_chunks; len = c.len }) r

-- `writing`, with the count on a grant.
abbrev pub counting : ℕ → Reply (List ℕ) → List ℕ → CountedLeft
counting count (granted bytes) out = counted (granted (record { num_chunks = count; len = length bytes })) (bytes ++ drop (length bytes) out)
counting count (refused number value) out = counted (refused number value) out
