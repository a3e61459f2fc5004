-- Document 01's marked examples, in its order, and K6's of document 02: one table, over the definitions that contracts cite.
-- Assumes nothing.
use Rattle.std.specs.Prelude.{ℕ, zero, suc, ◌+◌, ◌≤◌, true, List, [], ◌∷◌, ◌≡◌, length}
use Rattle.seven_bit.specs.Reply.{Reply, granted, refused, and_next}
use Rattle.seven_bit.specs.SevenBit.{is_seven_bit}
use Rattle.midici_core.specs.Muid.{read_muid}
use Rattle.pe_wire.specs.Wire.{read_u14, write_u14}
use Rattle.pe_frame.specs.Chunk.{Chunk, chunk_from, read_chunk}
use Rattle.pe_chunker.specs.Cut.{max_sysex_max, later_capacity, ask_first, cut_count, cut_chunk}
use Rattle.pe_mcoded7.specs.Mcoded7.{read_mcoded7}
use Rattle.pe_controller.specs.Controller.{stepped}

-- An example: what is put to a definition, and the answer.
pub data Example : Type 0 where
  field_reads : List ℕ → Reply ℕ → Example
  field_writes : ℕ → Reply (List ℕ) → Example
  chunk_reads : List ℕ → Reply Chunk → Example
  later_carries : ℕ → ℕ → Example
  first_carries : (limit header_len : ℕ) → Reply ℕ → Example
  cut_carries : (limit header_len body_len : ℕ) → Reply (List ℕ) → Example
  muid_reads : List ℕ → Reply ℕ → Example
  mcoded7_reads : List ℕ → Reply (List ℕ) → Example
  counter_steps : ℕ → ℕ → Example

-- How many property bytes are read from chunk k of a cut and from those after it, n of them, each as it is written into 16,384 bytes.
unfoldable pub carried_from : ℕ → List ℕ → List ℕ → ℕ → ℕ → ℕ → Reply (List ℕ)
carried_from id header body limit zero k = granted []
carried_from id header body limit (suc n) k =
    and_next (cut_chunk id header body limit k max_sysex_max) (λ bytes.
    and_next (read_chunk bytes) (λ c.
    and_next (carried_from id header body limit n (k + 1)) (λ lengths.
    granted (length c.property ∷ lengths))))

-- and from all of them.
unfoldable pub carried : ℕ → List ℕ → List ℕ → ℕ → Reply (List ℕ)
carried id header body limit =
    and_next (cut_count id header body limit) (λ count.
    carried_from id header body limit count 1)

-- What an example says. A cut has any request id up to 7F, and any header and body of bytes up to 7F, of the lengths named.
unfoldable pub Holds : Example → Type 0
Holds (field_reads s answer) = read_u14 s ≡ answer
Holds (field_writes v answer) = write_u14 v 2 ≡ answer
Holds (chunk_reads s answer) = read_chunk s ≡ answer
Holds (later_carries limit answer) = later_capacity limit ≡ answer
Holds (first_carries limit header_len answer) = ask_first limit header_len ≡ answer
Holds (cut_carries limit header_len body_len answer) =
    (id : ℕ) (header body : List ℕ) → id ≤ 127 → is_seven_bit header ≡ true → is_seven_bit body ≡ true → length header ≡ header_len
    → length body ≡ body_len → carried id header body limit ≡ answer
Holds (muid_reads s answer) = read_muid s ≡ answer
Holds (mcoded7_reads s answer) = read_mcoded7 s 8 ≡ answer
Holds (counter_steps counter answer) = stepped counter ≡ answer

-- All of them hold.
unfoldable pub AllHold : List Example → Type 0
AllHold [] = Unit {0}
AllHold (e ∷ es) = Holds e × AllHold es

unfoldable pub examples : List Example
examples =
    -- "68 07 reads 1,000."
    field_reads (0x68 ∷ 0x07 ∷ []) (granted 1000)
    -- "16,383 writes 7F 7F; 16,384 is 1."
    ∷ field_writes 16383 (granted (0x7F ∷ 0x7F ∷ []))
    ∷ field_writes 16384 (refused 1 0)
    -- "Frame 05 02 00 7B 7D 01 00 01 00 00 00 is id 5, header 7B 7D, 1 of 1, empty. One byte 00 more: 1. Last byte gone: 2."
    ∷ chunk_reads (0x05 ∷ 0x02 ∷ 0x00 ∷ 0x7B ∷ 0x7D ∷ 0x01 ∷ 0x00 ∷ 0x01 ∷ 0x00 ∷ 0x00 ∷ 0x00 ∷ []) (granted (chunk_from 5 (0x7B ∷ 0x7D ∷ []) 1 1 []))
    ∷ chunk_reads (0x05 ∷ 0x02 ∷ 0x00 ∷ 0x7B ∷ 0x7D ∷ 0x01 ∷ 0x00 ∷ 0x01 ∷ 0x00 ∷ 0x00 ∷ 0x00 ∷ 0x00 ∷ []) (refused 1 0)
    ∷ chunk_reads (0x05 ∷ 0x02 ∷ 0x00 ∷ 0x7B ∷ 0x7D ∷ 0x01 ∷ 0x00 ∷ 0x01 ∷ 0x00 ∷ 0x00 ∷ []) (refused 2 0)
    -- "05 01 00 7B 02 00 02 00 00 00: 8."
    ∷ chunk_reads (0x05 ∷ 0x01 ∷ 0x00 ∷ 0x7B ∷ 0x02 ∷ 0x00 ∷ 0x02 ∷ 0x00 ∷ 0x00 ∷ 0x00 ∷ []) (refused 8 0)
    -- "Limits 0 and 128 carry 104 later; 4,096 and 5,000 carry 4,072.", where document 02, K6, says: "01's limit 5,000 gives 4,976".
    ∷ later_carries 0 104
    ∷ later_carries 128 104
    ∷ later_carries 4096 4072
    ∷ later_carries 5000 4976
    -- K6: "The upper clamp rises to 16,384, so later frames carry up to 16,360"
    ∷ later_carries 16384 16360
    ∷ later_carries 16385 16360
    -- "Limit 128: header 104 leaves 0 for frame 1, header 105 is 4.": by the capacity, and by the cut of a body of 200 bytes
    ∷ first_carries 128 104 (granted 0)
    ∷ first_carries 128 105 (refused 4 0)
    ∷ cut_carries 128 104 200 (granted (0 ∷ 104 ∷ 96 ∷ []))
    ∷ cut_carries 128 105 200 (refused 4 0)
    -- "Header 48, body 1,000, limit 256: 184, 232, 232, 232, 120."
    ∷ cut_carries 256 48 1000 (granted (184 ∷ 232 ∷ 232 ∷ 232 ∷ 120 ∷ []))
    -- the longest body at K6's limit; and "a header over 4,096 bytes is now turned down by the cutter with 4"
    ∷ cut_carries 16384 48 65536 (granted (16312 ∷ 16360 ∷ 16360 ∷ 16360 ∷ 144 ∷ []))
    ∷ cut_carries 16384 4096 1000 (granted (1000 ∷ []))
    ∷ cut_carries 16384 4097 1000 (refused 4 0)
    -- "Console 7F 7F 7F 7F is 0FFFFFFF."
    ∷ muid_reads (0x7F ∷ 0x7F ∷ 0x7F ∷ 0x7F ∷ []) (granted 0x0FFFFFFF)
    -- "Mcoded7 40 01 is 81."
    ∷ mcoded7_reads (0x40 ∷ 0x01 ∷ []) (granted (0x81 ∷ []))
    -- "Counter 127 steps to 1."
    ∷ counter_steps 127 1
    ∷ []
