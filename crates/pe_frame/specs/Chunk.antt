-- The chunk of a Property Exchange message (document 01's frame, module 5, and the questions under **Frame**).
-- Assumes nothing.
use Rattle.std.specs.Prelude.{ℕ, ◌+◌, Bool, ◌||◌, List, leb, eqb, length, get_or, drop}
use Rattle.seven_bit.specs.Parts.{part}
use Rattle.seven_bit.specs.Reply.{Reply, granted, ◌else◌then◌, and_next}
use Rattle.seven_bit.specs.SevenBit.{is_seven_bit}
use Rattle.pe_wire.specs.Wire.{read_u14}
use Rattle.pe_frame.specs.declared.frame.ChunkFields.{ChunkFields}

-- A chunk: request id, header, chunk count (0 where it is not yet known), chunk number, property.
pub record Chunk : Type 0 where
  pub request_id : ℕ
  pub header : List ℕ
  pub num_chunks : ℕ
  pub chunk_num : ℕ
  pub property : List ℕ

-- The chunk of five parts.
abbrev pub chunk_from : ℕ → List ℕ → ℕ → ℕ → List ℕ → Chunk
chunk_from request_id header num_chunks chunk_num property =
    record { request_id = request_id; header = header; num_chunks = num_chunks; chunk_num = chunk_num; property = property }

-- What a reader finds: the numbers, the header's length (it starts at byte 3) and where the property stands.
pub record Fields : Type 0 where
  pub request_id : ℕ
  pub header_len : ℕ
  pub num_chunks : ℕ
  pub chunk_num : ℕ
  pub property_at : ℕ
  pub property_len : ℕ

-- Is the number within the count, where that is known? (Document 02, K3: "A nonzero count below the frame number".)
unfoldable pub within_count : ℕ → ℕ → Bool
within_count number count = eqb count 0 || leb number count

-- Behind the fields: "Property all there? 2. Nothing left over? 1. Frame number 1, or no header? 8."
-- K3: "Property bytes above 7F give 1, after the left-over question"; "A nonzero count below the frame number now gives 8, asked last".
unfoldable pub read_end : List ℕ → ℕ → ℕ → ℕ → ℕ → Reply Fields
read_end s nh count number nd =
    leb (9 + nh + nd) (length s) else 2 then
    leb (length s) (9 + nh + nd) else 1 then
    is_seven_bit (part (9 + nh) nd s) else 1 then
    (eqb number 1 || eqb nh 0) else 8 then
    within_count number count else 8 then
    granted (record {
      request_id = get_or s 0 0;
      header_len = nh;
      num_chunks = count;
      chunk_num = number;
      property_at = 9 + nh;
      property_len = nd;
    })

-- "Request id, header length (14 bits), header, frame count (14), frame number (14), property length (14), property."
-- "Nine bytes? 2. Request id up to 7F? 1. Header length bytes up to 7F? 1. At least 9 + header length bytes? 2. Header bytes up to 7F? 1.
-- Count, then number, then property length bytes up to 7F? 1." Then the questions behind them.
unfoldable pub read_fields : List ℕ → Reply Fields
read_fields s =
    leb 9 (length s) else 2 then
    leb (get_or s 0 0) 0x7F else 1 then
    and_next (read_u14 (drop 1 s)) (λ nh.
    leb (9 + nh) (length s) else 2 then
    is_seven_bit (part 3 nh s) else 1 then
    and_next (read_u14 (drop (3 + nh) s)) (λ count.
    and_next (read_u14 (drop (5 + nh) s)) (λ number.
    and_next (read_u14 (drop (7 + nh) s)) (λ nd.
    read_end s nh count number nd))))

-- The chunk that stands in the bytes.
abbrev pub chunk_of : List ℕ → Fields → Chunk
chunk_of s f = record {
  request_id = f.request_id;
  header = part 3 f.header_len s;
  num_chunks = f.num_chunks;
  chunk_num = f.chunk_num;
  property = part f.property_at f.property_len s;
}

-- and as it is read.
abbrev pub read_chunk : List ℕ → Reply Chunk
read_chunk s = and_next (read_fields s) (λ f. granted (chunk_of s f))

-- The fields that a chunk has where its bytes stand.
abbrev pub fields : Chunk → Fields
fields c = record {
  request_id = c.request_id;
  header_len = length c.header;
  num_chunks = c.num_chunks;
  chunk_num = c.chunk_num;
  property_at = 9 + length c.header;
  property_len = length c.property;
}

abbrev pub fields_of : ChunkFields → Fields
fields_of f = record {
  request_id = f.request_id;
  header_len = f.header_len;
  num_chunks = f.num_chunks;
  chunk_num = f.chunk_num;
  property_at = f.property_at;
  property_len = f.property_len;
}
