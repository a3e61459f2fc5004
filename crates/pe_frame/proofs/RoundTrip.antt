-- A chunk that was written reads as it was, and one that was read is written again as it stood; and so behind a CI header.
-- Assumes nothing.
use Prim.Native.Nat.{ℕ, ◌+◌, ◌-◌, ◌≤◌}
use mathlib.Core.Bool.{true, ◌||◌}
use mathlib.Core.List.{List, [], ◌∷◌, ◌++◌, append-nil}
use mathlib.Core.Path.{◌≡◌, refl, sym, ap, subst, ◌∙◌}
use native.Mathlib.Omega.{arith}
use borrow.Author.Tests.{le-leb, leb-true}
use lib.Dec.{leb, eqb}
use lib.ListN.{length, get_or, take, drop, length-append, length-drop, take-append-drop, drop_of_length-le}
use lib.Seq.{drop_at, take_at, take_all, drop-drop, drop-cons}
use Rattle.seven_bit.specs.Parts.{part}
use Rattle.seven_bit.specs.Reply.{granted, outcome, writing}
use Rattle.seven_bit.specs.SevenBit.{is_seven_bit, bytes_of}
use Rattle.seven_bit.proofs.PartLaws.{length_part}
use Rattle.seven_bit.proofs.ReplyLaws.{asked, asked_with, first_granted, same_grant}
use Rattle.seven_bit.proofs.SevenBitLaws.{bytes_length}
use Rattle.midici_core.specs.Header.{bytes_of_header, within28}
use Rattle.midici_core.specs.Kinds.{carries_chunk}
use Rattle.midici_core.specs.Message.{read_message}
use Rattle.midici_core.proofs.HeaderLaws.{header_length}
use Rattle.midici_core.proofs.RoundTrip.{header_reads_back}
use Rattle.pe_wire.specs.Wire.{read_u14}
use Rattle.pe_wire.proofs.RoundTrip.{read_bytes, read_then_bytes, read_small}
use Rattle.pe_frame.specs.Chunk.{Chunk, Fields, within_count, read_end, read_fields, chunk_of}
pub use Rattle.pe_frame.specs.Chunk.{fields}
use Rattle.pe_frame.specs.Write.{chunk_bytes, chunk_len, write_chunk, header_for, write_whole}
use Rattle.pe_frame.proofs.ChunkLaws.{InRange, ask_told, write_granted, chunk_length}

-- a place further on
further : (k m n : ℕ) (l : List ℕ) → k ≡ n + m → drop k l ≡ drop m (drop n l)
further k m n l e = ap (λ (j : ℕ). drop j l) e ∙ sym (drop-drop m n l)

-- what stands from each field of a chunk's bytes on
module _ (c : Chunk) where
  abbrev behind : List ℕ
  behind = bytes_of 2 c.num_chunks ++ (bytes_of 2 c.chunk_num ++ (bytes_of 2 (length c.property) ++ c.property))

  at_0 : get_or (chunk_bytes c) 0 0 ≡ c.request_id
  unfolding chunk_bytes
  at_0 = refl

  at_1 : drop 1 (chunk_bytes c) ≡ bytes_of 2 (length c.header) ++ (c.header ++ behind)
  unfolding chunk_bytes
  at_1 = refl

  -- behind a number's two bytes
  past_two : (k n v : ℕ) (rest : List ℕ) → n ≡ k + 2 → drop k (chunk_bytes c) ≡ bytes_of 2 v ++ rest → drop n (chunk_bytes c) ≡ rest
  past_two k n v rest h e =
      further n 2 k (chunk_bytes c) h ∙ ap (drop 2) e ∙ drop_at (bytes_of 2 v) rest 2 (bytes_length 2 v)

  at_3 : drop 3 (chunk_bytes c) ≡ c.header ++ behind
  at_3 = past_two 1 3 (length c.header) (c.header ++ behind) refl at_1

  count_at : drop (3 + length c.header) (chunk_bytes c) ≡ behind
  count_at = sym (drop-drop (length c.header) 3 (chunk_bytes c)) ∙ ap (drop (length c.header)) at_3 ∙ drop_at c.header behind (length c.header) refl

  number_at : drop (5 + length c.header) (chunk_bytes c) ≡ bytes_of 2 c.chunk_num ++ (bytes_of 2 (length c.property) ++ c.property)
  number_at = past_two (3 + length c.header) (5 + length c.header) _ _ (omega arith) count_at

  length_at : drop (7 + length c.header) (chunk_bytes c) ≡ bytes_of 2 (length c.property) ++ c.property
  length_at = past_two (5 + length c.header) (7 + length c.header) _ _ (omega arith) number_at

  property_at : drop (9 + length c.header) (chunk_bytes c) ≡ c.property
  property_at = past_two (7 + length c.header) (9 + length c.header) _ _ (omega arith) length_at

  header_part : part 3 (length c.header) (chunk_bytes c) ≡ c.header
  header_part = ap (take (length c.header)) at_3 ∙ take_at c.header behind (length c.header) refl

  property_part : part (9 + length c.header) (length c.property) (chunk_bytes c) ≡ c.property
  property_part = ap (take (length c.property)) property_at ∙ take_all (length c.property) c.property (omega arith)

  -- The bytes of a chunk that may be written read as its fields.
  pub bytes_read : InRange c → read_fields (chunk_bytes c) ≡ granted (fields c)
  unfolding read_fields read_end chunk_len
  bytes_read r =
      let s : List ℕ = chunk_bytes c in
      let l : length s ≡ 9 + length c.header + length c.property = chunk_length c in
      let r₁ : read_u14 (drop 1 s) ≡ granted (length c.header) = ap read_u14 at_1 ∙ read_bytes (length c.header) _ r.header_len in
      let r₂ : read_u14 (drop (3 + length c.header) s) ≡ granted c.num_chunks = ap read_u14 count_at ∙ read_bytes c.num_chunks _ r.count in
      let r₃ : read_u14 (drop (5 + length c.header) s) ≡ granted c.chunk_num = ap read_u14 number_at ∙ read_bytes c.chunk_num _ r.number in
      let r₄ : read_u14 (drop (7 + length c.header) s) ≡ granted (length c.property) = ap read_u14 length_at ∙ read_bytes (length c.property) _ r.property_len in
      rw (
        at_0,
        le-leb 9 (length s) (omega arith),
        le-leb c.request_id 127 r.id,
        r₁,
        le-leb (9 + length c.header) (length s) (omega arith),
        header_part,
        r.header_bytes,
        r₂,
        r₃,
        r₄,
        le-leb (9 + length c.header + length c.property) (length s) (omega arith),
        le-leb (length s) (9 + length c.header + length c.property) (omega arith),
        property_part,
        r.property_bytes,
        r.first,
        r.within,
      )

  -- The chunk that stands in its bytes is the chunk.
  pub bytes_chunk : chunk_of (chunk_bytes c) (fields c) ≡ c
  bytes_chunk = rw (header_part, property_part)

-- what a chunk that was written tells
pub written_told : (c : Chunk) (room : ℕ) (bs : List ℕ) → write_chunk c room ≡ granted bs → InRange c × (chunk_len c ≤ room) × (chunk_bytes c ≡ bs)
unfolding write_chunk
written_told c room bs q =
    let a = ask_told c _ bs q in
    let b = asked (leb (chunk_len c) room) 3 _ bs a.1 in
    (a.0, leb-true _ _ b.0, same_grant _ _ bs refl b.1)

-- A chunk that was written reads back as the same fields, header and property.
pub written_then_read : (c : Chunk) (room : ℕ) (bs : List ℕ) → write_chunk c room ≡ granted bs → (read_fields bs ≡ granted (fields c)) × (chunk_of bs (fields c) ≡ c)
written_then_read c room bs q =
    let w = written_told c room bs q in
    rw (← w.2) (bytes_read c w.0, bytes_chunk c)

-- what a chunk that was read tells of its bytes
pub record ReadFrom (s : List ℕ) (f : Fields) : Type 0 where
  pub id_is : get_or s 0 0 ≡ f.request_id
  pub id : f.request_id ≤ 127
  pub size : read_u14 (drop 1 s) ≡ granted f.header_len
  pub header_bytes : is_seven_bit (part 3 f.header_len s) ≡ true
  pub count : read_u14 (drop (3 + f.header_len) s) ≡ granted f.num_chunks
  pub number : read_u14 (drop (5 + f.header_len) s) ≡ granted f.chunk_num
  pub len : read_u14 (drop (7 + f.header_len) s) ≡ granted f.property_len
  pub at : f.property_at ≡ 9 + f.header_len
  pub long : length s ≡ 9 + f.header_len + f.property_len
  pub property_bytes : is_seven_bit (part f.property_at f.property_len s) ≡ true
  pub first : (eqb f.chunk_num 1 || eqb f.header_len 0) ≡ true
  pub within : within_count f.chunk_num f.num_chunks ≡ true

pub read_told : (s : List ℕ) (f : Fields) → read_fields s ≡ granted f → ReadFrom s f
unfolding read_fields read_end
read_told s f q =
    let a₁ = asked (leb 9 (length s)) 2 _ f q in
    let a₂ = asked (leb (get_or s 0 0) 0x7F) 1 _ f a₁.1 in
    let a₃ = first_granted (read_u14 (drop 1 s)) _ f a₂.1 in
    let nh = a₃.0 in
    let a₄ = asked (leb (9 + nh) (length s)) 2 _ f a₃.2 in
    let a₅ = asked (is_seven_bit (part 3 nh s)) 1 _ f a₄.1 in
    let a₆ = first_granted (read_u14 (drop (3 + nh) s)) _ f a₅.1 in
    let a₇ = first_granted (read_u14 (drop (5 + nh) s)) _ f a₆.2 in
    let a₈ = first_granted (read_u14 (drop (7 + nh) s)) _ f a₇.2 in
    let nd = a₈.0 in
    let a₉ = asked (leb (9 + nh + nd) (length s)) 2 _ f a₈.2 in
    let b₁ = asked (leb (length s) (9 + nh + nd)) 1 _ f a₉.1 in
    let b₂ = asked (is_seven_bit (part (9 + nh) nd s)) 1 _ f b₁.1 in
    let b₃ = asked (eqb a₇.0 1 || eqb nh 0) 8 _ f b₂.1 in
    let b₄ = asked (within_count a₇.0 a₆.0) 8 _ f b₃.1 in
    let e = same_grant _ _ f refl b₄.1 in
    let le : 9 + nh + nd ≤ length s = leb-true _ _ a₉.0 in
    let ge : length s ≤ 9 + nh + nd = leb-true _ _ b₁.0 in
    subst (ReadFrom s) e
    (record {
      id_is = refl;
      id = leb-true _ _ a₂.0;
      size = a₃.1;
      header_bytes = a₅.0;
      count = a₆.1;
      number = a₇.1;
      len = a₈.1;
      at = refl;
      long = omega arith;
      property_bytes = b₂.0;
      first = b₃.0;
      within = b₄.0;
    })

module _ (s : List ℕ) (f : Fields) (q : read_fields s ≡ granted f) where
  told : ReadFrom s f
  told = read_told s f q

  header_size : length (part 3 f.header_len s) ≡ f.header_len
  header_size = length_part 3 f.header_len s (omega (arith, told.long))

  property_size : length (part f.property_at f.property_len s) ≡ f.property_len
  property_size = length_part f.property_at f.property_len s (omega (arith, told.long, told.at))

  -- A chunk that was read may be written.
  pub read_in_range : InRange (chunk_of s f)
  read_in_range =
      record {
        id = told.id;
        header_len = rw header_size (read_small _ _ told.size);
        property_len = rw property_size (read_small _ _ told.len);
        count = read_small _ _ told.count;
        number = read_small _ _ told.number;
        header_bytes = told.header_bytes;
        property_bytes = told.property_bytes;
        first = rw header_size told.first;
        within = told.within;
      }

  -- a field and what follows it are what stands from it on
  field : (k n v : ℕ) (rest : List ℕ) → n ≡ k + 2 → read_u14 (drop k s) ≡ granted v → rest ≡ drop n s → bytes_of 2 v ++ rest ≡ drop k s
  field k n v rest h r e = ap (λ (t : List ℕ). bytes_of 2 v ++ t) (e ∙ further n 2 k s h) ∙ read_then_bytes (drop k s) v r

  -- The bytes of a chunk that was read are those that it was read from.
  pub read_bytes_are : chunk_bytes (chunk_of s f) ≡ s
  unfolding chunk_bytes
  read_bytes_are =
      let nh = f.header_len in
      let nd = f.property_len in
      let h : List ℕ = part 3 nh s in
      let p : List ℕ = part f.property_at nd s in
      let d₉ : p ≡ drop (9 + nh) s = take_all nd (drop f.property_at s) (simp length-drop (omega (arith, told.long, told.at))) ∙ ap (λ (k : ℕ). drop k s) told.at in
      let d₇ = field (7 + nh) (9 + nh) nd p (omega arith) told.len d₉ in
      let d₅ = field (5 + nh) (7 + nh) f.chunk_num _ (omega arith) told.number d₇ in
      let d₃ = field (3 + nh) (5 + nh) f.num_chunks _ (omega arith) told.count d₅ in
      let dₕ : h ++ _ ≡ drop 3 s = ap (λ (t : List ℕ). h ++ t) (d₃ ∙ sym (drop-drop nh 3 s)) ∙ take-append-drop nh (drop 3 s) in
      let d₁ = field 1 3 nh _ refl told.size dₕ in
      rw (header_size, property_size) (ap (λ (t : List ℕ). f.request_id ∷ t) d₁ ∙ rw (← told.id_is) (sym (drop-cons s 0 0 (omega (arith, told.long)))))

  -- A chunk that was read is not refused by the writer, and has its bytes again.
  pub read_then_written : write_chunk (chunk_of s f) (length s) ≡ granted s
  unfolding chunk_len
  read_then_written =
      let room : 9 + length (part 3 f.header_len s) + length (part f.property_at f.property_len s) ≤ length s = omega (arith, header_size, property_size, told.long) in
      write_granted (chunk_of s f) (length s) read_in_range room ∙ ap granted read_bytes_are

  -- Written over the bytes that it was read from, it changes nothing.
  pub read_then_unchanged : writing (write_chunk (chunk_of s f) (length s)) s ≡ outcome (granted (length s)) s
  read_then_unchanged =
      let n : drop (length s) s ≡ [] = drop_of_length-le s {i = length s} (omega arith) in
      rw (read_then_written, n, append-nil)

-- what a message that was written tells
whole_told : (kind source dest : ℕ) (c : Chunk) (room : ℕ) (bs : List ℕ) → write_whole kind source dest c room ≡ granted bs →
    (within28 (header_for kind source dest) ≡ true) × (carries_chunk kind ≡ true) × InRange c × (bytes_of_header (header_for kind source dest) ++ chunk_bytes c ≡ bs)
unfolding write_whole
whole_told kind source dest c room bs q =
    let a = asked (within28 (header_for kind source dest)) 28 _ bs q in
    let b = asked_with (carries_chunk kind) 24 kind _ bs a.1 in
    let d = ask_told c _ bs b.1 in
    let e = asked (leb (13 + chunk_len c) room) 3 _ bs d.1 in
    (a.0, b.0, d.0, same_grant _ _ bs refl e.1)

-- A message that was written is read by the CI reader, and the chunk behind its header by the chunk reader, into what was given.
pub whole_then_read : (kind source dest : ℕ) (c : Chunk) (room : ℕ) (bs : List ℕ) → write_whole kind source dest c room ≡ granted bs →
    (read_message bs ≡ granted (record { header = header_for kind source dest; payload_at = 13; payload_len = chunk_len c }))
    × (read_fields (drop 13 bs) ≡ granted (fields c))
    × (chunk_of (drop 13 bs) (fields c) ≡ c)
unfolding read_message
whole_then_read kind source dest c room bs q =
    let w = whole_told kind source dest c room bs q in
    let h = header_for kind source dest in
    let l : length (bytes_of_header h ++ chunk_bytes c) - 13 ≡ chunk_len c = simp (length-append, header_length, chunk_length c) (omega arith) in
    let p : drop 13 (bytes_of_header h ++ chunk_bytes c) ≡ chunk_bytes c = drop_at (bytes_of_header h) (chunk_bytes c) 13 (header_length h) in (
      rw (← w.3, header_reads_back h (chunk_bytes c) w.0, w.1, l),
      rw (← w.3, p) (bytes_read c w.2),
      rw (← w.3, p) (bytes_chunk c),
    )
