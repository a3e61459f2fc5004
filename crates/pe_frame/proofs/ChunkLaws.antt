-- The laws of reading and writing a chunk.
-- Assumes nothing.
use Prim.Native.Nat.{ℕ, ◌+◌, ◌<◌, ◌≤◌}
use mathlib.Core.Bool.{true, false, ◌||◌}
use mathlib.Core.List.{List, [], ◌∷◌, ◌++◌, append_assoc}
use mathlib.Core.Logic.{◌⊎◌, inl, inr}
use mathlib.Core.Path.{◌≡◌, refl, sym, ap, ◌∙◌}
use native.Mathlib.Omega.{arith}
use borrow.Author.Tests.{le-leb, lt-leb, leb-true}
use lib.Dec.{leb, eqb}
use lib.ListN.{length, get_or, take, drop, length-append}
use lib.Seq.{get_or-take, take_all}
use Rattle.seven_bit.specs.Parts.{part, put, put_fit}
use Rattle.seven_bit.specs.Reply.{Reply, granted, refused, ◌else◌then◌, and_next}
use Rattle.seven_bit.specs.SevenBit.{is_seven_bit, number_of, bytes_of}
use Rattle.seven_bit.proofs.PartLaws.{put_put, put_front, fit_yes, fit_no, length_put}
use Rattle.seven_bit.proofs.SevenBitLaws.{seven_bit_at, bytes_length}
use Rattle.seven_bit.proofs.ReplyLaws.{both, asked, then_else, wrote}
use Rattle.pe_wire.specs.Wire.{read_u14}
use Rattle.pe_frame.specs.Chunk.{Chunk, Fields, within_count, read_end, read_fields}
use Rattle.pe_frame.specs.Write.{ask_chunk, chunk_len, chunk_bytes, put_chunk, write_chunk}
pub use Rattle.pe_frame.specs.Write.{InRange}
use Rattle.pe_frame.proofs.FieldLaws.{three_fields, read_at, read_yes}
use Rattle.pe_frame.proofs.LowLaws.{past_front, one_part, from_start, front_part}

-- those behind the header, where the bytes of all fields are asked at once
abbrev pub read_counts : List ℕ → ℕ → Reply Fields
read_counts s nh =
    is_seven_bit (part (3 + nh) 6 s) else 1 then
    read_end s nh (number_of (part (3 + nh) 2 s)) (number_of (part (3 + nh + 2) 2 s)) (number_of (part (3 + nh + 4) 2 s))

-- are put where those before had a yes
pub past_header : (s : List ℕ) (nh : ℕ) → 9 + nh ≤ length s → get_or s 0 0 ≤ 127 → read_u14 (drop 1 s) ≡ granted nh → is_seven_bit (part 3 nh s) ≡ true →
    read_fields s ≡ read_counts s nh
unfolding read_fields
past_header s nh l i h b =
    let e₅ : 5 + nh ≡ 3 + nh + 2 = omega arith in
    let e₇ : 7 + nh ≡ 3 + nh + 4 = omega arith in
    rw (le-leb 9 (length s) (omega arith), le-leb _ _ i, h, le-leb _ _ l, b, e₅, e₇)
    (three_fields s (3 + nh) (read_end s nh) (omega arith))

-- and the last of them where the fields' bytes had a yes
pub past_fields : (s : List ℕ) (nh count number nd : ℕ) → is_seven_bit (part (3 + nh) 6 s) ≡ true →
    count ≡ number_of (part (3 + nh) 2 s) → number ≡ number_of (part (3 + nh + 2) 2 s) → nd ≡ number_of (part (3 + nh + 4) 2 s)
    → read_counts s nh ≡ read_end s nh count number nd
past_fields s nh count number nd t c n d = rw (t, c, n, d)

-- where the first h bytes are up to 7F, only the questions of lengths and numbers are left of those about them
module _ (s : List ℕ) (nine : 9 ≤ length s) (h : ℕ) (low : is_seven_bit (take h s) ≡ true) where
  low_id : 0 < h → get_or s 0 0 ≤ 127
  low_id p = omega (arith, get_or-take h s 0 0 p, seven_bit_at (take h s) low 0)

  low_size : (nh : ℕ) → 3 ≤ h → nh ≡ number_of (part 1 2 s) → read_u14 (drop 1 s) ≡ granted nh
  low_size nh p e = read_yes s 1 nh (omega arith) (front_part s h 1 2 low p) e

  pub low_short : (nh : ℕ) → 3 ≤ h → nh ≡ number_of (part 1 2 s) → length s < 9 + nh → read_fields s ≡ refused 2 0
  unfolding read_fields
  low_short nh p e l = rw (le-leb _ _ nine, le-leb _ _ (low_id (omega arith)), low_size nh p e, lt-leb _ _ l)

  low_header : (nh : ℕ) → 3 + nh ≤ h → nh ≡ number_of (part 1 2 s) → 9 + nh ≤ length s → read_fields s ≡ read_counts s nh
  low_header nh p e l = past_header s nh l (low_id (omega arith)) (low_size nh (omega arith) e) (front_part s h 3 nh low p)

  pub low_fields : (nh count number nd : ℕ) → 9 + nh ≤ h → nh ≡ number_of (part 1 2 s) → 9 + nh ≤ length s → count ≡ number_of (part (3 + nh) 2 s)
      → number ≡ number_of (part (3 + nh + 2) 2 s) → nd ≡ number_of (part (3 + nh + 4) 2 s) → read_fields s ≡ read_end s nh count number nd
  low_fields nh count number nd p e l c n d =
      low_header nh (omega arith) e l
      ∙ past_fields s nh count number nd (front_part s h (3 + nh) 6 low (omega arith)) c n d

-- where one of the first three is above
pub high_size : (s : List ℕ) → 9 ≤ length s → is_seven_bit (take 3 s) ≡ false → read_fields s ≡ refused 1 0
unfolding read_fields
high_size s nine f = go (both (leb (get_or s 0 0) 127))
  where
    first : is_seven_bit (take 1 s) ≡ leb (get_or s 0 0) 127
    first = ap is_seven_bit (sym (from_start 1 s)) ∙ one_part s 0 (omega (arith, nine))

    go : (leb (get_or s 0 0) 127 ≡ true) ⊎ (leb (get_or s 0 0) 127 ≡ false) → read_fields s ≡ refused 1 0
    go (inl t) = rw (le-leb _ _ nine, t, read_at s 1 (omega (arith, nine)), sym (past_front 1 2 s (first ∙ t)) ∙ f)
    go (inr t) = rw (le-leb _ _ nine, t)

-- one of the header's, or of the fields' behind it
pub high_counts : (s : List ℕ) (nh : ℕ) → is_seven_bit (take 3 s) ≡ true → nh ≡ number_of (part 1 2 s) → 9 + nh ≤ length s → is_seven_bit (take (9 + nh) s) ≡ false
    → read_fields s ≡ refused 1 0
unfolding read_fields
high_counts s nh low e l f = go (both (is_seven_bit (take (3 + nh) s)))
  where
    nine : 9 ≤ length s
    nine = omega (arith, l)

    go : (is_seven_bit (take (3 + nh) s) ≡ true) ⊎ (is_seven_bit (take (3 + nh) s) ≡ false) → read_fields s ≡ refused 1 0
    go (inl t) =
        let n : 3 + nh + 6 ≡ 9 + nh = omega arith in
        let g : is_seven_bit (part (3 + nh) 6 s) ≡ false = sym (past_front (3 + nh) 6 s t) ∙ ap (λ (k : ℕ). is_seven_bit (take k s)) n ∙ f in
        low_header s nine (3 + nh) t nh (omega arith) e l ∙ rw g
    go (inr t) =
        rw (
          le-leb _ _ nine,
          le-leb _ _ (low_id s nine 3 low (omega arith)),
          low_size s nine 3 low nh (omega arith) e,
          le-leb _ _ l,
          sym (past_front 3 nh s low) ∙ t,
        )

-- one of the property's, or one too many
pub high_end : (s : List ℕ) (nh count number nd : ℕ) → is_seven_bit (take (9 + nh) s) ≡ true → is_seven_bit s ≡ false → 9 + nh + nd ≤ length s
    → read_end s nh count number nd ≡ refused 1 0
unfolding read_end
high_end s nh count number nd low f l = go (both (leb (length s) (9 + nh + nd)))
  where
    go : (leb (length s) (9 + nh + nd) ≡ true) ⊎ (leb (length s) (9 + nh + nd) ≡ false) → read_end s nh count number nd ≡ refused 1 0
    go (inl t) =
        let all : take (9 + nh + nd) s ≡ s = take_all (9 + nh + nd) s (leb-true _ _ t) in
        rw (le-leb _ _ l, t, sym (past_front (9 + nh) nd s low) ∙ ap is_seven_bit all ∙ f)
    go (inr t) = rw (le-leb _ _ l, t)

-- the writer's questions behind those of lengths and numbers
abbrev pub ask_bytes : {A : Type 0} → Chunk → Reply A → Reply A
ask_bytes c next =
    is_seven_bit c.header else 1 then
    is_seven_bit c.property else 1 then
    (eqb c.chunk_num 1 || eqb (length c.header) 0) else 8 then
    within_count c.chunk_num c.num_chunks else 8 then
    next

pub past_numbers : {A : Type 0} (c : Chunk) (next : Reply A) → c.request_id ≤ 127 → length c.header ≤ 16383 → length c.property ≤ 16383
    → c.num_chunks ≤ 16383 → c.chunk_num ≤ 16383 → ask_chunk c next ≡ ask_bytes c next
unfolding ask_chunk
past_numbers c next i h p n k = rw (le-leb _ _ i, le-leb _ _ h, le-leb _ _ p, le-leb _ _ n, le-leb _ _ k)

-- a chunk in range has a yes to each question
pub ask_yes : {A : Type 0} (c : Chunk) (next : Reply A) → InRange c → ask_chunk c next ≡ next
ask_yes c next r =
    past_numbers c next r.id r.header_len r.property_len r.count r.number
    ∙ rw (r.header_bytes, r.property_bytes, r.first, r.within)

-- and only such a one has
pub ask_told : {A : Type 0} (c : Chunk) (next : Reply A) (a : A) → ask_chunk c next ≡ granted a → InRange c × (next ≡ granted a)
unfolding ask_chunk
ask_told c next a q =
    let a₁ = asked (leb c.request_id 0x7F) 1 _ a q in
    let a₂ = asked (leb (length c.header) 16383) 1 _ a a₁.1 in
    let a₃ = asked (leb (length c.property) 16383) 1 _ a a₂.1 in
    let a₄ = asked (leb c.num_chunks 16383) 1 _ a a₃.1 in
    let a₅ = asked (leb c.chunk_num 16383) 1 _ a a₄.1 in
    let a₆ = asked (is_seven_bit c.header) 1 _ a a₅.1 in
    let a₇ = asked (is_seven_bit c.property) 1 _ a a₆.1 in
    let a₈ = asked (eqb c.chunk_num 1 || eqb (length c.header) 0) 8 _ a a₇.1 in
    let a₉ = asked (within_count c.chunk_num c.num_chunks) 8 _ a a₈.1 in (
      record {
        id = leb-true _ _ a₁.0;
        header_len = leb-true _ _ a₂.0;
        property_len = leb-true _ _ a₃.0;
        count = leb-true _ _ a₄.0;
        number = leb-true _ _ a₅.0;
        header_bytes = a₆.0;
        property_bytes = a₇.0;
        first = a₈.0;
        within = a₉.0;
      },
      a₉.1,
    )

-- what follows the questions may be asked behind their answer
pub ask_then : {A B : Type 0} (c : Chunk) (x : A) (next : A → Reply B) → and_next (ask_chunk c (granted x)) next ≡ ask_chunk c (next x)
unfolding ask_chunk
ask_then {A} {B} c x next =
    sym
    (then_else (leb c.request_id 0x7F) 1 _ _ next
    (then_else (leb (length c.header) 16383) 1 _ _ next
    (then_else (leb (length c.property) 16383) 1 _ _ next
    (then_else (leb c.num_chunks 16383) 1 _ _ next
    (then_else (leb c.chunk_num 16383) 1 _ _ next
    (then_else (is_seven_bit c.header) 1 _ _ next
    (then_else (is_seven_bit c.property) 1 _ _ next
    (then_else (eqb c.chunk_num 1 || eqb (length c.header) 0) 8 _ _ next
    (then_else (within_count c.chunk_num c.num_chunks) 8 (granted x) (next x) next refl)))))))))

-- a refusal of the questions is that of all that follows them
pub ask_refused : {A B : Type 0} (c : Chunk) (x : A) (next : Reply B) (number value : ℕ) → ask_chunk c (granted x) ≡ refused number value
    → ask_chunk c next ≡ refused number value
ask_refused {A} {B} c x next number value q = sym (ask_then c x (λ (y : A). next)) ∙ ap (λ (r : Reply A). and_next r (λ (y : A). next)) q

-- a chunk whose numbers have 14 bits is stored where it fits
pub put_small : (c : Chunk) (out : List ℕ) (at : ℕ) → length c.header ≤ 16383 → length c.property ≤ 16383 → c.num_chunks ≤ 16383 → c.chunk_num ≤ 16383
    → put_chunk c out at ≡ put_fit out at (chunk_bytes c)
unfolding put_chunk
put_small c out at h p n k = rw (le-leb _ _ h, le-leb _ _ p, le-leb _ _ n, le-leb _ _ k)

pub write_granted : (c : Chunk) (room : ℕ) → InRange c → chunk_len c ≤ room → write_chunk c room ≡ granted (chunk_bytes c)
unfolding write_chunk
write_granted c room r h = ask_yes c _ r ∙ rw (le-leb _ _ h)

pub write_short : (c : Chunk) (room : ℕ) → InRange c → room < chunk_len c → write_chunk c room ≡ refused 3 0
unfolding write_chunk
write_short c room r h = ask_yes c _ r ∙ rw (lt-leb _ _ h)

pub write_refused : (c : Chunk) (room x number value : ℕ) → ask_chunk c (granted x) ≡ refused number value → write_chunk c room ≡ refused number value
unfolding write_chunk
write_refused c room x number value q = ask_refused c x _ number value q

-- the chunk's bytes up to the header's length, the header, the count, the number and the property's length
module _ (c : Chunk) where
  abbrev pub up_to_size : List ℕ
  up_to_size = (c.request_id ∷ []) ++ bytes_of 2 (length c.header)

  abbrev pub up_to_header : List ℕ
  up_to_header = up_to_size ++ c.header

  abbrev pub up_to_count : List ℕ
  up_to_count = up_to_header ++ bytes_of 2 c.num_chunks

  abbrev pub up_to_number : List ℕ
  up_to_number = up_to_count ++ bytes_of 2 c.chunk_num

  abbrev pub up_to_length : List ℕ
  up_to_length = up_to_number ++ bytes_of 2 (length c.property)

  pub up_to_end : up_to_length ++ c.property ≡ chunk_bytes c
  unfolding chunk_bytes
  up_to_end = simp append_assoc

  -- how many they are
  pub size_length : length up_to_size ≡ 3
  size_length = simp bytes_length

  pub header_length : length up_to_header ≡ 3 + length c.header
  header_length = simp (length-append, bytes_length)

  pub count_length : length up_to_count ≡ 5 + length c.header
  count_length = simp (length-append, bytes_length) (omega arith)

  pub number_length : length up_to_number ≡ 7 + length c.header
  number_length = simp (length-append, bytes_length) (omega arith)

  pub length_length : length up_to_length ≡ 9 + length c.header
  length_length = simp (length-append, bytes_length) (omega arith)

  -- The chunk has 9 bytes besides its header and property.
  pub chunk_length : length (chunk_bytes c) ≡ chunk_len c
  unfolding chunk_len
  chunk_length = ap length (sym up_to_end) ∙ length-append up_to_length c.property ∙ ap (λ (n : ℕ). n + length c.property) length_length

-- the next bytes, stored behind those that were
pub put_on : (out after ys zs : List ℕ) (at b : ℕ) → after ≡ put out at ys → b ≡ at + length ys → put after b zs ≡ put out at (ys ++ zs)
put_on out after ys zs at b e h = ap (λ (l : List ℕ). put l b zs) e ∙ put_put out at ys zs b h

pub fit_on : (out after ys zs : List ℕ) (at b : ℕ) → after ≡ put out at ys → b ≡ at + length ys → b + length zs ≤ length out
    → put_fit after b zs ≡ put out at (ys ++ zs)
fit_on out after ys zs at b e h r =
    fit_yes after b zs (rw (e, length_put out at ys) r)
    ∙ put_on out after ys zs at b e h

-- for the functions that write a chunk, and that store one
pub ruleset writes = (ask_told, write_refused, write_short, write_granted, chunk_length, put_front, wrote)

pub ruleset stores = (fit_yes, fit_no, chunk_length)
