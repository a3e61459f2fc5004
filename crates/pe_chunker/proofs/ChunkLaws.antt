-- The laws of the chunk of a number: its fields, its range, and the cases of cutting it.
-- Assumes nothing.
use Prim.Native.Nat.{ℕ, suc, ◌+◌, ◌-◌, ◌<◌, ◌≤◌}
use mathlib.Core.Bool.{Bool, true, false, cond, ◌&&◌, ◌||◌, or-true}
use mathlib.Core.List.{List, [], ◌++◌}
use mathlib.Core.Path.{◌≡◌, refl, sym, ap, ◌∙◌}
use native.Mathlib.Omega.{arith}
use borrow.Author.Tests.{le-leb, lt-leb, leb-true, eqb-true, eqb-false}
use lib.Dec.{leb, eqb}
use lib.ListN.{length, get_or, take, drop}
use lib.Seq.{take-length}
use Rattle.seven_bit.specs.Reply.{Reply, granted, refused, Outcome, outcome, writing}
use Rattle.seven_bit.specs.SevenBit.{is_seven_bit}
use Rattle.seven_bit.proofs.PartLaws.{part_none, fit_no, fit_front}
use Rattle.seven_bit.proofs.ReplyLaws.{asked, and_told}
use Rattle.pe_frame.specs.Chunk.{chunk_from, within_count}
use Rattle.pe_frame.specs.Write.{chunk_len, write_chunk}
use Rattle.pe_frame.proofs.ChunkLaws.{InRange, ask_yes, chunk_length, write_granted, write_short}
use Rattle.pe_chunker.specs.Cut.{budget, later_capacity, body_pieces, chunk_at, cut_count, cut_chunk, Sized, CountedLeft, counted, counted_told, counting}
use Rattle.std.specs.Prelude.{Result}
use Rattle.pe_wire.specs.declared.error.PeError.{PeError}
use Rattle.pe_chunker.specs.declared.Counted.{Counted}
use Rattle.pe_chunker.proofs.CutLaws.{later_is, later_between}
use Rattle.pe_chunker.proofs.PieceLaws.{first_short, later_short, first_full, later_full, piece_bytes}
use Rattle.pe_chunker.proofs.AskLaws.{Cut, cut_asked, cut_told, cut_refused}

-- the header of a chunk: all of it, or nothing
pub header_part : (k n : ℕ) (header : List ℕ) → n ≡ cond (eqb k 1) (length header) 0 → take n header ≡ cond (eqb k 1) header []
header_part k n header e =
    ap (λ (m : ℕ). take m header) e
    ∙ go (eqb k 1)
  where
    go : (b : Bool) → take (cond b (length header) 0) header ≡ cond b header []
    go true = take-length header
    go false = part_none 0 header

pub header_within : (k n len : ℕ) → n ≡ cond (eqb k 1) len 0 → n ≤ len
header_within k n len e = go (eqb k 1) e
  where
    go : (b : Bool) → n ≡ cond b len 0 → n ≤ len
    go true q = omega arith
    go false q = omega arith

-- what the code hands to the writer is the chunk
pub chunk_is : (id : ℕ) (header body : List ℕ) (limit k count : ℕ) (h p : List ℕ) → h ≡ cond (eqb k 1) header []
    → length (body_pieces limit (length header) body) ≡ count → p ≡ get_or (body_pieces limit (length header) body) (k - 1) []
    → chunk_from id h count k p ≡ chunk_at id header body limit k
unfolding chunk_at
chunk_is id header body limit k count h p e f g = rw (e, ← f, g)

-- the header and the property fit in the budget beside the nine bytes
pub chunk_short : (id : ℕ) (header body : List ℕ) (limit k : ℕ) → length header ≤ later_capacity limit → 1 ≤ k
    → chunk_len (chunk_at id header body limit k) ≤ budget limit
unfolding chunk_len chunk_at
chunk_short id header body limit k h one = go (eqb k 1) refl
  where
    go : (b : Bool) → eqb k 1 ≡ b
        → 9 + length (cond b header []) + length (get_or (body_pieces limit (length header) body) (k - 1) []) ≤ budget limit
    go true e =
        let z : k - 1 ≡ 0 = omega (arith, eqb-true k 1 e) in
        rw z (omega (arith, later_is limit, first_short limit (length header) body))
    go false e = omega (arith, later_is limit, later_short limit (length header) (k - 1) body)

-- and in a chunk before the last one they fill it
pub chunk_full : (id : ℕ) (header body : List ℕ) (limit k : ℕ) → length header ≤ later_capacity limit → 1 ≤ k
    → k < length (body_pieces limit (length header) body) → chunk_len (chunk_at id header body limit k) ≡ budget limit
unfolding chunk_len chunk_at
chunk_full id header body limit k h one l = go (eqb k 1) refl
  where
    go : (b : Bool) → eqb k 1 ≡ b
        → 9 + length (cond b header []) + length (get_or (body_pieces limit (length header) body) (k - 1) []) ≡ budget limit
    go true e =
        let u : k ≡ 1 = eqb-true k 1 e in
        let z : k - 1 ≡ 0 = omega arith in
        rw z (omega (arith, later_is limit, first_full limit (length header) body (omega arith)))
    go false e =
        let u : k ≡ 1 → ⊥ = eqb-false k 1 e in
        let z : k - 1 ≡ suc (k - 2) = omega arith in
        rw z (omega (arith, later_is limit, later_full limit (length header) (k - 2) body (omega arith)))

-- the header's bytes, and that only the first chunk has them
seven_part : (b : Bool) (header : List ℕ) → is_seven_bit header ≡ true → is_seven_bit (cond b header []) ≡ true
unfolding is_seven_bit
seven_part true header e = e
seven_part false header e = refl

first_only : (b : Bool) (header : List ℕ) → (b || eqb (length (cond b header [])) 0) ≡ true
first_only true header = refl
first_only false header = refl

-- a number up to the count is within it
within_told : (k count : ℕ) → k ≤ count → within_count k count ≡ true
unfolding within_count
within_told k count h = rw (le-leb k count h) (or-true (eqb count 0))

-- every chunk of a cut has its fields in range
pub chunk_in_range : (id : ℕ) (header body : List ℕ) (limit k : ℕ) → Cut id header body limit → 1 ≤ k
    → k ≤ length (body_pieces limit (length header) body) → InRange (chunk_at id header body limit k)
unfolding chunk_at chunk_len
chunk_in_range id header body limit k c one l =
    let s = chunk_short id header body limit k c.fits one in
    let b = later_between limit in
    let r = later_is limit in
    let f = c.few in
    record {
      id = c.low;
      header_len = omega arith;
      property_len = omega arith;
      count = f;
      number = omega arith;
      header_bytes = seven_part (eqb k 1) header c.header_bytes;
      property_bytes = piece_bytes limit (length header) (k - 1) body c.body_bytes;
      first = first_only (eqb k 1) header;
      within = within_told k (length (body_pieces limit (length header) body)) l;
    }

-- the cases of cutting chunk k
pub chunk_refused : (id : ℕ) (header body : List ℕ) (limit k room number value : ℕ) → cut_count id header body limit ≡ refused number value
    → cut_chunk id header body limit k room ≡ refused number value
unfolding cut_count cut_chunk
chunk_refused id header body limit k room number value q = cut_refused id header body limit _ _ number value q

-- what the count tells
pub count_told : (id : ℕ) (header body : List ℕ) (limit count : ℕ) → cut_count id header body limit ≡ granted count
    → Cut id header body limit × (length (body_pieces limit (length header) body) ≡ count)
unfolding cut_count
count_told id header body limit count q =
    let t = cut_told id header body limit _ count q in
    (t.0, let e = t.1 in cc)

pub chunk_none : (id : ℕ) (header body : List ℕ) (limit k room : ℕ) → Cut id header body limit → k < 1 → cut_chunk id header body limit k room ≡ refused 29 0
unfolding cut_chunk
chunk_none id header body limit k room c h = cut_asked id header body limit _ c ∙ rw (lt-leb _ _ h)

pub chunk_past : (id : ℕ) (header body : List ℕ) (limit k room : ℕ) → Cut id header body limit → 1 ≤ k
    → length (body_pieces limit (length header) body) < k → cut_chunk id header body limit k room ≡ refused 29 0
unfolding cut_chunk
chunk_past id header body limit k room c one h = cut_asked id header body limit _ c ∙ rw (le-leb _ _ one, lt-leb _ _ h)

pub chunk_written : (id : ℕ) (header body : List ℕ) (limit k room : ℕ) → Cut id header body limit → 1 ≤ k
    → k ≤ length (body_pieces limit (length header) body) → cut_chunk id header body limit k room ≡ write_chunk (chunk_at id header body limit k) room
unfolding cut_chunk write_chunk
chunk_written id header body limit k room c one h =
    cut_asked id header body limit _ c
    ∙ rw (le-leb _ _ one, le-leb _ _ h)
    (sym (ask_yes (chunk_at id header body limit k) _ (chunk_in_range id header body limit k c one h)))

pub chunk_told : (id : ℕ) (header body : List ℕ) (limit k room : ℕ) (bs : List ℕ) → cut_chunk id header body limit k room ≡ granted bs
    → Cut id header body limit × (1 ≤ k) × (k ≤ length (body_pieces limit (length header) body))
unfolding cut_chunk
chunk_told id header body limit k room bs q =
    let t = cut_told id header body limit _ bs q in
    let n = length (body_pieces limit (length header) body) in
    let b = and_told (leb 1 k) (leb k n) (asked (leb 1 k && leb k n) 29 _ bs t.1).0 in
    (t.0, leb-true 1 k b.0, leb-true k n b.1)

-- what is left where a chunk stands at the front, with the count
pub counted_wrote : (count : ℕ) (bytes out after : List ℕ) (n len : ℕ) → count ≡ n → length bytes ≡ len → after ≡ bytes ++ drop (length bytes) out
    → counted (granted (record { num_chunks = n; len = len })) after ≡ counting count (granted bytes) out
counted_wrote count bytes out after n len c e f = rw (c, ← e, f)

-- for the function that writes one
pub ruleset cuts =
    (chunk_refused, count_told, chunk_none, chunk_past, chunk_written, chunk_in_range, counted_wrote, chunk_length, write_granted, write_short, fit_no, fit_front)

-- the same without the count
abbrev pub length_told : Reply Sized → Reply ℕ
length_told (granted s) = granted s.len
length_told (refused number value) = refused number value

abbrev uncounted : CountedLeft → Outcome
uncounted l = outcome (length_told l.answer) l.out

pub writing_counted : (count : ℕ) (r : Reply (List ℕ)) (out after : List ℕ) (x y : Result Counted PeError) → x ≡ y → counted (counted_told x) after ≡ counting count r out
    → outcome (length_told (counted_told y)) after ≡ writing r out
writing_counted count (granted bytes) out after x y e q = sym (ap (λ (z : Result Counted PeError). outcome (length_told (counted_told z)) after) e) ∙ ap uncounted q
writing_counted count (refused number value) out after x y e q = sym (ap (λ (z : Result Counted PeError). outcome (length_told (counted_told z)) after) e) ∙ ap uncounted q
