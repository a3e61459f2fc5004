-- What is true of every cut: the pieces are the body, their number, the size of a message, and what a chunk holds.
-- Assumes nothing.
use Prim.Native.Nat.{ℕ, suc, ◌+◌, ◌-◌, ◌*◌, ◌/◌, min, ◌<◌, ◌≤◌}
use mathlib.Core.Bool.{true}
use mathlib.Core.List.{List, [], ◌∷◌}
use mathlib.Core.Path.{◌≡◌, refl, sym, ap, ◌∙◌}
use native.Mathlib.Omega.{arith}
use lib.ListN.{length, get_or, length-append}
use lib.Seq.{take-nil}
use Rattle.seven_bit.specs.Parts.{joined}
use Rattle.seven_bit.specs.Reply.{granted}
use Rattle.seven_bit.specs.SevenBit.{is_seven_bit}
use Rattle.midici_core.specs.Header.{Header}
use Rattle.midici_core.proofs.HeaderLaws.{header_length}
use Rattle.pe_frame.specs.Chunk.{Chunk, chunk_from, read_fields, chunk_of}
use Rattle.pe_frame.specs.Write.{chunk_bytes, chunk_len}
use Rattle.pe_frame.proofs.RoundTrip.{fields, written_then_read}
use Rattle.pe_frame.proofs.ChunkLaws.{InRange, chunk_length, write_granted}
use Rattle.pe_chunker.specs.Cut.{clamped, budget, later_capacity, first_capacity, cut_up, body_pieces, chunk_at, cut_count, cut_chunk, message}
use Rattle.pe_chunker.proofs.CutLaws.{budget_is, later_is, first_is}
use Rattle.pe_chunker.proofs.PieceLaws.{joined_pieces, pieces_count, piece_length}
use Rattle.pe_chunker.proofs.AskLaws.{cut_asked}
use Rattle.pe_chunker.specs.Split.{cut_list}
use Rattle.pe_chunker.proofs.SplitLaws.{first_length, first_at, all_bytes, count_granted, list_told}
use Rattle.pe_chunker.proofs.ChunkLaws.{count_told, chunk_short, chunk_full, chunk_in_range, chunk_written, chunk_told}

-- The pieces of a cut, joined, are the body.
pub pieces_are_the_body : (limit header_len : ℕ) (body : List ℕ) → joined (body_pieces limit header_len body) ≡ body
pieces_are_the_body = joined_pieces

-- The count is 1 for the first chunk and, for what it leaves of the body, the ceiling of the division by a later chunk's capacity.
pub count_is : (id : ℕ) (header body : List ℕ) (limit count : ℕ) → cut_count id header body limit ≡ granted count
    → count ≡ 1 + (length body - first_capacity limit (length header) + (later_capacity limit - 1)) / later_capacity limit
count_is id header body limit count q =
    sym (count_told id header body limit count q).1
    ∙ pieces_count limit (length header) body
    ∙ ap (λ (a : ℕ). 1 + (length body - a + (later_capacity limit - 1)) / later_capacity limit) (sym (first_is limit (length header)))

-- An empty body is one empty piece,
pub empty_pieces : (limit header_len : ℕ) → body_pieces limit header_len [] ≡ [] ∷ []
unfolding body_pieces cut_up
empty_pieces limit header_len = rw (take-nil {A = ℕ} (first_capacity limit header_len))

-- so it is cut into one chunk where the header fits,
pub empty_body_is_one_chunk : (id : ℕ) (header : List ℕ) (limit : ℕ) → id ≤ 127 → is_seven_bit header ≡ true → length header ≤ 4096
    → length header + 9 ≤ budget limit → cut_count id header [] limit ≡ granted 1
unfolding cut_count
empty_body_is_one_chunk id header limit i s r h =
    let e : length (body_pieces limit (length header) []) ≡ 1 = ap length (empty_pieces limit (length header)) in
    cut_asked id header [] limit _
    (record {
      low = i;
      header_bytes = s;
      body_bytes = unfold is_seven_bit in refl;
      receivable = r;
      fits = omega (arith, later_is limit);
      few = omega arith;
    })
    ∙ rw e

-- which is number 1 of 1, with the header and an empty property.
pub empty_body_chunk : (id : ℕ) (header : List ℕ) (limit : ℕ)
    → chunk_at id header [] limit 1 ≡ chunk_from id header 1 1 []
unfolding chunk_at
empty_body_chunk id header limit = rw (empty_pieces limit (length header))

message_length : (ci : Header) (c : Chunk) → length (message ci c) ≡ 15 + chunk_len c
message_length ci c = simp (length-append, header_length, chunk_length) (omega arith)

-- A whole SysEx message with a chunk of a cut is never longer than the clamped limit,
pub message_fits : (id : ℕ) (header body : List ℕ) (limit count k : ℕ) (ci : Header) → cut_count id header body limit ≡ granted count → 1 ≤ k → k ≤ count
    → length (message ci (chunk_at id header body limit k)) ≤ clamped limit
message_fits id header body limit count k ci q one l =
    let t = count_told id header body limit count q in
    let s = chunk_short id header body limit k t.0.fits one in
    omega (arith, budget_is limit, message_length ci (chunk_at id header body limit k))

-- and before the last chunk it is as long.
pub message_full : (id : ℕ) (header body : List ℕ) (limit count k : ℕ) (ci : Header) → cut_count id header body limit ≡ granted count → 1 ≤ k → k < count
    → length (message ci (chunk_at id header body limit k)) ≡ clamped limit
message_full id header body limit count k ci q one l =
    let t = count_told id header body limit count q in
    let e = t.1 in
    let s = chunk_full id header body limit k t.0.fits one (omega arith) in
    omega (arith, budget_is limit, message_length ci (chunk_at id header body limit k))

-- Every chunk of a cut has its fields in range: id, header, count, number and property, and a header in the first one only.
pub fields_in_range : (id : ℕ) (header body : List ℕ) (limit count k : ℕ) → cut_count id header body limit ≡ granted count → 1 ≤ k → k ≤ count
    → InRange (chunk_at id header body limit k)
fields_in_range id header body limit count k q one l =
    let t = count_told id header body limit count q in
    let e = t.1 in
    chunk_in_range id header body limit k t.0 one (omega arith)

-- A full-size table has room for the header of every cut.
pub header_receivable : (id : ℕ) (header body : List ℕ) (limit count : ℕ) → cut_count id header body limit ≡ granted count → length header ≤ 4096
header_receivable id header body limit count q = (count_told id header body limit count q).0.receivable

-- How many bytes of the body chunk k carries: what k chunks hold beside the header, without what those before it hold.
pub property_length : (id : ℕ) (header body : List ℕ) (limit count k : ℕ) → cut_count id header body limit ≡ granted count → 1 ≤ k
    → length (chunk_at id header body limit k).property
    ≡ min (k * later_capacity limit - length header) (length body) - min ((k - 1) * later_capacity limit - length header) (length body)
unfolding chunk_at
property_length id header body limit count k q one =
    let t = count_told id header body limit count q in
    piece_length limit (length header) (k - 1) k (later_capacity limit) body refl (omega arith) t.0.fits

-- A buffer of the budget is long enough for every chunk of a cut.
pub budget_is_room : (id : ℕ) (header body : List ℕ) (limit count k room : ℕ) → cut_count id header body limit ≡ granted count → 1 ≤ k → k ≤ count
    → budget limit ≤ room → cut_chunk id header body limit k room ≡ granted (chunk_bytes (chunk_at id header body limit k))
budget_is_room id header body limit count k room q one l r =
    let t = count_told id header body limit count q in
    let e = t.1 in
    let n : k ≤ length (body_pieces limit (length header) body) = omega arith in
    let s = chunk_short id header body limit k t.0.fits one in
    chunk_written id header body limit k room t.0 one n
    ∙ write_granted (chunk_at id header body limit k) room (chunk_in_range id header body limit k t.0 one n) (unfold chunk_len in omega arith)

-- Every chunk that was written reads back as its fields, and its header and property as they were cut.
pub chunk_reads_back : (id : ℕ) (header body : List ℕ) (limit k room : ℕ) (bs : List ℕ) → cut_chunk id header body limit k room ≡ granted bs
    → (read_fields bs ≡ granted (fields (chunk_at id header body limit k)))
    × (chunk_of bs (fields (chunk_at id header body limit k)) ≡ chunk_at id header body limit k)
chunk_reads_back id header body limit k room bs q =
    let t = chunk_told id header body limit k room bs q in
    written_then_read (chunk_at id header body limit k) room bs (sym (chunk_written id header body limit k room t.0 t.1 t.2) ∙ q)

-- A list that is cut into all its chunks at once: there are as many as are counted,
pub split_count : (id : ℕ) (header body : List ℕ) (limit room places : ℕ) (chunks : List (List ℕ)) → cut_list id header body limit room places ≡ granted chunks
    → cut_count id header body limit ≡ granted (length chunks)
split_count id header body limit room places chunks q =
    let t = list_told id header body limit room places chunks q in
    count_granted id header body limit t.0 ∙ ap granted (sym (first_length id header body limit _) ∙ ap length t.1)

-- each is what is written of its number,
pub split_each : (id : ℕ) (header body : List ℕ) (limit room places : ℕ) (chunks : List (List ℕ)) → cut_list id header body limit room places ≡ granted chunks
    → (k buffer : ℕ) → k < length chunks → budget limit ≤ buffer → cut_chunk id header body limit (suc k) buffer ≡ granted (get_or chunks k [])
split_each id header body limit room places chunks q k buffer l r =
    let t = list_told id header body limit room places chunks q in
    let n = length (body_pieces limit (length header) body) in
    let e : length chunks ≡ n = sym (ap length t.1) ∙ first_length id header body limit n in
    budget_is_room id header body limit n (suc k) buffer (count_granted id header body limit t.0) (omega arith) (omega (arith, e, l)) r
    ∙ ap granted (sym (first_at id header body limit k n (omega (arith, e, l))) ∙ ap (λ (cs : List (List ℕ)). get_or cs k []) t.1)

-- and together they have nine bytes each, the header and the body.
pub split_bytes : (id : ℕ) (header body : List ℕ) (limit room places : ℕ) (chunks : List (List ℕ)) → cut_list id header body limit room places ≡ granted chunks
    → length (joined chunks) ≡ 9 * length chunks + length header + length body
split_bytes id header body limit room places chunks q =
    let t = list_told id header body limit room places chunks q in
    let n = length (body_pieces limit (length header) body) in
    let e : length chunks ≡ n = sym (ap length t.1) ∙ first_length id header body limit n in
    ap (λ (cs : List (List ℕ)). length (joined cs)) (sym t.1)
    ∙ all_bytes id header body limit t.0.fits
    ∙ ap (λ (m : ℕ). 9 * m + length header + length body) (sym e)
