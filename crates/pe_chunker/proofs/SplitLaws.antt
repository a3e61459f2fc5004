-- The laws of all chunks of a list: how many there are, how long they are together, and one more of them.
-- Assumes nothing.
use Prim.Native.Nat.{ℕ, zero, suc, ◌+◌, ◌-◌, ◌*◌, ◌/◌, min, ◌<◌, ◌≤◌}
use mathlib.Core.Bool.{true, false}
use mathlib.Core.List.{List, [], ◌∷◌, ◌++◌, map, map-append, append-nil, append_assoc}
use mathlib.Core.Logic.{⊎_elim}
use mathlib.Core.Path.{◌≡◌, refl, sym, ap, ◌∙◌}
use native.Mathlib.Nat.{zero-mul, suc-mul, lt-div-mul-add}
use native.Mathlib.Numerals.{add-one}
use native.Mathlib.Omega.{arith}
use borrow.Author.Tests.{le-leb, lt-leb, leb-true, leb-false, ne_eqb}
use lib.Dec.{leb, eqb}
use lib.ListN.{length, get_or, set, drop, length-append, length-map, get_or-append}
use lib.Seq.{get_or-append_seam}
use Rattle.seven_bit.specs.Parts.{put, put_fit, joined}
use Rattle.seven_bit.specs.Reply.{granted, refused}
use Rattle.seven_bit.proofs.ReplyLaws.{both, asked, same_grant}
use Rattle.seven_bit.proofs.PartLaws.{put_put, put_one, put_front, length_put, fit_yes}
use Rattle.pe_frame.specs.Write.{chunk_bytes, chunk_len}
use Rattle.pe_frame.proofs.ChunkLaws.{chunk_length}
use Rattle.pe_chunker.specs.Cut.{later_capacity, body_pieces, chunk_at, Cut, cut_count}
use Rattle.pe_chunker.specs.Split.{first_chunks, all_chunks, cut_list, split_left, splitting}
use Rattle.pe_chunker.proofs.CutLaws.{later_between}
use Rattle.pe_chunker.proofs.PieceLaws.{pieces_count, piece_length}
use Rattle.pe_chunker.proofs.AskLaws.{cut_asked, cut_told, cut_refused}
use Rattle.pe_chunker.proofs.ChunkLaws.{count_told}

-- one piece more
joined_last : (xs : List (List ℕ)) (y : List ℕ) → joined (xs ++ (y ∷ [])) ≡ joined xs ++ y
unfolding joined
joined_last [] y = append-nil y
joined_last (x ∷ xs) y = ap (λ (l : List ℕ). x ++ l) (joined_last xs y) ∙ sym (append_assoc x (joined xs) y)

module _ (id : ℕ) (header body : List ℕ) (limit : ℕ) where
  abbrev chunks : ℕ → List (List ℕ)
  chunks n = first_chunks id header body limit n

  abbrev bytes : ℕ → List ℕ
  bytes k = chunk_bytes (chunk_at id header body limit k)

  -- the first k chunks and the next one
  pub next_joined : (k : ℕ) → joined (chunks (k + 1)) ≡ joined (chunks k) ++ bytes (k + 1)
  unfolding first_chunks
  next_joined k = rw (add-one k) (joined_last (chunks k) (bytes (suc k)))

  pub next_lengths : (k : ℕ) → map length (chunks (k + 1)) ≡ map length (chunks k) ++ (length (bytes (k + 1)) ∷ [])
  unfolding first_chunks
  next_lengths k = rw (add-one k) (map-append length (chunks k) (bytes (suc k) ∷ []))

  -- there are so many
  pub first_length : (n : ℕ) → length (chunks n) ≡ n
  unfolding first_chunks
  first_length zero = refl
  first_length (suc n) = length-append (chunks n) (bytes (suc n) ∷ []) ∙ omega (arith, first_length n)

  -- and each stands at its place
  pub first_at : (k n : ℕ) → k < n → get_or (chunks n) k [] ≡ bytes (suc k)
  unfolding first_chunks
  first_at k zero h = absurd (omega arith)
  first_at k (suc n) h =
      ⊎_elim
      (λ (t : leb (suc k) n ≡ true).
      let l : k < n = leb-true (suc k) n t in
      get_or-append (chunks n) (bytes (suc n) ∷ []) [] k (omega (arith, first_length n)) ∙ first_at k n l)
      (λ (f : leb (suc k) n ≡ false).
      let l : n < suc k = leb-false (suc k) n f in
      let e : k ≡ n = omega arith in
      let g : length (chunks n) ≡ k = first_length n ∙ sym e in
      ap (λ (i : ℕ). get_or (chunks n ++ (bytes (suc n) ∷ [])) i []) (sym g)
      ∙ get_or-append_seam (chunks n) (bytes (suc n)) [] []
      ∙ ap (λ (i : ℕ). bytes (suc i)) (sym e))
      (both (leb (suc k) n))

  -- the first ones are no longer than more of them
  pub first_shorter : (k d : ℕ) → length (joined (chunks k)) ≤ length (joined (chunks (d + k)))
  unfolding first_chunks
  first_shorter k zero = let e : 0 + k ≡ k = omega arith in rw e (omega arith)
  first_shorter k (suc d) =
      let s : suc d + k ≡ suc (d + k) = omega arith in
      let e = joined_last (chunks (d + k)) (bytes (suc (d + k))) in
      let l = length-append (joined (chunks (d + k))) (bytes (suc (d + k))) in
      rw s (omega (arith, first_shorter k d, ap length e, l))

  -- the bytes of the next chunk: nine, the header's in the first one, and its piece's
  bytes_first : length (bytes 1) ≡ 9 + length header + length (get_or (body_pieces limit (length header) body) 0 [])
  unfolding chunk_at chunk_len
  bytes_first = chunk_length (chunk_at id header body limit 1)

  bytes_later : (k : ℕ) → length (bytes (suc (suc k))) ≡ 9 + length (get_or (body_pieces limit (length header) body) (suc k) [])
  unfolding chunk_at chunk_len
  bytes_later k =
      let e : eqb (suc (suc k)) 1 ≡ false = ne_eqb (suc (suc k)) 1 (λ q. omega arith) in
      let i : suc (suc k) - 1 ≡ suc k = omega arith in
      chunk_length (chunk_at id header body limit (suc (suc k))) ∙ rw (e, i)

  module _ (fits : length header ≤ later_capacity limit) where
    -- how many bytes the first chunks have: what they hold of the body stands between its start and the end of the last one's piece
    first_bytes : (k : ℕ)
        → length (joined (chunks (suc k))) ≡ 9 * suc k + length header + min (suc k * later_capacity limit - length header) (length body)
    unfolding first_chunks joined
    first_bytes zero =
        let p = piece_length limit (length header) 0 1 (later_capacity limit) body refl refl fits in
        let z = zero-mul (later_capacity limit) in
        let a = ap length (append-nil (bytes 1)) in
        omega (arith, bytes_first, p, a, z)
    first_bytes (suc k) =
        let m = later_capacity limit in
        let e = joined_last (chunks (suc k)) (bytes (suc (suc k))) in
        let l = length-append (joined (chunks (suc k))) (bytes (suc (suc k))) in
        let p = piece_length limit (length header) (suc k) (suc (suc k)) m body refl (omega arith) fits in
        let s = suc-mul (suc k) m in
        omega (arith, first_bytes k, ap length e, l, bytes_later k, p, s)

    -- All of them have nine bytes each, the header and the body.
    pub all_bytes : length (joined (all_chunks id header body limit)) ≡ 9 * length (body_pieces limit (length header) body) + length header + length body
    all_bytes =
        let m = later_capacity limit in
        let b = later_between limit in
        let r = length body - (m - length header) in
        let q = (r + (m - 1)) / m in
        let c : length (body_pieces limit (length header) body) ≡ suc q = pieces_count limit (length header) body ∙ omega arith in
        let d : r + (m - 1) < q * m + m = lt-div-mul-add {a = r + (m - 1)} {b = m} (omega arith) in
        let s : suc q * m ≡ q * m + m = suc-mul q m in
        rw c (omega (arith, first_bytes q, fits, d, s))

  -- how the chunks are stored one by one: where the next one goes, and what memory holds then
  module _ (k : ℕ) where
    pub next_size : length (joined (chunks k)) + chunk_len (chunk_at id header body limit (k + 1)) ≡ length (joined (chunks (k + 1)))
    next_size =
        let l = length-append (joined (chunks k)) (bytes (k + 1)) in
        omega (arith, chunk_length (chunk_at id header body limit (k + 1)), ap length (next_joined k), l)

    pub next_fits : (n room : ℕ) → k < n → length (joined (chunks n)) ≤ room → length (joined (chunks (k + 1))) ≤ room
    next_fits n room h r =
        let e : n - (k + 1) + (k + 1) ≡ n = omega arith in
        omega (arith, first_shorter (k + 1) (n - (k + 1)), ap (λ (m : ℕ). length (joined (chunks m))) e)

    pub next_put : (at : ℕ) (lent out : List ℕ) → at ≡ length (joined (chunks k)) → out ≡ put lent 0 (joined (chunks k))
        → length (joined (chunks (k + 1))) ≤ length lent → put_fit out at (bytes (k + 1)) ≡ put lent 0 (joined (chunks (k + 1)))
    next_put at lent out a o r =
        let l = length-append (joined (chunks k)) (bytes (k + 1)) in
        let n = ap length o ∙ length_put lent 0 (joined (chunks k)) in
        fit_yes out at (bytes (k + 1)) (omega (arith, a, l, n, ap length (next_joined k), r))
        ∙ ap (λ (xs : List ℕ). put xs at (bytes (k + 1))) o
        ∙ put_put lent 0 (joined (chunks k)) (bytes (k + 1)) at (omega (arith, a))
        ∙ ap (λ (ys : List ℕ). put lent 0 ys) (sym (next_joined k))

    pub next_column : (len : ℕ) (lent column : List ℕ) → len ≡ chunk_len (chunk_at id header body limit (k + 1)) → column ≡ put lent 0 (map length (chunks k))
        → set column k len ≡ put lent 0 (map length (chunks (k + 1)))
    next_column len lent column e o =
        let n : length (map length (chunks k)) ≡ k = length-map (chunks k) length ∙ first_length k in
        let s : len ≡ length (bytes (k + 1)) = e ∙ sym (chunk_length (chunk_at id header body limit (k + 1))) in
        put_one column k len
        ∙ ap (λ (xs : List ℕ). put xs k (len ∷ [])) o
        ∙ put_put lent 0 (map length (chunks k)) (len ∷ []) k (omega (arith, n))
        ∙ ap (λ (y : ℕ). put lent 0 (map length (chunks k) ++ (y ∷ []))) s
        ∙ ap (λ (ys : List ℕ). put lent 0 ys) (sym (next_lengths k))

  -- and when all are stored
  pub all_left : (lent column out lengths : List ℕ) (n m : ℕ) → length (all_chunks id header body limit) ≡ n
      → length (joined (all_chunks id header body limit)) ≡ m
      → out ≡ put lent 0 (joined (all_chunks id header body limit)) → lengths ≡ put column 0 (map length (all_chunks id header body limit))
      → length (joined (all_chunks id header body limit)) ≤ length lent → length (all_chunks id header body limit) ≤ length column
      → split_left (granted (record { chunks = n; bytes = m })) out lengths ≡ splitting (granted (all_chunks id header body limit)) lent column
  all_left lent column out lengths n m e f o l r p =
      let k : length (map length (all_chunks id header body limit))
      ≡ length (all_chunks id header body limit) = length-map (all_chunks id header body limit) length in
      let o' = o ∙ put_front lent (joined (all_chunks id header body limit)) r in
      let l' = l ∙ put_front column (map length (all_chunks id header body limit)) (omega (arith, k, p))
      ∙ ap (λ (i : ℕ). map length (all_chunks id header body limit) ++ drop i column) k in
      rw (← e, ← f, o', l')

  -- what a grant tells
  pub count_granted : Cut id header body limit → cut_count id header body limit ≡ granted (length (body_pieces limit (length header) body))
  unfolding cut_count
  count_granted c = cut_asked id header body limit _ c

  pub list_told : (room places : ℕ) (cs : List (List ℕ)) → cut_list id header body limit room places ≡ granted cs
      → Cut id header body limit × (all_chunks id header body limit ≡ cs)
  unfolding cut_list
  list_told room places cs q =
      let t = cut_told id header body limit _ cs q in
      let a = asked (leb (length (joined (all_chunks id header body limit))) room) 3 _ cs t.1 in
      let b = asked (leb (length (all_chunks id header body limit)) places) 3 _ cs a.1 in
      (t.0, same_grant _ _ cs refl b.1)

  -- the answers of the last questions
  module _ (room places : ℕ) where
    pub list_refused : (number value : ℕ) → cut_count id header body limit ≡ refused number value
        → cut_list id header body limit room places ≡ refused number value
    unfolding cut_count cut_list
    list_refused number value q = cut_refused id header body limit _ _ number value q

    pub list_short : Cut id header body limit → room < length (joined (all_chunks id header body limit)) → cut_list id header body limit room places ≡ refused 3 0
    unfolding cut_list
    list_short c h = cut_asked id header body limit _ c ∙ rw (lt-leb _ _ h)

    pub list_few : Cut id header body limit → length (joined (all_chunks id header body limit)) ≤ room → places < length (all_chunks id header body limit)
        → cut_list id header body limit room places ≡ refused 3 0
    unfolding cut_list
    list_few c h p = cut_asked id header body limit _ c ∙ rw (le-leb _ _ h, lt-leb _ _ p)

    pub list_granted : Cut id header body limit → length (joined (all_chunks id header body limit)) ≤ room → length (all_chunks id header body limit) ≤ places
        → cut_list id header body limit room places ≡ granted (all_chunks id header body limit)
    unfolding cut_list
    list_granted c h p = cut_asked id header body limit _ c ∙ rw (le-leb _ _ h, le-leb _ _ p)

-- for the function that writes all
pub ruleset splits = (count_told, later_between, first_length, all_bytes, list_refused, list_short, list_few)
