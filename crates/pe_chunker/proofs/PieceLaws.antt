-- The laws of a body's pieces: how many there are, where each one stands, and how long it is.
-- Assumes nothing.
use Prim.Native.Nat.{ℕ, zero, suc, ◌+◌, ◌-◌, ◌*◌, ◌/◌, min, ◌<◌, ◌≤◌}
use mathlib.Core.Bool.{true}
use mathlib.Core.List.{List, [], ◌++◌}
use mathlib.Core.Logic.{⊎_elim}
use mathlib.Core.Path.{◌≡◌, refl, sym, ap, ◌∙◌}
use native.Mathlib.Nat.{zero-mul, suc-mul, le-div_iff_mul-le}
use native.Mathlib.Numerals.{add-one}
use native.Mathlib.Omega.{arith}
use borrow.Author.Tests.{leb-true, leb-false}
use lib.Dec.{leb}
use lib.ListN.{length, get_or, take, drop, length-take, length-drop, take-append-drop, drop_of_length-le}
use lib.Seq.{take_all, take-nil, drop-drop}
use Rattle.seven_bit.specs.Parts.{part, joined}
use Rattle.seven_bit.specs.SevenBit.{is_seven_bit}
use Rattle.seven_bit.proofs.PartLaws.{length_part}
use Rattle.seven_bit.proofs.SevenBitLaws.{seven_bit_part}
use Rattle.seven_bit.proofs.ReplyLaws.{both}
use Rattle.pe_chunker.specs.Cut.{later_capacity, first_capacity, body_pieces}
use Rattle.pe_chunker.proofs.CutLaws.{later_between, first_is, first_granted, first_refused, joined_cut, length_cut, piece_cut}

-- what the first chunk leaves is no longer than the body
left_fits : (a : ℕ) (body : List ℕ) → length (drop a body) ≤ length body
left_fits a body = omega (arith, length-drop a body)

later_some : (limit : ℕ) → 0 < later_capacity limit
later_some limit = let h = later_between limit in omega arith

-- the pieces joined are the body
pub joined_pieces : (limit header_len : ℕ) (body : List ℕ) → joined (body_pieces limit header_len body) ≡ body
unfolding body_pieces joined
joined_pieces limit header_len body =
    let a = first_capacity limit header_len in
    ap (λ (l : List ℕ). take a body ++ l) (joined_cut (later_capacity limit) (length body) (drop a body) (later_some limit) (left_fits a body))
    ∙ take-append-drop a body

-- how many there are, as the code counts them
pub pieces_count : (limit header_len : ℕ) (body : List ℕ)
    → length (body_pieces limit header_len body) ≡ 1 + (length body - (later_capacity limit - header_len) + (later_capacity limit - 1)) / later_capacity limit
unfolding body_pieces
pieces_count limit header_len body =
    let a = first_capacity limit header_len in
    let k = later_capacity limit in
    let e = length_cut k (length body) (drop a body) (later_some limit) (left_fits a body) in
    let d : length (drop a body) ≡ length body - (k - header_len) = length-drop a body ∙ ap (λ (n : ℕ). length body - n) (first_is limit header_len) in
    let f = e ∙ ap (λ (n : ℕ). (n + (k - 1)) / k) d in
    ap suc f ∙ omega arith

-- b elements from a on, where both ends are kept within the list
pub stretch : {A : Type 0} (a b from to : ℕ) (xs : List A) → from ≡ min a (length xs) → to ≡ min (a + b) (length xs) → take (to - from) (drop from xs) ≡ part a b xs
stretch {A} a b from to xs e f =
    ⊎_elim
    (λ t.
    let h : a ≤ length xs = leb-true a (length xs) t in
    let s : from ≡ a = omega arith in
    rw s (⊎_elim
    (λ u. let g : a + b ≤ length xs = leb-true (a + b) (length xs) u in let n : to - a ≡ b = omega arith in rw n)
    (λ u.
    let g : length xs < a + b = leb-false (a + b) (length xs) u in
    take_all (to - a) (drop a xs) (omega (arith, length-drop a xs)) ∙ sym (take_all b (drop a xs) (omega (arith, length-drop a xs))))
    (both (leb (a + b) (length xs)))))
    (λ t.
    let h : length xs < a = leb-false a (length xs) t in
    rw (drop_of_length-le xs {i = from} (omega arith), drop_of_length-le xs {i = a} (omega arith), take-nil {A = A} (to - from), take-nil {A = A} b))
    (both (leb a (length xs)))

-- the first piece, and one of the others
pub piece_first : (limit header_len : ℕ) (body : List ℕ) → get_or (body_pieces limit header_len body) 0 [] ≡ part 0 (later_capacity limit - header_len) body
unfolding body_pieces
piece_first limit header_len body = rw (first_is limit header_len)

pub piece_later : (limit header_len i : ℕ) (body : List ℕ)
    → get_or (body_pieces limit header_len body) (suc i) [] ≡ part (later_capacity limit - header_len + i * later_capacity limit) (later_capacity limit) body
unfolding body_pieces
piece_later limit header_len i body =
    let a = first_capacity limit header_len in
    let k = later_capacity limit in
    piece_cut k (length body) i (drop a body) (later_some limit) (left_fits a body)
    ∙ ap (λ (l : List ℕ). take k l) (drop-drop (i * k) a body)
    ∙ ap (λ (n : ℕ). take k (drop (n + i * k) body)) (first_is limit header_len)

-- bytes of the body up to 7F are so in each of its pieces
pub piece_bytes : (limit header_len i : ℕ) (body : List ℕ) → is_seven_bit body ≡ true → is_seven_bit (get_or (body_pieces limit header_len body) i []) ≡ true
piece_bytes limit header_len zero body s = rw (piece_first limit header_len body) (seven_bit_part 0 (later_capacity limit - header_len) body s)
piece_bytes limit header_len (suc i) body s =
    let k = later_capacity limit in
    rw (piece_later limit header_len i body) (seven_bit_part (k - header_len + i * k) k body s)

-- one chunk more
next_mul : (i k m : ℕ) → k ≡ i + 1 → k * m ≡ i * m + m
next_mul i k m e = ap (λ (n : ℕ). n * m) (e ∙ add-one i) ∙ suc-mul i m

-- piece i stands between what i chunks hold of the body, and what one chunk more holds
piece_is : (limit header_len i k from to : ℕ) (body : List ℕ) → k ≡ i + 1 → header_len ≤ later_capacity limit
    → from ≡ min (i * later_capacity limit - header_len) (length body) → to ≡ min (k * later_capacity limit - header_len) (length body)
    → take (to - from) (drop from body) ≡ get_or (body_pieces limit header_len body) i []
piece_is limit header_len zero k from to body n h e f =
    let m = later_capacity limit in
    let z : 0 * m ≡ 0 = zero-mul m in
    let o : k * m ≡ 0 * m + m = next_mul 0 k m n in
    stretch 0 (m - header_len) from to body (omega arith) (omega arith) ∙ sym (piece_first limit header_len body)
piece_is limit header_len (suc i) k from to body n h e f =
    let m = later_capacity limit in
    let z : suc i * m ≡ i * m + m = suc-mul i m in
    let o : k * m ≡ suc i * m + m = next_mul (suc i) k m n in
    stretch (m - header_len + i * m) m from to body (omega arith) (omega arith) ∙ sym (piece_later limit header_len i body)

pub piece_at : (limit header_len i k m from to : ℕ) (body : List ℕ) → m ≡ later_capacity limit → k ≡ i + 1 → header_len ≤ later_capacity limit
    → from ≡ min (i * m - header_len) (length body) → to ≡ min (k * m - header_len) (length body)
    → take (to - from) (drop from body) ≡ get_or (body_pieces limit header_len body) i []
piece_at limit header_len i k m from to body q n h e f =
    piece_is limit header_len i k from to body n h
    (e ∙ ap (λ (x : ℕ). min (i * x - header_len) (length body)) q)
    (f ∙ ap (λ (x : ℕ). min (k * x - header_len) (length body)) q)

-- and it is a part of the body
pub part_ends : (header_len i k m n from to : ℕ) → k ≡ i + 1 → from ≡ min (i * m - header_len) n → to ≡ min (k * m - header_len) n → (from ≤ to) × (to ≤ n)
part_ends header_len i k m n from to e f t = let o : k * m ≡ i * m + m = next_mul i k m e in (omega arith, omega arith)

-- and how long it is
pub piece_length : (limit header_len i k m : ℕ) (body : List ℕ) → m ≡ later_capacity limit → k ≡ i + 1 → header_len ≤ later_capacity limit
    → length (get_or (body_pieces limit header_len body) i []) ≡ min (k * m - header_len) (length body) - min (i * m - header_len) (length body)
piece_length limit header_len i k m body q n h =
    let from = min (i * m - header_len) (length body) in
    let to = min (k * m - header_len) (length body) in
    let e = part_ends header_len i k m (length body) from to n refl refl in
    ap length (sym (piece_at limit header_len i k m from to body q n h refl refl))
    ∙ length_part from (to - from) body (omega arith)

-- how long a piece can be
part_short : (a b : ℕ) (xs : List ℕ) → length (part a b xs) ≤ b
part_short a b xs = omega (arith, length-take b (drop a xs))

pub first_short : (limit header_len : ℕ) (body : List ℕ) → length (get_or (body_pieces limit header_len body) 0 []) ≤ later_capacity limit - header_len
first_short limit header_len body = rw (piece_first limit header_len body) (part_short 0 (later_capacity limit - header_len) body)

pub later_short : (limit header_len i : ℕ) (body : List ℕ) → length (get_or (body_pieces limit header_len body) i []) ≤ later_capacity limit
later_short limit header_len zero body = let h = first_short limit header_len body in omega arith
later_short limit header_len (suc i) body =
    let k = later_capacity limit in
    rw (piece_later limit header_len i body) (part_short (k - header_len + i * k) k body)

-- a chunk before the last one ends before the body does
pub ends_inside : (limit header_len i : ℕ) (body : List ℕ) → i + 1 < length (body_pieces limit header_len body)
    → later_capacity limit - header_len + i * later_capacity limit < length body
ends_inside limit header_len i body h =
    let m = later_capacity limit in
    let r = length body - (m - header_len) + (m - 1) in
    let l : i + 1 ≤ r / m = omega (arith, pieces_count limit header_len body) in
    let t : (i + 1) * m ≤ r = (le-div_iff_mul-le {k = m} {x = i + 1} {y = r} (later_some limit)).0 l in
    let o : (i + 1) * m ≡ i * m + m = next_mul i (i + 1) m refl in
    let p = later_some limit in
    omega arith

-- so its piece is as long as it can be
pub first_full : (limit header_len : ℕ) (body : List ℕ) → 1 < length (body_pieces limit header_len body)
    → length (get_or (body_pieces limit header_len body) 0 []) ≡ later_capacity limit - header_len
first_full limit header_len body h =
    let m = later_capacity limit in
    let l : m - header_len + 0 * m < length body = ends_inside limit header_len 0 body (omega arith) in
    let z : 0 * m ≡ 0 = zero-mul m in
    rw (piece_first limit header_len body) (length_part 0 (m - header_len) body (omega arith))

pub later_full : (limit header_len i : ℕ) (body : List ℕ) → suc i + 1 < length (body_pieces limit header_len body)
    → length (get_or (body_pieces limit header_len body) (suc i) []) ≡ later_capacity limit
later_full limit header_len i body h =
    let m = later_capacity limit in
    let l : m - header_len + suc i * m < length body = ends_inside limit header_len (suc i) body h in
    let z : suc i * m ≡ i * m + m = suc-mul i m in
    rw (piece_later limit header_len i body) (length_part (m - header_len + i * m) m body (omega arith))

-- for the function that counts
pub ruleset counts = (later_between, first_granted, first_refused, pieces_count)
