-- The laws of texts and their groups: the first group and what follows, and the lengths.
-- Assumes nothing.
use Prim.Native.Nat.{ℕ, zero, suc, ◌+◌, ◌-◌, ◌/◌, ◌%◌, min, ◌<◌, ◌≤◌}
use mathlib.Core.List.{List, [], ◌∷◌, ◌++◌, append-nil}
use mathlib.Core.Logic.{⊎_elim}
use mathlib.Core.Path.{◌≡◌, refl, ap, ◌∙◌}
use native.Mathlib.Nat.{le_refl}
use native.Mathlib.Omega.{arith}
use borrow.Author.Tests.{leb-true, leb-false}
use lib.Dec.{leb}
use lib.ListN.{length, take, drop, length-append, length-take, length-drop, length-map, drop_of_length-le}
use lib.Seq.{take_all, take_at, drop_at}
use Rattle.seven_bit.specs.Parts.{pieces, joined}
use Rattle.seven_bit.proofs.ReplyLaws.{both}
use Rattle.pe_mcoded7.specs.Mcoded7.{group_bytes, encoded, groups, restored, group_data, decoded}

-- what holds of no bytes, and of some where it holds of those past the first k, holds of any
pub by_groups : (k : ℕ) (P : List ℕ → Type 0) → 0 < k → P [] → ((s : List ℕ) → 0 < length s → P (drop k s) → P s) → (s : List ℕ) → P s
by_groups k P k>0 none some s = go (length s) s (le_refl (length s))
  where
    go : (n : ℕ) (t : List ℕ) → length t ≤ n → P t
    go zero [] h = none
    go zero (x ∷ t) h = absurd (omega arith)
    go (suc n) [] h = none
    go (suc n) (x ∷ t) h = some (x ∷ t) (omega arith) (go n (drop k (x ∷ t)) (omega (arith, k>0, length-drop k (x ∷ t))))

pub nothing : (s : List ℕ) → length s ≡ 0 → s ≡ []
nothing [] e = refl
nothing (x ∷ s) e = absurd (omega arith)

-- a list in two parts, of which the first has k elements, or fewer where nothing follows
take_front : (k : ℕ) (a b : List ℕ) → length a ≤ k → (length a < k → b ≡ []) → take k (a ++ b) ≡ a
take_front k a b l h =
    ⊎_elim
    (λ t. take_at a b k (let g = leb-true k (length a) t in omega arith))
    (λ f. rw (h (leb-false k (length a) f), append-nil) (take_all k a l))
    (both (leb k (length a)))

drop_front : (k : ℕ) (a b : List ℕ) → length a ≤ k → (length a < k → b ≡ []) → drop k (a ++ b) ≡ b
drop_front k a b l h =
    ⊎_elim
    (λ t. drop_at a b k (let g = leb-true k (length a) t in omega arith))
    (λ f. rw (h (leb-false k (length a) f), append-nil) (drop_of_length-le a l))
    (both (leb k (length a)))

-- A list in two parts, of which the first is the next chunk of k elements.
pub record Chunk (k : ℕ) (s g rest : List ℕ) : Type 0 where
  pub whole : s ≡ g ++ rest
  pub size : length g ≡ min k (length s)
  pub some : 0 < length s

-- nothing follows a shorter one
chunk_last : {k : ℕ} {s g rest : List ℕ} → Chunk k s g rest → length g < k → rest ≡ []
chunk_last {k} {s} {g} {rest} c h =
    let l : length s ≡ length g + length rest = ap length c.whole ∙ length-append g rest in
    nothing rest (omega arith)

pub chunk_front : {k : ℕ} {s g rest : List ℕ} → Chunk k s g rest → take k s ≡ g
chunk_front {k} {s} {g} {rest} c = ap (take k) c.whole ∙ take_front k g rest (omega arith) (chunk_last c)

pub chunk_behind : {k : ℕ} {s g rest : List ℕ} → Chunk k s g rest → drop k s ≡ rest
chunk_behind {k} {s} {g} {rest} c = ap (drop k) c.whole ∙ drop_front k g rest (omega arith) (chunk_last c)

-- the first group's text, and that of the rest
pub encoded_none : encoded [] ≡ []
unfolding encoded pieces joined
encoded_none = refl

pub encoded_next : (xs : List ℕ) → 0 < length xs → encoded xs ≡ group_bytes (take 7 xs) ++ encoded (drop 7 xs)
unfolding encoded pieces joined
encoded_next xs h =
    let l : length (drop 7 xs) ≡ length xs - 7 = length-drop 7 xs in
    let e : (length xs + 6) / 7 ≡ suc ((length (drop 7 xs) + 6) / 7) = omega arith in
    rw e

-- the first group of a text, and those of the rest
pub groups_none : groups [] ≡ []
unfolding groups pieces
groups_none = refl

pub groups_next : (s : List ℕ) → 0 < length s → groups s ≡ take 8 s ∷ groups (drop 8 s)
unfolding groups pieces
groups_next s h =
    let l : length (drop 8 s) ≡ length s - 8 = length-drop 8 s in
    let e : (length s + 7) / 8 ≡ suc ((length (drop 8 s) + 7) / 8) = omega arith in
    rw e

pub decoded_none : decoded [] ≡ []
unfolding decoded joined
decoded_none = rw groups_none

pub decoded_next : (s : List ℕ) → 0 < length s → decoded s ≡ group_data (take 8 s) ++ decoded (drop 8 s)
unfolding decoded joined
decoded_next s h = rw (groups_next s h)

-- what is made of a list is made of its groups of k, one after the other
pub record InGroups (k : ℕ) (one whole : List ℕ → List ℕ) : Type 0 where
  pub none : whole [] ≡ []
  pub next : (xs : List ℕ) → 0 < length xs → whole xs ≡ one (take k xs) ++ whole (drop k xs)

pub encoded_groups : InGroups 7 group_bytes encoded
encoded_groups = record { none = encoded_none; next = encoded_next }

pub decoded_groups : InGroups 8 group_data decoded
decoded_groups = record { none = decoded_none; next = decoded_next }

pub chunk_next : {k : ℕ} {one whole : List ℕ → List ℕ} {s g rest : List ℕ} → InGroups k one whole → Chunk k s g rest → whole s ≡ one g ++ whole rest
chunk_next {k} {one} {whole} {s} {g} {rest} w c = w.next s c.some ∙ rw (chunk_front c, chunk_behind c)

-- where the first group's is of m elements, or of fewer and nothing follows: it, and what is made of the rest
pub first_of : (k m : ℕ) (one whole : List ℕ → List ℕ) (w : InGroups k one whole) (xs : List ℕ) → 0 < length xs → length (one (take k xs)) ≤ m
    → (length (one (take k xs)) < m → length xs ≤ k) → (take m (whole xs) ≡ one (take k xs)) × (drop m (whole xs) ≡ whole (drop k xs))
first_of k m one whole w xs h within last =
    let rest : length (one (take k xs)) < m → whole (drop k xs) ≡ [] = λ l. ap whole (drop_of_length-le xs {i = k} (last l)) ∙ w.none in (
      ap (take m) (w.next xs h) ∙ take_front m (one (take k xs)) (whole (drop k xs)) within rest,
      ap (drop m) (w.next xs h) ∙ drop_front m (one (take k xs)) (whole (drop k xs)) within rest,
    )

-- the lengths of a group
pub length_group_bytes : (ds : List ℕ) → length (group_bytes ds) ≡ 1 + length ds
unfolding group_bytes
length_group_bytes ds = omega (arith, length-map ds (λ (d : ℕ). d % 128))

pub length_restored : (f b : ℕ) (ds : List ℕ) → length (restored f b ds) ≡ length ds
unfolding restored
length_restored f b [] = refl
length_restored f b (d ∷ ds) = ap suc (length_restored f (b - 1) ds)

pub length_group_data : (g : List ℕ) → length (group_data g) ≡ length g - 1
unfolding group_data
length_group_data [] = refl
length_group_data (f ∷ ds) = omega (arith, length_restored f 6 ds)

-- A text is as long as its bytes, and a flag byte for each seven of them and for those left over.
pub length_encoded : (xs : List ℕ) → length (encoded xs) ≡ length xs + (length xs + 6) / 7
length_encoded =
    by_groups 7 (λ (xs : List ℕ). length (encoded xs) ≡ length xs + (length xs + 6) / 7) (omega arith)
    (rw encoded_none)
    (λ xs h ih.
    rw (encoded_next xs h, length-append, length_group_bytes)
    (omega (arith, length-take 7 xs, length-drop 7 xs)))

-- The bytes of a text are as many as the text has, but a flag byte for each eight and for those left over.
pub length_decoded : (s : List ℕ) → length (decoded s) ≡ length s - (length s + 7) / 8
length_decoded =
    by_groups 8 (λ (s : List ℕ). length (decoded s) ≡ length s - (length s + 7) / 8) (omega arith)
    (rw decoded_none)
    (λ s h ih.
    rw (decoded_next s h, length-append, length_group_data)
    (omega (arith, length-take 8 s, length-drop 8 s)))
