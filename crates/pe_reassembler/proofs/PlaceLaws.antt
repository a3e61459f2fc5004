-- Places lie apart: what a change of some places of a list leaves of the others, and where the words and rooms of slots lie.
-- Assumes nothing.
use Prim.Native.Nat.{ℕ, suc, ◌+◌, ◌-◌, ◌*◌, ◌≤◌, ◌<◌}
use mathlib.Core.Bool.{true, false}
use mathlib.Core.List.{List, ◌++◌}
use mathlib.Core.Logic.{◌⊎◌, inl, inr}
use mathlib.Core.Path.{◌≡◌, refl, sym, ap, ◌∙◌}
use native.Mathlib.Nat.{mul-le-mul, add-zero}
use native.Mathlib.Omega.{arith}
use borrow.Author.Tests.{ltb-true, ltb-false}
use lib.Dec.{ltb}
use lib.ListN.{length, get_or, take, drop, set, take-append-drop, length-drop, length-set}
use lib.Seq.{take-set-le, drop-set-lt, drop-set-add, length-take-le, drop_at, drop-drop, get_or-take, get_or-drop}
use Rattle.seven_bit.specs.Parts.{part, splice}
use Rattle.seven_bit.proofs.PartLaws.{length_splice, part_front}
use Rattle.seven_bit.proofs.ReplyLaws.{both}
use Rattle.pe_slot.specs.Layout.{slot_words}
use Rattle.pe_reassembler.specs.Table.{peer_at, slot_at, room_at}

-- one number is less, or the other is at most it
pub less_or : (a b : ℕ) → (a < b) ⊎ (b ≤ a)
less_or a b = go (both (ltb a b))
  where
    go : (ltb a b ≡ true) ⊎ (ltb a b ≡ false) → (a < b) ⊎ (b ≤ a)
    go (inl e) = inl (ltb-true _ _ e)
    go (inr e) = inr (ltb-false _ _ e)

-- ---- parts of a list
-- the k places from a on and the l places from b on have none in common
abbrev pub Apart : ℕ → ℕ → ℕ → ℕ → Type 0
Apart a k b l = (b + l ≤ a) ⊎ (a + k ≤ b)

-- a part of a part
pub part_part : (a k b l : ℕ) (xs : List ℕ) → a + k ≤ l → b + l ≤ length xs → part a k (part b l xs) ≡ part (b + a) k xs
part_part a k b l xs h g =
    let n : length (part b l xs) ≡ l = length-take-le l (drop b xs) (simp length-drop (omega arith)) in
    sym (part_front a k (part b l xs) (drop l (drop b xs)) (omega arith))
    ∙ ap (λ (r : List ℕ). part a k r) (take-append-drop l (drop b xs))
    ∙ ap (λ (r : List ℕ). take k r) (drop-drop a b xs)

-- an element of a part
pub get_part : (b l i : ℕ) (xs : List ℕ) → i < l → get_or (part b l xs) i 0 ≡ get_or xs (b + i) 0
get_part b l i xs h = get_or-take l (drop b xs) i 0 h ∙ get_or-drop b xs i 0

-- a list that is another but for the k places from a on
pub record OnlyAt (a k : ℕ) (xs ys : List ℕ) : Type 0 where
  pub long : length ys ≡ length xs
  pub parts : (b l : ℕ) → Apart a k b l → part b l ys ≡ part b l xs

pub only_get : {a k : ℕ} {xs ys : List ℕ} → OnlyAt a k xs ys → (i : ℕ) → Apart a k i 1 → get_or ys i 0 ≡ get_or xs i 0
only_get {a} {k} {xs} {ys} o i h = sym (one ys) ∙ ap (λ (l : List ℕ). get_or l 0 0) (o.parts i 1 h) ∙ one xs
  where
    one : (l : List ℕ) → get_or (part i 1 l) 0 0 ≡ get_or l i 0
    one l = get_part i 1 0 l (omega arith) ∙ ap (λ (j : ℕ). get_or l j 0) (add-zero i)

pub only_wider : {a k : ℕ} {xs ys : List ℕ} (b l : ℕ) → OnlyAt a k xs ys → b ≤ a → a + k ≤ b + l → OnlyAt b l xs ys
only_wider {a} {k} {xs} {ys} b l o h g = record { long = o.long; parts = λ (c n : ℕ) (d : Apart b l c n). o.parts c n (go c n d) }
  where
    go : (c n : ℕ) → Apart b l c n → Apart a k c n
    go c n (inl d) = inl (omega arith)
    go c n (inr d) = inr (omega arith)

pub only_then : {a k : ℕ} {xs ys zs : List ℕ} → OnlyAt a k xs ys → OnlyAt a k ys zs → OnlyAt a k xs zs
only_then o u = record { long = u.long ∙ o.long; parts = λ (b l : ℕ) (d : _). u.parts b l d ∙ o.parts b l d }

pub only_same : (a k : ℕ) (xs : List ℕ) → OnlyAt a k xs xs
only_same a k xs = record { long = refl; parts = λ (b l : ℕ) (d : Apart a k b l). refl }

-- a part put in its place
pub only_splice : (a k : ℕ) (xs ys : List ℕ) → a + k ≤ length xs → length ys ≡ k → OnlyAt a k xs (splice a k xs ys)
only_splice a k xs ys h e = record { long = length_splice a k xs ys h e; parts = go }
  where
    front : length (take a xs) ≡ a
    front = length-take-le a xs (omega arith)

    behind : drop (a + k) (splice a k xs ys) ≡ drop (a + k) xs
    behind =
        sym (drop-drop k a (splice a k xs ys))
        ∙ ap (λ (r : List ℕ). drop k r) (drop_at (take a xs) (ys ++ drop k (drop a xs)) a front)
        ∙ drop_at ys (drop k (drop a xs)) k e
        ∙ drop-drop k a xs

    go : (b l : ℕ) → Apart a k b l → part b l (splice a k xs ys) ≡ part b l xs
    go b l (inl d) =
        part_front b l (take a xs) (ys ++ drop k (drop a xs)) (omega (arith, front))
        ∙ sym (part_front b l (take a xs) (drop a xs) (omega (arith, front)))
        ∙ ap (λ (r : List ℕ). part b l r) (take-append-drop a xs)
    go b l (inr d) =
        let j : ℕ = b - (a + k) in
        let f : b ≡ a + k + j = omega arith in
        ap (λ (i : ℕ). part i l (splice a k xs ys)) f
        ∙ ap (λ (r : List ℕ). take l r) (sym (drop-drop j (a + k) (splice a k xs ys)) ∙ ap (λ (r : List ℕ). drop j r) behind ∙ drop-drop j (a + k) xs)
        ∙ ap (λ (i : ℕ). part i l xs) (sym f)

-- one element stored
pub only_set : (i v : ℕ) (xs : List ℕ) → OnlyAt i 1 xs (set xs i v)
only_set i v xs = record { long = length-set xs i v; parts = go }
  where
    go : (b l : ℕ) → Apart i 1 b l → part b l (set xs i v) ≡ part b l xs
    go b l (inl d) =
        let j : ℕ = i - b in
        let e : i ≡ b + j = omega arith in
        ap (λ (n : ℕ). part b l (set xs n v)) e
        ∙ ap (λ (r : List ℕ). take l r) (drop-set-add b xs j v)
        ∙ take-set-le l (drop b xs) j v (omega arith)
    go b l (inr d) = ap (λ (r : List ℕ). take l r) (drop-set-lt b xs i v (omega arith))

-- ---- the places of slots
-- the place of another slot is before or behind
pub other_place : (p s q t : ℕ) → s < 4 → t < 4 → (q ≡ p → t ≡ s → ⊥) → (4 * q + t < 4 * p + s) ⊎ (4 * p + s < 4 * q + t)
other_place p s q t h g n = go (less_or (4 * q + t) (4 * p + s)) (less_or (4 * p + s) (4 * q + t))
  where
    go : (4 * q + t < 4 * p + s) ⊎ (4 * p + s ≤ 4 * q + t) → (4 * p + s < 4 * q + t) ⊎ (4 * q + t ≤ 4 * p + s)
        → (4 * q + t < 4 * p + s) ⊎ (4 * p + s < 4 * q + t)
    go (inl a) b = inl a
    go (inr a) (inl b) = inr b
    go (inr a) (inr b) = absurd (n (omega arith) (omega arith))

pub words_apart : (p s q t : ℕ) → s < 4 → t < 4 → (4 * q + t < 4 * p + s) ⊎ (4 * p + s < 4 * q + t) → Apart (slot_at p s) slot_words (slot_at q t) slot_words
words_apart p s q t h g (inl d) = inl (omega arith)
words_apart p s q t h g (inr d) = inr (omega arith)

before : (size i j : ℕ) → i < j → i * size + size ≤ j * size
before size i j h =
    let l : size ≤ size = omega arith in
    let m : suc i ≤ j = omega arith in
    let w : suc i * size ≤ j * size = mul-le-mul m l in
    let e : suc i * size ≡ i * size + size = omega arith in
    omega arith

pub rooms_apart : (size p s q t : ℕ) → (4 * q + t < 4 * p + s) ⊎ (4 * p + s < 4 * q + t) → Apart (room_at size p s) size (room_at size q t) size
rooms_apart size p s q t (inl d) = inl (before size (4 * q + t) (4 * p + s) d)
rooms_apart size p s q t (inr d) = inr (before size (4 * p + s) (4 * q + t) d)

-- the two words of a peer, and a slot
pub peer_apart : (p q t : ℕ) → t < 4 → Apart (peer_at p) 2 (slot_at q t) slot_words
peer_apart p q t h = go (less_or q p)
  where
    go : (q < p) ⊎ (p ≤ q) → Apart (peer_at p) 2 (slot_at q t) slot_words
    go (inl a) = inl (omega arith)
    go (inr a) = inr (omega arith)
