-- The laws of bytes up to 7F: of those before a place, and of the largest ones, gathered side by side.
-- Assumes nothing.
use Prim.Native.Nat.{ℕ, zero, suc, ◌+◌, ◌-◌, ◌<◌, ◌≤◌, max}
use mathlib.Core.Bool.{Bool, true, false, cond, ◌&&◌, and-true, and_assoc}
use mathlib.Core.List.{List, [], ◌∷◌, ◌++◌}
use mathlib.Core.Path.{◌≡◌, refl, sym, ap, ◌∙◌}
use native.Mathlib.Omega.{arith}
use borrow.Author.Tests.{le-leb, lt-leb, leb-true, leb-false}
use lib.Dec.{leb}
use lib.ListN.{length, get_or, set, take, drop, length-drop, take-append-drop}
use lib.Seq.{drop-drop, take-add, take_all, take-take}
use Rattle.std.specs.List.{list_all}
use Rattle.seven_bit.specs.Parts.{part}
use Rattle.seven_bit.specs.SevenBit.{is_seven_bit}
use Rattle.seven_bit.proofs.PartLaws.{part_none, part_next}
use Rattle.seven_bit.proofs.SevenBitLaws.{seven_bit_at, seven_bit_take, seven_bit_drop, seven_bit_behind, gather_end}

-- std's question of each byte is that of the contract
pub all_low_is : (xs : List ℕ) → list_all (λ b. leb b 127) xs ≡ is_seven_bit xs
unfolding is_seven_bit
all_low_is [] = refl
all_low_is (x ∷ xs) = go (leb x 127) (all_low_is xs)
  where
    go : (b : Bool) → list_all (λ y. leb y 127) xs ≡ is_seven_bit xs → (b && list_all (λ y. leb y 127) xs) ≡ cond b (is_seven_bit xs) false
    go true e = e
    go false e = refl

-- a part and what follows it
both_parts : (xs ys : List ℕ) → is_seven_bit (xs ++ ys) ≡ (is_seven_bit xs && is_seven_bit ys)
unfolding is_seven_bit
both_parts [] ys = refl
both_parts (x ∷ xs) ys = go (leb x 127) (both_parts xs ys)
  where
    go : (b : Bool) → is_seven_bit (xs ++ ys) ≡ (is_seven_bit xs && is_seven_bit ys)
        → cond b (is_seven_bit (xs ++ ys)) false ≡ (cond b (is_seven_bit xs) false && is_seven_bit ys)
    go true e = e
    go false e = refl

next_part : (at k : ℕ) (s : List ℕ) → is_seven_bit (take (at + k) s) ≡ (is_seven_bit (take at s) && is_seven_bit (part at k s))
next_part at k s = ap is_seven_bit (take-add at k s) ∙ both_parts (take at s) (part at k s)

-- behind bytes that are, the question is that of the part
pub past_front : (at k : ℕ) (s : List ℕ) → is_seven_bit (take at s) ≡ true → is_seven_bit (take (at + k) s) ≡ is_seven_bit (part at k s)
past_front at k s t = next_part at k s ∙ ap (λ (b : Bool). b && is_seven_bit (part at k s)) t

-- one byte
pub one_part : (s : List ℕ) (i : ℕ) → i < length s → is_seven_bit (part i 1 s) ≡ leb (get_or s i 0) 127
unfolding is_seven_bit
one_part s i h = ap is_seven_bit (part_next i 0 s 0 h) ∙ gather_end (get_or s i 0) (part (i + 1) 0 s) (part_none (i + 1) s)

-- the bytes before a place
pub from_start : (h : ℕ) (s : List ℕ) → part 0 h s ≡ take h s
from_start h [] = refl
from_start h (x ∷ xs) = refl

front_less : (s : List ℕ) (h n : ℕ) → is_seven_bit (take h s) ≡ true → n ≤ h → is_seven_bit (take n s) ≡ true
front_less s h n t l = ap is_seven_bit (sym (take-take n h s l)) ∙ seven_bit_take n (take h s) t

pub front_part : (s : List ℕ) (h a k : ℕ) → is_seven_bit (take h s) ≡ true → a + k ≤ h → is_seven_bit (part a k s) ≡ true
front_part s h a k t l = sym (past_front a k s (front_less s h a t (omega arith))) ∙ front_less s h (a + k) t l

-- two parts that cover a list
pub cover : (s : List ℕ) (at b : ℕ) → b ≤ at → (is_seven_bit (take at s) && is_seven_bit (drop b s)) ≡ is_seven_bit s
cover s at b h = go (is_seven_bit s) refl
  where
    no : (x y : Bool) → is_seven_bit (take at s) ≡ x → is_seven_bit (drop b s) ≡ y → is_seven_bit s ≡ false → (x && y) ≡ false
    no true true e f g = sym (seven_bit_behind (take b s) (drop b s) (front_less s at b e h) ∙ f) ∙ ap is_seven_bit (take-append-drop b s) ∙ g
    no true false e f g = refl
    no false y e f g = refl

    go : (x : Bool) → is_seven_bit s ≡ x → (is_seven_bit (take at s) && is_seven_bit (drop b s)) ≡ is_seven_bit s
    go true e = rw (seven_bit_take at s e, seven_bit_drop b s e, e)
    go false e = no _ _ refl refl e ∙ sym e

-- the larger of two bytes
larger_low : (a b : ℕ) → leb (max a b) 127 ≡ (leb a 127 && leb b 127)
larger_low a b = go (leb a 127) (leb b 127) refl refl
  where
    go : (x y : Bool) → leb a 127 ≡ x → leb b 127 ≡ y → leb (max a b) 127 ≡ (leb a 127 && leb b 127)
    go true true e f = let h = leb-true a 127 e in let k = leb-true b 127 f in rw (e, f) (le-leb (max a b) 127 (omega (arith, h, k)))
    go true false e f = let k = leb-false b 127 f in rw (e, f) (lt-leb (max a b) 127 (omega (arith, k)))
    go false y e f = let h = leb-false a 127 e in rw e (lt-leb (max a b) 127 (omega (arith, h)))

gather_at : (largest : List ℕ) (i b : ℕ) → i < length largest → is_seven_bit (set largest i (max (get_or largest i 0) b)) ≡ (is_seven_bit largest && leb b 127)
unfolding is_seven_bit
gather_at [] i b h = absurd (omega arith)
gather_at (x ∷ xs) zero b h = rw (larger_low x b) (go (leb x 127) (leb b 127) (is_seven_bit xs))
  where
    go : (p q r : Bool) → cond (p && q) r false ≡ (cond p r false && q)
    go true true true = refl
    go true true false = refl
    go true false true = refl
    go true false false = refl
    go false q r = refl
gather_at (x ∷ xs) (suc i) b h = go (leb x 127) (gather_at xs i b (omega arith))
  where
    go : (p : Bool) → is_seven_bit (set xs i (max (get_or xs i 0) b)) ≡ (is_seven_bit xs && leb b 127)
        → cond p (is_seven_bit (set xs i (max (get_or xs i 0) b))) false ≡ (cond p (is_seven_bit xs) false && leb b 127)
    go true e = e
    go false e = refl

-- and the part up to it
gather_part : (at i : ℕ) (s : List ℕ) → at + i < length s → is_seven_bit (part at (i + 1) s) ≡ (is_seven_bit (part at i s) && leb (get_or s (at + i) 0) 127)
gather_part at i s h =
    next_part i 1 (drop at s)
    ∙ ap (λ (t : List ℕ). is_seven_bit (part at i s) && is_seven_bit (take 1 t)) (drop-drop i at s)
    ∙ ap (λ (q : Bool). is_seven_bit (part at i s) && q) (one_part s (at + i) h)

-- the loops: what has gathered a part gathers a longer one
module _ (largest₀ s : List ℕ) where
  pub gathered_none : (at : ℕ) → is_seven_bit largest₀ ≡ (is_seven_bit largest₀ && is_seven_bit (part at 0 s))
  unfolding is_seven_bit
  gathered_none at = sym (ap (λ (t : List ℕ). is_seven_bit largest₀ && is_seven_bit t) (part_none at s) ∙ and-true (is_seven_bit largest₀))

  pub gathered_byte : (largest : List ℕ) (at i : ℕ) → is_seven_bit largest ≡ (is_seven_bit largest₀ && is_seven_bit (part at i s))
      → i < length largest → at + i < length s
      → is_seven_bit (set largest i (max (get_or largest i 0) (get_or s (at + i) 0))) ≡ (is_seven_bit largest₀ && is_seven_bit (part at (i + 1) s))
  gathered_byte largest at i e h l =
      gather_at largest i (get_or s (at + i) 0) h
      ∙ ap (λ (q : Bool). q && leb (get_or s (at + i) 0) 127) e
      ∙ and_assoc (is_seven_bit largest₀) (is_seven_bit (part at i s)) (leb (get_or s (at + i) 0) 127)
      ∙ ap (λ (q : Bool). is_seven_bit largest₀ && q) (sym (gather_part at i s l))

  pub gathered_block : (now before : Bool) (at k : ℕ) → before ≡ (is_seven_bit largest₀ && is_seven_bit (take at s)) → now ≡ (before && is_seven_bit (part at k s))
      → now ≡ (is_seven_bit largest₀ && is_seven_bit (take (at + k) s))
  gathered_block now before at k e n =
      n
      ∙ ap (λ (q : Bool). q && is_seven_bit (part at k s)) e
      ∙ and_assoc (is_seven_bit largest₀) (is_seven_bit (take at s)) (is_seven_bit (part at k s))
      ∙ ap (λ (q : Bool). is_seven_bit largest₀ && q) (sym (next_part at k s))

  pub gathered_last : (now before : Bool) (at k : ℕ) → before ≡ (is_seven_bit largest₀ && is_seven_bit (take at s))
      → now ≡ (before && is_seven_bit (part (length s - k) k s)) → k ≤ length s → length s ≤ at + k
      → now ≡ (is_seven_bit largest₀ && is_seven_bit s)
  gathered_last now before at k e n l h =
      let b = length s - k in
      let r : part b k s ≡ drop b s = take_all k (drop b s) (simp length-drop (omega arith)) in
      n
      ∙ ap (λ (q : Bool). q && is_seven_bit (part b k s)) e
      ∙ and_assoc (is_seven_bit largest₀) (is_seven_bit (take at s)) (is_seven_bit (part b k s))
      ∙ ap (λ (t : List ℕ). is_seven_bit largest₀ && (is_seven_bit (take at s) && is_seven_bit t)) r
      ∙ ap (λ (q : Bool). is_seven_bit largest₀ && q) (cover s at b (omega arith))
