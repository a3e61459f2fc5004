-- Laws of one list in two orders.
-- Assumes nothing.
use Prim.Native.Nat.{ℕ, suc, ◌+◌}
use mathlib.Core.Bool.{Bool, true, false, cond}
use mathlib.Core.List.{List, [], ◌∷◌, ◌++◌, map}
use mathlib.Core.Logic.{◌⊎◌, inl, inr}
use mathlib.Core.Path.{◌≡◌, refl, sym, ap, ap₂, ◌∙◌}
use native.Mathlib.Omega.{arith}
use borrow.Author.Tests.{eqb-true}
use lib.Dec.{eqb}
use lib.ListN.{length}
use Rattle.seven_bit.proofs.ReplyLaws.{both}
use Rattle.pe_run.specs.Lists.{keep, tally, memb, different, Perm, empty, skip, swap, then}
use Rattle.pe_run.proofs.ListLaws.{eqb_sym, or_false_left, or_false_right, All, Distinct}

module _ {A : Type 0} where
  pub perm_refl : (xs : List A) → Perm xs xs
  perm_refl [] = empty
  perm_refl (x ∷ xs) = skip (perm_refl xs)

  pub perm_sym : {xs ys : List A} → Perm xs ys → Perm ys xs
  perm_sym empty = empty
  perm_sym (skip p) = skip (perm_sym p)
  perm_sym swap = swap
  perm_sym (then p q) = then (perm_sym q) (perm_sym p)

  pub perm_append_left : (l : List A) {xs ys : List A} → Perm xs ys → Perm (l ++ xs) (l ++ ys)
  perm_append_left [] p = p
  perm_append_left (x ∷ l) p = skip (perm_append_left l p)

  pub perm_append_right : {xs ys : List A} (l : List A) → Perm xs ys → Perm (xs ++ l) (ys ++ l)
  perm_append_right l empty = perm_refl l
  perm_append_right l (skip p) = skip (perm_append_right l p)
  perm_append_right l swap = swap
  perm_append_right l (then p q) = then (perm_append_right l p) (perm_append_right l q)

  pub perm_middle : (x : A) (xs ys : List A) → Perm (xs ++ x ∷ ys) (x ∷ (xs ++ ys))
  perm_middle x [] ys = perm_refl (x ∷ ys)
  perm_middle x (z ∷ xs) ys = then (skip (perm_middle x xs ys)) swap

  -- what is built from each element in turn, where two may change places
  pub perm_fold : {B : Type 0} (f : A → B → B) → ((x y : A) (z : B) → f x (f y z) ≡ f y (f x z))
      → (g : List A → B) → ((x : A) (xs : List A) → g (x ∷ xs) ≡ f x (g xs)) → {xs ys : List A} → Perm xs ys → g xs ≡ g ys
  perm_fold f turn g each empty = refl
  perm_fold f turn g each (skip {x = x} {xs = xs} {ys = ys} p) = each x xs ∙ ap (f x) (perm_fold f turn g each p) ∙ sym (each x ys)
  perm_fold f turn g each (swap {x = x} {y = y} {xs = xs}) =
      each x (y ∷ xs) ∙ ap (f x) (each y xs) ∙ turn x y (g xs) ∙ sym (each y (x ∷ xs) ∙ ap (f y) (each x xs))
  perm_fold f turn g each (then p q) = perm_fold f turn g each p ∙ perm_fold f turn g each q

  pub perm_sum : (weight : A → ℕ) (sum : List A → ℕ) → ((x : A) (xs : List A) → sum (x ∷ xs) ≡ weight x + sum xs) → {xs ys : List A} → Perm xs ys
      → sum xs ≡ sum ys
  perm_sum weight sum each p = perm_fold (λ (x : A) (n : ℕ). weight x + n) (λ x y n. turn (weight x) (weight y) n) sum each p
    where
      turn : (a b n : ℕ) → a + (b + n) ≡ b + (a + n)
      turn a b n = omega arith

  pub perm_length : {xs ys : List A} → Perm xs ys → length xs ≡ length ys
  perm_length p = perm_fold (λ (x : A) (n : ℕ). suc n) (λ x y n. refl) length (λ x xs. refl) p

  pub perm_tally : (test : A → Bool) {xs ys : List A} → Perm xs ys → tally test xs ≡ tally test ys
  perm_tally test p = perm_fold (λ (x : A) (n : ℕ). cond (test x) (suc n) n) (λ x y n. turn (test x) (test y) n) (tally test) (λ x xs. refl) p
    where
      turn : (a b : Bool) (n : ℕ) → cond a (suc (cond b (suc n) n)) (cond b (suc n) n) ≡ cond b (suc (cond a (suc n) n)) (cond a (suc n) n)
      turn true true n = refl
      turn true false n = refl
      turn false true n = refl
      turn false false n = refl

  pub perm_all : (P : A → Type 0) {xs ys : List A} → Perm xs ys → All P xs → All P ys
  perm_all P empty a = a
  perm_all P (skip p) a = (a.0, perm_all P p a.1)
  perm_all P swap a = (a.1.0, (a.0, a.1.1))
  perm_all P (then p q) a = perm_all P q (perm_all P p a)

  pub perm_keep : (test : A → Bool) {xs ys : List A} → Perm xs ys → Perm (keep test xs) (keep test ys)
  perm_keep test empty = empty
  perm_keep test (skip {x = x} {xs = xs} {ys = ys} p) = go (test x) (perm_keep test p)
    where
      go : (a : Bool) → Perm (keep test xs) (keep test ys) → Perm (cond a (x ∷ keep test xs) (keep test xs)) (cond a (x ∷ keep test ys) (keep test ys))
      go true q = skip q
      go false q = q
  perm_keep test (swap {x = x} {y = y} {xs = xs}) = go (test x) (test y) (keep test xs)
    where
      go : (a b : Bool) (l : List A) → Perm (cond a (x ∷ cond b (y ∷ l) l) (cond b (y ∷ l) l)) (cond b (y ∷ cond a (x ∷ l) l) (cond a (x ∷ l) l))
      go true true l = swap
      go true false l = perm_refl (x ∷ l)
      go false true l = perm_refl (y ∷ l)
      go false false l = perm_refl l
  perm_keep test (then p q) = then (perm_keep test p) (perm_keep test q)

pub perm_map : {A B : Type 0} (f : A → B) {xs ys : List A} → Perm xs ys → Perm (map f xs) (map f ys)
perm_map f empty = empty
perm_map f (skip p) = skip (perm_map f p)
perm_map f swap = swap
perm_map f (then p q) = then (perm_map f p) (perm_map f q)

pub perm_memb : (n : ℕ) {xs ys : List ℕ} → Perm xs ys → memb n xs ≡ memb n ys
perm_memb n p = perm_fold (λ (x : ℕ) (b : Bool). cond (eqb n x) true b) (λ x y b. turn (eqb n x) (eqb n y) b) (memb n) (λ x xs. refl) p
  where
    turn : (a b c : Bool) → cond a true (cond b true c) ≡ cond b true (cond a true c)
    turn true true c = refl
    turn true false c = refl
    turn false true c = refl
    turn false false c = refl

pub perm_different : {xs ys : List ℕ} → Perm xs ys → different xs ≡ different ys
perm_different empty = refl
perm_different (skip {x = x} p) = ap₂ (λ (b : Bool) (n : ℕ). cond b n (suc n)) (perm_memb x p) (perm_different p)
perm_different (swap {x = x} {y = y} {xs = xs}) = go (both (eqb x y)) (both (memb x xs)) (both (memb y xs))
  where
    go : (eqb x y ≡ true) ⊎ (eqb x y ≡ false) → (memb x xs ≡ true) ⊎ (memb x xs ≡ false) → (memb y xs ≡ true) ⊎ (memb y xs ≡ false)
        → different (x ∷ y ∷ xs) ≡ different (y ∷ x ∷ xs)
    go (inl e) b c =
        let same = eqb-true x y e in
        ap (λ (z : ℕ). different (z ∷ y ∷ xs)) same ∙ ap (λ (z : ℕ). different (y ∷ z ∷ xs)) (sym same)
    go (inr e) (inl b) (inl c) = rw (eqb_sym y x, e, b, c)
    go (inr e) (inl b) (inr c) = rw (eqb_sym y x, e, b, c)
    go (inr e) (inr b) (inl c) = rw (eqb_sym y x, e, b, c)
    go (inr e) (inr b) (inr c) = rw (eqb_sym y x, e, b, c)
perm_different (then p q) = perm_different p ∙ perm_different q

neither : (a b : Bool) → a ≡ false → b ≡ false → cond a true b ≡ false
neither a b p q = rw (p, q)

pub perm_distinct : {xs ys : List ℕ} → Perm xs ys → Distinct xs → Distinct ys
perm_distinct empty d = d
perm_distinct (skip {x = x} p) d = (sym (perm_memb x p) ∙ d.0, perm_distinct p d.1)
perm_distinct (swap {x = x} {y = y} {xs = xs}) d = (
  neither (eqb y x) (memb y xs) (eqb_sym y x ∙ or_false_left (eqb x y) (memb x xs) d.0) d.1.0,
  (or_false_right (eqb x y) (memb x xs) d.0, d.1.1),
)
perm_distinct (then p q) d = perm_distinct q (perm_distinct p d)
