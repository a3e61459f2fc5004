-- Laws of tests, and of lists with tests.
-- Assumes nothing.
use Prim.Native.Nat.{ℕ, suc, ◌+◌, ◌≤◌, ◌<◌}
use mathlib.Core.Bool.{Bool, true, false, cond, not}
use mathlib.Core.List.{List, [], ◌∷◌, ◌++◌}
use mathlib.Core.Logic.{◌⊎◌, inl, inr}
use mathlib.Core.Path.{◌≡◌, refl, sym, ap, ◌∙◌}
use native.Mathlib.Omega.{arith}
use borrow.Author.Tests.{eqb-true, eqb-false, eq-eqb, ne_eqb}
use lib.Dec.{eqb}
use lib.ListN.{length, length-append}
use Rattle.seven_bit.proofs.ReplyLaws.{both}
use Rattle.pe_run.specs.Lists.{keep, tally, memb}

pub eqb_self : (n : ℕ) → eqb n n ≡ true
eqb_self n = eq-eqb n n refl

pub eqb_sym : (a b : ℕ) → eqb a b ≡ eqb b a
eqb_sym a b = go (both (eqb a b))
  where
    go : (eqb a b ≡ true) ⊎ (eqb a b ≡ false) → eqb a b ≡ eqb b a
    go (inl e) = e ∙ sym (eq-eqb b a (sym (eqb-true a b e)))
    go (inr e) = e ∙ sym (ne_eqb b a (λ h. eqb-false a b e (sym h)))

-- a test is not both true and false
pub never : {A : Type 0} → true ≡ false → A
never e = absurd (let z : ◌≡◌ {A = ℕ} 0 1 = cc in omega arith)

-- not the one and not the other
pub or_false_left : (a b : Bool) → cond a true b ≡ false → a ≡ false
or_false_left true b e = e
or_false_left false b e = refl

pub or_false_right : (a b : Bool) → cond a true b ≡ false → b ≡ false
or_false_right true b e = never e
or_false_right false b e = e

-- each element has the property
abbrev pub All : {A : Type 0} → (A → Type 0) → List A → Type 0
All P [] = Unit {0}
All P (x ∷ xs) = P x × All P xs

-- a test takes none of them
abbrev pub NoneOf : {A : Type 0} → (A → Bool) → List A → Type 0
NoneOf test xs = All (λ x. test x ≡ false) xs

module _ {A : Type 0} (P : A → Type 0) where
  pub all_append : (xs ys : List A) → All P xs → All P ys → All P (xs ++ ys)
  all_append [] ys a b = b
  all_append (x ∷ xs) ys a b = (a.0, all_append xs ys a.1 b)

  pub all_first : (xs ys : List A) → All P (xs ++ ys) → All P xs
  all_first [] ys a = tt
  all_first (x ∷ xs) ys a = (a.0, all_first xs ys a.1)

  pub all_second : (xs ys : List A) → All P (xs ++ ys) → All P ys
  all_second [] ys a = a
  all_second (x ∷ xs) ys a = all_second xs ys a.1

  pub all_middle : (xs : List A) (x : A) (ys : List A) → All P (xs ++ x ∷ ys) → P x
  all_middle xs x ys a = (all_second xs (x ∷ ys) a).0

  -- one element is another one
  pub all_change : (xs : List A) (x : A) (ys : List A) (y : A) → All P (xs ++ x ∷ ys) → P y → All P (xs ++ y ∷ ys)
  all_change xs x ys y a h = all_append xs (y ∷ ys) (all_first xs (x ∷ ys) a) (h, (all_second xs (x ∷ ys) a).1)

module _ {A : Type 0} (test : A → Bool) where
  pub keep_append : (xs ys : List A) → keep test (xs ++ ys) ≡ keep test xs ++ keep test ys
  keep_append [] ys = refl
  keep_append (x ∷ xs) ys = go (test x) (keep_append xs ys)
    where
      go : (a : Bool) → keep test (xs ++ ys) ≡ keep test xs ++ keep test ys
          → cond a (x ∷ keep test (xs ++ ys)) (keep test (xs ++ ys)) ≡ cond a (x ∷ keep test xs) (keep test xs) ++ keep test ys
      go true e = ap (λ (l : List A). x ∷ l) e
      go false e = e

  pub tally_append : (xs ys : List A) → tally test (xs ++ ys) ≡ tally test xs + tally test ys
  tally_append [] ys = omega arith
  tally_append (x ∷ xs) ys = go (test x) (tally_append xs ys)
    where
      go : (a : Bool) → tally test (xs ++ ys) ≡ tally test xs + tally test ys
          → cond a (suc (tally test (xs ++ ys))) (tally test (xs ++ ys)) ≡ cond a (suc (tally test xs)) (tally test xs) + tally test ys
      go true e = omega arith
      go false e = e

  -- no more are left by another test
  pub tally_keep : (other : A → Bool) (xs : List A) → tally test (keep other xs) ≤ tally test xs
  tally_keep other [] = omega arith
  tally_keep other (x ∷ xs) = go (both (other x)) (both (test x)) (tally_keep other xs)
    where
      go : (other x ≡ true) ⊎ (other x ≡ false) → (test x ≡ true) ⊎ (test x ≡ false)
          → tally test (keep other xs) ≤ tally test xs → tally test (keep other (x ∷ xs)) ≤ tally test (x ∷ xs)
      go (inl a) (inl b) h = rw (a, b) (omega arith)
      go (inl a) (inr b) h = rw (a, b) h
      go (inr a) (inl b) h = rw (a, b) (omega arith)
      go (inr a) (inr b) h = rw (a, b) h

  tally_le : (xs : List A) → tally test xs ≤ length xs
  tally_le [] = omega arith
  tally_le (x ∷ xs) = go (test x) (tally_le xs)
    where
      go : (b : Bool) → tally test xs ≤ length xs → cond b (suc (tally test xs)) (tally test xs) ≤ suc (length xs)
      go true h = omega arith
      go false h = omega arith

  -- one that is not taken, and all of them
  pub tally_short : (xs : List A) (x : A) (ys : List A) → test x ≡ false → tally test (xs ++ x ∷ ys) < length (xs ++ x ∷ ys)
  tally_short xs x ys h =
      let here : tally test (x ∷ ys) ≡ tally test ys = rw h in
      omega (arith, tally_append xs (x ∷ ys), length-append xs (x ∷ ys), tally_le xs, tally_le ys)

-- what no test takes, its opposite takes
pub tally_all : {A : Type 0} (test : A → Bool) (xs : List A) → NoneOf test xs → tally (λ (x : A). not (test x)) xs ≡ length xs
tally_all test [] a = refl
tally_all test (x ∷ xs) a = rw a.0 (ap suc (tally_all test xs a.1))

pub memb_append : (n : ℕ) (xs ys : List ℕ) → memb n (xs ++ ys) ≡ cond (memb n xs) true (memb n ys)
memb_append n [] ys = refl
memb_append n (x ∷ xs) ys = go (eqb n x) (memb_append n xs ys)
  where
    go : (t : Bool) → memb n (xs ++ ys) ≡ cond (memb n xs) true (memb n ys) → cond t true (memb n (xs ++ ys)) ≡ cond (cond t true (memb n xs)) true (memb n ys)
    go true e = refl
    go false e = e

-- no number twice
abbrev pub Distinct : List ℕ → Type 0
Distinct [] = Unit {0}
Distinct (x ∷ xs) = (memb x xs ≡ false) × Distinct xs

-- none of those before it
pub distinct_middle : (xs : List ℕ) (x : ℕ) (ys : List ℕ) → Distinct (xs ++ x ∷ ys) → memb x xs ≡ false
distinct_middle [] x ys d = refl
distinct_middle (z ∷ xs) x ys d = rw differ (distinct_middle xs x ys d.1)
  where
    split : cond (memb z xs) true (memb z (x ∷ ys)) ≡ false
    split = sym (memb_append z xs (x ∷ ys)) ∙ d.0

    differ : eqb x z ≡ false
    differ = eqb_sym x z ∙ or_false_left (eqb z x) (memb z ys) (or_false_right (memb z xs) (memb z (x ∷ ys)) split)
