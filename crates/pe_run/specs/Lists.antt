-- Lists with tests, and lists in another order.
-- Assumes nothing.
use Rattle.std.specs.Prelude.{ℕ, suc, Bool, true, false, cond, List, [], ◌∷◌, eqb}

module _ {A : Type 0} where
  -- Those that a test takes, in their order, and how many they are.
  abbrev pub keep : (A → Bool) → List A → List A
  keep test [] = []
  keep test (x ∷ xs) = cond (test x) (x ∷ keep test xs) (keep test xs)

  abbrev pub tally : (A → Bool) → List A → ℕ
  tally test [] = 0
  tally test (x ∷ xs) = cond (test x) (suc (tally test xs)) (tally test xs)

-- One list is the other in another order.
pub data Perm {A : Type 0} : List A → List A → Type 0 where
  empty : Perm [] []
  skip : {x : A} {xs ys : List A} → Perm xs ys → Perm (x ∷ xs) (x ∷ ys)
  swap : {x y : A} {xs : List A} → Perm (x ∷ y ∷ xs) (y ∷ x ∷ xs)
  then : {xs ys zs : List A} → Perm xs ys → Perm ys zs → Perm xs zs

-- Is the number in the list?
abbrev pub memb : ℕ → List ℕ → Bool
memb n [] = false
memb n (x ∷ xs) = cond (eqb n x) true (memb n xs)

-- How many different numbers there are.
abbrev pub different : List ℕ → ℕ
different [] = 0
different (x ∷ xs) = cond (memb x xs) (different xs) (suc (different xs))
