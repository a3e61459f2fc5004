-- The law of `eq_list`: it is the library's equality of lists.
-- Assumes nothing.
use Rattle.std.proofs.Common.{◌≡◌, ℕ, Bool, true, false, cond, ◌&&◌, eqb, List, [], ◌∷◌, refl}
use lib.Pointwise.{pointwise}
use Rattle.pe_slot.specs.Slot.{eq_list}

pub same_lists : (a b : List ℕ) → pointwise eqb a b ≡ eq_list a b
unfolding eq_list
same_lists [] [] = refl
same_lists [] (y ∷ ys) = refl
same_lists (x ∷ xs) [] = refl
same_lists (x ∷ xs) (y ∷ ys) = go (eqb x y) (same_lists xs ys)
  where
    go : (t : Bool) {p q : Bool} → p ≡ q → (t && p) ≡ cond t q false
    go true e = e
    go false e = refl
