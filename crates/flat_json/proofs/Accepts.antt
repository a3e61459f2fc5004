-- Matching as a test that antt computes.
-- Assumes nothing.
use Prim.Native.Nat.{ℕ}
use mathlib.Core.Bool.{Bool, true, false}
use mathlib.Core.List.{List, [], ◌∷◌}
use mathlib.Core.Path.{◌≡◌, refl, sym, ◌∙◌}
use mathlib.Core.Logic.{◌↔◌}
use Rattle.flat_json.specs.Abnf.{Abnf, Matches}
use Rattle.flat_json.proofs.Branches.{push}
use Rattle.flat_json.proofs.Follows.{Any, behind, behind_all, behind_only, all_branches, any_ends, any_all, any_only, any_ends_yes, any_ends_only, alone_in}
use Rattle.flat_json.proofs.Follows.{alone_out, one_out, one_in}

unfoldable pub accepted : List (List Abnf) → List ℕ → Bool
accepted xs [] = any_ends xs
accepted xs (b ∷ w) = accepted (behind b (all_branches xs)) w

unfoldable pub accepts : Abnf → List ℕ → Bool
accepts a w = accepted (push a [] ∷ []) w

accepted_yes : (xs : List (List Abnf)) (w : List ℕ) → accepted xs w ≡ true → Any xs w
unfolding accepted
accepted_yes xs [] e = any_ends_yes xs e
accepted_yes xs (b ∷ w) e = any_only xs b w (behind_only (all_branches xs) b w (accepted_yes (behind b (all_branches xs)) w e))

accepted_only : (xs : List (List Abnf)) (w : List ℕ) → Any xs w → accepted xs w ≡ true
unfolding accepted
accepted_only xs [] m = any_ends_only xs m
accepted_only xs (b ∷ w) m = accepted_only (behind b (all_branches xs)) w (behind_all (all_branches xs) b w (any_all xs b w m))

-- the test is right
pub accepts_law : (a : Abnf) (w : List ℕ) → (accepts a w ≡ true) ↔ Matches a w
unfolding accepts
accepts_law a w = (
  λ e. alone_out a w (one_out (push a []) w (accepted_yes (push a [] ∷ []) w e)),
  λ m. accepted_only (push a [] ∷ []) w (one_in (push a []) w (alone_in a w m)),
)

-- expressions that match the same texts give the same answers
pub same_answers : (a c : Abnf) → ((w : List ℕ) → Matches a w ↔ Matches c w) → (w : List ℕ) → accepts a w ≡ accepts c w
same_answers a c same w = go (accepts a w) (accepts c w) refl refl
  where
    go : (x y : Bool) → accepts a w ≡ x → accepts c w ≡ y → accepts a w ≡ accepts c w
    go true y e f = e ∙ sym ((accepts_law c w).1 ((same w).0 ((accepts_law a w).0 e)))
    go false true e f = (accepts_law a w).1 ((same w).1 ((accepts_law c w).0 f)) ∙ sym f
    go false false e f = e ∙ sym f
