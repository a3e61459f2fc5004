-- The laws of lists whose element at each place is told by a function, and of the first place that a test takes.
-- Assumes nothing.
use Prim.Native.Nat.{ℕ, zero, suc, ◌+◌, ◌<◌, ◌≤◌}
use mathlib.Core.Bool.{Bool, true, false, cond}
use mathlib.Core.List.{List, [], ◌∷◌, map}
use Rattle.std.specs.Prelude.{Option, None, Some}
use mathlib.Core.Path.{◌≡◌, refl, sym, ap, ap₂, ◌∙◌, subst}
use native.Mathlib.Nat.{add-zero, zero-add}
use native.Mathlib.Omega.{arith}
use lib.ListN.{get_or, set, replicate}
use Rattle.pe_reassembler.specs.Table.{first_from, first}
use Rattle.pe_run.proofs.Value.{up, place, on_first}

-- k elements, those of the places from i on
unfoldable pub tab : {A : Type 0} → (ℕ → A) → ℕ → ℕ → List A
tab f i zero = []
tab f i (suc k) = f i ∷ tab f (suc i) k

module _ {A : Type 0} where
  -- the lists of two functions that agree, agree
  pub tab_same : (f g : ℕ → A) (i k : ℕ) → ((p : ℕ) → i ≤ p → p < i + k → f p ≡ g p) → tab f i k ≡ tab g i k
  unfolding tab
  tab_same f g i zero h = refl
  tab_same f g i (suc k) h =
      ap₂ (λ (x : A) (l : List A). x ∷ l) (h i (omega arith) (omega arith)) (tab_same f g (suc i) k (λ p a b. h p (omega arith) (omega arith)))

  -- one element at every place
  pub tab_replicate : (f : ℕ → A) (x : A) (i k : ℕ) → ((p : ℕ) → p < i + k → f p ≡ x) → tab f i k ≡ replicate k x
  unfolding tab
  tab_replicate f x i zero h = refl
  tab_replicate f x i (suc k) h = ap₂ (λ (y : A) (l : List A). y ∷ l) (h i (omega arith)) (tab_replicate f x (suc i) k (λ p l. h p (omega arith)))

  pub tab_at : (f : ℕ → A) (i k j : ℕ) (d : A) → j < k → get_or (tab f i k) j d ≡ f (i + j)
  unfolding tab
  tab_at f i zero j d l = absurd (omega arith)
  tab_at f i (suc k) zero d l = ap f (sym (add-zero i))
  tab_at f i (suc k) (suc j) d l =
      let e : suc i + j ≡ i + suc j = omega arith in
      tab_at f (suc i) k j d (omega arith) ∙ ap f e

  -- one place changed
  pub tab_set : (f g : ℕ → A) (i k j : ℕ) → j < k → ((p : ℕ) → i ≤ p → p < i + k → (p ≡ i + j → ⊥) → g p ≡ f p) → tab g i k ≡ set (tab f i k) j (g (i + j))
  unfolding tab
  tab_set f g i zero j l h = absurd (omega arith)
  tab_set f g i (suc k) zero l h =
      ap₂ (λ (x : A) (xs : List A). x ∷ xs) (ap g (sym (add-zero i))) (tab_same g f (suc i) k (λ p a b. h p (omega arith) (omega arith) (λ e. omega arith)))
  tab_set f g i (suc k) (suc j) l h =
      let e : suc i + j ≡ i + suc j = omega arith in
      ap₂ (λ (x : A) (xs : List A). x ∷ xs) (h i (omega arith) (omega arith) (λ q. omega arith))
      (tab_set f g (suc i) k j (omega arith) (λ p a b n. h p (omega arith) (omega arith) (λ q. n (omega arith)))
      ∙ ap (λ (x : ℕ). set (tab f (suc i) k) j (g x)) e)

  -- every place changed
  pub tab_map : (f g : ℕ → A) (change : A → A) (i k : ℕ) → ((p : ℕ) → p < i + k → g p ≡ change (f p)) → tab g i k ≡ map change (tab f i k)
  unfolding tab
  tab_map f g change i zero h = refl
  tab_map f g change i (suc k) h = ap₂ (λ (x : A) (xs : List A). x ∷ xs) (h i (omega arith)) (tab_map f g change (suc i) k (λ p l. h p (omega arith)))

-- the first place of the list, from i on
abbrev from : ℕ → Option ℕ → Option ℕ
from i None = None
from i (Some j) = Some (i + j)

from_up : (i : ℕ) (o : Option ℕ) → from (suc i) o ≡ from i (up o)
from_up i None = refl
from_up i (Some j) =
    let e : suc i + j ≡ i + suc j = omega arith in
    ap (λ (x : ℕ). Some x) e

from_start : (o : Option ℕ) → from 0 o ≡ o
from_start None = refl
from_start (Some j) = ap (λ (x : ℕ). Some x) (zero-add j)

module _ {A : Type 0} (test : A → Bool) where
  -- a search by place is the search in the list
  search_from : (f : ℕ → A) (ask : ℕ → Bool) (i k : ℕ) → ((p : ℕ) → p < i + k → ask p ≡ test (f p)) → first_from ask i k ≡ from i (place test (tab f i k))
  unfolding first_from tab
  search_from f ask i zero h = refl
  search_from f ask i (suc k) h =
      rw (h i (omega arith), search_from f ask (suc i) k (λ p l. h p (omega arith))) (go (test (f i)))
    where
      go : (b : Bool) → cond b (Some i) (from (suc i) (place test (tab f (suc i) k))) ≡ from i (cond b (Some 0) (up (place test (tab f (suc i) k))))
      go true = ap (λ (x : ℕ). Some x) (sym (add-zero i))
      go false = from_up i (place test (tab f (suc i) k))

  pub search : (f : ℕ → A) (ask : ℕ → Bool) (k : ℕ) → ((p : ℕ) → p < k → ask p ≡ test (f p)) → first ask k ≡ place test (tab f 0 k)
  search f ask k h = search_from f ask 0 k (λ p l. h p (omega arith)) ∙ from_start (place test (tab f 0 k))

  -- what the first place's change is
  pub first_at : (g : A → A) (d : A) (l : List A) (i : ℕ) → place test l ≡ Some i → on_first test g l ≡ set l i (g (get_or l i d))
  first_at g d [] i e = cc
  first_at g d (x ∷ l) i e = go (test x) (place test l) refl e (first_at g d l)
    where
      go : (b : Bool) (o : Option ℕ) → place test l ≡ o → cond b (Some 0) (up o) ≡ Some i
          → ((j : ℕ) → place test l ≡ Some j → on_first test g l ≡ set l j (g (get_or l j d)))
          → cond b (g x ∷ l) (x ∷ on_first test g l) ≡ set (x ∷ l) i (g (get_or (x ∷ l) i d))
      go true o w q r = subst (λ (j : ℕ). g x ∷ l ≡ set (x ∷ l) j (g (get_or (x ∷ l) j d))) (let z : 0 ≡ i = cc in z) refl
      go false None w q r = cc
      go false (Some j) w q r =
          subst (λ (k : ℕ). x ∷ on_first test g l ≡ set (x ∷ l) k (g (get_or (x ∷ l) k d))) (let z : suc j ≡ i = cc in z) (ap (λ (m : List A). x ∷ m) (r j w))

  pub first_none : (g : A → A) (l : List A) → place test l ≡ None → on_first test g l ≡ l
  first_none g [] e = refl
  first_none g (x ∷ l) e = go (test x) (place test l) refl e (first_none g l)
    where
      go : (b : Bool) (o : Option ℕ) → place test l ≡ o → cond b (Some 0) (up o) ≡ None
          → (place test l ≡ None → on_first test g l ≡ l) → cond b (g x ∷ l) (x ∷ on_first test g l) ≡ x ∷ l
      go true o w q r = cc
      go false None w q r = ap (λ (m : List A). x ∷ m) (r w)
      go false (Some j) w q r = cc
