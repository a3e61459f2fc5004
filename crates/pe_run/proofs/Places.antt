-- The first place in a list whose element a test takes.
-- Assumes nothing.
use Prim.Native.Nat.{◌<◌}
use mathlib.Core.Bool.{Bool, true, false}
use mathlib.Core.List.{List, [], ◌∷◌, ◌++◌}
use mathlib.Core.Logic.{◌⊎◌, inl, inr}
use Rattle.std.specs.Prelude.{None, Some}
use mathlib.Core.Path.{◌≡◌, refl, sym, ap, ◌∙◌, subst}
use lib.ListN.{length, length-append, get_or, set}
use lib.Seq.{get_or-append_seam, set-append_seam}
use Rattle.seven_bit.proofs.ReplyLaws.{both}
use Rattle.pe_run.specs.Lists.{tally}
use Rattle.pe_run.proofs.ListLaws.{All, NoneOf, all_second, all_change, tally_short}
use Rattle.pe_run.proofs.Value.{place, on_first}

-- ---- a list in which a test takes an element, at the first of them
pub record Split {A : Type 0} (test : A → Bool) (l : List A) : Type 0 where
  pub before : List A
  pub hit : A
  pub after : List A
  pub parts : l ≡ before ++ hit ∷ after
  pub passes : test hit ≡ true
  pub fails : NoneOf test before

module _ {A : Type 0} (test : A → Bool) where
  pub view : (l : List A) → NoneOf test l ⊎ Split test l
  view [] = inl tt
  view (x ∷ l) = go (both (test x)) (view l)
    where
      go : (test x ≡ true) ⊎ (test x ≡ false) → NoneOf test l ⊎ Split test l → NoneOf test (x ∷ l) ⊎ Split test (x ∷ l)
      go (inl a) v = inr (record { before = []; hit = x; after = l; parts = refl; passes = a; fails = tt })
      go (inr a) (inl v) = inl (a, v)
      go (inr a) (inr s) =
          inr (record {
            before = x ∷ s.before;
            hit = s.hit;
            after = s.after;
            parts = ap (λ (m : List A). x ∷ m) s.parts;
            passes = s.passes;
            fails = (a, s.fails);
          })

  pub place_absent : (l : List A) → NoneOf test l → place test l ≡ None
  place_absent [] a = refl
  place_absent (x ∷ l) a = rw (a.0, place_absent l a.1)

  pub on_first_absent : (g : A → A) (l : List A) → NoneOf test l → on_first test g l ≡ l
  on_first_absent g [] a = refl
  on_first_absent g (x ∷ l) a = rw a.0 (ap (λ (m : List A). x ∷ m) (on_first_absent g l a.1))

-- the list by its parts
module _ {A : Type 0} {test : A → Bool} {l : List A} (s : Split test l) where
  pub split_place : place test l ≡ Some (length s.before)
  split_place = ap (place test) s.parts ∙ go s.before s.fails
    where
      go : (xs : List A) → NoneOf test xs → place test (xs ++ s.hit ∷ s.after) ≡ Some (length xs)
      go [] a = rw s.passes
      go (x ∷ xs) a = rw (a.0, go xs a.1)

  pub split_on_first : (g : A → A) → on_first test g l ≡ s.before ++ g s.hit ∷ s.after
  split_on_first g = ap (on_first test g) s.parts ∙ go s.before s.fails
    where
      go : (xs : List A) → NoneOf test xs → on_first test g (xs ++ s.hit ∷ s.after) ≡ xs ++ g s.hit ∷ s.after
      go [] a = rw s.passes
      go (x ∷ xs) a = rw a.0 (ap (λ (m : List A). x ∷ m) (go xs a.1))

  pub split_get_d : (d : A) → get_or l (length s.before) d ≡ s.hit
  split_get_d d = ap (λ (m : List A). get_or m (length s.before) d) s.parts ∙ get_or-append_seam s.before s.hit s.after d

  pub split_set : (y : A) → set l (length s.before) y ≡ s.before ++ y ∷ s.after
  split_set y = ap (λ (m : List A). set m (length s.before) y) s.parts ∙ set-append_seam s.before s.hit s.after y

  pub split_length : (y : A) → length (s.before ++ y ∷ s.after) ≡ length l
  split_length y = length-append s.before (y ∷ s.after) ∙ sym (ap length s.parts ∙ length-append s.before (s.hit ∷ s.after))

  pub split_hit : (P : A → Type 0) → All P l → P s.hit
  split_hit P a = (all_second P s.before (s.hit ∷ s.after) (subst (All P) s.parts a)).0

  pub split_all : (P : A → Type 0) (y : A) → All P l → P y → All P (s.before ++ y ∷ s.after)
  split_all P y a h = all_change P s.before s.hit s.after y (subst (All P) s.parts a) h

  -- one that a test does not take
  pub split_short : (other : A → Bool) → other s.hit ≡ false → tally other l < length l
  split_short other h =
      subst (λ (m : List A). tally other m < length m) (sym s.parts) (tally_short other s.before s.hit s.after h)
