-- The first place that waits, going round: there is one where any waits, and it is not past that one.
-- Assumes nothing.
use Prim.Native.Nat.{ℕ, zero, suc, ◌+◌, ◌-◌, ◌%◌, ◌<◌, ◌≤◌}
use mathlib.Core.Bool.{true, false}
use mathlib.Core.List.{List, [], ◌∷◌}
use mathlib.Core.Logic.{◌⊎◌, inl, inr}
use Rattle.std.specs.Prelude.{Some}
use mathlib.Core.Path.{◌≡◌, ap}
use native.Mathlib.Omega.{arith}
use borrow.Author.Tests.{leb-true, leb-false}
use lib.Dec.{leb}
use lib.ListN.{length, get_or}
use Rattle.seven_bit.proofs.ReplyLaws.{both}
use Rattle.pe_stage.specs.Stage.{Place, free_place, is_free, first_waiting}

-- how many places, going round from one, are asked before p
abbrev pub distance : ℕ → ℕ → ℕ
distance p from = (p + 16 - from) % 16

-- a place that waits is one of them
pub low : (places : List Place) (p : ℕ) → is_free (get_or places p free_place) ≡ false → p < length places
low [] p w = absurd (let z : ◌≡◌ {A = ℕ} 0 1 = cc in omega arith)
low (x ∷ places) zero w = omega arith
low (x ∷ places) (suc p) w = let l = low places p w in omega arith

apart : (places : List Place) (p q : ℕ) → is_free (get_or places p free_place) ≡ false → is_free (get_or places q free_place) ≡ true → p ≡ q → ⊥
apart places p q w f e = let z : ◌≡◌ {A = ℕ} 0 1 = cc in omega arith

-- one place on
distance_next : (q from : ℕ) → q < 16 → from < 16 → (q ≡ from → ⊥) → distance q from ≡ suc (distance q ((from + 1) % 16))
distance_next q from a b n = omega arith

-- from a place that is not past p it is no farther
distance_wrap : (p from : ℕ) → p < 16 → from < 16 → ((from ≤ p) × (distance p from + from ≡ p)) ⊎ ((p < from) × (distance p from + from ≡ p + 16))
distance_wrap p from a b = go (both (leb from p))
  where
    go : (leb from p ≡ true) ⊎ (leb from p ≡ false) → ((from ≤ p) × (distance p from + from ≡ p)) ⊎ ((p < from) × (distance p from + from ≡ p + 16))
    go (inl e) = let l = leb-true from p e in inl (l, omega arith)
    go (inr e) = let l = leb-false from p e in inr (l, omega arith)

distance_from : (p q from : ℕ) → p < 16 → q < 16 → from < 16 → distance q from ≤ distance p from → distance p q ≤ distance p from
distance_from p q from a b c l =
    go (distance p q) (distance q from) (distance p from) (distance_wrap p q a b) (distance_wrap q from b c) (distance_wrap p from a c) l
  where
    go : (x y z : ℕ) → ((q ≤ p) × (x + q ≡ p)) ⊎ ((p < q) × (x + q ≡ p + 16)) → ((from ≤ q) × (y + from ≡ q)) ⊎ ((q < from) × (y + from ≡ q + 16))
        → ((from ≤ p) × (z + from ≡ p)) ⊎ ((p < from) × (z + from ≡ p + 16)) → y ≤ z → x ≤ z
    go x y z (inl d) (inl e) (inl f) l = omega arith
    go x y z (inl d) (inl e) (inr f) l = omega arith
    go x y z (inl d) (inr e) (inl f) l = omega arith
    go x y z (inl d) (inr e) (inr f) l = omega arith
    go x y z (inr d) (inl e) (inl f) l = omega arith
    go x y z (inr d) (inl e) (inr f) l = omega arith
    go x y z (inr d) (inr e) (inl f) l = omega arith
    go x y z (inr d) (inr e) (inr f) l = omega arith

-- after the turn of a place that is not past p, and not p, p is nearer
pub distance_less : (p q from turn : ℕ) → p < 16 → q < 16 → from < 16 → (p ≡ q → ⊥) → turn ≡ (q + 1) % 16 → distance q from ≤ distance p from
    → distance p (turn % 16) < distance p from
distance_less p q from turn a b c n e l =
    let t : turn % 16 ≡ (q + 1) % 16 = omega arith in
    go _ _ (ap (distance p) t) (distance_next p q a b n) (distance_from p q from a b c l)
  where
    go : (x y : ℕ) → x ≡ y → distance p q ≡ suc y → distance p q ≤ distance p from → x < distance p from
    go x y e f g = steps e f g
      where
        steps : {u v : ℕ} → x ≡ y → u ≡ suc y → u ≤ v → x < v
        steps e f g = omega arith

pub record Found (places : List Place) (more from p : ℕ) : Type 0 where
  pub q : ℕ
  pub is : first_waiting places more from ≡ Some q
  pub under : q < 16
  pub busy : is_free (get_or places q free_place) ≡ false
  pub near : distance q from ≤ distance p from

pub found : (places : List Place) (more from p : ℕ) → from < 16 → p < 16 → is_free (get_or places p free_place) ≡ false → distance p from < more
    → Found places more from p
unfolding first_waiting
found places zero from p a b w l = absurd (omega arith)
found places (suc more) from p a b w l =
    go (both (is_free (get_or places from free_place))) (λ n. found places more ((from + 1) % 16) p (omega arith) b w (nearer n))
  where
    nearer : (p ≡ from → ⊥) → distance p ((from + 1) % 16) < more
    nearer n = let e = distance_next p from b a n in omega arith

    go : (is_free (get_or places from free_place) ≡ true) ⊎ (is_free (get_or places from free_place) ≡ false)
        → ((p ≡ from → ⊥) → Found places more ((from + 1) % 16) p) → Found places (suc more) from p
    go (inl e) next =
        let n = apart places p from w e in
        let r = next n in
        let m = apart places r.q from r.busy e in
        record { q = r.q; is = rw e r.is; under = r.under; busy = r.busy; near = closer r.q n m r.under r.near }
      where
        closer : (q : ℕ) → (p ≡ from → ⊥) → (q ≡ from → ⊥) → q < 16 → distance q ((from + 1) % 16) ≤ distance p ((from + 1) % 16)
            → distance q from ≤ distance p from
        closer q n m u h = steps (distance_next p from b a n) (distance_next q from u a m) h
          where
            steps : {x y z w : ℕ} → x ≡ suc y → z ≡ suc w → w ≤ y → z ≤ x
            steps e f g = omega arith
    go (inr e) next = record { q = from; is = rw e; under = a; busy = e; near = omega arith }
