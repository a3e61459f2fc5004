-- The laws of the bytes at which reading stops.
-- Assumes nothing.
use Prim.Native.Nat.{ℕ, zero, suc, ◌+◌, ◌-◌, ◌≤◌, ◌<◌}
use mathlib.Core.Bool.{Bool, true, false, cond, ◌||◌}
use mathlib.Core.List.{List, [], ◌∷◌}
use mathlib.Core.Path.{◌≡◌, refl, sym, ◌∙◌}
use native.Mathlib.Numerals.{add-one}
use native.Mathlib.Omega.{arith}
use lib.ListN.{length, get_or, take, drop, length-drop}
use lib.Seq.{drop-cons, drop-drop}
use Rattle.syx.specs.Scan.{stops, has_stop, stop_len}

-- ---- the loop that asks
pub asked_next : (inside found : Bool) (s : List ℕ) (i : ℕ) → i < length s
    → (found || has_stop inside (drop i s)) ≡ ((found || stops inside (get_or s i 0)) || has_stop inside (drop (i + 1) s))
unfolding has_stop
asked_next inside true s i h = refl
asked_next inside false s i h = rw (drop-cons s i 0 h, add-one i)

pub asked_all : (inside found : Bool) (bs : List ℕ) → bs ≡ [] → (found || has_stop inside bs) ≡ found
unfolding has_stop
asked_all inside true bs e = refl
asked_all inside false bs e = rw e

-- ---- how far the next one is
pub stop_within : (inside : Bool) (s : List ℕ) → stop_len inside s ≤ length s
unfolding stop_len
stop_within inside [] = omega arith
stop_within inside (b ∷ bs) = go (stops inside b) (stop_within inside bs)
  where
    go : (t : Bool) → stop_len inside bs ≤ length bs → cond t 0 (suc (stop_len inside bs)) ≤ suc (length bs)
    go true h = omega arith
    go false h = omega arith

-- none among the first k bytes, and one among them
pub none_in_front : (inside : Bool) (k : ℕ) (s : List ℕ) → k ≤ length s → has_stop inside (take k s) ≡ false → stop_len inside s ≡ k + stop_len inside (drop k s)
unfolding has_stop stop_len
none_in_front inside zero s h e = omega arith
none_in_front inside (suc k) [] h e = absurd (omega arith)
none_in_front inside (suc k) (b ∷ bs) h e = go (stops inside b) e (λ (n : has_stop inside (take k bs) ≡ false). none_in_front inside k bs (omega arith) n)
  where
    go : (t : Bool) → (t || has_stop inside (take k bs)) ≡ false → (has_stop inside (take k bs) ≡ false → stop_len inside bs ≡ k + stop_len inside (drop k bs))
        → cond t 0 (suc (stop_len inside bs)) ≡ suc k + stop_len inside (drop k bs)
    go true n below = absurd (let z : ◌≡◌ {A = ℕ} 0 1 = cc in omega arith)
    go false n below = let r = below n in omega arith

pub one_in_front : (inside : Bool) (k : ℕ) (s : List ℕ) → has_stop inside (take k s) ≡ true → stop_len inside s < k
unfolding has_stop stop_len
one_in_front inside zero s e = absurd (let z : ◌≡◌ {A = ℕ} 0 1 = cc in omega arith)
one_in_front inside (suc k) [] e = absurd (let z : ◌≡◌ {A = ℕ} 0 1 = cc in omega arith)
one_in_front inside (suc k) (b ∷ bs) e = go (stops inside b) e (λ (y : has_stop inside (take k bs) ≡ true). one_in_front inside k bs y)
  where
    go : (t : Bool) → (t || has_stop inside (take k bs)) ≡ true → (has_stop inside (take k bs) ≡ true → stop_len inside bs < k) → cond t 0 (suc (stop_len inside bs)) < suc k
    go true y below = omega arith
    go false y below = let r = below y in omega arith

-- where it is, there is such a byte
pub stop_there : (inside : Bool) (s : List ℕ) → stop_len inside s < length s → stops inside (get_or s (stop_len inside s) 0) ≡ true
unfolding stop_len
stop_there inside [] h = absurd (omega arith)
stop_there inside (b ∷ bs) h = go (stops inside b) refl h (stop_there inside bs)
  where
    go : (t : Bool) → stops inside b ≡ t → cond t 0 (suc (stop_len inside bs)) < suc (length bs)
        → (stop_len inside bs < length bs → stops inside (get_or bs (stop_len inside bs) 0) ≡ true)
        → stops inside (get_or (b ∷ bs) (cond t 0 (suc (stop_len inside bs))) 0) ≡ true
    go true e l below = e
    go false e l below = below (omega arith)

-- what is passed is passed for good
pub stop_passed : (inside : Bool) (s : List ℕ) → stop_len inside (drop (stop_len inside s) s) ≡ 0
unfolding stop_len
stop_passed inside [] = refl
stop_passed inside (b ∷ bs) = go (stops inside b) refl (stop_passed inside bs)
  where
    go : (t : Bool) → stops inside b ≡ t → stop_len inside (drop (stop_len inside bs) bs) ≡ 0
        → stop_len inside (drop (cond t 0 (suc (stop_len inside bs))) (b ∷ bs)) ≡ 0
    go true e below = rw e
    go false e below = below

-- ---- a block from a place of the file on
module _ (inside : Bool) (file : List ℕ) (i block n : ℕ) (n= : n ≡ block) {b : Bool} (b= : b ≡ has_stop inside (take n (drop i file))) where
  pub block_passed : i + block ≤ length file → b ≡ false → i + block + stop_len inside (drop (i + block) file) ≡ i + stop_len inside (drop i file)
  block_passed h e =
      let none : has_stop inside (take block (drop i file)) ≡ false = rw n= at (sym b= ∙ e) in
      let d : drop block (drop i file) ≡ drop (i + block) file = drop-drop block i file in
      let r : stop_len inside (drop i file) ≡ block + stop_len inside (drop block (drop i file)) = none_in_front inside block (drop i file) (simp length-drop (omega arith)) none in
      let r' : stop_len inside (drop i file) ≡ block + stop_len inside (drop (i + block) file) = rw d at r in
      omega arith

  pub block_holds : b ≡ true → stop_len inside (drop i file) < block
  block_holds e = one_in_front inside block (drop i file) (rw n= at (sym b= ∙ e))

-- near the file's end
pub end_near : (inside : Bool) (file : List ℕ) (i block : ℕ) → length file - i < block → stop_len inside (drop i file) < block
end_near inside file i block h = let w : stop_len inside (drop i file) ≤ length (drop i file) = stop_within inside (drop i file) in omega (arith, length-drop i file)
