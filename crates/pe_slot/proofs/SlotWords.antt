-- The laws of a slot's nine words that are changed in their places.
-- Assumes nothing.
use Rattle.std.proofs.Common.{◌≡◌, ℕ, Bool, true, false, cond, eqb, eqb-true, max, List, [], length, get_or, drop, set, replicate, sym, refl, ap, ◌∙◌, arith, drop_of_length-le, drop-cons, eq-eqb, ne_eqb}
use borrow.Author.Tests.{eqb-false}
use Rattle.pe_slot.specs.Layout.{slot_words, active_at, request_id_at, last_activity_at, lru_tick_at}
use Rattle.pe_slot.specs.Memory.{slot_of, words_of}
use Rattle.pe_slot.specs.Feed.{touched, cleared, close_words}

-- nine words are those of their slot
pub words_slot : (w : List ℕ) → length w ≡ slot_words → w ≡ words_of (slot_of w)
words_slot w h =
    let e0 = drop-cons w 0 0 (omega arith) in
    let e1 = drop-cons w 1 0 (omega arith) in
    let e2 = drop-cons w 2 0 (omega arith) in
    let e3 = drop-cons w 3 0 (omega arith) in
    let e4 = drop-cons w 4 0 (omega arith) in
    let e5 = drop-cons w 5 0 (omega arith) in
    let e6 = drop-cons w 6 0 (omega arith) in
    let e7 = drop-cons w 7 0 (omega arith) in
    let e8 = drop-cons w 8 0 (omega arith) in
    let e9 : drop 9 w ≡ [] = drop_of_length-le w {i = 9} (omega arith) in
    cc

pub close_nine : (w : List ℕ) → length w ≡ slot_words → close_words w ≡ cleared w
unfolding close_words
close_nine w h = rw (eq-eqb (length w) slot_words h)

-- 0 in every word but the tick
pub close_zeroed : (w v : List ℕ) → length w ≡ slot_words → v ≡ replicate (length w) 0 → set v lru_tick_at (get_or w lru_tick_at 0) ≡ close_words w
close_zeroed w v h e =
    let z : v ≡ replicate slot_words 0 = e ∙ ap (λ (n : ℕ). replicate {A = ℕ} n 0) h in
    rw z (sym (close_nine w h))

pub close_other : (w : List ℕ) → (length w ≡ slot_words → ⊥) → w ≡ close_words w
unfolding close_words
close_other w h = rw (ne_eqb (length w) slot_words h)

-- id, time and tick; and 1 in the first word where it is 0
module _ (request_id now_ms tick : ℕ) (w : List ℕ) (h : length w ≡ slot_words) where
  abbrev stamped : List ℕ → List ℕ
  stamped v = set (set (set v request_id_at request_id) last_activity_at now_ms) lru_tick_at tick

  opened : (a : ℕ) → max a 1 ≡ cond (eqb a 0) 1 a
  opened a = go (eqb a 0) refl
    where
      go : (t : Bool) → eqb a 0 ≡ t → max a 1 ≡ cond t 1 a
      go true e = let q = eqb-true a 0 e in omega arith
      go false e = let d = eqb-false a 0 e in omega (arith, d)

  pub touch_words : {m : ℕ} → m ≡ max (get_or (stamped w) active_at 0) 1
      → set (stamped w) active_at m ≡ words_of (touched (slot_of w) request_id now_ms tick)
  touch_words {m} e =
      let a : get_or (stamped w) active_at 0 ≡ get_or w active_at 0 =
      ap (λ (v : List ℕ). get_or (stamped v) active_at 0) (words_slot w h) ∙ ap (λ (v : List ℕ). get_or v active_at 0) (sym (words_slot w h)) in
      ap (λ (k : ℕ). set (stamped w) active_at k) (e ∙ ap (λ (k : ℕ). max k 1) a ∙ opened (get_or w active_at 0))
      ∙ ap (λ (v : List ℕ). set (stamped v) active_at (cond (eqb (get_or w active_at 0) 0) 1 (get_or w active_at 0))) (words_slot w h)
