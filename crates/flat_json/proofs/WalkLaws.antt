-- Where a reading by the table comes to: what a turn and a reach pass over.
-- Assumes nothing.
use Prim.Native.Nat.{ℕ, suc, ◌+◌, ◌-◌, ◌<◌, ◌≤◌}
use mathlib.Core.Bool.{Bool, true, false, cond}
use mathlib.Core.List.{List, [], ◌∷◌}
use mathlib.Core.Path.{◌≡◌, refl, sym, ap, ◌∙◌}
use native.Mathlib.Omega.{arith}
use native.Mathlib.Numerals.{add-one}
use borrow.Author.Tests.{eqb-true, eq-eqb, ne_eqb}
use lib.Dec.{eqb}
use lib.ListN.{length, get_or, drop, length-drop, drop_of_length-le}
use lib.Seq.{drop-cons, drop-drop}
use Rattle.flat_json.specs.declared.Spot.{Spot}
use Rattle.flat_json.specs.Table.{next, run, spot, turned_over, turned, reached_over, reached}

module _ (table text : List ℕ) (s i : ℕ) (h : i < length text) where
  pub turned_next : next table s (get_or text i 0) ≡ s → turned_over table i s (drop i text) ≡ turned_over table (i + 1) s (drop (i + 1) text)
  unfolding turned_over
  turned_next e = rw (drop-cons text i 0 h, add-one i, eq-eqb _ _ e)

  pub turned_other : (next table s (get_or text i 0) ≡ s → ⊥) → turned_over table i s (drop i text) ≡ spot (i + 1) (next table s (get_or text i 0))
  unfolding turned_over
  turned_other n = rw (drop-cons text i 0 h, add-one i, ne_eqb _ _ n)

pub turned_end : (table text : List ℕ) (s i : ℕ) → length text ≤ i → turned_over table i s (drop i text) ≡ spot i s
unfolding turned_over
turned_end table text s i h = rw (drop_of_length-le text h)

pub reached_end : (table text : List ℕ) (stop s i : ℕ) → length text ≤ i → reached_over table stop i s (drop i text) ≡ spot i s
unfolding reached_over
reached_end table text stop s i h = rw (drop_of_length-le text h)

pub reached_stop : (table : List ℕ) (stop s i : ℕ) (w : List ℕ) → s ≡ stop → reached_over table stop i s w ≡ spot i s
unfolding reached_over
reached_stop table stop s i [] e = refl
reached_stop table stop s i (b ∷ w) e = rw (eq-eqb s stop e)

pub reach_one : (table : List ℕ) (stop p s b : ℕ) (w : List ℕ) → (s ≡ stop → ⊥) → reached_over table stop p s (b ∷ w)
    ≡ reached_over table stop (suc p) (next table s b) w
unfolding reached_over
reach_one table stop p s b w n = rw (ne_eqb s stop n)

run_one : (table : List ℕ) (s b : ℕ) (w : List ℕ) → run table s (b ∷ w) ≡ run table (next table s b) w
unfolding run
run_one table s b w = refl

-- a spot that a turn or a reach comes to lies behind the place or at it, and within the text
turn_bounds : (table : List ℕ) (w : List ℕ) (p s : ℕ) → (p ≤ (turned_over table p s w).place) × ((turned_over table p s w).place ≤ p + length w)
unfolding turned_over
turn_bounds table [] p s = (omega arith, omega arith)
turn_bounds table (b ∷ w) p s = go (eqb (next table s b) s) (turn_bounds table w (suc p) s)
  where
    go : (t : Bool) → (suc p ≤ (turned_over table (suc p) s w).place) × ((turned_over table (suc p) s w).place ≤ suc p + length w)
        → (p ≤ (cond t (turned_over table (suc p) s w) (spot (suc p) (next table s b))).place)
        × ((cond t (turned_over table (suc p) s w) (spot (suc p) (next table s b))).place ≤ p + suc (length w))
    go true ih = let a = ih.0 in let c = ih.1 in (omega arith, omega arith)
    go false ih = (omega arith, omega arith)

reach_bounds : (table : List ℕ) (stop : ℕ) (w : List ℕ) (p s : ℕ) → (p ≤ (reached_over table stop p s w).place)
    × ((reached_over table stop p s w).place ≤ p + length w)
unfolding reached_over
reach_bounds table stop [] p s = (omega arith, omega arith)
reach_bounds table stop (b ∷ w) p s = go (eqb s stop) (reach_bounds table stop w (suc p) (next table s b))
  where
    go : (t : Bool) → (suc p ≤ (reached_over table stop (suc p) (next table s b) w).place)
        × ((reached_over table stop (suc p) (next table s b) w).place ≤ suc p + length w)
        → (p ≤ (cond t (spot p s) (reached_over table stop (suc p) (next table s b) w)).place)
        × ((cond t (spot p s) (reached_over table stop (suc p) (next table s b) w)).place ≤ p + suc (length w))
    go true ih = (omega arith, omega arith)
    go false ih = let a = ih.0 in let c = ih.1 in (omega arith, omega arith)

pub turn_forward : (table text : List ℕ) (p s : ℕ) → p < length text → p < (turned_over table p s (drop p text)).place
unfolding turned_over
turn_forward table text p s h = rw (drop-cons text p 0 h) (go (eqb (next table s (get_or text p 0)) s) (turn_bounds table (drop (suc p) text) (suc p) s).0)
  where
    go : (t : Bool) → suc p ≤ (turned_over table (suc p) s (drop (suc p) text)).place
        → p < (cond t (turned_over table (suc p) s (drop (suc p) text)) (spot (suc p) (next table s (get_or text p 0)))).place
    go true k = omega arith
    go false k = omega arith

one_less : (p : ℕ) (b : ℕ) (w : List ℕ) (q : ℕ) → suc p ≤ q → drop (q - p) (b ∷ w) ≡ drop (q - suc p) w
one_less p b w q h = ap (λ (n : ℕ). drop n (b ∷ w)) (let e : q - p ≡ suc (q - suc p) = omega arith in e)

none_less : (p : ℕ) (w : List ℕ) → drop (p - p) w ≡ w
none_less p w = ap (λ (n : ℕ). drop n w) (let e : p - p ≡ 0 = omega arith in e)

-- what a reading of the rest tells, and is the same one byte later, is the same behind a turn
module _ {A : Type 0} (table : List ℕ) (tells : ℕ → ℕ → List ℕ → A) where
  turn_over : (s : ℕ) → ((p b : ℕ) (w : List ℕ) → tells p s (b ∷ w) ≡ tells (suc p) (next table s b) w)
      → (w : List ℕ) (p : ℕ) → tells p s w ≡ tells (turned_over table p s w).place (turned_over table p s w).state (drop ((turned_over table p s w).place - p) w)
  unfolding turned_over
  turn_over s later [] p = ap (tells p s) (sym (none_less p []))
  turn_over s later (b ∷ w) p = later p b w ∙ go (eqb (next table s b) s) refl (turn_bounds table w (suc p) s).0 (turn_over s later w (suc p))
    where
      go : (t : Bool) → eqb (next table s b) s ≡ t → suc p ≤ (turned_over table (suc p) s w).place
          → tells (suc p) s w ≡ tells (turned_over table (suc p) s w).place (turned_over table (suc p) s w).state
          (drop ((turned_over table (suc p) s w).place - suc p) w)
          → tells (suc p) (next table s b) w
          ≡ (let r = cond t (turned_over table (suc p) s w) (spot (suc p) (next table s b)) in tells r.place r.state (drop (r.place - p) (b ∷ w)))
      go true e k ih =
          ap (λ (x : ℕ). tells (suc p) x w) (eqb-true _ _ e) ∙ ih
          ∙ ap (tells (turned_over table (suc p) s w).place (turned_over table (suc p) s w).state)
          (sym (one_less p b w (turned_over table (suc p) s w).place k))
      go false e k ih = ap (tells (suc p) (next table s b)) (sym (one_less p b w (suc p) (omega arith) ∙ none_less (suc p) w))

  -- and behind a reach, if no state stops it from being so
  reach_over : (stop : ℕ) → ((s p b : ℕ) (w : List ℕ) → tells p s (b ∷ w) ≡ tells (suc p) (next table s b) w)
      → (w : List ℕ) (p s : ℕ) → tells p s w ≡ tells (reached_over table stop p s w).place (reached_over table stop p s w).state
      (drop ((reached_over table stop p s w).place - p) w)
  unfolding reached_over
  reach_over stop later [] p s = ap (tells p s) (sym (none_less p []))
  reach_over stop later (b ∷ w) p s = go (eqb s stop) (reach_bounds table stop w (suc p) (next table s b)).0 (reach_over stop later w (suc p) (next table s b))
    where
      go : (t : Bool) → suc p ≤ (reached_over table stop (suc p) (next table s b) w).place
          → (let r = reached_over table stop (suc p) (next table s b) w in tells (suc p) (next table s b) w
          ≡ tells r.place r.state (drop (r.place - suc p) w))
          → (let r = cond t (spot p s) (reached_over table stop (suc p) (next table s b) w) in tells p s (b ∷ w)
          ≡ tells r.place r.state (drop (r.place - p) (b ∷ w)))
      go true k ih = ap (tells p s) (sym (none_less p (b ∷ w)))
      go false k ih =
          later s p b w ∙ ih
          ∙ ap (tells (reached_over table stop (suc p) (next table s b) w).place (reached_over table stop (suc p) (next table s b) w).state)
          (sym (one_less p b w (reached_over table stop (suc p) (next table s b) w).place k))

onward : (text : List ℕ) (p q : ℕ) → p ≤ q → drop (q - p) (drop p text) ≡ drop q text
onward text p q h = drop-drop (q - p) p text ∙ ap (λ (n : ℕ). drop n text) (let e : p + (q - p) ≡ q = omega arith in e)

module _ (table text : List ℕ) (p s : ℕ) where
  pub turn_reach : (stop : ℕ) → (s ≡ stop → ⊥)
      → (let t = turned_over table p s (drop p text) in reached_over table stop p s (drop p text)
      ≡ reached_over table stop t.place t.state (drop t.place text))
  turn_reach stop n =
      turn_over table (reached_over table stop) s later (drop p text) p
      ∙ ap (reached_over table stop (turned_over table p s (drop p text)).place (turned_over table p s (drop p text)).state)
      (onward text p (turned_over table p s (drop p text)).place (turn_bounds table (drop p text) p s).0)
    where
      later : (q b : ℕ) (w : List ℕ) → reached_over table stop q s (b ∷ w) ≡ reached_over table stop (suc q) (next table s b) w
      later q b w = reach_one table stop q s b w n

pub reach_forward : (table text : List ℕ) (stop p s : ℕ) → (s ≡ stop → ⊥) → p < length text → p < (reached_over table stop p s (drop p text)).place
reach_forward table text stop p s n h =
    let b = (reach_bounds table stop (drop (suc p) text) (suc p) (next table s (get_or text p 0))).0 in
    rw (drop-cons text p 0 h, reach_one table stop p s (get_or text p 0) (drop (suc p) text) n) (omega arith)

-- where a turn and a reach come to: not back, not beyond the text, and on by a byte at least in a turn; and the last state is as it was to be
module _ (table text : List ℕ) (at : Spot) where
  pub turned_within : at.place ≤ length text → (at.place ≤ (turned table text at).place) × ((turned table text at).place ≤ length text)
  unfolding turned
  turned_within h =
      let b = turn_bounds table (drop at.place text) at.place at.state in
      let l = length-drop at.place text in
      let u = b.1 in
      (b.0, omega arith)

  pub reached_within : (stop : ℕ) → at.place ≤ length text → (at.place ≤ (reached table text at stop).place)
      × ((reached table text at stop).place ≤ length text)
  unfolding reached
  reached_within stop h =
      let b = reach_bounds table stop (drop at.place text) at.place at.state in
      let l = length-drop at.place text in
      let u = b.1 in
      (b.0, omega arith)

  pub turned_run : run table at.state (drop at.place text) ≡ run table (turned table text at).state (drop (turned table text at).place text)
  unfolding turned
  turned_run =
      turn_over table (λ (q : ℕ). run table) at.state (λ q b w. run_one table at.state b w) (drop at.place text) at.place
      ∙ ap (run table (turned table text at).state) (onward text at.place (turned table text at).place
      (turn_bounds table (drop at.place text) at.place at.state).0)

  pub reached_run : (stop : ℕ) → run table at.state (drop at.place text)
      ≡ run table (reached table text at stop).state (drop (reached table text at stop).place text)
  unfolding reached
  reached_run stop =
      reach_over table (λ (q : ℕ). run table) stop (λ x q b w. run_one table x b w) (drop at.place text) at.place at.state
      ∙ ap (run table (reached table text at stop).state) (onward text at.place (reached table text at stop).place
      (reach_bounds table stop (drop at.place text) at.place at.state).0)
