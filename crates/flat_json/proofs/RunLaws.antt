-- Reading a text by the table ends in the state 28 for the texts of the grammar and for no others; and the rule allows one table only.
-- Assumes nothing.
use Prim.Native.Nat.{ℕ, ◌+◌, ◌*◌, ◌/◌, ◌%◌, ◌<◌, ◌≤◌}
use mathlib.Core.Bool.{Bool, true, false, cond}
use mathlib.Core.List.{List, [], ◌∷◌, ◌++◌}
use mathlib.Core.Logic.{◌↔◌}
use mathlib.Core.Path.{◌≡◌, refl, sym, ◌∙◌, subst}
use native.Mathlib.Omega.{arith}
use borrow.Author.Tests.{ltb-true, ltb-false, lt-ltb}
use lib.Dec.{ltb}
use lib.ListN.{length, get_or, drop, drop_of_length-le}
use lib.Seq.{ext_get_or}
use Rattle.flat_json.specs.Abnf.{Matches}
use Rattle.flat_json.specs.Grammar.{residual, residuals, json_text}
use Rattle.flat_json.specs.Table.{RightTable, entry, next, run, start, done, dead}
use Rattle.flat_json.proofs.StateLaws.{end_law, low_law, distinct}

dead_none : (w : List ℕ) → Matches (residual dead) w → ⊥
unfolding residual residuals Matches
dead_none w m = m

pub next_state : (table : List ℕ) → RightTable table → (s b : ℕ) → next table s b < 30
unfolding next
next_state table right s b = go (ltb s 30) (ltb b 128) refl refl
  where
    go : (t u : Bool) → ltb s 30 ≡ t → ltb b 128 ≡ u → cond t (cond u (entry table s b) dead) dead < 30
    go true true e f = right.state s b (ltb-true s 30 e) (ltb-true b 128 f)
    go true false e f = omega arith
    go false u e f = omega arith

-- the reading of a text, from its end on
pub run_end : (table text : List ℕ) (s i : ℕ) → length text ≤ i → run table s (drop i text) ≡ s
unfolding run
run_end table text s i h = rw (drop_of_length-le text h)

-- the rule for any byte
pub next_law : (table : List ℕ) → RightTable table → (s b : ℕ) → s < 30 → (w : List ℕ) → Matches (residual s) (b ∷ w) ↔ Matches (residual (next table s b)) w
unfolding next
next_law table right s b h w = rw (lt-ltb s 30 h) (go (ltb b 128) refl)
  where
    go : (t : Bool) → ltb b 128 ≡ t → Matches (residual s) (b ∷ w) ↔ Matches (residual (cond t (entry table s b) dead)) w
    go true e = right.rule s b h (ltb-true b 128 e) w
    go false e =
        let high : 128 ≤ b = ltb-false b 128 e in
        (λ m. absurd (let l : b < 128 = low_law s b w h m in omega arith), λ m. absurd (dead_none w m))

pub run_law : (table : List ℕ) → RightTable table → (w : List ℕ) (s : ℕ) → s < 30 → (run table s w ≡ done) ↔ Matches (residual s) w
unfolding run
run_law table right [] s h = end_law s h
run_law table right (b ∷ w) s h =
    let ih = run_law table right w (next table s b) (next_state table right s b) in
    let law = next_law table right s b h w in
    (λ e. law.1 (ih.0 e), λ m. ih.1 (law.0 m))

-- A state says exactly what may follow the text that was read.
pub follow_law : (table : List ℕ) → RightTable table → (p : List ℕ) (s : ℕ) → s < 30 → (w : List ℕ)
    → Matches (residual s) (p ++ w) ↔ Matches (residual (run table s p)) w
unfolding run
follow_law table right [] s h w = (λ m. m, λ m. m)
follow_law table right (b ∷ p) s h w =
    let ih = follow_law table right p (next table s b) (next_state table right s b) w in
    let law = next_law table right s b h (p ++ w) in
    (λ m. ih.0 (law.0 m), λ m. law.1 (ih.1 m))

pub state_law : (table : List ℕ) → RightTable table → (p w : List ℕ) → Matches json_text (p ++ w) ↔ Matches (residual (run table start p)) w
unfolding residual residuals
state_law table right p w = follow_law table right p start (omega arith) w

-- Reading by the table accepts the texts of the grammar.
pub object_law : (table : List ℕ) → RightTable table → (w : List ℕ) → (run table start w ≡ done) ↔ Matches json_text w
unfolding residual residuals
object_law table right w = run_law table right w start (omega arith)

-- The rule determines each entry: there is one such table.
pub one_entry : (t t' : List ℕ) → RightTable t → RightTable t' → (s b : ℕ) → s < 30 → b < 128 → entry t s b ≡ entry t' s b
one_entry t t' r r' s b hs hb =
    distinct (entry t s b) (entry t' s b) (r.state s b hs hb) (r'.state s b hs hb)
    (λ w. (λ m. (r'.rule s b hs hb w).0 ((r.rule s b hs hb w).1 m), λ m. (r.rule s b hs hb w).0 ((r'.rule s b hs hb w).1 m)))

pub one_table : (t t' : List ℕ) → RightTable t → RightTable t' → t ≡ t'
unfolding entry
one_table t t' r r' = ext_get_or 0 t t' (r.size ∙ sym r'.size) at_each
  where
    at_each : (i : ℕ) → i < length t → get_or t i 0 ≡ get_or t' i 0
    at_each i h =
        let size = r.size in
        let e : i / 128 * 128 + i % 128 ≡ i = omega arith in
        subst (λ (k : ℕ). get_or t k 0 ≡ get_or t' k 0) e (one_entry t t' r r' (i / 128) (i % 128) (omega arith) (omega arith))
