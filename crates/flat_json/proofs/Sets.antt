-- An expression of ranges and alternatives matches one byte of its set.
-- Assumes nothing.
use Prim.Native.Nat.{ℕ, ◌≤◌, ◌<◌}
use mathlib.Core.Bool.{Bool, true, false, ◌&&◌, true≢false}
use mathlib.Core.List.{List, [], ◌∷◌, ◌++◌}
use mathlib.Core.Logic.{inl, inr, ⊎_elim}
use mathlib.Core.Path.{◌≡◌, refl, sym, subst}
use native.Mathlib.Omega.{arith}
use borrow.Author.Tests.{leb-true, le-leb}
use lib.Dec.{leb}
use Rattle.flat_json.specs.Abnf.{Abnf, never, empty, range, ◌then◌, ◌or◌, many, Matches, Many, none, more, in_set}
use Rattle.flat_json.specs.Tree.{all}
use Rattle.flat_json.proofs.Branches.{and_left, and_right, and_both, or_told, or_first, or_second}

pub set_in : (a : Abnf) (b : ℕ) → in_set a b ≡ true → Matches a (b ∷ [])
unfolding in_set Matches
set_in never b h = absurd (true≢false (sym h))
set_in empty b h = absurd (true≢false (sym h))
set_in (range low high) b h = (b, refl, leb-true low b (and_left (leb low b) (leb b high) h), leb-true b high (and_right (leb low b) (leb b high) h))
set_in (a then c) b h = absurd (true≢false (sym h))
set_in (a or c) b h = ⊎_elim (λ k. inl (set_in a b k)) (λ k. inr (set_in c b k)) (or_told (in_set a b) (in_set c b) h)
set_in (many a) b h = absurd (true≢false (sym h))

-- is an expression made of ranges and alternatives alone?
unfoldable pub is_set : Abnf → Bool
is_set never = true
is_set empty = false
is_set (range low high) = true
is_set (a then c) = false
is_set (a or c) = is_set a && is_set c
is_set (many a) = false

-- one byte of a set
abbrev pub OneOf : Abnf → List ℕ → Type 0
OneOf a u = (b : ℕ) × (u ≡ b ∷ []) × (in_set a b ≡ true)

pub set_out : (a : Abnf) (u : List ℕ) → is_set a ≡ true → Matches a u → OneOf a u
unfolding in_set Matches is_set
set_out never u s m = absurd m
set_out empty u s m = absurd (true≢false (sym s))
set_out (range low high) u s m = (m.0, m.1, and_both (leb low m.0) (leb m.0 high) (le-leb low m.0 m.2) (le-leb m.0 high m.3))
set_out (a then c) u s m = absurd (true≢false (sym s))
set_out (a or c) u s m =
    ⊎_elim
    (λ k. let o = set_out a u (and_left (is_set a) (is_set c) s) k in (o.0, o.1, or_first (in_set a o.0) (in_set c o.0) o.2))
    (λ k. let o = set_out c u (and_right (is_set a) (is_set c) s) k in (o.0, o.1, or_second (in_set a o.0) (in_set c o.0) o.2))
    m
set_out (many a) u s m = absurd (true≢false (sym s))

-- a run of such bytes
pub run_out : (a : Abnf) {u : List ℕ} → is_set a ≡ true → Many (Matches a) u → all (in_set a) u ≡ true
unfolding all
run_out a s none = refl
run_out a s (more u v m ms) =
    let o = set_out a u s m in
    subst (λ (l : List ℕ). all (in_set a) (l ++ v) ≡ true) (sym o.1) (and_both (in_set a o.0) (all (in_set a) v) o.2 (run_out a s ms))

-- a set of bytes up to 7F
unfoldable pub low_set : Abnf → Bool
low_set never = true
low_set empty = true
low_set (range low high) = leb high 0x7F
low_set (a then c) = true
low_set (a or c) = low_set a && low_set c
low_set (many a) = true

pub low_set_law : (a : Abnf) (b : ℕ) → low_set a ≡ true → in_set a b ≡ true → b < 128
unfolding low_set in_set
low_set_law never b l h = absurd (true≢false (sym h))
low_set_law empty b l h = absurd (true≢false (sym h))
low_set_law (range low high) b l h =
    let e : high ≤ 0x7F = leb-true high 0x7F l in
    let f : b ≤ high = leb-true b high (and_right (leb low b) (leb b high) h) in
    omega arith
low_set_law (a then c) b l h = absurd (true≢false (sym h))
low_set_law (a or c) b l h =
    ⊎_elim (λ k. low_set_law a b (and_left (low_set a) (low_set c) l) k) (λ k. low_set_law c b (and_right (low_set a) (low_set c) l) k) (or_told (in_set a b) (in_set c b) h)
low_set_law (many a) b l h = absurd (true≢false (sym h))
