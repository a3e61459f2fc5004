-- The laws of the limits, and of a list cut into pieces.
-- Assumes nothing.
use Prim.Native.Nat.{ℕ, zero, suc, ◌+◌, ◌-◌, ◌*◌, ◌/◌, ◌<◌, ◌≤◌}
use mathlib.Core.List.{List, [], ◌∷◌}
use mathlib.Core.Logic.{⊎_elim}
use mathlib.Core.Path.{◌≡◌, refl, sym, ap, ◌∙◌}
use native.Mathlib.Nat.{div-eq_of_lt, add-div_right, zero-mul, suc-mul}
use native.Mathlib.Omega.{arith}
use borrow.Author.Tests.{le-leb, lt-leb, le-ltb, lt-ltb, leb-true, leb-false, ltb-true, ltb-false}
use lib.Dec.{leb, ltb}
use lib.ListN.{length, get_or, drop, length-drop, take-append-drop}
use lib.Seq.{take-nil, drop-nil, drop-drop}
use Rattle.seven_bit.specs.Parts.{part, joined}
use Rattle.seven_bit.specs.Reply.{granted, refused}
use Rattle.seven_bit.proofs.ReplyLaws.{both, asked}
use Rattle.pe_chunker.specs.Cut.{max_sysex_max, clamped, budget, later_capacity, first_capacity, ask_first, cut_up}

-- the clamped limit, by the code's tests
pub clamped_low : (limit : ℕ) → limit < 128 → clamped limit ≡ 128
unfolding clamped
clamped_low limit h = rw (lt-ltb _ _ h)

pub clamped_high : (limit : ℕ) → 128 ≤ limit → max_sysex_max < limit → clamped limit ≡ max_sysex_max
unfolding clamped
clamped_high limit h g = rw (le-ltb _ _ h, lt-ltb _ _ g)

pub clamped_same : (limit : ℕ) → 128 ≤ limit → limit ≤ max_sysex_max → clamped limit ≡ limit
unfolding clamped
clamped_same limit h g = rw (le-ltb _ _ h, le-ltb _ _ g)

pub clamped_between : (limit : ℕ) → (128 ≤ clamped limit) × (clamped limit ≤ max_sysex_max)
clamped_between limit =
    ⊎_elim
    (λ t. let e = clamped_low limit (ltb-true limit 128 t) in (omega arith, omega arith))
    (λ f.
    let h : 128 ≤ limit = ltb-false limit 128 f in
    ⊎_elim
    (λ t. let e = clamped_high limit h (ltb-true max_sysex_max limit t) in (omega arith, omega arith))
    (λ g. let l : limit ≤ max_sysex_max = ltb-false max_sysex_max limit g in let e = clamped_same limit h l in (omega arith, omega arith))
    (both (ltb max_sysex_max limit)))
    (both (ltb limit 128))

pub budget_is : (limit : ℕ) → budget limit + 15 ≡ clamped limit
unfolding budget
budget_is limit = let h = clamped_between limit in omega arith

pub budget_between : (limit : ℕ) → (113 ≤ budget limit) × (budget limit + 15 ≤ max_sysex_max)
budget_between limit = let h = clamped_between limit in let e = budget_is limit in (omega arith, omega arith)

pub few_fit : (n limit : ℕ) → n ≤ 113 → n ≤ budget limit
few_fit n limit h = omega (arith, budget_between limit)

pub later_is : (limit : ℕ) → later_capacity limit + 9 ≡ budget limit
unfolding later_capacity
later_is limit = let h = budget_between limit in omega arith

pub later_between : (limit : ℕ) → (104 ≤ later_capacity limit) × (later_capacity limit + 24 ≤ max_sysex_max)
later_between limit = let h = budget_between limit in let e = later_is limit in (omega arith, omega arith)

pub first_is : (limit header_len : ℕ) → first_capacity limit header_len ≡ later_capacity limit - header_len
unfolding first_capacity later_capacity
first_is limit header_len = refl

pub first_granted : (limit header_len : ℕ) → header_len ≤ later_capacity limit → ask_first limit header_len ≡ granted (later_capacity limit - header_len)
unfolding ask_first
first_granted limit header_len h =
    let l : header_len + 9 ≤ budget limit = omega (arith, later_is limit) in
    rw (le-leb _ _ l, first_is limit header_len)

pub first_refused : (limit header_len : ℕ) → later_capacity limit < header_len → ask_first limit header_len ≡ refused 4 0
unfolding ask_first
first_refused limit header_len h =
    let l : budget limit < header_len + 9 = omega (arith, later_is limit) in
    rw (lt-leb _ _ l)

pub first_told : (limit header_len n : ℕ) → ask_first limit header_len ≡ granted n → header_len ≤ later_capacity limit
unfolding ask_first
first_told limit header_len n q =
    let l : header_len + 9 ≤ budget limit = leb-true _ _ (asked (leb (header_len + 9) (budget limit)) 4 _ n q).0 in
    omega (arith, later_is limit)

-- the pieces joined are the list
pub joined_cut : {A : Type 0} (k fuel : ℕ) (xs : List A) → 0 < k → length xs ≤ fuel → joined (cut_up k fuel xs) ≡ xs
unfolding cut_up joined
joined_cut k zero [] p h = refl
joined_cut k zero (x ∷ xs) p h = absurd (omega arith)
joined_cut k (suc fuel) [] p h = refl
joined_cut k (suc fuel) (x ∷ xs) p h =
    let l : length (drop k (x ∷ xs)) ≤ fuel = omega (arith, length-drop k (x ∷ xs)) in
    rw (joined_cut k fuel (drop k (x ∷ xs)) p l) (take-append-drop k (x ∷ xs))

-- the ceiling of n / k: one more for k elements more
pub ceiling_none : (k : ℕ) → 0 < k → (0 + (k - 1)) / k ≡ 0
ceiling_none k p = div-eq_of_lt {n = 0 + (k - 1)} {m = k} (omega arith)

ceiling_next : (n k : ℕ) → 0 < k → (suc n + (k - 1)) / k ≡ suc ((suc n - k + (k - 1)) / k)
ceiling_next n k p =
    ⊎_elim
    (λ t.
    let h : k ≤ suc n = leb-true k (suc n) t in
    let e : suc n + (k - 1) ≡ suc n - k + (k - 1) + k = omega arith in
    ap (λ (m : ℕ). m / k) e ∙ add-div_right (suc n - k + (k - 1)) p ∙ omega arith)
    (λ f.
    let h : suc n < k = leb-false k (suc n) f in
    let e : suc n + (k - 1) ≡ n + k = omega arith in
    let z : suc n - k + (k - 1) ≡ 0 + (k - 1) = omega arith in
    ap (λ (m : ℕ). m / k) e ∙ add-div_right n p
    ∙ rw (z, ceiling_none k p, div-eq_of_lt {n = n} {m = k} (omega arith)))
    (both (leb k (suc n)))

-- how many pieces there are
pub length_cut : {A : Type 0} (k fuel : ℕ) (xs : List A) → 0 < k → length xs ≤ fuel → length (cut_up k fuel xs) ≡ (length xs + (k - 1)) / k
unfolding cut_up
length_cut k zero [] p h = sym (ceiling_none k p)
length_cut k zero (x ∷ xs) p h = absurd (omega arith)
length_cut k (suc fuel) [] p h = sym (ceiling_none k p)
length_cut k (suc fuel) (x ∷ xs) p h =
    let d : length (drop k (x ∷ xs)) ≡ suc (length xs) - k = length-drop k (x ∷ xs) in
    let ih = length_cut k fuel (drop k (x ∷ xs)) p (omega arith) in
    ap suc (ih ∙ ap (λ (n : ℕ). (n + (k - 1)) / k) d) ∙ sym (ceiling_next (length xs) k p)

-- piece i is the k elements from i * k on; past the last one it is empty, as they are
pub piece_cut : {A : Type 0} (k fuel i : ℕ) (xs : List A) → 0 < k → length xs ≤ fuel → get_or (cut_up k fuel xs) i [] ≡ part (i * k) k xs
unfolding cut_up
piece_cut k zero i [] p h = rw (drop-nil (i * k), take-nil k)
piece_cut k zero i (x ∷ xs) p h = absurd (omega arith)
piece_cut k (suc fuel) i [] p h = rw (drop-nil (i * k), take-nil k)
piece_cut k (suc fuel) zero (x ∷ xs) p h = rw (zero-mul k)
piece_cut k (suc fuel) (suc i) (x ∷ xs) p h =
    let l : length (drop k (x ∷ xs)) ≤ fuel = omega (arith, length-drop k (x ∷ xs)) in
    let m : k + i * k ≡ suc i * k = omega (arith, suc-mul i k) in
    rw (piece_cut k fuel i (drop k (x ∷ xs)) p l, drop-drop (i * k) k (x ∷ xs), m)
