-- The 30 states: which one ends an object, that none takes a byte above 7F, and that no two have the same residual.
-- Each is one test that antt computes for all states.
-- Assumes nothing.
use Prim.Native.Nat.{ℕ, zero, suc, ◌+◌, ◌*◌, ◌<◌, ◌≤◌}
use mathlib.Core.Bool.{Bool, true, false, cond, not, ◌&&◌, ◌||◌, true≢false}
use mathlib.Core.List.{List, [], ◌∷◌, map}
use mathlib.Core.Logic.{⊎_elim, ◌↔◌}
use mathlib.Core.Path.{◌≡◌, refl, sym, ap, ◌∙◌, subst}
use native.Mathlib.Omega.{arith}
use borrow.Author.Tests.{leb-true, eqb-true, eq-eqb}
use lib.Dec.{leb, eqb}
use lib.ListN.{get_or, get_or-map}
use Rattle.flat_json.specs.Abnf.{Abnf, never, Matches}
use Rattle.flat_json.specs.Grammar.{residual, residuals, ws_byte, ws, begin_object, end_object, name_separator, value_separator, false_rule, null_rule}
use Rattle.flat_json.specs.Grammar.{true_rule, digit, int, hexdig, unescaped, short_escape, escaped, char, string, value, member, object, json_text}
use Rattle.flat_json.specs.Grammar.{after_value, after_name, in_string}
use Rattle.flat_json.proofs.Branches.{nullable, nullable_yes, nullable_only, push, given, first, branches, branches_all, ends, InTurn, Branch, branch}
use Rattle.flat_json.proofs.Branches.{Takes, and_left, and_right, or_told}
use Rattle.flat_json.proofs.Follows.{behind, all_branches, any_ends, alone_in}
use Rattle.flat_json.proofs.Accepts.{accepts, accepted, same_answers}

-- a test at each number below n
unfoldable pub all_below : ℕ → (ℕ → Bool) → Bool
all_below zero f = true
all_below (suc n) f = f n && all_below n f

pub below_at : (n : ℕ) (f : ℕ → Bool) → all_below n f ≡ true → (k : ℕ) → k < n → f k ≡ true
unfolding all_below
below_at zero f e k h = absurd (omega arith)
below_at (suc n) f e k h = go (eqb k n) refl (λ l. below_at n f (and_right (f n) (all_below n f) e) k l)
  where
    go : (t : Bool) → eqb k n ≡ t → (k < n → f k ≡ true) → f k ≡ true
    go true q ih = subst (λ (m : ℕ). f m ≡ true) (sym (eqb-true k n q)) (and_left (f n) (all_below n f) e)
    go false q ih = ih (let d : k ≡ n → ⊥ = λ p. true≢false (sym (eq-eqb k n p) ∙ q) in omega arith)

-- the text may end in state 28 and in no other
end_test : ℕ → Bool
end_test s = cond (eqb s 28) (nullable (residual s)) (not (nullable (residual s)))

end_tests : all_below 30 end_test ≡ true
unfolding all_below end_test nullable residual residuals ws_byte ws begin_object end_object name_separator value_separator false_rule null_rule
    true_rule digit int hexdig unescaped short_escape escaped char string value member object json_text after_value after_name in_string
end_tests = refl

end_answer : (s : ℕ) → s < 30 → nullable (residual s) ≡ eqb s 28
unfolding end_test
end_answer s h = go (eqb s 28) (nullable (residual s)) (below_at 30 end_test end_tests s h)
  where
    go : (x y : Bool) → cond x y (not y) ≡ true → y ≡ x
    go true y e = e
    go false true e = sym e
    go false false e = refl

pub end_law : (s : ℕ) → s < 30 → (s ≡ 28) ↔ Matches (residual s) []
end_law s h = (
  λ e. nullable_yes (residual s) (end_answer s h ∙ eq-eqb s 28 e),
  λ m. eqb-true s 28 (sym (end_answer s h) ∙ nullable_only (residual s) m),
)

-- no branch takes a byte above 7F
low : List Branch → Bool
low [] = true
low (branch l h rest ∷ bs) = leb h 127 && low bs

low_takes : (bs : List Branch) (b : ℕ) (w : List ℕ) → low bs ≡ true → Takes bs b w → b < 128
unfolding low Takes
low_takes [] b w e t = absurd t
low_takes (branch l h rest ∷ bs) b w e t =
    let k : h ≤ 127 = leb-true h 127 (and_left (leb h 127) (low bs) e) in
    ⊎_elim (λ (g : (l ≤ b) × (b ≤ h) × InTurn rest w). omega arith) (λ g. low_takes bs b w (and_right (leb h 127) (low bs) e) g) t

low_test : ℕ → Bool
low_test s = low (branches (push (residual s) []))

low_tests : all_below 30 low_test ≡ true
unfolding all_below low_test low branches first given push nullable residual residuals ws_byte ws begin_object end_object name_separator value_separator
    false_rule null_rule true_rule digit int hexdig unescaped short_escape escaped char string value member object json_text after_value after_name
    in_string
low_tests = refl

pub low_law : (s b : ℕ) (w : List ℕ) → s < 30 → Matches (residual s) (b ∷ w) → b < 128
unfolding low_test
low_law s b w h m =
    low_takes (branches (push (residual s) [])) b w (below_at 30 low_test low_tests s h)
    (branches_all (push (residual s) []) b w (alone_in (residual s) (b ∷ w) m))

-- texts whose answers tell each state from each other, and the answers of an expression as the bits of a number
probes : List (List ℕ)
probes =
    (0x7B ∷ 0x7D ∷ [])
    ∷ (0x7D ∷ [])
    ∷ (0x6E ∷ 0x22 ∷ 0x3A ∷ 0x30 ∷ 0x7D ∷ [])
    ∷ (0x31 ∷ 0x22 ∷ 0x3A ∷ 0x30 ∷ 0x7D ∷ [])
    ∷ (0x31 ∷ 0x31 ∷ 0x22 ∷ 0x3A ∷ 0x30 ∷ 0x7D ∷ [])
    ∷ (0x31 ∷ 0x31 ∷ 0x31 ∷ 0x22 ∷ 0x3A ∷ 0x30 ∷ 0x7D ∷ [])
    ∷ (0x31 ∷ 0x31 ∷ 0x31 ∷ 0x31 ∷ 0x22 ∷ 0x3A ∷ 0x30 ∷ 0x7D ∷ [])
    ∷ (0x3A ∷ 0x30 ∷ 0x7D ∷ [])
    ∷ (0x6E ∷ 0x22 ∷ 0x7D ∷ [])
    ∷ (0x31 ∷ 0x22 ∷ 0x7D ∷ [])
    ∷ (0x31 ∷ 0x31 ∷ 0x22 ∷ 0x7D ∷ [])
    ∷ (0x31 ∷ 0x31 ∷ 0x31 ∷ 0x22 ∷ 0x7D ∷ [])
    ∷ (0x31 ∷ 0x31 ∷ 0x31 ∷ 0x31 ∷ 0x22 ∷ 0x7D ∷ [])
    ∷ (0x35 ∷ 0x7D ∷ [])
    ∷ (0x72 ∷ 0x75 ∷ 0x65 ∷ 0x7D ∷ [])
    ∷ (0x75 ∷ 0x65 ∷ 0x7D ∷ [])
    ∷ (0x65 ∷ 0x7D ∷ [])
    ∷ (0x61 ∷ 0x6C ∷ 0x73 ∷ 0x65 ∷ 0x7D ∷ [])
    ∷ (0x6C ∷ 0x73 ∷ 0x65 ∷ 0x7D ∷ [])
    ∷ (0x73 ∷ 0x65 ∷ 0x7D ∷ [])
    ∷ (0x75 ∷ 0x6C ∷ 0x6C ∷ 0x7D ∷ [])
    ∷ (0x6C ∷ 0x6C ∷ 0x7D ∷ [])
    ∷ (0x6C ∷ 0x7D ∷ [])
    ∷ []
    ∷ (0x22 ∷ 0x22 ∷ 0x3A ∷ 0x30 ∷ 0x7D ∷ [])
    ∷ []

answers : Abnf → List (List ℕ) → ℕ
answers a [] = 0
answers a (w ∷ ws') = 2 * answers a ws' + cond (accepts a w) 1 0

answers_same : (a c : Abnf) → ((w : List ℕ) → accepts a w ≡ accepts c w) → (ws' : List (List ℕ)) → answers a ws' ≡ answers c ws'
unfolding answers
answers_same a c e [] = refl
answers_same a c e (w ∷ ws') = rw (e w, answers_same a c e ws')

codes : List ℕ
codes =
    1 ∷ 16777218 ∷ 124 ∷ 16777220 ∷ 64 ∷ 96 ∷ 112 ∷ 120 ∷ 128 ∷ 8192 ∷ 7936 ∷ 256 ∷ 4096 ∷ 6144 ∷ 7168
    ∷ 7680 ∷ 8194 ∷ 16384 ∷ 32768 ∷ 65536 ∷ 131072 ∷ 262144 ∷ 524288 ∷ 1048576 ∷ 2097152 ∷ 4194304 ∷ 2 ∷ 16777216 ∷ 8388608 ∷ 0 ∷ []

codes_right : map (λ (a : Abnf). answers a probes) residuals ≡ codes
unfolding probes answers codes accepts accepted all_branches any_ends behind branches ends first given push nullable residual residuals ws_byte ws
    begin_object end_object name_separator value_separator false_rule null_rule true_rule digit int hexdig unescaped short_escape escaped char string
    value member object json_text after_value after_name in_string
codes_right = refl

code_at : (s : ℕ) → answers (residual s) probes ≡ get_or codes s (answers never probes)
unfolding residual
code_at s = sym (get_or-map (λ (a : Abnf). answers a probes) residuals s never) ∙ ap (λ (l : List ℕ). get_or l s (answers never probes)) codes_right

differ_test : ℕ → ℕ → Bool
differ_test s t = eqb s t || not (eqb (get_or codes s 0) (get_or codes t 0))

differ_tests : all_below 30 (λ (s : ℕ). all_below 30 (differ_test s)) ≡ true
unfolding all_below differ_test codes
differ_tests = refl

never_code : answers never probes ≡ 0
unfolding probes answers accepts accepted all_branches any_ends behind branches ends first given push nullable
never_code = refl

-- no two states have the same residual
pub distinct : (s t : ℕ) → s < 30 → t < 30 → ((w : List ℕ) → Matches (residual s) w ↔ Matches (residual t) w) → s ≡ t
unfolding differ_test
distinct s t hs ht same =
    let e : get_or codes s 0 ≡ get_or codes t 0 =
    subst (λ (d : ℕ). get_or codes s d ≡ get_or codes t d) never_code
    (sym (code_at s) ∙ answers_same (residual s) (residual t) (same_answers (residual s) (residual t) same) probes ∙ code_at t)
    in
    let d : differ_test s t ≡ true = below_at 30 (differ_test s) (below_at 30 (λ (k : ℕ). all_below 30 (differ_test k)) differ_tests s hs) t ht in
    ⊎_elim
    (λ h. eqb-true s t h)
    (λ h. absurd (true≢false (sym h ∙ ap not (eq-eqb (get_or codes s 0) (get_or codes t 0) e))))
    (or_told (eqb s t) (not (eqb (get_or codes s 0) (get_or codes t 0))) d)
