-- Where a table that follows the grammar leads, without a look at its entries: from a state by a byte of a set, and over the parts of a tree.
-- Assumes nothing.
use Prim.Native.Nat.{ℕ, ◌+◌, ◌<◌}
use mathlib.Core.Bool.{Bool, true, not, ◌&&◌, ◌||◌, true≢false}
use mathlib.Core.List.{List}
use mathlib.Core.Logic.{⊎_elim}
use mathlib.Core.Path.{◌≡◌, refl, sym, ap, ◌∙◌}
use native.Mathlib.Omega.{arith}
use borrow.Author.Tests.{ltb-true, lt-ltb, le-leb}
use lib.Dec.{ltb, leb}
use Rattle.flat_json.specs.Abnf.{Abnf, is, range, in_set}
use Rattle.flat_json.specs.Grammar.{residual, residuals, ws_byte, ws, begin_object, end_object, name_separator, value_separator, false_rule, null_rule}
use Rattle.flat_json.specs.Grammar.{true_rule, digit, int, hexdig, unescaped, short_escape, escaped, char, string as string-rule, value as value-rule}
use Rattle.flat_json.specs.Grammar.{member, object, json_text, after_value, after_name, in_string}
use Rattle.flat_json.specs.Table.{RightTable, entry, next}
use Rattle.flat_json.proofs.Branches.{nullable, push, given, first, branches, ends, and_left, and_right, and_both, or_told}
use Rattle.flat_json.proofs.Follows.{behind, all_branches, any_ends, alike, follows, follows_law}
use Rattle.flat_json.proofs.Sets.{low_set, low_set_law}
use Rattle.flat_json.proofs.StateLaws.{all_below, below_at, distinct}

-- the test: from s each byte of the set leads to t
unfoldable pub leads : ℕ → Abnf → ℕ → Bool
leads s a t = ltb s 30 && (ltb t 30 && (low_set a && all_below 128 (λ (b : ℕ). not (in_set a b) || follows (residual s) b (residual t))))

pub leads_law : (table : List ℕ) → RightTable table → (s : ℕ) (a : Abnf) (t : ℕ) → leads s a t ≡ true → (b : ℕ) → in_set a b ≡ true → next table s b ≡ t
unfolding leads next
leads_law table right s a t e b h =
    let e1 = and_right (ltb s 30) (ltb t 30 && (low_set a && all_below 128 (λ (b : ℕ). not (in_set a b) || follows (residual s) b (residual t)))) e in
    let e2 = and_right (ltb t 30) (low_set a && all_below 128 (λ (b : ℕ). not (in_set a b) || follows (residual s) b (residual t))) e1 in
    let hs : s < 30 = ltb-true s 30 (and_left (ltb s 30) (ltb t 30 && (low_set a && all_below 128
    (λ (b : ℕ). not (in_set a b) || follows (residual s) b (residual t)))) e) in
    let ht : t < 30 = ltb-true t 30 (and_left (ltb t 30) (low_set a && all_below 128 (λ (b : ℕ). not (in_set a b) || follows (residual s) b (residual t))) e1) in
    let hb : b < 128 = low_set_law a b (and_left (low_set a) (all_below 128 (λ (b : ℕ). not (in_set a b) || follows (residual s) b (residual t))) e2) h in
    let c = below_at 128 (λ (b : ℕ). not (in_set a b) || follows (residual s) b (residual t))
    (and_right (low_set a) (all_below 128 (λ (b : ℕ). not (in_set a b) || follows (residual s) b (residual t))) e2) b hb in
    rw (lt-ltb s 30 hs, lt-ltb b 128 hb)
    (⊎_elim
    (λ k. absurd (true≢false (sym k ∙ ap not h)))
    (λ k. let f = follows_law (residual s) b (residual t) k in
    distinct (entry table s b) t (right.state s b hs hb) ht
    (λ w. (λ m. (f w).0 ((right.rule s b hs hb w).1 m), λ m. (right.rule s b hs hb w).0 ((f w).1 m))))
    (or_told (not (in_set a b)) (follows (residual s) b (residual t)) c))

-- the moves inside a string whose state is s, and out of it to t
pub record StringMoves (s t : ℕ) : Type 0 where
  pub plain_byte : leads s unescaped s ≡ true
  pub escape : leads s (is 0x5C) (s + 1) ≡ true
  pub short_form : leads (s + 1) short_escape s ≡ true
  pub long_form : leads (s + 1) (is 0x75) (s + 2) ≡ true
  pub digit₁ : leads (s + 2) hexdig (s + 3) ≡ true
  pub digit₂ : leads (s + 3) hexdig (s + 4) ≡ true
  pub digit₃ : leads (s + 4) hexdig (s + 5) ≡ true
  pub digit₄ : leads (s + 5) hexdig s ≡ true
  pub quote : leads s (is 0x22) t ≡ true

-- the moves up to a value, from a state in which a name may come
pub record LeadMoves (s : ℕ) : Type 0 where
  pub before : leads s ws_byte s ≡ true
  pub open_name : leads s (is 0x22) 2 ≡ true
  pub gap : leads 8 ws_byte 8 ≡ true
  pub colon : leads 8 (is 0x3A) 9 ≡ true
  pub lead : leads 9 ws_byte 9 ≡ true

-- the moves from a colon into a value
pub record ValueMoves : Type 0 where
  pub text : leads 9 (is 0x22) 10 ≡ true
  pub true_word : leads 9 (is 0x74) 17 ≡ true
  pub false_word : leads 9 (is 0x66) 20 ≡ true
  pub null_word : leads 9 (is 0x6E) 23 ≡ true
  pub nought : leads 9 (is 0x30) 26 ≡ true
  pub digits : leads 9 (range 0x31 0x39) 16 ≡ true

-- the moves through a number that is not 0, and out of it as out of any value
pub record NumberMoves : Type 0 where
  pub digits : leads 16 digit 16 ≡ true
  pub after : leads 16 ws_byte 26 ≡ true
  pub comma : leads 16 (is 0x2C) 27 ≡ true
  pub brace : leads 16 (is 0x7D) 28 ≡ true

-- the moves through true, false and null
pub record WordMoves : Type 0 where
  pub t_r : leads 17 (is 0x72) 18 ≡ true
  pub tr_u : leads 18 (is 0x75) 19 ≡ true
  pub u_e : leads 19 (is 0x65) 26 ≡ true
  pub f_a : leads 20 (is 0x61) 21 ≡ true
  pub fa_l : leads 21 (is 0x6C) 22 ≡ true
  pub fal_s : leads 22 (is 0x73) 19 ≡ true
  pub n_u : leads 23 (is 0x75) 24 ≡ true
  pub nu_l : leads 24 (is 0x6C) 25 ≡ true
  pub nul_l : leads 25 (is 0x6C) 26 ≡ true

-- the moves before the first name, behind a value, and behind the object
pub record OuterMoves : Type 0 where
  pub start : leads 0 ws_byte 0 ≡ true
  pub open_object : leads 0 (is 0x7B) 1 ≡ true
  pub no_member : leads 1 (is 0x7D) 28 ≡ true
  pub after : leads 26 ws_byte 26 ≡ true
  pub comma : leads 26 (is 0x2C) 27 ≡ true
  pub brace : leads 26 (is 0x7D) 28 ≡ true
  pub end : leads 28 ws_byte 28 ≡ true

-- all of them, computed
moves : StringMoves 2 8 × StringMoves 10 26 × LeadMoves 1 × LeadMoves 27 × ValueMoves × NumberMoves × WordMoves × OuterMoves
unfolding leads low_set in_set all_below follows alike all_branches any_ends behind branches ends first given push nullable residual residuals ws_byte ws
    begin_object end_object name_separator value_separator false_rule null_rule true_rule digit int hexdig unescaped short_escape escaped char
    string-rule value-rule member object json_text after_value after_name in_string
moves = (
  record { plain_byte = refl; escape = refl; short_form = refl; long_form = refl; digit₁ = refl; digit₂ = refl; digit₃ = refl; digit₄ = refl; quote = refl },
  record { plain_byte = refl; escape = refl; short_form = refl; long_form = refl; digit₁ = refl; digit₂ = refl; digit₃ = refl; digit₄ = refl; quote = refl },
  record { before = refl; open_name = refl; gap = refl; colon = refl; lead = refl },
  record { before = refl; open_name = refl; gap = refl; colon = refl; lead = refl },
  record { text = refl; true_word = refl; false_word = refl; null_word = refl; nought = refl; digits = refl },
  record { digits = refl; after = refl; comma = refl; brace = refl },
  record { t_r = refl; tr_u = refl; u_e = refl; f_a = refl; fa_l = refl; fal_s = refl; n_u = refl; nu_l = refl; nul_l = refl },
  record { start = refl; open_object = refl; no_member = refl; after = refl; comma = refl; brace = refl; end = refl },
)

pub name_moves : StringMoves 2 8
name_moves = moves.0

pub value_moves : StringMoves 10 26
value_moves = moves.1

pub first_moves : LeadMoves 1
first_moves = moves.2

pub later_moves : LeadMoves 27
later_moves = moves.3

pub from_colon : ValueMoves
from_colon = moves.4

pub in_number : NumberMoves
in_number = moves.5

pub in_word : WordMoves
in_word = moves.6

pub outside : OuterMoves
outside = moves.7

pub is_set : (c : ℕ) → in_set (is c) c ≡ true
unfolding in_set
is_set c = and_both (leb c c) (leb c c) (le-leb c c (omega arith)) (le-leb c c (omega arith))
