-- A number's size, digit by digit.
-- Assumes nothing.
use Prim.Native.Nat.{ℕ, suc, ◌+◌, ◌*◌, ◌-◌, ◌%◌, ◌≤◌, ◌<◌}
use mathlib.Core.Bool.{true, false}
use mathlib.Core.List.{List, [], ◌∷◌, ◌++◌}
use mathlib.Core.Path.{◌≡◌, sym, ap, ◌∙◌, subst}
use native.Mathlib.Omega.{arith}
use borrow.Author.Tests.{leb-true, le-leb, lt-leb}
use lib.Dec.{leb}
use lib.ListN.{length, drop, get_or}
use lib.Seq.{drop-cons}
use Rattle.flat_json.specs.Abnf.{in_set}
use Rattle.flat_json.specs.Grammar.{digit}
use Rattle.flat_json.specs.Tree.{is_digit, all}
use Rattle.flat_json.proofs.Branches.{and_left, and_right}
use Rattle.pe_header.specs.Find.{decimal}

digit_value : (x : ℕ) → is_digit x ≡ true → x % 16 ≡ x - 0x30
unfolding is_digit in_set digit
digit_value x h =
    let a : 0x30 ≤ x = leb-true 0x30 x (and_left (leb 0x30 x) (leb x 0x39) h) in
    let b : x ≤ 0x39 = leb-true x 0x39 (and_right (leb 0x30 x) (leb x 0x39) h) in
    omega arith

grows : (ds : List ℕ) (n : ℕ) → n ≤ decimal n ds
unfolding decimal
grows [] n = omega arith
grows (d ∷ ds) n = let k = grows ds (n * 10 + (d - 0x30)) in omega arith

-- the digits up to a place, of which those from i on are still to be read, n being the number so far
pub record Digits (text : List ℕ) (to n i : ℕ) (ds rest : List ℕ) : Type 0 where
  pub left : List ℕ
  pub digits : all is_digit left ≡ true
  pub there : drop i text ≡ left ++ rest
  pub until : to ≡ i + length left
  pub same : decimal 0 ds ≡ decimal n left

pub all_read : (text : List ℕ) (to n i : ℕ) (ds rest : List ℕ) → Digits text to n i ds rest → to ≤ i → n ≤ 65535 → true ≡ leb (decimal 0 ds) 65535
unfolding decimal
all_read text to n i ds rest d h k = go d.left d.until d.same
  where
    go : (l : List ℕ) → to ≡ i + length l → decimal 0 ds ≡ decimal n l → true ≡ leb (decimal 0 ds) 65535
    go [] u s = sym (le-leb (decimal 0 ds) 65535 (subst (λ (x : ℕ). x ≤ 65535) (sym s) k))
    go (x ∷ l) u s = absurd (omega arith)

-- one digit more
pub next_digit : (text : List ℕ) (to n i : ℕ) (ds rest : List ℕ) → Digits text to n i ds rest → i < to → i < length text
    → Digits text to (n * 10 + get_or text i 0 % 16) (i + 1) ds rest
unfolding all decimal
next_digit text to n i ds rest d h l = go d.left d.digits d.there d.until d.same
  where
    go : (xs : List ℕ) → all is_digit xs ≡ true → drop i text ≡ xs ++ rest → to ≡ i + length xs → decimal 0 ds ≡ decimal n xs
        → Digits text to (n * 10 + get_or text i 0 % 16) (i + 1) ds rest
    go [] a t u s = absurd (omega arith)
    go (x ∷ xs) a t u s =
        let q : get_or text i 0 ∷ drop (suc i) text ≡ x ∷ (xs ++ rest) = sym (drop-cons text i 0 l) ∙ t in
        let e : get_or text i 0 ≡ x = cc in
        let f : drop (suc i) text ≡ xs ++ rest = cc in
        let v : get_or text i 0 % 16 ≡ x - 0x30 = ap (λ (y : ℕ). y % 16) e ∙ digit_value x (and_left (is_digit x) (all is_digit xs) a) in
        record {
          left = xs;
          digits = and_right (is_digit x) (all is_digit xs) a;
          there = ap (λ (k : ℕ). drop k text) (let z : i + 1 ≡ suc i = omega arith in z) ∙ f;
          until = omega arith;
          same = s ∙ ap (λ (k : ℕ). decimal (n * 10 + k) xs) (sym v);
        }

pub too_large : (text : List ℕ) (to n i : ℕ) (ds rest : List ℕ) → Digits text to n i ds rest → 65535 < n → false ≡ leb (decimal 0 ds) 65535
too_large text to n i ds rest d h =
    let g = grows d.left n in
    let s = d.same in
    sym (lt-leb (decimal 0 ds) 65535 (omega arith))
