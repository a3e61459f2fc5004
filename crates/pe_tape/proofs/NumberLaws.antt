-- The laws of a tape's operands, and of numbers in decimal.
-- Assumes nothing.
use Prim.Native.Nat.{ℕ, zero, suc, ◌+◌, ◌*◌, ◌/◌, ◌%◌, ◌^◌, ◌≤◌, ◌<◌}
use mathlib.Core.Bool.{Bool, true, false, cond}
use mathlib.Core.List.{List, [], ◌∷◌, ◌++◌}
use mathlib.Core.Path.{◌≡◌, refl, sym, ap, ◌∙◌}
use native.Mathlib.Nat.{pow-succ'}
use native.Mathlib.Omega.{arith}
use borrow.Author.Tests.{lt-ltb, le-ltb, ltb-true, ltb-false}
use lib.Dec.{ltb}
use lib.ListN.{length, get_or, take, drop, length-append}
use Rattle.seven_bit.specs.Parts.{part}
use Rattle.seven_bit.proofs.PartLaws.{length_part}
use Rattle.pe_tape.specs.Number.{operand_of, operand_bytes, AreBytes, digits, decimal}

-- ---- digits: one more than are needed changes nothing
same_digits : (j k n : ℕ) → n < j → n < k → digits j n ≡ digits k n
unfolding digits
same_digits zero k n h h' = absurd (omega arith)
same_digits (suc j) zero n h h' = absurd (omega arith)
same_digits (suc j) (suc k) n h h' = go (ltb n 10) refl (same_digits j k (n / 10))
  where
    go : (t : Bool) → ltb n 10 ≡ t → (n / 10 < j → n / 10 < k → digits j (n / 10) ≡ digits k (n / 10))
        → cond t ((48 + n) ∷ []) (digits j (n / 10) ++ ((48 + n % 10) ∷ [])) ≡ cond t ((48 + n) ∷ []) (digits k (n / 10) ++ ((48 + n % 10) ∷ []))
    go true e same = refl
    go false e same =
        let l : 10 ≤ n = ltb-false n 10 e in
        ap (λ (d : List ℕ). d ++ ((48 + n % 10) ∷ [])) (same (omega arith) (omega arith))

pub decimal_one : (n : ℕ) → n < 10 → decimal n ≡ (48 + n) ∷ []
unfolding decimal digits
decimal_one n h = rw (lt-ltb n 10 h)

pub decimal_more : (n : ℕ) → 10 ≤ n → decimal n ≡ decimal (n / 10) ++ ((48 + n % 10) ∷ [])
unfolding decimal digits
decimal_more n h =
    rw (le-ltb n 10 h) (ap (λ (d : List ℕ). d ++ ((48 + n % 10) ∷ [])) (same_digits n (suc (n / 10)) (n / 10) (omega arith) (omega arith)))

pub decimal_length : (k n : ℕ) → n < 10 ^ suc k → length (decimal n) ≤ suc k
decimal_length zero n h = rw (decimal_one n h) (omega arith)
decimal_length (suc k) n h = go (ltb n 10) refl (decimal_length k (n / 10))
  where
    go : (t : Bool) → ltb n 10 ≡ t → (n / 10 < 10 ^ suc k → length (decimal (n / 10)) ≤ suc k) → length (decimal n) ≤ suc (suc k)
    go true e below = rw (decimal_one n (ltb-true n 10 e)) (omega arith)
    go false e below =
        let l : length (decimal (n / 10)) ≤ suc k = below (let g : n < 10 * 10 ^ suc k = rw (pow-succ' 10 (suc k)) at h in omega arith) in
        rw (decimal_more n (ltb-false n 10 e), length-append) (omega arith)

-- ---- operands
pub operand_length : (k n : ℕ) → length (operand_bytes k n) ≡ k
unfolding operand_bytes
operand_length zero n = refl
operand_length (suc k) n = ap suc (operand_length k (n / 256))

-- written and read again, a number that k bytes can say is the number
pub operand_bytes_law : (k n : ℕ) → n < 256 ^ k → operand_of (operand_bytes k n) ≡ n
unfolding operand_bytes operand_of
operand_bytes_law zero n h = omega arith
operand_bytes_law (suc k) n h =
    let g : n < 256 * 256 ^ k = rw (pow-succ' 256 k) at h in
    let ih : operand_of (operand_bytes k (n / 256)) ≡ n / 256 = operand_bytes_law k (n / 256) (omega arith) in
    omega arith

-- read and written again, the bytes are the bytes
pub bytes_operand : (bs : List ℕ) → AreBytes bs → operand_bytes (length bs) (operand_of bs) ≡ bs
unfolding operand_bytes operand_of AreBytes
bytes_operand [] h = refl
bytes_operand (b ∷ bs) h =
    let m : (b + 256 * operand_of bs) % 256 ≡ b = omega arith in
    let d : (b + 256 * operand_of bs) / 256 ≡ operand_of bs = omega arith in
    simp (m, d, bytes_operand bs h.1)

-- bytes of bytes
pub bytes_at_law : (s : List ℕ) → AreBytes s → (i : ℕ) → get_or s i 0 < 256
unfolding AreBytes
bytes_at_law [] h i = omega arith
bytes_at_law (b ∷ bs) h zero = h.0
bytes_at_law (b ∷ bs) h (suc i) = bytes_at_law bs h.1 i

pub bytes_drop : (a : ℕ) (s : List ℕ) → AreBytes s → AreBytes (drop a s)
unfolding AreBytes
bytes_drop zero [] h = h
bytes_drop zero (b ∷ bs) h = h
bytes_drop (suc a) [] h = h
bytes_drop (suc a) (b ∷ bs) h = bytes_drop a bs h.1

bytes_take : (k : ℕ) (s : List ℕ) → AreBytes s → AreBytes (take k s)
unfolding AreBytes
bytes_take zero [] h = tt
bytes_take zero (b ∷ bs) h = tt
bytes_take (suc k) [] h = tt
bytes_take (suc k) (b ∷ bs) h = (h.0, bytes_take k bs h.1)

-- an operand read and written again
pub operand_again : (a k : ℕ) (s : List ℕ) → a + k ≤ length s → AreBytes s → operand_bytes k (operand_of (part a k s)) ≡ part a k s
operand_again a k s h b =
    ap (λ (n : ℕ). operand_bytes n (operand_of (part a k s))) (sym (length_part a k s h))
    ∙ bytes_operand (part a k s) (bytes_take k (drop a s) (bytes_drop a s b))

-- bytes behind bytes
pub operand_append : (xs ys : List ℕ) → operand_of (xs ++ ys) ≡ operand_of xs + 256 ^ length xs * operand_of ys
unfolding operand_of
operand_append [] ys = omega arith
operand_append (x ∷ xs) ys =
    let ih : operand_of (xs ++ ys) ≡ operand_of xs + 256 ^ length xs * operand_of ys = operand_append xs ys in
    rw (pow-succ' 256 (length xs)) (omega arith)
