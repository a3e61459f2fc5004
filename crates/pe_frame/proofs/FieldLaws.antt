-- The laws of fields of 14 bits that stand one behind the other.
-- Assumes nothing.
use Prim.Native.Nat.{ℕ, suc, ◌+◌, ◌*◌, ◌<◌, ◌≤◌}
use mathlib.Core.Bool.{Bool, true, false, cond}
use mathlib.Core.List.{List}
use mathlib.Core.Path.{◌≡◌, refl, ap}
use native.Mathlib.Omega.{arith}
use borrow.Author.Tests.{le-leb}
use lib.Dec.{leb}
use lib.ListN.{length, get_or, drop, length-drop}
use Rattle.seven_bit.specs.Parts.{part}
use Rattle.seven_bit.specs.Reply.{Reply, granted, ◌else◌then◌, and_next}
use Rattle.seven_bit.specs.SevenBit.{is_seven_bit, number_of}
use Rattle.seven_bit.proofs.PartLaws.{part_none, part_next}
use Rattle.pe_wire.specs.Wire.{read_u14}

-- the first byte of a part, and its others
low_first : (s : List ℕ) (at k : ℕ) → at < length s → is_seven_bit (part at (suc k) s) ≡ cond (leb (get_or s at 0) 127) (is_seven_bit (part (at + 1) k s)) false
unfolding is_seven_bit
low_first s at k h = rw (part_next at k s 0 h)

-- a field whose bytes are there
pub read_at : (s : List ℕ) (at : ℕ) → at + 2 ≤ length s → read_u14 (drop at s) ≡ (is_seven_bit (part at 2 s) else 1 then granted (number_of (part at 2 s)))
unfolding read_u14
read_at s at h = let l : 2 ≤ length (drop at s) = rw (length-drop at s) (omega arith) in rw (le-leb _ _ l)

pub read_yes : (s : List ℕ) (at v : ℕ) → at + 2 ≤ length s → is_seven_bit (part at 2 s) ≡ true → v ≡ number_of (part at 2 s) → read_u14 (drop at s) ≡ granted v
read_yes s at v h t e = rw (read_at s at h, t, e)

-- the first two bytes of a part, and its others
two_first : (s : List ℕ) (at k : ℕ) → at + 2 ≤ length s
    → is_seven_bit (part at (suc (suc k)) s) ≡ cond (is_seven_bit (part at 2 s)) (is_seven_bit (part (at + 2) k s)) false
unfolding is_seven_bit
two_first s at k h =
    let e : at + 1 + 1 ≡ at + 2 = omega arith in
    rw (
      low_first s at (suc k) (omega arith),
      low_first s (at + 1) k (omega arith),
      low_first s at 1 (omega arith),
      low_first s (at + 1) 0 (omega arith),
      e,
    )
    (go (leb (get_or s at 0) 127) (leb (get_or s (at + 1) 0) 127) _ _ (ap is_seven_bit (part_none (at + 2) s)))
  where
    go : (a b x y : Bool) → y ≡ true → cond a (cond b x false) false ≡ cond (cond a (cond b y false) false) x false
    go true true x y e = rw e
    go true false x y e = refl
    go false b x y e = refl

-- Three fields read one after the other are one question to their six bytes, and then the three numbers.
pub three_fields : {A : Type 0} (s : List ℕ) (at : ℕ) (next : ℕ → ℕ → ℕ → Reply A) → at + 6 ≤ length s
    → and_next (read_u14 (drop at s)) (λ a. and_next (read_u14 (drop (at + 2) s)) (λ b. and_next (read_u14 (drop (at + 4) s)) (λ c. next a b c)))
    ≡ (is_seven_bit (part at 6 s) else 1 then next (number_of (part at 2 s)) (number_of (part (at + 2) 2 s)) (number_of (part (at + 4) 2 s)))
three_fields {A} s at next h =
    let e : at + 2 + 2 ≡ at + 4 = omega arith in
    rw (
      read_at s at (omega arith),
      read_at s (at + 2) (omega arith),
      read_at s (at + 4) (omega arith),
      two_first s at 4 (omega arith),
      two_first s (at + 2) 2 (omega arith),
      e,
    )
    (go (is_seven_bit (part at 2 s)) (is_seven_bit (part (at + 2) 2 s)) (is_seven_bit (part (at + 4) 2 s))
    (number_of (part at 2 s)) (number_of (part (at + 2) 2 s)) (number_of (part (at + 4) 2 s)))
  where
    go : (p q r : Bool) (a b c : ℕ) →
        and_next (p else 1 then granted a) (λ x. and_next (q else 1 then granted b) (λ y. and_next (r else 1 then granted c) (λ z. next x y z)))
        ≡ (cond p (cond q r false) false else 1 then next a b c)
    go true true true a b c = refl
    go true true false a b c = refl
    go true false r a b c = refl
    go false q r a b c = refl
