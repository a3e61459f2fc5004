-- The laws of sums over slots, held at 2^64 − 1.
-- Assumes nothing.
use Prim.Native.Nat.{ℕ, zero, suc, ◌+◌, ◌*◌, ◌≤◌, min}
use mathlib.Core.Path.{◌≡◌, refl}
use native.Mathlib.Nat.{mul-le-mul}
use native.Mathlib.Numerals.{add-one}
use native.Mathlib.Omega.{arith}
use Rattle.pe_reassembler.specs.Calls.{over_slots}

-- a sum that holds at 2^64 − 1
abbrev pub held : ℕ → ℕ
held n = min n 18446744073709551615

-- over the first slots of a peer
abbrev pub up_to : (ℕ → ℕ) → ℕ → ℕ
up_to f zero = 0
up_to f (suc n) = up_to f n + f n

-- over one peer more
module _ (f : ℕ → ℕ → ℕ) (p : ℕ) where
  pub over_none : over_slots f 0 ≡ 0
  unfolding over_slots
  over_none = refl

  pub over_next : over_slots f (p + 1) ≡ over_slots f p + (f p 0 + f p 1 + f p 2 + f p 3)
  unfolding over_slots
  over_next = rw (add-one p)

-- what rooms of this shape take
pub reserved_below : (n each : ℕ) → n ≤ 16 → each ≤ 86016 → 4 * n * each ≤ 5505024
reserved_below n each h k =
    let m : 4 * n ≤ 64 = omega arith in
    mul-le-mul m k
