-- The laws of flag bytes: the bits move by one place from each byte of a group to the next.
-- Assumes nothing.
use Prim.Native.Nat.{ℕ, zero, suc, ◌+◌, ◌-◌, ◌*◌, ◌/◌, ◌%◌, ◌^◌, ◌≤◌}
use mathlib.Core.List.{List, [], ◌∷◌}
use mathlib.Core.Path.{◌≡◌, refl}
use native.Mathlib.Nat.{pow-succ'}
use native.Mathlib.Omega.{arith}
use lib.ListN.{length}
use Rattle.pe_mcoded7.specs.Mcoded7.{flags, restored}

-- written one bit higher, the flags are twice the number
pub flags_up : (b : ℕ) (ds : List ℕ) → length ds ≤ suc b → flags (suc b) ds ≡ 2 * flags b ds
unfolding flags
flags_up b [] h = refl
flags_up zero (d ∷ []) h = omega arith
flags_up zero (d ∷ e ∷ ds) h = absurd (omega arith)
flags_up (suc b) (d ∷ ds) h =
    let e : suc (suc b) - 1 ≡ suc b = omega arith in
    let e' : suc b - 1 ≡ b = omega arith in
    rw (e, e', pow-succ' 2 (suc b), flags_up b ds (omega arith)) (omega arith)

-- the flags of a group from those of its bytes but the first
pub flags_next : (d : ℕ) (ds : List ℕ) → length ds ≤ 6 → flags 6 (d ∷ ds) ≡ flags 6 ds / 2 + d / 128 * 64
unfolding flags
flags_next d ds h = omega (arith, flags_up 5 ds h)

-- what holds of 0 to 6 holds up to 6
pub up_to_six : (P : ℕ → Type 0) → P 0 → P 1 → P 2 → P 3 → P 4 → P 5 → P 6 → (n : ℕ) → n ≤ 6 → P n
up_to_six P p0 p1 p2 p3 p4 p5 p6 zero h = p0
up_to_six P p0 p1 p2 p3 p4 p5 p6 (suc zero) h = p1
up_to_six P p0 p1 p2 p3 p4 p5 p6 (suc (suc zero)) h = p2
up_to_six P p0 p1 p2 p3 p4 p5 p6 (suc (suc (suc zero))) h = p3
up_to_six P p0 p1 p2 p3 p4 p5 p6 (suc (suc (suc (suc zero)))) h = p4
up_to_six P p0 p1 p2 p3 p4 p5 p6 (suc (suc (suc (suc (suc zero))))) h = p5
up_to_six P p0 p1 p2 p3 p4 p5 p6 (suc (suc (suc (suc (suc (suc zero)))))) h = p6
up_to_six P p0 p1 p2 p3 p4 p5 p6 (suc (suc (suc (suc (suc (suc (suc n))))))) h = absurd (omega arith)

-- a bit of the flags is the next higher one of the flags moved up
bit_up : (f b : ℕ) → b ≤ 5 → f / 2 ^ b % 2 ≡ f % 64 * 2 / 2 ^ suc b % 2
bit_up f b h =
    up_to_six (λ (n : ℕ). n ≤ 5 → f / 2 ^ n % 2 ≡ f % 64 * 2 / 2 ^ suc n % 2)
    (omega arith) (omega arith) (omega arith) (omega arith) (omega arith) (omega arith) (omega arith) b (omega arith) h

pub restored_up : (f b : ℕ) (ds : List ℕ) → b ≤ 5 → length ds ≤ suc b → restored f b ds ≡ restored (f % 64 * 2) (suc b) ds
unfolding restored
restored_up f b [] k h = refl
restored_up f zero (d ∷ []) k h = rw (bit_up f 0 k)
restored_up f zero (d ∷ e ∷ ds) k h = absurd (omega arith)
restored_up f (suc b) (d ∷ ds) k h =
    let e : suc (suc b) - 1 ≡ suc b = omega arith in
    let e' : suc b - 1 ≡ b = omega arith in
    rw (e, e', bit_up f (suc b) k, restored_up f b ds (omega arith) (omega arith))

-- the first byte of a group takes bit 6, and the others theirs from the flags moved up
pub restored_next : (f d : ℕ) (ds : List ℕ) → f ≤ 127 → length ds ≤ 6 → restored f 6 (d ∷ ds) ≡ (d + f / 64 * 128) ∷ restored (f % 64 * 2) 6 ds
unfolding restored
restored_next f d ds k h =
    let e : d + 128 * (f / 64 % 2) ≡ d + f / 64 * 128 = omega arith in
    rw (e, restored_up f 5 ds (omega arith) h)
