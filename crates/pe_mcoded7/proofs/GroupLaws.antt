-- A group of bytes there and back, and a group of a text.
-- Assumes nothing.
use Prim.Native.Nat.{ℕ, zero, suc, ◌+◌, ◌-◌, ◌*◌, ◌/◌, ◌%◌, ◌^◌, ◌<◌, ◌≤◌}
use mathlib.Core.Bool.{true}
use mathlib.Core.List.{List, [], ◌∷◌, ◌++◌, map}
use mathlib.Core.Path.{◌≡◌, refl, ap, ◌∙◌}
use native.Mathlib.Nat.{mul-mod_right}
use native.Mathlib.Omega.{arith}
use lib.ListN.{length, take, drop, length-map}
use Rattle.seven_bit.specs.Reply.{Reply}
use Rattle.seven_bit.specs.SevenBit.{is_seven_bit}
use Rattle.seven_bit.proofs.SevenBitLaws.{seven_bit_cons, seven_bit_split}
use Rattle.pe_mcoded7.specs.Mcoded7.{flags, group_bytes, restored, group_data, ask_group}
pub use Rattle.pe_mcoded7.specs.Mcoded7.{Bytes}
use Rattle.pe_mcoded7.proofs.FlagLaws.{up_to_six, flags_up, flags_next, restored_next}
use Rattle.pe_mcoded7.proofs.TextLaws.{length_group_bytes, length_restored}
use Rattle.pe_mcoded7.proofs.AskLaws.{Group, group_good}

pub bytes_take : (k : ℕ) (xs : List ℕ) → Bytes xs → Bytes (take k xs)
bytes_take zero xs h i = omega arith
bytes_take (suc k) [] h i = omega arith
bytes_take (suc k) (x ∷ xs) h zero = h zero
bytes_take (suc k) (x ∷ xs) h (suc i) = bytes_take k xs (λ j. h (suc j)) i

pub bytes_drop : (k : ℕ) (xs : List ℕ) → Bytes xs → Bytes (drop k xs)
bytes_drop zero xs h = h
bytes_drop (suc k) [] h = h
bytes_drop (suc k) (x ∷ xs) h = bytes_drop k xs (λ j. h (suc j))

pub bytes_join : (xs ys : List ℕ) → Bytes xs → Bytes ys → Bytes (xs ++ ys)
bytes_join [] ys h k i = k i
bytes_join (x ∷ xs) ys h k zero = h zero
bytes_join (x ∷ xs) ys h k (suc i) = bytes_join xs ys (λ j. h (suc j)) k i

-- the flag byte is up to 7F
pub flags_low : (ds : List ℕ) → length ds ≤ 7 → Bytes ds → flags 6 ds ≤ 127
unfolding flags
flags_low [] l h = omega arith
flags_low (d ∷ ds) l h = omega (arith, h 0, flags_up 5 ds (omega arith), flags_low ds (omega arith) (λ i. h (suc i)))

-- and so are the others
low_lows : (ds : List ℕ) → is_seven_bit (map (λ (d : ℕ). d % 128) ds) ≡ true
unfolding is_seven_bit
low_lows [] = refl
low_lows (d ∷ ds) = seven_bit_cons (d % 128) (map (λ (e : ℕ). e % 128) ds) (omega arith) (low_lows ds)

pub group_low : (ds : List ℕ) → length ds ≤ 7 → Bytes ds → is_seven_bit (group_bytes ds) ≡ true
unfolding group_bytes
group_low ds l h = seven_bit_cons (flags 6 ds) (map (λ (d : ℕ). d % 128) ds) (flags_low ds l h) (low_lows ds)

-- no spare bit of the flag byte is set
spare_up : (n g t : ℕ) → n ≤ 6 → 2 * g % 2 ^ (7 - n) ≡ 0 → (t * 64 + g) % 2 ^ (7 - suc n) ≡ 0
spare_up n g t h z =
    let e : t * 64 + g ≡ 2 ^ (7 - suc n) * (t * 2 ^ n + 2 * g / 2 ^ (7 - n)) =
    up_to_six (λ (m : ℕ). 2 * g % 2 ^ (7 - m) ≡ 0 → t * 64 + g ≡ 2 ^ (7 - suc m) * (t * 2 ^ m + 2 * g / 2 ^ (7 - m)))
    (omega arith) (omega arith) (omega arith) (omega arith) (omega arith) (omega arith) (omega arith) n h z in
    rw e (mul-mod_right (2 ^ (7 - suc n)) (t * 2 ^ n + 2 * g / 2 ^ (7 - n)))

pub flags_spare : (ds : List ℕ) → length ds ≤ 7 → flags 6 ds % 2 ^ (7 - length ds) ≡ 0
unfolding flags
flags_spare [] l = refl
flags_spare (d ∷ ds) l =
    spare_up (length ds) (flags 5 ds) (d / 128) (omega arith) (rw (← flags_up 5 ds (omega arith)) (flags_spare ds (omega arith)))

-- so the group is allowed
pub group_allowed : {A : Type 0} (ds : List ℕ) (next : Reply A) → 0 < length ds → length ds ≤ 7 → Bytes ds → ask_group (group_bytes ds) next ≡ next
unfolding group_bytes
group_allowed ds next p l h =
    let n : 8 - length (group_bytes ds) ≡ 7 - length ds = omega (arith, length_group_bytes ds) in
    group_good (group_bytes ds) next (omega (arith, length_group_bytes ds)) (group_low ds l h) (rw n (flags_spare ds l))

-- the bytes of a group's text are the group
pub group_back : (ds : List ℕ) → length ds ≤ 7 → Bytes ds → group_data (group_bytes ds) ≡ ds
unfolding group_data group_bytes restored
group_back [] l h = refl
group_back (d ∷ ds) l h =
    let f : ℕ = flags 6 (d ∷ ds) in
    let u : flags 6 ds ≡ 2 * flags 5 ds = flags_up 5 ds (omega arith) in
    let n : f ≡ flags 6 ds / 2 + d / 128 * 64 = flags_next d ds (omega arith) in
    let k : flags 6 ds ≤ 127 = flags_low ds (omega arith) (λ i. h (suc i)) in
    let e : d % 128 + f / 64 * 128 ≡ d = omega (arith, h 0) in
    let e' : f % 64 * 2 ≡ flags 6 ds = omega arith in
    restored_next f (d % 128) (map (λ (x : ℕ). x % 128) ds) (flags_low (d ∷ ds) l h) (omega (arith, length-map ds (λ (x : ℕ). x % 128)))
    ∙ rw (e, e') (ap (λ (l : List ℕ). d ∷ l) (group_back ds (omega arith) (λ i. h (suc i))))

-- a group of a text has bytes
restored_bytes : (f b : ℕ) (ds : List ℕ) → is_seven_bit ds ≡ true → Bytes (restored f b ds)
unfolding restored
restored_bytes f b [] t i = omega arith
restored_bytes f b (d ∷ ds) t zero = let h = seven_bit_split d ds t in omega arith
restored_bytes f b (d ∷ ds) t (suc i) = restored_bytes f (b - 1) ds (seven_bit_split d ds t).1 i

pub group_bytes_law : (g : List ℕ) → Group g → Bytes (group_data g)
unfolding group_data
group_bytes_law [] a i = omega arith
group_bytes_law (f ∷ ds) a i = restored_bytes f 6 ds (seven_bit_split f ds a.low).1 i

-- and its text is the group
spare_down : (n f : ℕ) → n ≤ 6 → f % 2 ^ (7 - suc n) ≡ 0 → f % 64 * 2 % 2 ^ (7 - n) ≡ 0
spare_down n f h z =
    let e : f % 64 * 2 ≡ 2 ^ (7 - n) * (f / 2 ^ (7 - suc n) - 2 ^ n * (f / 64)) =
    up_to_six (λ (m : ℕ). f % 2 ^ (7 - suc m) ≡ 0 → f % 64 * 2 ≡ 2 ^ (7 - m) * (f / 2 ^ (7 - suc m) - 2 ^ m * (f / 64)))
    (omega arith) (omega arith) (omega arith) (omega arith) (omega arith) (omega arith) (omega arith) n h z in
    rw e (mul-mod_right (2 ^ (7 - n)) (f / 2 ^ (7 - suc n) - 2 ^ n * (f / 64)))

flags_again : (f : ℕ) (ds : List ℕ) → f ≤ 127 → length ds ≤ 7 → is_seven_bit ds ≡ true → f % 2 ^ (7 - length ds) ≡ 0 → flags 6 (restored f 6 ds) ≡ f
unfolding flags restored
flags_again f [] k l t z = omega arith
flags_again f (d ∷ ds) k l t z =
    let h = seven_bit_split d ds t in
    let ih : flags 6 (restored (f % 64 * 2) 6 ds) ≡ f % 64 * 2 =
    flags_again (f % 64 * 2) ds (omega arith) (omega arith) h.1 (spare_down (length ds) f (omega arith) z) in
    ap (flags 6) (restored_next f d ds k (omega arith))
    ∙ flags_next (d + f / 64 * 128) (restored (f % 64 * 2) 6 ds) (omega (arith, length_restored (f % 64 * 2) 6 ds))
    ∙ rw ih (omega arith)

lows_again : (f b : ℕ) (ds : List ℕ) → is_seven_bit ds ≡ true → map (λ (d : ℕ). d % 128) (restored f b ds) ≡ ds
unfolding restored
lows_again f b [] t = refl
lows_again f b (d ∷ ds) t =
    let h = seven_bit_split d ds t in
    let e : (d + 128 * (f / 2 ^ b % 2)) % 128 ≡ d = omega arith in
    rw (e, lows_again f (b - 1) ds h.1)

pub group_again : (g : List ℕ) → Group g → length g ≤ 8 → group_bytes (group_data g) ≡ g
unfolding group_bytes group_data
group_again [] a l = absurd (omega arith)
group_again (f ∷ ds) a l =
    let h = seven_bit_split f ds a.low in
    let n : 8 - length (f ∷ ds) ≡ 7 - length ds = omega arith in
    rw (flags_again f ds h.0 (omega arith) h.1 (rw n at a.unspared), lows_again f 6 ds h.1)
