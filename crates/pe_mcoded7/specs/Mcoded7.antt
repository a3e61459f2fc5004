-- Mcoded7 (document 01, module 7): bytes of eight bits in groups of bytes of seven bits.
-- Assumes nothing.
use Rattle.std.specs.Prelude.{ℕ, ◌+◌, ◌-◌, ◌*◌, ◌/◌, ◌%◌, ◌^◌, ◌<◌, List, [], ◌∷◌, map, leb, eqb, length, get_or}
use Rattle.seven_bit.specs.Parts.{pieces, joined}
use Rattle.seven_bit.specs.Reply.{Reply, granted, ◌else◌then◌}
use Rattle.seven_bit.specs.SevenBit.{is_seven_bit}

-- Each element is a byte, and past the end 0: what the round trips ask of a list.
abbrev pub Bytes : List ℕ → Type 0
Bytes xs = (i : ℕ) → get_or xs i 0 < 256

-- The top bits of a group's bytes, the first one's in bit b, the next one's in the bit below.
unfoldable pub flags : ℕ → List ℕ → ℕ
flags b [] = 0
flags b (d ∷ ds) = d / 128 * 2 ^ b + flags (b - 1) ds

-- "a flag byte, first byte's top bit in bit 6, then up to seven bytes"
unfoldable pub group_bytes : List ℕ → List ℕ
group_bytes ds = flags 6 ds ∷ map (λ (d : ℕ). d % 128) ds

-- The text of a list: that of its groups of seven, the last with what is left.
unfoldable pub encoded : List ℕ → List ℕ
encoded xs = joined (map group_bytes (pieces 7 ((length xs + 6) / 7) xs))

-- "Output long enough? 3."
unfoldable pub write_mcoded7 : List ℕ → ℕ → Reply (List ℕ)
write_mcoded7 xs room =
    leb (length (encoded xs)) room else 3 then
    granted (encoded xs)

-- A text's groups: eight bytes each, the last with what is left.
unfoldable pub groups : List ℕ → List (List ℕ)
groups s = pieces 8 ((length s + 7) / 8) s

-- Bytes with their top bits back, the first one's from bit b of the flag byte.
unfoldable pub restored : ℕ → ℕ → List ℕ → List ℕ
restored flag b [] = []
restored flag b (d ∷ ds) = (d + 128 * (flag / 2 ^ b % 2)) ∷ restored flag (b - 1) ds

unfoldable pub group_data : List ℕ → List ℕ
group_data [] = []
group_data (flag ∷ ds) = restored flag 6 ds

unfoldable pub decoded : List ℕ → List ℕ
decoded s = joined (map group_data (groups s))

-- A group as the Rust's `decode_group` allows it: "No group of one byte" (9); bytes up to 7F (1); no spare flag bit, below those of its bytes (9).
unfoldable pub ask_group : {A : Type 0} → List ℕ → Reply A → Reply A
ask_group g next =
    leb 2 (length g) else 9 then
    is_seven_bit g else 1 then
    eqb (get_or g 0 0 % 2 ^ (8 - length g)) 0 else 9 then
    next

unfoldable pub ask_groups : {A : Type 0} → List (List ℕ) → Reply A → Reply A
ask_groups [] next = next
ask_groups (g ∷ gs) next = ask_group g (ask_groups gs next)

-- Each group in its order; then "Output long enough? 3."
unfoldable pub read_mcoded7 : List ℕ → ℕ → Reply (List ℕ)
read_mcoded7 s room =
    ask_groups (groups s)
    (leb (length (decoded s)) room else 3 then
    granted (decoded s))
