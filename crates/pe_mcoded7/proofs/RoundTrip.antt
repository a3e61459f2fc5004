-- Mcoded7 there and back, over the definitions.
-- Assumes nothing.
use Prim.Native.Nat.{ℕ, ◌+◌, ◌-◌, ◌/◌, ◌<◌, ◌≤◌}
use mathlib.Core.Bool.{true}
use mathlib.Core.List.{List, append-nil}
use mathlib.Core.Path.{◌≡◌, refl}
use native.Mathlib.Nat.{le_refl}
use native.Mathlib.Omega.{arith}
use borrow.Author.Tests.{le-leb}
use lib.Dec.{leb}
use lib.ListN.{length, take, drop, length-take, take-append-drop}
use lib.Seq.{drop-length}
use Rattle.seven_bit.specs.Reply.{Reply, granted, outcome, writing}
use Rattle.seven_bit.specs.SevenBit.{is_seven_bit}
use Rattle.seven_bit.proofs.ReplyLaws.{asked, same_grant}
use Rattle.pe_mcoded7.specs.Mcoded7.{group_bytes, encoded, write_mcoded7, groups, group_data, decoded, ask_groups, read_mcoded7}
use Rattle.pe_mcoded7.proofs.TextLaws.{by_groups, encoded_none, encoded_next, groups_none, groups_next, decoded_none, decoded_next, encoded_groups, decoded_groups, first_of, length_group_bytes, length_group_data, length_encoded, length_decoded}
use Rattle.pe_mcoded7.proofs.AskLaws.{seven_bit_join, groups_told, write_granted}
use Rattle.pe_mcoded7.proofs.GroupLaws.{Bytes, bytes_take, bytes_drop, bytes_join, group_low, group_allowed, group_back, group_bytes_law, group_again}

-- the first seven bytes are a group
seven : (xs : List ℕ) → 0 < length xs → (0 < length (take 7 xs)) × (length (take 7 xs) ≤ 7)
seven xs h = omega (arith, length-take 7 xs)

-- the first group of a text, and what follows it
text_parts : (xs : List ℕ) → 0 < length xs → (take 8 (encoded xs) ≡ group_bytes (take 7 xs)) × (drop 8 (encoded xs) ≡ encoded (drop 7 xs))
text_parts xs h =
    let n : length (group_bytes (take 7 xs)) ≡ 1 + length (take 7 xs) = length_group_bytes (take 7 xs) in
    first_of 7 8 group_bytes encoded encoded_groups xs h (omega (arith, length-take 7 xs)) (λ l. omega (arith, length-take 7 xs))

text_some : (xs : List ℕ) → 0 < length xs → 0 < length (encoded xs)
text_some xs h = omega (arith, length_encoded xs)

-- A text has only bytes up to 7F.
pub encoded_seven_bit : (xs : List ℕ) → Bytes xs → is_seven_bit (encoded xs) ≡ true
unfolding is_seven_bit
encoded_seven_bit =
    by_groups 7 (λ (xs : List ℕ). Bytes xs → is_seven_bit (encoded xs) ≡ true) (omega arith)
    (λ b. rw encoded_none)
    (λ xs h ih b.
    rw (encoded_next xs h)
    (seven_bit_join (group_bytes (take 7 xs)) (encoded (drop 7 xs)) (group_low (take 7 xs) (seven xs h).1 (bytes_take 7 xs b)) (ih (bytes_drop 7 xs b))))

-- The bytes of a text are the bytes that it was made of.
pub decoded_encoded : (xs : List ℕ) → Bytes xs → decoded (encoded xs) ≡ xs
decoded_encoded =
    by_groups 7 (λ (xs : List ℕ). Bytes xs → decoded (encoded xs) ≡ xs) (omega arith)
    (λ b. rw (encoded_none, decoded_none))
    (λ xs h ih b.
    rw (decoded_next (encoded xs) (text_some xs h), (text_parts xs h).0, (text_parts xs h).1, group_back (take 7 xs) (seven xs h).1 (bytes_take 7 xs b), ih (bytes_drop 7 xs b))
    (take-append-drop 7 xs))

-- A text passes every question that is put to its groups.
pub asked_encoded : {A : Type 0} (next : Reply A) (xs : List ℕ) → Bytes xs → ask_groups (groups (encoded xs)) next ≡ next
unfolding ask_groups
asked_encoded next =
    by_groups 7 (λ (xs : List ℕ). Bytes xs → ask_groups (groups (encoded xs)) next ≡ next) (omega arith)
    (λ b. rw (encoded_none, groups_none))
    (λ xs h ih b.
    rw (groups_next (encoded xs) (text_some xs h), (text_parts xs h).0, (text_parts xs h).1, ih (bytes_drop 7 xs b))
    (group_allowed (take 7 xs) next (seven xs h).0 (seven xs h).1 (bytes_take 7 xs b)))

-- What was written reads back, for every list of bytes and any room that holds them.
pub read_encoded : (xs : List ℕ) (room : ℕ) → Bytes xs → length xs ≤ room → read_mcoded7 (encoded xs) room ≡ granted xs
unfolding read_mcoded7
read_encoded xs room b h = rw (asked_encoded _ xs b, decoded_encoded xs b, le-leb (length xs) room h)

-- what a writer is granted is the list's text
written_is : (xs bs : List ℕ) (room : ℕ) → write_mcoded7 xs room ≡ granted bs → encoded xs ≡ bs
unfolding write_mcoded7
written_is xs bs room q = same_grant _ _ _ refl (asked (leb (length (encoded xs)) room) 3 _ bs q).1

-- The same of what a writer was granted.
pub written_then_read : (xs bs : List ℕ) (room room' : ℕ) → Bytes xs → write_mcoded7 xs room ≡ granted bs → length xs ≤ room' → read_mcoded7 bs room' ≡ granted xs
written_then_read xs bs room room' b q h = rw (← written_is xs bs room q) (read_encoded xs room' b h)

-- the bytes of a text's first group, and those of what follows it
bytes_parts : (s : List ℕ) → 0 < length s → (take 7 (decoded s) ≡ group_data (take 8 s)) × (drop 7 (decoded s) ≡ decoded (drop 8 s))
bytes_parts s h =
    let n : length (group_data (take 8 s)) ≡ length (take 8 s) - 1 = length_group_data (take 8 s) in
    first_of 8 7 group_data decoded decoded_groups s h (omega (arith, length-take 8 s)) (λ l. omega (arith, length-take 8 s))

-- what a grant tells of the text: it is that of its bytes, these are bytes, and what follows the questions is granted
told_all : {A : Type 0} (next : Reply A) (a : A) (s : List ℕ) → ask_groups (groups s) next ≡ granted a
    → (encoded (decoded s) ≡ s) × Bytes (decoded s) × (next ≡ granted a)
unfolding ask_groups
told_all next a =
    by_groups 8 (λ (s : List ℕ). ask_groups (groups s) next ≡ granted a → (encoded (decoded s) ≡ s) × Bytes (decoded s) × (next ≡ granted a)) (omega arith)
    (λ q. (rw (decoded_none, encoded_none), (λ i. rw decoded_none (omega arith)), rw groups_none at q))
    (λ s h ih q.
    let t = groups_told s next a h q in
    let r = ih t.1 in
    let p : 0 < length (decoded s) = omega (arith, length_decoded s, length-take 8 s, t.0.long) in (
      rw (encoded_next (decoded s) p, (bytes_parts s h).0, (bytes_parts s h).1, group_again (take 8 s) t.0 (omega (arith, length-take 8 s)), r.0)
          (take-append-drop 8 s),
      rw (decoded_next s h) (bytes_join (group_data (take 8 s)) (decoded (drop 8 s)) (group_bytes_law (take 8 s) t.0) r.1),
      r.2,
    ))

-- what a reader is granted is the text's bytes
read_is : (s d : List ℕ) (room : ℕ) → read_mcoded7 s room ≡ granted d → decoded s ≡ d
unfolding read_mcoded7
read_is s d room q = same_grant _ _ _ refl (asked (leb (length (decoded s)) room) 3 _ d (told_all _ d s q).2).1

-- What was read is written again as the same text: spare flag bits are refused, so that no two texts have the same bytes.
pub encoded_read : (s d : List ℕ) (room : ℕ) → read_mcoded7 s room ≡ granted d → encoded d ≡ s
unfolding read_mcoded7
encoded_read s d room q = rw (← read_is s d room q) (told_all _ d s q).0

-- Each element of what is read is below 256.
pub read_bytes : (s d : List ℕ) (room : ℕ) → read_mcoded7 s room ≡ granted d → Bytes d
unfolding read_mcoded7
read_bytes s d room q = rw (← read_is s d room q) (told_all _ d s q).1

-- What was read, written over the same text, changes nothing.
pub read_then_written : (s d : List ℕ) (room : ℕ) → read_mcoded7 s room ≡ granted d → writing (write_mcoded7 d (length s)) s ≡ outcome (granted (length s)) s
read_then_written s d room q =
    let e = encoded_read s d room q in
    let w : write_mcoded7 d (length s) ≡ granted s = rw e at (write_granted d (length s) (rw e (le_refl (length s)))) in
    rw (w, drop-length s, append-nil s)

-- What a writer is granted has a byte for each of the list and a flag byte for each seven of them and those left over.
pub written_length : (xs bs : List ℕ) (room : ℕ) → write_mcoded7 xs room ≡ granted bs → length bs ≡ length xs + (length xs + 6) / 7
written_length xs bs room q = rw (← written_is xs bs room q) (length_encoded xs)

-- What a reader is granted has a byte for each of the text but its flag bytes, one for each eight and those left over.
pub read_length : (s d : List ℕ) (room : ℕ) → read_mcoded7 s room ≡ granted d → length d ≡ length s - (length s + 7) / 8
read_length s d room q = rw (← read_is s d room q) (length_decoded s)
