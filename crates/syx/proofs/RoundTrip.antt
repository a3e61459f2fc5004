-- A file written as messages one after the other reads back as them.
-- Assumes nothing.
use Prim.Native.Nat.{ℕ, suc, ◌+◌, ◌-◌}
use mathlib.Core.Bool.{true}
use mathlib.Core.List.{List, [], ◌∷◌, ◌++◌, map}
use mathlib.Core.Path.{◌≡◌, refl, ap, ◌∙◌}
use native.Mathlib.Omega.{arith}
use borrow.Author.Tests.{le-leb}
use lib.ListN.{length, take, drop}
use lib.Seq.{take_at, drop-drop, drop-append-add}
use Rattle.seven_bit.specs.SevenBit.{is_seven_bit}
use Rattle.seven_bit.proofs.SevenBitLaws.{seven_bit_split}
use Rattle.syx.specs.Syx.{Body, Contents, with_body, outside, inside, read_from, read_file}
use Rattle.syx.specs.Messages.{later, file_of, SevenBit, none, one, body_in, ReadsBack}
use Rattle.syx.proofs.Independence.{read_later}

-- a body and its F7 behind an F0
body_read : (m s : List ℕ) (place i j : ℕ) → is_seven_bit m ≡ true → j ≡ i + length m
    → read_from (inside place) i (m ++ (0xF7 ∷ s)) ≡ with_body place (j - place) (read_from outside (j + 1) s)
unfolding read_from
body_read [] s place i j h e = let z : j ≡ i = omega arith in rw z
body_read (b ∷ bs) s place i j h e =
    let k = seven_bit_split b bs h in
    rw (le-leb b 127 k.0) (body_read bs s place (i + 1) j k.1 (omega arith))

pub message_first : (m s : List ℕ) → is_seven_bit m ≡ true → read_file (0xF0 ∷ (m ++ (0xF7 ∷ s))) ≡ with_body 1 (length m) (later (length m + 2) (read_file s))
unfolding read_from
message_first m s h =
    let d : length m + 1 - 1 ≡ length m = omega arith in
    body_read m s 1 1 (length m + 1) h (omega arith)
    ∙ rw d
    (ap (with_body 1 (length m)) (read_later s (length m + 2) 0 (length m + 1 + 1) (omega arith) outside))

-- the others, places counted from behind the first
bodies_later : (n : ℕ) (file : List ℕ) (bs : List Body)
    → map (body_in file) (map (λ (b : Body). record { place = n + b.place; len = b.len }) bs) ≡ map (body_in (drop n file)) bs
bodies_later n file [] = refl
bodies_later n file (b ∷ bs) = rw (drop-drop b.place n file) (ap (λ (l : List (List ℕ)). take b.len (drop (n + b.place) file) ∷ l) (bodies_later n file bs))

behind_message : (m s : List ℕ) → drop (length m + 2) (0xF0 ∷ (m ++ (0xF7 ∷ s))) ≡ s
behind_message m s =
    let n : length m + 2 ≡ suc (length m + 1) = omega arith in
    ap (λ (k : ℕ). drop k (0xF0 ∷ (m ++ (0xF7 ∷ s)))) n ∙ drop-append-add m (0xF7 ∷ s) 1

read_back_first : (m s : List ℕ) → is_seven_bit m ≡ true
    → map (body_in (0xF0 ∷ (m ++ (0xF7 ∷ s)))) (read_file (0xF0 ∷ (m ++ (0xF7 ∷ s)))).bodies ≡ m ∷ map (body_in s) (read_file s).bodies
read_back_first m s h =
    ap (λ (c : Contents). map (body_in (0xF0 ∷ (m ++ (0xF7 ∷ s)))) c.bodies) (message_first m s h)
    ∙ ap (λ (x : List ℕ). x ∷ map (body_in (0xF0 ∷ (m ++ (0xF7 ∷ s)))) (later (length m + 2) (read_file s)).bodies) (take_at m (0xF7 ∷ s) (length m) refl)
    ∙ ap (λ (l : List (List ℕ)). m ∷ l) (bodies_later (length m + 2) (0xF0 ∷ (m ++ (0xF7 ∷ s))) (read_file s).bodies)
    ∙ rw (behind_message m s)

pub reads_back : (messages : List (List ℕ)) → SevenBit messages → ReadsBack messages
unfolding file_of read_from
reads_back [] none = record { them = refl; none_torn = refl }
reads_back (m ∷ ms) (one h hs) =
    let below = reads_back ms hs in
    record {
      them = read_back_first m (file_of ms) h ∙ ap (λ (l : List (List ℕ)). m ∷ l) below.them;
      none_torn = ap (λ (c : Contents). c.torn) (message_first m (file_of ms) h) ∙ below.none_torn;
    }
