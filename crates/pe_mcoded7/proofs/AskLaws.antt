-- The laws of the questions that are put to the groups of a text, and the cases of reading and writing.
-- Assumes nothing.
use Prim.Native.Nat.{ℕ, zero, suc, ◌-◌, ◌%◌, ◌^◌, ◌<◌, ◌≤◌}
use mathlib.Core.Bool.{true}
use mathlib.Core.List.{List, [], ◌∷◌, ◌++◌}
use mathlib.Core.Path.{◌≡◌, refl, ◌∙◌}
use native.Mathlib.Omega.{arith}
use borrow.Author.Tests.{le-leb, lt-leb, leb-true, eq-eqb, eqb-true}
use lib.Dec.{leb, eqb}
use lib.ListN.{length, get_or, take, drop, take-append-drop}
use Rattle.seven_bit.specs.Reply.{Reply, granted, refused, ◌else◌then◌, and_next}
use Rattle.seven_bit.specs.SevenBit.{is_seven_bit}
use Rattle.seven_bit.proofs.ReplyLaws.{asked, then_else}
use Rattle.seven_bit.proofs.SevenBitLaws.{seven_bit_cons, seven_bit_split}
use Rattle.pe_mcoded7.specs.Mcoded7.{encoded, write_mcoded7, groups, decoded, ask_group, ask_groups, read_mcoded7}
use Rattle.pe_mcoded7.proofs.TextLaws.{nothing, by_groups, groups_none, groups_next, Chunk, chunk_front, chunk_behind}

-- what follows the questions may be put after them
then_group : {A B : Type 0} (g : List ℕ) (r : Reply A) (r' : Reply B) (f : A → Reply B) → r' ≡ and_next r f → ask_group g r' ≡ and_next (ask_group g r) f
unfolding ask_group
then_group g r r' f e =
    then_else (leb 2 (length g)) 9 _ _ f
    (then_else (is_seven_bit g) 1 _ _ f
    (then_else (eqb (get_or g 0 0 % 2 ^ (8 - length g)) 0) 9 r r' f e))

then_groups : {A B : Type 0} (gs : List (List ℕ)) (r : Reply A) (r' : Reply B) (f : A → Reply B) → r' ≡ and_next r f
    → ask_groups gs r' ≡ and_next (ask_groups gs r) f
unfolding ask_groups
then_groups [] r r' f e = e
then_groups (g ∷ gs) r r' f e = then_group g (ask_groups gs r) (ask_groups gs r') f (then_groups gs r r' f e)

-- a group that is allowed
pub group_good : {A : Type 0} (g : List ℕ) (next : Reply A) → 2 ≤ length g → is_seven_bit g ≡ true → get_or g 0 0 % 2 ^ (8 - length g) ≡ 0 → ask_group g next ≡ next
unfolding ask_group
group_good g next h l e = rw (le-leb _ _ h, l, eq-eqb _ _ e)

-- what is asked of a text before anything is written
abbrev pub ask_text : List ℕ → Reply ℕ
ask_text s = ask_groups (groups s) (granted 0)

-- the first group, and those after it
pub check_next : {s g rest : List ℕ} → Chunk 8 s g rest → ask_text s ≡ and_next (ask_group g (granted 0)) (λ (_ : ℕ). ask_text rest)
unfolding ask_groups
check_next {s} {g} {rest} c =
    rw (groups_next s c.some, chunk_front c, chunk_behind c) (then_group {A = ℕ} g (granted 0) _ (λ _. ask_text rest) refl)

pub check_end : (rest : List ℕ) → length rest ≡ 0 → ask_text rest ≡ granted 0
unfolding ask_groups
check_end rest e = rw (nothing rest e, groups_none)

-- a text's answer: a refusal of its groups, or no room, or its bytes
pub read_then : (s : List ℕ) (room : ℕ) → read_mcoded7 s room ≡ and_next (ask_text s) (λ _. leb (length (decoded s)) room else 3 then granted (decoded s))
unfolding read_mcoded7
read_then s room = then_groups {A = ℕ} (groups s) (granted 0) _ (λ _. leb (length (decoded s)) room else 3 then granted (decoded s)) refl

pub read_short : (s : List ℕ) (room : ℕ) → ask_text s ≡ granted 0 → room < length (decoded s) → read_mcoded7 s room ≡ refused 3 0
read_short s room q h = read_then s room ∙ rw (q, lt-leb _ _ h)

pub read_granted : (s : List ℕ) (room : ℕ) → ask_text s ≡ granted 0 → length (decoded s) ≤ room → read_mcoded7 s room ≡ granted (decoded s)
read_granted s room q h = read_then s room ∙ rw (q, le-leb _ _ h)

pub write_granted : (xs : List ℕ) (room : ℕ) → length (encoded xs) ≤ room → write_mcoded7 xs room ≡ granted (encoded xs)
unfolding write_mcoded7
write_granted xs room h = rw (le-leb _ _ h)

-- bytes up to 7F in parts of a list
pub seven_bit_join : (a b : List ℕ) → is_seven_bit a ≡ true → is_seven_bit b ≡ true → is_seven_bit (a ++ b) ≡ true
seven_bit_join [] b p q = q
seven_bit_join (x ∷ a) b p q = let h = seven_bit_split x a p in seven_bit_cons x (a ++ b) h.0 (seven_bit_join a b h.1 q)

pub seven_bit_take : (k : ℕ) (s : List ℕ) → is_seven_bit s ≡ true → is_seven_bit (take k s) ≡ true
unfolding is_seven_bit
seven_bit_take zero s p = refl
seven_bit_take (suc k) [] p = refl
seven_bit_take (suc k) (x ∷ s) p = let h = seven_bit_split x s p in seven_bit_cons x (take k s) h.0 (seven_bit_take k s h.1)

pub seven_bit_drop : (k : ℕ) (s : List ℕ) → is_seven_bit s ≡ true → is_seven_bit (drop k s) ≡ true
seven_bit_drop zero s p = p
seven_bit_drop (suc k) [] p = p
seven_bit_drop (suc k) (x ∷ s) p = seven_bit_drop k s (seven_bit_split x s p).1

-- what a grant tells of a group
pub record Group (g : List ℕ) : Type 0 where
  pub long : 2 ≤ length g
  pub low : is_seven_bit g ≡ true
  pub unspared : get_or g 0 0 % 2 ^ (8 - length g) ≡ 0

pub group_told : {A : Type 0} (g : List ℕ) (next : Reply A) (a : A) → ask_group g next ≡ granted a → Group g × (next ≡ granted a)
unfolding ask_group
group_told g next a q =
    let x = asked (leb 2 (length g)) 9 _ a q in
    let y = asked (is_seven_bit g) 1 _ a x.1 in
    let z = asked (eqb (get_or g 0 0 % 2 ^ (8 - length g)) 0) 9 next a y.1 in
    (record { long = leb-true 2 (length g) x.0; low = y.0; unspared = eqb-true _ 0 z.0 }, z.1)

-- and of the groups of a text: the first, and the rest
pub groups_told : {A : Type 0} (s : List ℕ) (next : Reply A) (a : A) → 0 < length s → ask_groups (groups s) next ≡ granted a
    → Group (take 8 s) × (ask_groups (groups (drop 8 s)) next ≡ granted a)
unfolding ask_groups
groups_told s next a h q = group_told (take 8 s) _ a (rw (groups_next s h) at q)

pub groups_low : (s : List ℕ) → ask_text s ≡ granted 0 → is_seven_bit s ≡ true
unfolding is_seven_bit
groups_low =
    by_groups 8 (λ (s : List ℕ). ask_text s ≡ granted 0 → is_seven_bit s ≡ true) (omega arith)
    (λ q. refl)
    (λ s h ih q.
    let t = groups_told {A = ℕ} s (granted 0) 0 h q in
    rw (take-append-drop 8 s) at (seven_bit_join (take 8 s) (drop 8 s) t.0.low (ih t.1)))
