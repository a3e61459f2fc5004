-- The laws of the lookup of a chunk number: whether a number is held and where it is, and the search for it among structs.
-- Assumes nothing.
use Rattle.std.proofs.Common.{◌≡◌, ℕ, zero, suc, ◌+◌, ◌<◌, Bool, true, false, cond, not, eqb, List, [], ◌∷◌, ◌++◌, map, length, get_or, take, set, min, sym, refl, ap, ◌∙◌, add-one, arith, take-suc, take-suc-set, take_all, leb, leb-true, leb-false}
use Rattle.std.specs.Prelude.{Some}
use Rattle.std.specs.List.{position, position_from, prefix_len}
use Rattle.std.proofs.lemmas.Iterator.Adapters.{position_from-zero}
use lib.ListN.{length-map}
use Rattle.pe_slot.specs.declared.meta.FragmentMeta.{FragmentMeta}
use Rattle.pe_slot.specs.Memory.{meta_number}
use Rattle.pe_slot.specs.Meta.{word_of, meta_of}
use Rattle.pe_slot.specs.Records.{holds, place_of, is_place}

-- ---- a number is held where it has a place
held_from : (i n : ℕ) (records : List ℕ) → holds n records ≡ is_place (position_from (λ x. eqb (meta_number x) n) i records)
unfolding holds
held_from i n [] = refl
held_from i n (x ∷ xs) = go (eqb (meta_number x) n) (held_from (i + 1) n xs)
  where
    go : (t : Bool) → holds n xs ≡ is_place (position_from (λ x. eqb (meta_number x) n) (i + 1) xs)
        → cond t true (holds n xs) ≡ is_place (cond t (Some i) (position_from (λ x. eqb (meta_number x) n) (i + 1) xs))
    go true e = refl
    go false e = e

pub holds_placed : (n : ℕ) (records : List ℕ) → holds n records ≡ is_place (place_of n records)
holds_placed n records = held_from 0 n records ∙ ap is_place (sym (position_from-zero (λ x. eqb (meta_number x) n) records))

-- ---- the search among structs is that among their words
prefix_words : (p : ℕ → Bool) (xs : List FragmentMeta) → prefix_len (λ m. p (word_of m)) xs ≡ prefix_len p (map word_of xs)
prefix_words p [] = refl
prefix_words p (m ∷ ms) = ap (λ (k : ℕ). cond (p (word_of m)) (1 + k) 0) (prefix_words p ms)

pub place_words : (n : ℕ) (xs : List FragmentMeta) → position (λ m. eqb (meta_number (word_of m)) n) xs ≡ place_of n (map word_of xs)
place_words n xs = rw (prefix_words (λ x. not (eqb (meta_number x) n)) xs, length-map xs word_of) refl

-- ---- the words of a table of structs
map_set : (xs : List FragmentMeta) (i : ℕ) (m : FragmentMeta) → map word_of (set xs i m) ≡ set (map word_of xs) i (word_of m)
map_set [] i m = refl
map_set (x ∷ xs) zero m = refl
map_set (x ∷ xs) (suc i) m = ap (λ (l : List ℕ). word_of x ∷ l) (map_set xs i m)

map_take : (n : ℕ) (xs : List FragmentMeta) → map word_of (take n xs) ≡ take n (map word_of xs)
map_take zero xs = refl
map_take (suc n) [] = refl
map_take (suc n) (x ∷ xs) = ap (λ (l : List ℕ). word_of x ∷ l) (map_take n xs)

word_back : (x : ℕ) → word_of (meta_of x) ≡ x
word_back x = omega arith

-- one word more, in its place
pub unpacked_more : (table : List FragmentMeta) (index : List ℕ) (i : ℕ) → i < length table → i < length index → take i (map word_of table) ≡ take i index
    → take (i + 1) (map word_of (set table i (meta_of (get_or index i 0)))) ≡ take (i + 1) index
unpacked_more table index i l h e =
    let n : i < length (map word_of table) = rw (length-map table word_of) l in
    rw (add-one, map_set table i (meta_of (get_or index i 0)), word_back (get_or index i 0), take-suc-set (map word_of table) i (get_or index i 0) n, take-suc index i 0 h)
    (ap (λ (l : List ℕ). l ++ (get_or index i 0 ∷ [])) e)

-- the first words of a list, but no more than m
first_min : (m : ℕ) (xs : List ℕ) → take (min (length xs) m) xs ≡ take m xs
first_min m xs = ext_min (leb (length xs) m) refl
  where
    ext_min : (t : Bool) → leb (length xs) m ≡ t → take (min (length xs) m) xs ≡ take m xs
    ext_min true e =
        let h = leb-true (length xs) m e in
        let q : min (length xs) m ≡ length xs = omega arith in
        rw (q, take_all (length xs) xs (omega arith), take_all m xs h) refl
    ext_min false e =
        let h = leb-false (length xs) m e in
        let q : min (length xs) m ≡ m = omega arith in
        rw q refl

pub unpacked : (table : List FragmentMeta) (index : List ℕ) (m : ℕ) → take (min (length index) m) (map word_of table) ≡ take (min (length index) m) index
    → map word_of (take (min (length index) m) table) ≡ take m index
unpacked table index m e = map_take (min (length index) m) table ∙ e ∙ first_min m index
