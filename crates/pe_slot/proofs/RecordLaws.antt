-- The laws of records: one pass over them, where they lie, and what their pieces add up to.
-- Assumes nothing.
use Rattle.std.proofs.Common.{◌≡◌, ℕ, zero, suc, ◌+◌, ◌-◌, ◌<◌, ◌≤◌, Bool, true, false, cond, ◌&&◌, ◌||◌, eqb, leb, List, [], ◌∷◌, map, length, get_or, take, drop, refl, ap, ◌∙◌, add-one, arith, length-append, drop-cons, eqb-true}
use Rattle.std.specs.Prelude.{Option, None, Some}
use Rattle.seven_bit.specs.Parts.{part, put, put_fit, joined}
use Rattle.seven_bit.proofs.PartLaws.{fit_yes, length_part}
use Rattle.pe_slot.specs.Slot.{Piece, body_length, insert, in_order, body_of}
use Rattle.pe_slot.specs.Memory.{meta_number, meta_len, meta_offset, ends_at, piece_of, pieces_of}
use Rattle.pe_slot.specs.Records.{holds}

-- ---- one pass: a record more
lay : (t u : Bool) (more : Option ℕ) → cond t (cond u more None) None ≡ cond (t && u) more None
lay true u more = refl
lay false u more = refl

meet : (t u more : Bool) → (t || cond u true more) ≡ ((t || u) || more)
meet true u more = refl
meet false true more = refl
meet false false more = refl

module _ (xs : List ℕ) (i : ℕ) (l : i < length xs) where
  pub pass_ends : (laid : Bool) (end : ℕ)
      → cond laid (ends_at end (drop i xs)) None
      ≡ cond (laid && eqb (meta_offset (get_or xs i 0)) end) (ends_at (end + meta_len (get_or xs i 0)) (drop (i + 1) xs)) None
  unfolding ends_at
  pass_ends laid end = rw (drop-cons xs i 0 l, add-one) (lay laid (eqb (meta_offset (get_or xs i 0)) end) _)

  pub pass_held : (n : ℕ) (held : Bool)
      → (held || holds n (drop i xs)) ≡ ((held || eqb (meta_number (get_or xs i 0)) n) || holds n (drop (i + 1) xs))
  unfolding holds
  pass_held n held = rw (drop-cons xs i 0 l, add-one) (meet held (eqb (meta_number (get_or xs i 0)) n) _)

-- and none left
pub ends_none : (at : ℕ) (xs : List ℕ) → xs ≡ [] → ends_at at xs ≡ Some at
unfolding ends_at
ends_none at xs e = rw e

pub holds_none : (n : ℕ) (held : Bool) (xs : List ℕ) → xs ≡ [] → (held || holds n xs) ≡ held
unfolding holds
holds_none n held xs e = rw e (same held)
  where
    same : (t : Bool) → (t || false) ≡ t
    same true = refl
    same false = refl

-- ---- the bytes of a record, copied
pub piece_put : (out arena : List ℕ) (at offset len : ℕ) → offset + len ≤ length arena → at + len ≤ length out
    → put_fit out at (take (offset + len - offset) (drop offset arena)) ≡ put out at (part offset len arena)
piece_put out arena at offset len h g =
    let e : offset + len - offset ≡ len = omega arith in
    rw e (fit_yes out at (part offset len arena) (rw (length_part offset len arena h) g))

-- ---- where records lie that end at n: the first starts at the place, and the others lie behind it
pub ends_cons : (at x : ℕ) (xs : List ℕ) (n : ℕ) → ends_at at (x ∷ xs) ≡ Some n → (meta_offset x ≡ at) × (ends_at (at + meta_len x) xs ≡ Some n)
unfolding ends_at
ends_cons at x xs n e = go (eqb (meta_offset x) at) refl e
  where
    go : (t : Bool) → eqb (meta_offset x) at ≡ t → cond t (ends_at (at + meta_len x) xs) None ≡ Some n
        → (meta_offset x ≡ at) × (ends_at (at + meta_len x) xs ≡ Some n)
    go true q h = (eqb-true _ _ q, h)
    go false q h = absurd (let z : ◌≡◌ {A = ℕ} 0 1 = cc in omega arith)

-- they end no earlier than they start
pub ends_after : (at : ℕ) (xs : List ℕ) (n : ℕ) → ends_at at xs ≡ Some n → at ≤ n
unfolding ends_at
ends_after at [] n e = let q : at ≡ n = cc in omega arith
ends_after at (x ∷ xs) n e = let h = ends_after (at + meta_len x) xs n (ends_cons at x xs n e).1 in omega arith

-- each within the bytes
pub ends_within : (at : ℕ) (xs : List ℕ) (n j : ℕ) → ends_at at xs ≡ Some n → j < length xs → meta_offset (get_or xs j 0) + meta_len (get_or xs j 0) ≤ n
ends_within at [] n j e l = absurd (omega arith)
ends_within at (x ∷ xs) n zero e l =
    let p = ends_cons at x xs n e in
    let h = ends_after (at + meta_len x) xs n p.1 in
    omega arith
ends_within at (x ∷ xs) n (suc j) e l = ends_within (at + meta_len x) xs n j (ends_cons at x xs n e).1 (omega arith)

-- and all of them as long as the bytes are
sum_ends : (at : ℕ) (xs arena : List ℕ) (n : ℕ) → ends_at at xs ≡ Some n → n ≤ length arena → at + body_length (pieces_of xs arena) ≡ n
unfolding ends_at body_length pieces_of piece_of
sum_ends at [] arena n e h = let q : at ≡ n = cc in omega arith
sum_ends at (x ∷ xs) arena n e h =
    let p = ends_cons at x xs n e in
    let l = ends_after (at + meta_len x) xs n p.1 in
    let k : length (part (meta_offset x) (meta_len x) arena) ≡ meta_len x = length_part (meta_offset x) (meta_len x) arena (omega arith) in
    let s = sum_ends (at + meta_len x) xs arena n p.1 h in
    omega arith

pub body_ends : (xs arena : List ℕ) (n : ℕ) → ends_at 0 xs ≡ Some n → n ≤ length arena → body_length (pieces_of xs arena) ≡ n
body_ends xs arena n e h = let s = sum_ends 0 xs arena n e h in omega arith

-- ---- order keeps the length
insert_len : (p : Piece) (ps : List Piece) → body_length (insert p ps) ≡ length p.bytes + body_length ps
unfolding body_length insert
insert_len p [] = refl
insert_len p (q ∷ qs) = go (leb q.number p.number) (insert_len p qs)
  where
    go : (t : Bool) → body_length (insert p qs) ≡ length p.bytes + body_length qs
        → body_length (cond t (q ∷ insert p qs) (p ∷ q ∷ qs)) ≡ length p.bytes + (length q.bytes + body_length qs)
    go true e = omega arith
    go false e = refl

in_order_len : (sorted ps : List Piece) → body_length (in_order sorted ps) ≡ body_length sorted + body_length ps
unfolding body_length in_order
in_order_len sorted [] = omega arith
in_order_len sorted (p ∷ ps) =
    let e = in_order_len (insert p sorted) ps in
    let f = insert_len p sorted in
    omega arith

joined_len : (ps : List Piece) → length (joined (map (λ (p : Piece). p.bytes) ps)) ≡ body_length ps
unfolding body_length joined
joined_len [] = refl
joined_len (p ∷ ps) = length-append p.bytes _ ∙ ap (λ (n : ℕ). length p.bytes + n) (joined_len ps)

pub body_len : (ps : List Piece) → length (body_of ps) ≡ body_length ps
unfolding body_of body_length
body_len ps = joined_len (in_order [] ps) ∙ in_order_len [] ps ∙ omega arith
