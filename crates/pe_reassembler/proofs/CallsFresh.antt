-- The laws of a table that is made: words filled with 0, and records one after the other.
-- Assumes nothing.
use Prim.Native.Nat.{ℕ, zero, suc, ◌+◌, ◌-◌, ◌*◌, ◌≤◌}
use mathlib.Core.Bool.{true}
use mathlib.Core.List.{List, ◌∷◌, ◌++◌, append_assoc}
use mathlib.Core.Path.{◌≡◌, refl, ap, ◌∙◌}
use native.Mathlib.Numerals.{add-one}
use native.Mathlib.Omega.{arith}
use lib.ListN.{length, set, take, drop, replicate, length-append}
use lib.Seq.{drop-drop, length-take-le}
use Rattle.seven_bit.specs.Parts.{splice, put}
use Rattle.seven_bit.proofs.PartLaws.{put_put, put_is, put_front}
use Rattle.seven_bit.specs.Reply.{granted}
use Rattle.pe_slot.specs.Layout.{slot_words}
use Rattle.pe_reassembler.specs.declared.shape.Shape.{Shape}
use Rattle.pe_reassembler.specs.Calls.{fresh_peers, fresh, new_call}
use Rattle.pe_reassembler.specs.Table.{has_rooms, peer_at, numbers_len, rooms_len, peer_words}
use Rattle.pe_reassembler.proofs.TableClose.{part_back}
use Rattle.pe_reassembler.proofs.TableLaws.{index_long}

-- the record of one peer
pub fresh_one : (w : List ℕ) {z : List ℕ} → length w ≡ peer_words → z ≡ replicate (length w) 0 → set z 1 0x0FFFFFFF ≡ fresh_peers 1
unfolding fresh_peers
fresh_one w h e = rw (e, h)

pub length_fresh : (n : ℕ) → length (fresh_peers n) ≡ peer_words * n
unfolding fresh_peers
length_fresh zero = refl
length_fresh (suc n) =
    let e = length_fresh n in
    let l : length (replicate (4 * slot_words) 0 ++ fresh_peers n) ≡ length (replicate {A = ℕ} (4 * slot_words) 0) + length (fresh_peers n)
    = length-append (replicate (4 * slot_words) 0) (fresh_peers n) in
    omega arith

fresh_next : (n : ℕ) → fresh_peers n ++ fresh_peers 1 ≡ fresh_peers (suc n)
unfolding fresh_peers
fresh_next zero = refl
fresh_next (suc n) =
    ap (λ (l : List ℕ). 0 ∷ 0x0FFFFFFF ∷ l)
    (append_assoc (replicate (4 * slot_words) 0) (fresh_peers n) (fresh_peers 1) ∙ ap (λ (l : List ℕ). replicate (4 * slot_words) 0 ++ l) (fresh_next n))

-- one record more
splice_put : (a k : ℕ) (xs ys : List ℕ) → a + k ≤ length xs → length ys ≡ k → splice a k xs ys ≡ put xs a ys
splice_put a k xs ys h e =
    let l : a + length ys ≤ length xs = omega arith in
    rw (drop-drop k a xs, put_is xs a ys l, e, append_assoc)

pub fresh_step : (n0 : List ℕ) (p : ℕ) {numbers words : List ℕ} {at : ℕ} → at ≡ peer_at p → at + peer_words ≤ length numbers
    → numbers ≡ put n0 1 (fresh_peers p) → words ≡ fresh_peers 1
    → take at numbers ++ (words ++ drop (at + peer_words - at) (drop at numbers)) ≡ put n0 1 (fresh_peers (p + 1))
fresh_step n0 p {numbers} {words} {at} e h f g =
    let l = length_fresh p in
    let q : at ≡ 1 + length (fresh_peers p) = omega arith in
    part_back at peer_words numbers words
    ∙ splice_put at peer_words numbers words h (ap (λ (w : List ℕ). length w) g ∙ length_fresh 1)
    ∙ rw (f, g) (put_put n0 1 (fresh_peers p) (fresh_peers 1) at q ∙ rw (fresh_next p, add-one p))

-- behind the clock
put_second : (xs : List ℕ) (y : ℕ) (ys : List ℕ) → put (set xs 0 y) 1 ys ≡ put xs 0 (y ∷ ys)
unfolding put
put_second xs y ys = refl

pub fresh_clock : (n0 : List ℕ) (n : ℕ) {numbers : List ℕ} → peer_at n ≤ length n0 → numbers ≡ put (set n0 0 1) 1 (fresh_peers n)
    → numbers ≡ (1 ∷ fresh_peers n) ++ drop (peer_at n) n0
fresh_clock n0 n m f =
    let l = length_fresh n in
    let c : length (1 ∷ fresh_peers n) ≡ peer_at n = omega arith in
    f ∙ put_second n0 1 (fresh_peers n) ∙ put_front n0 (1 ∷ fresh_peers n) (omega arith) ∙ ap (λ (k : ℕ). (1 ∷ fresh_peers n) ++ drop k n0) c

-- and all of a table
pub made : (shape : Shape) (numbers index headers arenas : List ℕ) {numbers' zeros : List ℕ} → has_rooms shape numbers index headers arenas ≡ true
    → numbers' ≡ (1 ∷ fresh_peers shape.max_peers) ++ drop (numbers_len shape) numbers
    → zeros ≡ replicate (length (take (rooms_len shape.fragment_records shape) index)) 0
    → fresh (granted 0) numbers' (zeros ++ drop (rooms_len shape.fragment_records shape) index) ≡ new_call shape numbers index headers arenas
unfolding new_call
made shape numbers index headers arenas {numbers'} {zeros} t e f =
    let l = length-take-le (rooms_len shape.fragment_records shape) index (index_long shape numbers index headers arenas t).1 in
    rw (t, e, f, l)
