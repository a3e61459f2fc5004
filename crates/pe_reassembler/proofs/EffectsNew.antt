-- What `new` leaves: every word of each slot is 0, no peer is bound, and the records' rooms are filled with 0.
-- Assumes nothing.
use Prim.Native.Nat.{ℕ, zero, suc, ◌+◌, ◌-◌, ◌*◌, ◌≤◌, ◌<◌}
use mathlib.Core.Bool.{true, false}
use mathlib.Core.List.{List, ◌∷◌, ◌++◌, append_assoc}
use mathlib.Core.Path.{◌≡◌, refl, sym, ap, ◌∙◌}
use native.Mathlib.Omega.{arith}
use lib.ListN.{length, get_or, take, drop, replicate, length-append, length-drop, length-replicate, replicate-append-replicate}
use lib.Seq.{drop-drop, drop_at, take_at}
use Rattle.seven_bit.specs.Parts.{part}
use Rattle.pe_slot.specs.Layout.{slot_words}
use Rattle.pe_reassembler.specs.declared.shape.Shape.{Shape}
use Rattle.pe_reassembler.specs.Calls.{fresh_peers, new_call}
use Rattle.pe_reassembler.specs.Feed.{words_part, room_part}
use Rattle.pe_reassembler.specs.Table.{has_rooms, numbers_len, rooms_len, peer_at, slot_at, room_at, is_bound, peer_words}
use Rattle.pe_reassembler.proofs.CallsFresh.{length_fresh}
use Rattle.pe_reassembler.proofs.Effects.{rooms_told}
use Rattle.pe_reassembler.proofs.FeedLaws.{room_in}
use Rattle.pe_reassembler.proofs.PlaceLaws.{part_part, get_part}

-- the words of one peer among those of all
fresh_part : (n p : ℕ) (rest : List ℕ) → p < n → part (peer_words * p) peer_words (fresh_peers n ++ rest) ≡ fresh_peers 1
unfolding fresh_peers
fresh_part zero p rest h = absurd (omega arith)
fresh_part (suc n) zero rest h = refl
fresh_part (suc n) (suc p) rest h =
    let e : peer_words * suc p ≡ peer_words + peer_words * p = omega arith in
    ap (λ (i : ℕ). part i peer_words (fresh_peers (suc n) ++ rest)) e
    ∙ ap (λ (l : List ℕ). take peer_words l) (sym (drop-drop (peer_words * p) peer_words (fresh_peers (suc n) ++ rest)))
    ∙ fresh_part n p rest (omega arith)

-- a part of a list of zeros
abbrev zeros : ℕ → List ℕ
zeros n = replicate n 0

zeros_part : (a k n : ℕ) (rest : List ℕ) → a + k ≤ n → part a k (zeros n ++ rest) ≡ zeros k
zeros_part a k n rest h =
    let j : ℕ = n - (a + k) in
    let e : n ≡ a + (k + j) = omega arith in
    let z : zeros n ≡ zeros a ++ (zeros k ++ zeros j) =
    ap zeros e ∙ sym (replicate-append-replicate a (k + j) 0) ∙ ap (λ (l : List ℕ). zeros a ++ l) (sym (replicate-append-replicate k j 0)) in
    ap (λ (l : List ℕ). part a k (l ++ rest)) z
    ∙ ap (λ (l : List ℕ). part a k l) (append_assoc (zeros a) (zeros k ++ zeros j) rest)
    ∙ ap (λ (l : List ℕ). take k l) (drop_at (zeros a) ((zeros k ++ zeros j) ++ rest) a (length-replicate a 0) ∙ append_assoc (zeros k) (zeros j) rest)
    ∙ take_at (zeros k) (zeros j ++ rest) k (length-replicate k 0)

module _ (shape : Shape) (numbers index headers arenas : List ℕ) (h : has_rooms shape numbers index headers arenas ≡ true) where
  abbrev n : ℕ
  n = shape.max_peers

  abbrev R : ℕ
  R = shape.fragment_records

  made_numbers : (new_call shape numbers index headers arenas).numbers ≡ (1 ∷ fresh_peers n) ++ drop (numbers_len shape) numbers
  unfolding new_call
  made_numbers = rw h

  made_index : (new_call shape numbers index headers arenas).index ≡ replicate (rooms_len R shape) 0 ++ drop (rooms_len R shape) index
  unfolding new_call
  made_index = rw h

  numbers_length : length ((1 ∷ fresh_peers n) ++ drop (numbers_len shape) numbers) ≡ length numbers
  numbers_length =
      let f = length_fresh n in
      let r = (rooms_told shape numbers index headers arenas h).numbers_long in
      simp (length-append, length-drop) (omega arith)

  peer_part : (p : ℕ) → p < n → part (peer_at p) peer_words (new_call shape numbers index headers arenas).numbers ≡ fresh_peers 1
  peer_part p k =
      ap (λ (l : List ℕ). part (peer_at p) peer_words l) made_numbers
      ∙ ap (λ (l : List ℕ). take peer_words l) (sym (drop-drop (peer_words * p) 1 ((1 ∷ fresh_peers n) ++ drop (numbers_len shape) numbers)))
      ∙ fresh_part n p (drop (numbers_len shape) numbers) k

  new_long : length (new_call shape numbers index headers arenas).numbers ≡ length numbers
  new_long = ap length made_numbers ∙ numbers_length

  in_peer : (p i : ℕ) → p < n → i < peer_words → get_or (new_call shape numbers index headers arenas).numbers (peer_at p + i) 0 ≡ get_or (fresh_peers 1) i 0
  in_peer p i k l =
      sym (get_part (peer_at p) peer_words i (new_call shape numbers index headers arenas).numbers l) ∙ ap (λ (w : List ℕ). get_or w i 0) (peer_part p k)

  pub new_words : (p s : ℕ) → p < n → s < 4 → words_part (new_call shape numbers index headers arenas).numbers p s ≡ replicate slot_words 0
  unfolding fresh_peers
  new_words p s k l =
      let e : slot_at p s ≡ peer_at p + (2 + slot_words * s) = omega arith in
      let m = (rooms_told shape numbers index headers arenas h).numbers_long in
      ap (λ (i : ℕ). part i slot_words (new_call shape numbers index headers arenas).numbers) e
      ∙ sym (part_part (2 + slot_words * s) slot_words (peer_at p) peer_words (new_call shape numbers index headers arenas).numbers (omega arith) (omega (arith, new_long)))
      ∙ ap (λ (w : List ℕ). part (2 + slot_words * s) slot_words w) (peer_part p k)
      ∙ sym (part_part (slot_words * s) slot_words 2 (4 * slot_words) (fresh_peers 1) (omega arith) (omega arith))
      ∙ zeros_part (slot_words * s) slot_words (4 * slot_words) (fresh_peers 0) (omega arith)

  pub new_bound : (p : ℕ) → p < n → is_bound (new_call shape numbers index headers arenas).numbers p ≡ false
  unfolding is_bound fresh_peers
  new_bound p k =
      let z : peer_at p + 0 ≡ peer_at p = omega arith in
      let e : get_or (new_call shape numbers index headers arenas).numbers (peer_at p) 0 ≡ 0 = rw z at (in_peer p 0 k (omega arith)) in
      rw e

  pub new_muid : (p : ℕ) → p < n → get_or (new_call shape numbers index headers arenas).numbers (peer_at p + 1) 0 ≡ 0x0FFFFFFF
  unfolding fresh_peers
  new_muid p k = in_peer p 1 k (omega arith)

  pub new_clock : get_or (new_call shape numbers index headers arenas).numbers 0 0 ≡ 1
  new_clock = ap (λ (l : List ℕ). get_or l 0 0) made_numbers

  pub new_index : (p s : ℕ) → p < n → s < 4 → room_part R (new_call shape numbers index headers arenas).index p s ≡ replicate R 0
  new_index p s k l =
      ap (λ (i : List ℕ). room_part R i p s) made_index
      ∙ zeros_part (room_at R p s) R (rooms_len R shape) (drop (rooms_len R shape) index) (room_in R n p s k l)

  pub new_lengths : (length (new_call shape numbers index headers arenas).numbers ≡ length numbers) × (length (new_call shape numbers index headers arenas).index ≡ length index)
  new_lengths = (new_long, ap length made_index ∙ filled (rooms_told shape numbers index headers arenas h).index_long)
    where
      filled : rooms_len R shape ≤ length index → length (replicate (rooms_len R shape) 0 ++ drop (rooms_len R shape) index) ≡ length index
      filled g = simp (length-append, length-replicate, length-drop) (omega arith)
