-- The laws of a slot's memory: records that lie end to end, the pieces that they name, and one record more.
-- Assumes nothing.
use Rattle.std.proofs.Common.{◌≡◌, ℕ, ◌+◌, ◌<◌, ◌≤◌, Bool, true, cond, ◌&&◌, eqb, leb, List, [], ◌∷◌, ◌++◌, length, take, drop, set, sym, refl, ap, ◌∙◌, add-one, arith, take-append-drop, length-take-le, take-suc-set, eq-eqb}
use mathlib.Core.List.{map-append}
use Rattle.std.specs.Prelude.{Some}
use lib.ListN.{length-map}
use Rattle.seven_bit.specs.Parts.{part, splice}
use Rattle.seven_bit.proofs.PartLaws.{part_splice, part_front}
use Rattle.pe_slot.specs.Slot.{Piece, held, held_within}
use Rattle.pe_slot.specs.Memory.{packed, meta_number, meta_len, meta_offset, piece_of, pieces_of, ends_at}
use Rattle.pe_slot.specs.Records.{holds, up_to}
use Rattle.pe_slot.proofs.RecordLaws.{ends_cons, ends_after}

-- a record, packed and taken apart
pub packed_offset : (k n a : ℕ) → k < 65536 → n < 65536 → meta_offset (packed k n a) ≡ a
packed_offset k n a h g = omega arith

pub packed_len : (k n a : ℕ) → k < 65536 → n < 65536 → meta_len (packed k n a) ≡ n
packed_len k n a h g = omega arith

pub packed_number : (k n a : ℕ) → k < 65536 → meta_number (packed k n a) ≡ k
packed_number k n a h = omega arith

ends_nil : (at end : ℕ) → ends_at at [] ≡ Some end → at ≡ end
unfolding ends_at
ends_nil at end e = cc

-- one record more
pub ends_snoc : (at : ℕ) (xs : List ℕ) (x n : ℕ) → ends_at at xs ≡ Some n → meta_offset x ≡ n → ends_at at (xs ++ (x ∷ [])) ≡ Some (n + meta_len x)
unfolding ends_at
ends_snoc at [] x n e q = let r = ends_nil at n e in rw (r, eq-eqb (meta_offset x) n q)
ends_snoc at (y ∷ ys) x n e q =
    let p = ends_cons at y ys n e in
    rw (eq-eqb (meta_offset y) at p.0) (ends_snoc (at + meta_len y) ys x n p.1 q)

-- what the records tell of the pieces
pub holds_held : (n : ℕ) (records arena : List ℕ) → held n (pieces_of records arena) ≡ holds n records
unfolding held holds pieces_of piece_of
holds_held n [] arena = refl
holds_held n (x ∷ xs) arena = ap (λ (b : Bool). cond (eqb (meta_number x) n) true b) (unfold pieces_of in (holds_held n xs arena))

pub up_to_within : (n : ℕ) (records arena : List ℕ) → held_within n (pieces_of records arena) ≡ up_to n records
unfolding held_within up_to pieces_of piece_of
up_to_within n [] arena = refl
up_to_within n (x ∷ xs) arena = ap (λ (b : Bool). leb (meta_number x) n && b) (unfold pieces_of in (up_to_within n xs arena))

pub pieces_length : (records arena : List ℕ) → length (pieces_of records arena) ≡ length records
unfolding pieces_of
pieces_length records arena = length-map records (piece_of arena)

-- a part that lies before what is put in
part_before : (a k b m : ℕ) (xs ys : List ℕ) → a + k ≤ length xs → b + m ≤ a → part b m (splice a k xs ys) ≡ part b m xs
part_before a k b m xs ys h l =
    let n : length (take a xs) ≡ a = length-take-le a xs (omega arith) in
    part_front b m (take a xs) (ys ++ drop k (drop a xs)) (omega arith)
    ∙ sym (part_front b m (take a xs) (drop a xs) (omega arith))
    ∙ ap (λ (l' : List ℕ). part b m l') (take-append-drop a xs)

-- the pieces stay when bytes are put behind them
pub pieces_before : (at : ℕ) (records arena ys : List ℕ) (end k : ℕ) → ends_at at records ≡ Some end → end + k ≤ length arena
    → pieces_of records (splice end k arena ys) ≡ pieces_of records arena
unfolding pieces_of piece_of
pieces_before at [] arena ys end k e l = refl
pieces_before at (x ∷ xs) arena ys end k e l =
    let p = ends_cons at x xs end e in
    let r = ends_after (at + meta_len x) xs end p.1 in
    let b : part (meta_offset x) (meta_len x) (splice end k arena ys) ≡ part (meta_offset x) (meta_len x) arena =
    part_before end k (meta_offset x) (meta_len x) arena ys l (omega (arith, p.0)) in
    let i = pieces_before (at + meta_len x) xs arena ys end k p.1 l in
    rw b (ap (λ (ps : List Piece). record { number = meta_number x; bytes = part (meta_offset x) (meta_len x) arena } ∷ ps) (unfold pieces_of in i))

map_snoc : (arena xs : List ℕ) (x : ℕ) → pieces_of (xs ++ (x ∷ [])) arena ≡ pieces_of xs arena ++ (piece_of arena x ∷ [])
unfolding pieces_of
map_snoc arena xs x = map-append (piece_of arena) xs (x ∷ [])

-- a piece more: the record at the end of the records, and its bytes at the end of theirs
module _ (index arena : List ℕ) (len end number : ℕ) (bytes : List ℕ)
    (few : len < length index) (laid : ends_at 0 (take len index) ≡ Some end) (room : end + length bytes ≤ length arena)
    (named : number < 65536) (short : length bytes < 65536) where
  pub ends_grown : ends_at 0 (take (len + 1) (set index len (packed number (length bytes) end))) ≡ Some (end + length bytes)
  ends_grown =
      rw (add-one, take-suc-set index len (packed number (length bytes) end) few)
      (ends_snoc 0 (take len index) (packed number (length bytes) end) end laid (packed_offset number (length bytes) end named short)
      ∙ ap (λ (n : ℕ). Some (end + n)) (packed_len number (length bytes) end named short))

  new_piece : piece_of (splice end (length bytes) arena bytes) (packed number (length bytes) end) ≡ record { number = number; bytes = bytes }
  unfolding piece_of
  new_piece =
      rw (packed_number number (length bytes) end named, packed_offset number (length bytes) end named short, packed_len number (length bytes) end named short, part_splice end (length bytes) arena bytes room refl)

  pub pieces_grown : pieces_of (take (len + 1) (set index len (packed number (length bytes) end))) (splice end (length bytes) arena bytes)
      ≡ pieces_of (take len index) arena ++ (record { number = number; bytes = bytes } ∷ [])
  pieces_grown =
      rw (add-one, take-suc-set index len (packed number (length bytes) end) few, map_snoc, pieces_before 0 (take len index) arena bytes end (length bytes) laid room, new_piece)
