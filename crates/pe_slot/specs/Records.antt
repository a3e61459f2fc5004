-- What the private passes over a slot's records say.
-- Assumes nothing.
use Rattle.std.specs.Prelude.{◌≡◌, ℕ, ◌+◌, ◌*◌, ◌%◌, ◌≤◌, Bool, true, false, cond, ◌&&◌, List, [], ◌∷◌, ◌++◌, length, drop, ◌==◌, nat_le, position, Option, Some, None}
use Rattle.std.specs.List.{list_all}
use Rattle.pe_slot.specs.declared.records.Pass.{Pass}
use Rattle.pe_slot.specs.Memory.{meta_number, meta_len, meta_offset, ends_at}
use Rattle.pe_slot.specs.Slot.{Piece, all_held, body_of}

-- Is a chunk number among the records?
unfoldable pub holds : ℕ → List ℕ → Bool
holds n [] = false
holds n (x ∷ xs) = cond (meta_number x == n) true (holds n xs)

-- Does no record have a chunk number above n?
unfoldable pub up_to : ℕ → List ℕ → Bool
up_to n records = list_all (λ x. nat_le (meta_number x) n) records

-- The place of the first record with a chunk number. `holds` asks whether there is one: the law `holds_placed` says so.
abbrev pub place_of : ℕ → List ℕ → Option ℕ
place_of n records = position (λ x. meta_number x == n) records

abbrev pub is_place : Option ℕ → Bool
is_place None = false
is_place (Some i) = true

-- One pass: where the records end, if they lie end to end from 0, and whether the number is among them.
pub record Scanned (r : Pass) (records : List ℕ) (n : ℕ) : Type 0 where
  pub ends : r.end ≡ ends_at 0 records
  pub held : r.held ≡ holds n records

-- What the record of the next chunk adds to the word of a record, where both chunks have one length.
abbrev pub step_of : ℕ → ℕ
step_of x = meta_len x * 4294967296 + 1

-- The word that n such records on lead to. Words wrap.
abbrev pub steps : ℕ → ℕ → ℕ
steps n x = (x + n * step_of x) % 18446744073709551616

-- Is each record the word before it and a step?
unfoldable pub is_stepped : ℕ → ℕ → List ℕ → Bool
is_stepped step x [] = true
is_stepped step x (y ∷ ys) = y == (x + step) % 18446744073709551616 && is_stepped step y ys

-- Do the records lie end to end from 0, with the numbers 1, 2 and so on, and one length from the second on? Asked of two and more.
unfoldable pub is_even : List ℕ → Bool
is_even [] = false
is_even (x ∷ []) = false
is_even (x ∷ y ∷ ys) =
    (meta_offset x == 0)
    && meta_number x == 1
    && meta_offset y == meta_len x
    && meta_number y == 2
    && is_stepped (step_of y) y ys

-- What joining asks: the records end within the arena, and the output has room for all of them.
pub record Laid (records arena out : List ℕ) (n : ℕ) : Type 0 where
  pub few : length records ≤ 2048
  pub ends : ends_at 0 records ≡ Some n
  pub bytes : n ≤ length arena
  pub room : n ≤ length out

-- The body's length, where every number from 1 to the count is held, and the output then.
pub record JoinedInto : Type 0 where
  pub len : Option ℕ
  pub out : List ℕ

abbrev pub joined_into : Option ℕ → List ℕ → JoinedInto
joined_into len out = record { len = len; out = out }

unfoldable pub join_pieces : ℕ → List Piece → List ℕ → JoinedInto
join_pieces count ps out =
    cond (all_held count ps)
    (joined_into (Some (length (body_of ps))) (body_of ps ++ drop (length (body_of ps)) out))
    (joined_into None out)
