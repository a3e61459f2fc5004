-- What an open slot (document 01's transfer) does with a chunk: the questions under **Transfer**, free of how memory holds it.
-- Assumes nothing.
use Rattle.std.specs.Prelude.{ℕ, zero, suc, ◌+◌, Bool, true, false, cond, not, ◌&&◌, ◌||◌, leb, List, [], ◌∷◌, ◌++◌, map, length, ◌==◌, nat_le, nat_lt}
use Rattle.std.proofs.Math.Option.{Option, none, some}
use Rattle.seven_bit.specs.Parts.{joined}
use Rattle.seven_bit.specs.Reply.{Reply, granted, refused}
use Rattle.pe_frame.specs.Chunk.{Chunk, within_count}

-- "pieces (frame number, property bytes)"
pub record Piece : Type 0 where
  pub number : ℕ
  pub bytes : List ℕ

-- "header or none, count or 0, and pieces", in the order in which they came
pub record Slot : Type 0 where
  pub header : Option (List ℕ)
  pub count : ℕ
  pub pieces : List Piece

-- A slot as it is opened.
abbrev pub empty_slot : Slot
empty_slot = record { header = none; count = 0; pieces = [] }

-- Is the number held?
unfoldable pub held : ℕ → List Piece → Bool
held n [] = false
held n (p ∷ ps) = cond (p.number == n) true (held n ps)

-- Is every number from 1 to n held?
unfoldable pub all_held : ℕ → List Piece → Bool
all_held zero ps = true
all_held (suc n) ps = cond (held (suc n) ps) (all_held n ps) false

-- How many bytes the pieces have.
unfoldable pub body_length : List Piece → ℕ
body_length [] = 0
body_length (p ∷ ps) = length p.bytes + body_length ps

-- By number, and those of one number as they came.
unfoldable pub insert : Piece → List Piece → List Piece
insert p [] = p ∷ []
insert p (q ∷ qs) = cond (nat_le q.number p.number) (q ∷ insert p qs) (p ∷ q ∷ qs)

unfoldable pub in_order : List Piece → List Piece → List Piece
in_order sorted [] = sorted
in_order sorted (p ∷ ps) = in_order (insert p sorted) ps

-- "The joined body follows frame numbers, frames above the count included." (Since K3 calls leave none of these in a slot.)
unfoldable pub body_of : List Piece → List ℕ
body_of ps = joined (map (λ (p : Piece). p.bytes) (in_order [] ps))

-- "A list is whole with the accepted frame that leaves the count known, frame 1's header stored and every number from 1 to the count held"
unfoldable pub is_whole : Option (List ℕ) → ℕ → List Piece → Bool
is_whole none count ps = false
is_whole (some header) count ps = not (count == 0) && all_held count ps

-- "until then the answer is waiting"; a whole list is its header and its body
pub data Event : Type 0 where
  waiting : Event
  whole : List ℕ → List ℕ → Event

unfoldable pub event_of : Option (List ℕ) → ℕ → List Piece → Event
event_of none count ps = waiting
event_of (some header) count ps = cond (is_whole (some header) count ps) (whole header (body_of ps)) waiting

-- The answer, and what the questions store, take, add and close.
pub record Verdict : Type 0 where
  pub answer : Reply Event
  pub stores : Bool
  pub takes : Bool
  pub adds : Bool
  pub closes : Bool

-- A question that has a no: the slot stays, or it closes.
abbrev pub stays : ℕ → Verdict
stays number = record { answer = refused number 0; stores = false; takes = false; adds = false; closes = false }

abbrev pub closing : ℕ → Verdict
closing number = record { answer = refused number 0; stores = false; takes = false; adds = false; closes = true }

infixr 20 ◌otherwise◌then◌
abbrev pub ◌otherwise◌then◌ : Bool → Verdict → Verdict → Verdict
yes? otherwise no! then next = cond yes? next no!

abbrev pub storing : Bool → Verdict → Verdict
storing b v = record { answer = v.answer; stores = b; takes = v.takes; adds = v.adds; closes = v.closes }

abbrev pub taking : Bool → Verdict → Verdict
taking b v = record { answer = v.answer; stores = v.stores; takes = b; adds = v.adds; closes = v.closes }

-- "Frame 1: header at most H?"
unfoldable pub header_fits : ℕ → Chunk → Bool
header_fits H c = not (c.chunk_num == 1) || nat_le (length c.header) H

unfoldable pub eq_list : List ℕ → List ℕ → Bool
eq_list [] [] = true
eq_list [] (y ∷ ys) = false
eq_list (x ∷ xs) [] = false
eq_list (x ∷ xs) (y ∷ ys) = cond (x == y) (eq_list xs ys) false

-- "No header yet, or the same?", of frame 1
unfoldable pub same_header : Option (List ℕ) → List ℕ → Bool
same_header none new = true
same_header (some old) new = eq_list old new

unfoldable pub header_agrees : Slot → Chunk → Bool
header_agrees s c = not (c.chunk_num == 1) || same_header s.header c.header

unfoldable pub none_known : Option (List ℕ) → Bool
none_known none = true
none_known (some h) = false

-- "it is then stored"
unfoldable pub new_header : Slot → Chunk → Bool
new_header s c = c.chunk_num == 1 && none_known s.header

-- "it is then taken"
unfoldable pub new_count : Slot → Chunk → Bool
new_count s c = not (c.num_chunks == 0) && s.count == 0

-- Is no number held that is above n?
unfoldable pub held_within : ℕ → List Piece → Bool
held_within n [] = true
held_within n (p ∷ ps) = nat_le p.number n && held_within n ps

-- "Count 0, or none known, or the same?" And document 02, K3: "right after the count question and before the count is taken, a frame number
-- above the known count gives 8, and so does a new count below a number already held".
unfoldable pub count_agrees : Slot → Chunk → Bool
count_agrees s c =
    (c.num_chunks == 0 || s.count == 0 || s.count == c.num_chunks)
    && within_count c.chunk_num s.count
    && (not (new_count s c) || held_within c.num_chunks s.pieces)

-- The slot with what was stored, taken and added.
unfoldable pub after_chunk : Slot → Chunk → Bool → Bool → Bool → Slot
after_chunk s c stores takes adds =
    record {
      header = cond stores (some c.header) s.header;
      count = cond takes c.num_chunks s.count;
      pieces = cond adds (s.pieces ++ (record { number = c.chunk_num; bytes = c.property } ∷ [])) s.pieces;
    }

-- "Passing all adds a piece; then the list is whole by module 8's rule and its transfer closes, or the answer is waiting."
unfoldable pub passed : Slot → Verdict
passed t =
    record {
      answer = granted (event_of t.header t.count t.pieces);
      stores = false;
      takes = false;
      adds = true;
      closes = is_whole t.header t.count t.pieces;
    }

-- "Frame 1: header at most H? 4. No header yet, or the same? 8; it is then stored. Count 0, or none known, or the same? 8; it is then taken.
-- Number not 0? 8, and the transfer closes. Number not held? 8. Fewer than R held? 5. Body still at most B? 5, and it closes." K3's two
-- questions have the count's answer, 8, and "the transfer stays open": they are `count_agrees`'s.
unfoldable pub judge : ℕ → ℕ → ℕ → Slot → Chunk → Verdict
judge H B R s c =
    header_fits H c otherwise stays 4 then
    header_agrees s c otherwise stays 8 then
    storing (new_header s c)
    (count_agrees s c otherwise stays 8 then
    taking (new_count s c)
    (not (c.chunk_num == 0) otherwise closing 8 then
    not (held c.chunk_num s.pieces) otherwise stays 8 then
    nat_lt (length s.pieces) R otherwise stays 5 then
    leb (body_length s.pieces + length c.property) B otherwise closing 5 then
    passed (after_chunk s c (new_header s c) (new_count s c) true)))

-- Is every number that is held within the count, where that is known? A law says that each slot keeps this by chunks that are
-- within their own count (proofs/WithinLaws).
unfoldable pub all_within : Slot → Bool
all_within s = s.count == 0 || held_within s.count s.pieces

-- The slot after the verdict, where it stays open.
abbrev pub slot_after : Slot → Chunk → Verdict → Slot
slot_after s c v = after_chunk s c v.stores v.takes v.adds
