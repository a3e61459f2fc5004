-- The lent memory of a reassembler (document 01's table), and the questions under **Every table call** and **Table**.
-- Assumes nothing.
use Rattle.std.specs.Prelude.{ℕ, zero, suc, ◌+◌, ◌*◌, ◌≤◌, ◌<◌, Bool, cond, not, ◌&&◌, List, [], ◌∷◌, ◌++◌, leb, eqb, length, get_or, Option, Some, None}
use Rattle.pe_slot.specs.Layout.{slot_words, request_id_at}
use Rattle.pe_reassembler.specs.declared.shape.Shape.{Shape}

-- "A table has a shape: n consoles (0 to 16), four transfers each, header room H (0 to 4,096), body room B (0 to 65,536), R frame records (0 to 2,048)."
unfoldable pub in_range : Shape → Bool
in_range s =
    leb s.max_peers 16
    && leb s.header_bytes 4096
    && leb s.tx_bytes 65536
    && leb s.fragment_records 2048

-- The words of `numbers`: the clock, then for each peer bound, muid and four slots.
abbrev pub peer_words : ℕ
peer_words = 2 + 4 * slot_words

abbrev pub peer_at : ℕ → ℕ
peer_at p = 1 + peer_words * p

abbrev pub slot_at : ℕ → ℕ → ℕ
slot_at p s = 3 + peer_words * p + slot_words * s

abbrev pub numbers_len : Shape → ℕ
numbers_len shape = peer_at shape.max_peers

-- The records of n peers lie in the numbers.
abbrev pub HasPeers : List ℕ → ℕ → Type 0
HasPeers numbers n = (n ≤ 16) × (peer_at n ≤ length numbers)

-- Record p lies in the numbers that are lent, and slot s of it.
abbrev pub HasPeer : List ℕ → ℕ → Type 0
HasPeer numbers p = (p < 16) × (peer_at p + peer_words ≤ length numbers)

abbrev pub HasSlot : List ℕ → ℕ → ℕ → Type 0
HasSlot numbers p s = (p < 16) × (s < 4) × (peer_at p + peer_words ≤ length numbers)

-- The place of a slot's room of a size, in `index`, `headers` or `arenas`.
abbrev pub room_at : ℕ → ℕ → ℕ → ℕ
room_at size p s = (4 * p + s) * size

abbrev pub rooms_len : ℕ → Shape → ℕ
rooms_len size shape = 4 * shape.max_peers * size

-- "Shape in range and lent memory long enough?", of a call that is lent the numbers, and of one that is lent all
unfoldable pub has_numbers : Shape → List ℕ → Bool
has_numbers shape numbers = in_range shape && leb (numbers_len shape) (length numbers)

unfoldable pub has_rooms : Shape → List ℕ → List ℕ → List ℕ → List ℕ → Bool
has_rooms shape numbers index headers arenas =
    has_numbers shape numbers
    && leb (rooms_len shape.fragment_records shape) (length index)
    && leb (rooms_len shape.header_bytes shape) (length headers)
    && leb (rooms_len shape.tx_bytes shape) (length arenas)

-- "Console number within 28 bits"
abbrev pub is_muid : ℕ → Bool
is_muid peer = leb peer 0x0FFFFFFF

-- The stored numbers, as they are: nonzero means true. The first word of a slot says whether it is open.
unfoldable pub is_bound : List ℕ → ℕ → Bool
is_bound numbers p = not (eqb (get_or numbers (peer_at p) 0) 0)

unfoldable pub bound_to : List ℕ → ℕ → ℕ → Bool
bound_to numbers peer p = is_bound numbers p && eqb (get_or numbers (peer_at p + 1) 0) peer

unfoldable pub is_active : List ℕ → ℕ → ℕ → Bool
is_active numbers p s = not (eqb (get_or numbers (slot_at p s) 0) 0)

unfoldable pub is_idle : List ℕ → ℕ → Bool
is_idle numbers p = not (is_active numbers p 0) && not (is_active numbers p 1) && not (is_active numbers p 2) && not (is_active numbers p 3)

unfoldable pub has_id : List ℕ → ℕ → ℕ → ℕ → Bool
has_id numbers request_id p s = is_active numbers p s && eqb (get_or numbers (slot_at p s + request_id_at) 0) request_id

-- The first of the k places from i on that a test takes.
unfoldable pub first_from : (ℕ → Bool) → ℕ → ℕ → Option ℕ
first_from test i zero = None
first_from test i (suc k) = cond (test i) (Some i) (first_from test (suc i) k)

abbrev pub first : (ℕ → Bool) → ℕ → Option ℕ
first test n = first_from test 0 n

abbrev pub or_else : Option ℕ → Option ℕ → Option ℕ
or_else (Some i) other = Some i
or_else None other = other

-- "A console takes the record bound to it (0FFFFFFF like any other), else the first unbound, else the first with nothing open"
unfoldable pub record_of : Shape → List ℕ → ℕ → Option ℕ
record_of shape numbers peer = first (bound_to numbers peer) shape.max_peers

unfoldable pub record_for : Shape → List ℕ → ℕ → Option ℕ
record_for shape numbers peer =
    or_else (record_of shape numbers peer)
    (or_else (first (λ (p : ℕ). not (is_bound numbers p)) shape.max_peers)
    (first (is_idle numbers) shape.max_peers))

-- "Transfer open with this id, or a free one?"
unfoldable pub slot_open : List ℕ → ℕ → ℕ → Option ℕ
slot_open numbers p request_id = first (has_id numbers request_id p) 4

unfoldable pub slot_for : List ℕ → ℕ → ℕ → Option ℕ
slot_for numbers p request_id = or_else (slot_open numbers p request_id) (first (λ (s : ℕ). not (is_active numbers p s)) 4)

-- What a slot gives, for those of the k slots from slot s of record p on that a test takes, by place.
unfoldable pub rows_from : {A : Type 0} → (ℕ → ℕ → Bool) → (ℕ → ℕ → A) → ℕ → ℕ → ℕ → List A
rows_from test row p s zero = []
rows_from test row p s (suc k) =
    cond (test p s) (row p s ∷ []) []
    ++ cond (leb 3 s) (rows_from test row (p + 1) 0 k) (rows_from test row p (s + 1) k)
