-- `new`, `cancel`, `drop_peer`, `memory_stats` and `reserved_bytes` (document 01, module 8).
-- Assumes nothing.
use Rattle.std.specs.Prelude.{ℕ, zero, suc, ◌+◌, ◌*◌, min, Bool, true, false, cond, List, [], ◌∷◌, ◌++◌, get_or, set, drop, replicate, Option, Some, None, Result}
use Rattle.seven_bit.specs.Parts.{part, splice}
use Rattle.seven_bit.specs.Reply.{Reply, granted, refused, ◌else◌then◌}
use Rattle.pe_wire.specs.declared.error.PeError.{PeError}
use Rattle.pe_wire.specs.Errors.{pe_told}
use Rattle.pe_slot.specs.Layout.{slot_words, header_len_at, index_len_at, property_bytes_at}
use Rattle.pe_slot.specs.Feed.{cleared}
use Rattle.pe_reassembler.specs.declared.shape.Shape.{Shape}
use Rattle.pe_reassembler.specs.declared.calls.MemoryStats.{MemoryStats}
use Rattle.pe_reassembler.specs.Table.{in_range, has_numbers, has_rooms, is_muid, peer_at, slot_at, rooms_len, numbers_len, record_of, slot_open, is_active}

-- The answer, and the numbers afterwards.
pub record Numbered (A : Type 0) : Type 0 where
  pub answer : Reply A
  pub numbers : List ℕ

abbrev pub numbered : {A : Type 0} → Reply A → List ℕ → Numbered A
numbered answer numbers = record { answer = answer; numbers = numbers }

-- "`new` leaves every record unbound under console 0FFFFFFF and every number of each transfer 0, and keeps the rooms' bytes";
-- the clock is 1, so that the first tick is 2
unfoldable pub fresh_peers : ℕ → List ℕ
fresh_peers zero = []
fresh_peers (suc n) = 0 ∷ 0x0FFFFFFF ∷ (replicate (4 * slot_words) 0 ++ fresh_peers n)

pub record Fresh : Type 0 where
  pub answer : Reply ℕ
  pub numbers : List ℕ
  pub index : List ℕ

abbrev pub fresh : Reply ℕ → List ℕ → List ℕ → Fresh
fresh answer numbers index = record { answer = answer; numbers = numbers; index = index }

unfoldable pub new_call : Shape → List ℕ → List ℕ → List ℕ → List ℕ → Fresh
new_call shape numbers index headers arenas =
    cond (has_rooms shape numbers index headers arenas)
    (fresh (granted 0)
    ((1 ∷ fresh_peers shape.max_peers) ++ drop (numbers_len shape) numbers)
    (replicate (rooms_len shape.fragment_records shape) 0 ++ drop (rooms_len shape.fragment_records shape) index))
    (fresh (refused 30 0) numbers index)

abbrev pub made_told : Result (Unit {0}) PeError → Reply ℕ
made_told r = pe_told (λ (done : Unit {0}). 0) r

-- A slot closed in its place.
unfoldable pub close_at : ℕ → ℕ → List ℕ → List ℕ
close_at p s numbers = splice (slot_at p s) slot_words numbers (cleared (part (slot_at p s) slot_words numbers))

-- **Every table call**, of a call on a peer: 30, then 28; what is granted is its record, if it has one.
abbrev pub find_peer : Shape → List ℕ → ℕ → Reply (Option ℕ)
find_peer shape numbers peer =
    has_numbers shape numbers else 30 then
    is_muid peer else 28 then
    granted (record_of shape numbers peer)

-- What is then done with it; a refusal changes nothing.
abbrev pub on_record : {A : Type 0} → Reply (Option ℕ) → (Option ℕ → Numbered A) → List ℕ → Numbered A
on_record (granted found) next numbers = next found
on_record (refused number value) next numbers = numbered (refused number value) numbers

-- "Cancel closes the transfer it names"; "without a match answer no"
abbrev pub cancel_in : Option ℕ → ℕ → List ℕ → Numbered Bool
cancel_in None p numbers = numbered (granted false) numbers
cancel_in (Some s) p numbers = numbered (granted true) (close_at p s numbers)

abbrev pub cancel_at : Option ℕ → ℕ → List ℕ → Numbered Bool
cancel_at None request_id numbers = numbered (granted false) numbers
cancel_at (Some p) request_id numbers = cancel_in (slot_open numbers p request_id) p numbers

unfoldable pub cancel_call : Shape → List ℕ → ℕ → ℕ → Numbered Bool
cancel_call shape numbers peer request_id =
    on_record (find_peer shape numbers peer) (λ (found : Option ℕ). cancel_at found request_id numbers) numbers

abbrev pub cancelled_told : Result Bool PeError → Reply Bool
cancelled_told r = pe_told (λ (closed : Bool). closed) r

-- "drop all of its console", and its record unbound
abbrev pub close_open : ℕ → ℕ → List ℕ → List ℕ
close_open p s numbers = cond (is_active numbers p s) (close_at p s numbers) numbers

abbrev pub open_count : List ℕ → ℕ → ℕ → ℕ
open_count numbers p s = cond (is_active numbers p s) 1 0

abbrev pub drop_at : Option ℕ → List ℕ → Numbered ℕ
drop_at None numbers = numbered (granted 0) numbers
drop_at (Some p) numbers =
    numbered (granted (open_count numbers p 0 + open_count numbers p 1 + open_count numbers p 2 + open_count numbers p 3))
    (set (close_open p 3 (close_open p 2 (close_open p 1 (close_open p 0 numbers)))) (peer_at p) 0)

unfoldable pub drop_call : Shape → List ℕ → ℕ → Numbered ℕ
drop_call shape numbers peer = on_record (find_peer shape numbers peer) (λ (found : Option ℕ). drop_at found numbers) numbers

-- "`size_of::<FragmentMeta>()` is 8." What a slot holds: header, body and 8 for each record.
unfoldable pub slot_bytes : List ℕ → ℕ → ℕ → ℕ
slot_bytes numbers p s =
    cond (is_active numbers p s)
    (get_or numbers (slot_at p s + header_len_at) 0 + get_or numbers (slot_at p s + property_bytes_at) 0 + 8 * get_or numbers (slot_at p s + index_len_at) 0)
    0

-- A sum over the four slots of each of the first n peers.
unfoldable pub over_slots : (ℕ → ℕ → ℕ) → ℕ → ℕ
over_slots f zero = 0
over_slots f (suc n) = over_slots f n + (f n 0 + f n 1 + f n 2 + f n 3)

unfoldable pub reserved_of : Shape → ℕ
reserved_of shape = 4 * shape.max_peers * (shape.header_bytes + shape.tx_bytes + 8 * shape.fragment_records)

pub record Totals : Type 0 where
  pub reserved_bytes : ℕ
  pub active_bytes : ℕ
  pub active_slots : ℕ

-- "Byte totals hold at 2^64 − 1."
unfoldable pub stats_call : Shape → List ℕ → Reply Totals
stats_call shape numbers =
    cond (has_numbers shape numbers)
    (granted (record {
      reserved_bytes = reserved_of shape;
      active_bytes = min (over_slots (slot_bytes numbers) shape.max_peers) 18446744073709551615;
      active_slots = over_slots (λ (p s : ℕ). open_count numbers p s) shape.max_peers;
    }))
    (refused 30 0)

abbrev pub totals_of : MemoryStats → Totals
totals_of m = record { reserved_bytes = m.reserved_bytes; active_bytes = m.active_bytes; active_slots = m.active_slots }

abbrev pub stats_told : Result MemoryStats PeError → Reply Totals
stats_told r = pe_told totals_of r

unfoldable pub reserved_call : Shape → Reply ℕ
reserved_call shape = cond (in_range shape) (granted (reserved_of shape)) (refused 30 0)
