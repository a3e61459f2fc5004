-- The outgoing stage (document 02, K8): 16 places and a turn, free of how they lie in memory, and its two calls.
-- Assumes nothing.
use Rattle.std.specs.Prelude.{ℕ, zero, suc, ◌+◌, ◌%◌, min, Bool, cond, ◌&&◌, List, leb, ltb, eqb, length, get_or, set, replicate, Option, Some, None}
use Rattle.seven_bit.specs.Reply.{Reply, granted, refused, ◌else◌then◌, and_next}
use Rattle.seven_bit.specs.Parts.{part}
use Rattle.pe_chunker.specs.Cut.{max_sysex_max, body_pieces, cut_count, cut_chunk}
use Rattle.pe_stage.specs.declared.place.Outgoing.{Outgoing}

-- A place: "one list being cut", as `Outgoing` notes "where in one lent buffer its header and body lie" and what the cutter wants besides; and the
-- number of the chunk that leaves next, 0 where nobody waits.
pub record Place : Type 0 where
  pub list : Outgoing
  pub next_chunk : ℕ

abbrev pub holding : Outgoing → ℕ → Place
holding list next_chunk = record { list = list; next_chunk = next_chunk }

-- The stage: the place that is asked first on the next turn, and the 16 places.
pub record Stage : Type 0 where
  pub turn : ℕ
  pub places : List Place

abbrev pub stage : ℕ → List Place → Stage
stage turn places = record { turn = turn; places = places }

abbrev pub free_place : Place
free_place = holding (record { header_at = 0; header_len = 0; body_at = 0; body_len = 0; request_id = 0; max_sysex = 0 }) 0

abbrev pub empty : Stage
empty = stage 0 (replicate 16 free_place)

abbrev pub is_free : Place → Bool
is_free place = eqb place.next_chunk 0

abbrev pub place_at : Stage → ℕ → Place
place_at s p = get_or s.places p free_place

-- ---- a list in the lent buffer
abbrev pub header_in : List ℕ → Outgoing → List ℕ
header_in buffer list = part list.header_at list.header_len buffer

abbrev pub body_in : List ℕ → Outgoing → List ℕ
body_in buffer list = part list.body_at list.body_len buffer

-- "30 for a list outside the lent buffer"
unfoldable pub is_inside : List ℕ → Outgoing → Bool
is_inside buffer list =
    leb (list.header_at + list.header_len) (length buffer) && leb (list.body_at + list.body_len) (length buffer)

-- "30 for a list outside the lent buffer, then the cutter's own": of the count, and of chunk k for so many bytes of room.
unfoldable pub count_in : List ℕ → Outgoing → Reply ℕ
count_in buffer list =
    is_inside buffer list else 30 then
    cut_count list.request_id (header_in buffer list) (body_in buffer list) list.max_sysex

unfoldable pub chunk_in : List ℕ → Outgoing → ℕ → ℕ → Reply (List ℕ)
chunk_in buffer list k room =
    is_inside buffer list else 30 then
    cut_chunk list.request_id (header_in buffer list) (body_in buffer list) list.max_sysex k room

-- A list as the cutter is lent it. A request id and a limit that do not fit there are brought down to what it answers alike.
pub record Lent : Type 0 where
  pub request_id : ℕ
  pub header : List ℕ
  pub body : List ℕ
  pub max_sysex : ℕ

abbrev pub lent : ℕ → List ℕ → List ℕ → ℕ → Lent
lent request_id header body max_sysex = record { request_id = request_id; header = header; body = body; max_sysex = max_sysex }

abbrev pub lent_in : List ℕ → Outgoing → Lent
lent_in buffer list = lent (min list.request_id 255) (header_in buffer list) (body_in buffer list) (min list.max_sysex max_sysex_max)

-- How many chunks the cutter's definition has of it.
abbrev pub chunks_in : List ℕ → Outgoing → ℕ
chunks_in buffer list = length (body_pieces list.max_sysex (length (header_in buffer list)) (body_in buffer list))

-- ---- joining
-- "on joining 38 for a place above 15, then 39 for a place still busy, then 30 .., then the cutter's own". On yes, how many chunks will leave.
unfoldable pub ask_join : Stage → List ℕ → ℕ → Outgoing → Reply ℕ
ask_join s buffer p list =
    leb p 15 else 38 then
    is_free (place_at s p) else 39 then
    count_in buffer list

-- "Each leaves the stage unchanged."
abbrev pub after_join : Stage → ℕ → Outgoing → Reply ℕ → Stage
after_join s p list (granted count) = stage s.turn (set s.places p (holding list 1))
after_join s p list (refused number value) = s

-- ---- a turn
-- "the next place, going round from place 0, that has something waiting": the first of so many places from one on.
unfoldable pub first_waiting : List Place → ℕ → ℕ → Option ℕ
first_waiting places zero from = None
first_waiting places (suc more) from =
    cond (is_free (get_or places from free_place)) (first_waiting places more ((from + 1) % 16)) (Some from)

abbrev pub next_waiting : Stage → Option ℕ
next_waiting s = first_waiting s.places 16 (s.turn % 16)

-- A chunk that was written: its number, the count, and its bytes.
pub record Written : Type 0 where
  pub number : ℕ
  pub count : ℕ
  pub bytes : List ℕ

abbrev pub written : ℕ → ℕ → List ℕ → Written
written number count bytes = record { number = number; count = count; bytes = bytes }

-- "Each turn hands out, with its place, the next frame ..; it says none only if nobody waits."
pub data Handout : Type 0 where
  nobody : Handout
  hands : (place : ℕ) → Written → Handout

-- "on a turn 30 likewise, then the cutter's own", 3 for the room of the lent output among them.
unfoldable pub ask_chunk : List ℕ → ℕ → Place → Reply Written
ask_chunk buffer room place =
    and_next (chunk_in buffer place.list place.next_chunk room)
    (λ bytes. granted (written place.next_chunk (chunks_in buffer place.list) bytes))

abbrev pub ask_at : Stage → List ℕ → ℕ → Option ℕ → Reply Handout
ask_at s buffer room None = granted nobody
ask_at s buffer room (Some p) = and_next (ask_chunk buffer room (place_at s p)) (λ w. granted (hands p w))

unfoldable pub ask_turn : Stage → List ℕ → ℕ → Reply Handout
ask_turn s buffer room = ask_at s buffer room (next_waiting s)

-- The number of the chunk that leaves after this one; after the last one the place is free.
abbrev pub following : Written → ℕ
following w = cond (ltb w.number w.count) (w.number + 1) 0

-- The next turn asks the place after this one first. "Each leaves the stage unchanged."
abbrev pub after_turn : Stage → Reply Handout → Stage
after_turn s (granted nobody) = s
after_turn s (granted (hands p w)) = stage ((p + 1) % 16) (set s.places p (holding (place_at s p).list (following w)))
after_turn s (refused number value) = s
