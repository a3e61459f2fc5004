-- The instance meets every hypothesis of a delivery.
-- Assumes nothing.
use Prim.Native.Nat.{ℕ, zero, suc, ◌<◌, ◌≤◌}
use mathlib.Core.Bool.{true, or-true}
use mathlib.Core.List.{List, [], ◌∷◌, map}
use mathlib.Core.Option.{Option, some}
use mathlib.Core.Path.{◌≡◌, refl, sym, ap, subst, ◌∙◌}
use native.Mathlib.Omega.{arith}
use borrow.Author.Tests.{le-leb}
use lib.Dec.{eqb}
use lib.ListN.{length, get_or, drop, length-replicate}
use Rattle.seven_bit.specs.Reply.{granted, refused}
use Rattle.seven_bit.specs.SevenBit.{is_seven_bit, number_of}
use Rattle.midici_core.specs.Header.{within28}
use Rattle.midici_core.specs.Kinds.{carries_chunk}
use Rattle.pe_wire.specs.Wire.{read_u14}
use Rattle.pe_frame.specs.Chunk.{Chunk, within_count, read_end, read_fields}
use Rattle.pe_frame.specs.Write.{chunk_bytes, chunk_len, write_whole}
use Rattle.pe_frame.proofs.ChunkLaws.{InRange, ask_yes}
use Rattle.pe_frame.proofs.RoundTrip.{bytes_read, bytes_chunk, whole_then_read, read_bytes_are, fields}
use Rattle.pe_slot.specs.Slot.{Piece, held, all_held, body_length, is_whole, event_of, header_fits, same_header, header_agrees, none_known, new_header}
use Rattle.pe_slot.specs.Slot.{held_within, count_agrees, new_count, after_chunk, passed, judge}
use Rattle.pe_chunker.specs.Cut.{clamped, budget, later_capacity, first_capacity, ask_first, cut_up, body_pieces, chunk_at, ask_cut, cut_count, cut_chunk}
use Rattle.pe_chunker.proofs.Theorems.{fields_in_range, budget_is_room}
use Rattle.pe_reassembler.specs.Feed.{next_tick}
use Rattle.pe_reassembler.specs.Table.{is_muid}
use Rattle.pe_run.specs.Lists.{Perm, swap}
use Rattle.pe_run.specs.Model.{Entry, Model, Clocked, clocked, finds_record, has_four, judged, arrives}
use Rattle.pe_run.specs.Calls.{Arrival, arrival, act_of, has_outputs, fed_arrival, message_arrival, model_after}
use Rattle.pe_run.specs.Instance.{lent_header, lent_body, header, body, one, two, one_in_message, torn, other, stray, before, first_call, rest}
use Rattle.pe_run.specs.Demand.{full_size, CutInto, ours, Room, Spared, Delivery}

header_long : length lent_header ≡ 4096
unfolding lent_header
header_long = length-replicate {A = ℕ} 4096 0

body_long : length lent_body ≡ 65536
unfolding lent_body
body_long = length-replicate {A = ℕ} 65536 0

outputs_long : has_outputs (full_size 2) lent_header lent_body ≡ true
outputs_long = rw (header_long, body_long) refl

-- ---- what arrives
abbrev pub bearing : ℕ → Chunk → ℕ → Arrival
bearing peer c now_ms = arrival peer (chunk_bytes c) c now_ms lent_header lent_body

fed_arrives : (peer : ℕ) (c : Chunk) (now_ms : ℕ) → is_muid peer ≡ true → InRange c
    → fed_arrival (full_size 2) peer (chunk_bytes c) now_ms lent_header lent_body ≡ granted (bearing peer c now_ms)
unfolding fed_arrival
fed_arrives peer c now_ms m r = rw (outputs_long, m, bytes_read c r, bytes_chunk c) refl

-- ---- the list
cut_count_law : cut_count 5 header body 128 ≡ granted 2
unfolding cut_count ask_cut ask_first is_seven_bit body_pieces cut_up first_capacity later_capacity budget clamped
cut_count_law = refl

first_chunk : chunk_at 5 header body 128 1 ≡ one
unfolding chunk_at body_pieces cut_up first_capacity later_capacity budget clamped
first_chunk = refl

second_chunk : chunk_at 5 header body 128 2 ≡ two
unfolding chunk_at body_pieces cut_up first_capacity later_capacity budget clamped
second_chunk = refl

cut : CutInto 5 header body 128 (chunk_bytes one ∷ chunk_bytes two ∷ [])
unfolding budget clamped
cut = record { count = cut_count_law; each = each _ (omega arith) }
  where
    each : (room : ℕ) → budget 128 ≤ room → (k : ℕ) → k < 2
        → cut_chunk 5 header body 128 (suc k) room ≡ granted (get_or (chunk_bytes one ∷ chunk_bytes two ∷ []) k [])
    each room r zero l =
        budget_is_room 5 header body 128 2 1 room cut_count_law (omega arith) (omega arith) r
        ∙ ap (λ (c : Chunk). granted (chunk_bytes c)) first_chunk
    each room r (suc zero) l =
        budget_is_room 5 header body 128 2 2 room cut_count_law (omega arith) (omega arith) r
        ∙ ap (λ (c : Chunk). granted (chunk_bytes c)) second_chunk
    each room r (suc (suc k)) l = absurd (omega arith)

one_in_range : InRange one
one_in_range = subst InRange first_chunk (fields_in_range 5 header body 128 2 1 cut_count_law (omega arith) (omega arith))

two_in_range : InRange two
two_in_range = subst InRange second_chunk (fields_in_range 5 header body 128 2 2 cut_count_law (omega arith) (omega arith))

-- ---- others
other_in_range : (request_id number : ℕ) → request_id ≤ 127 → number ≤ 3 → InRange (other request_id number)
unfolding is_seven_bit within_count
other_in_range request_id number i n =
    record {
      id = i;
      header_len = omega arith;
      property_len = omega arith;
      count = omega arith;
      number = omega arith;
      header_bytes = refl;
      property_bytes = refl;
      first = or-true (eqb number 1);
      within = le-leb number 3 n;
    }

stray_in_range : InRange stray
unfolding is_seven_bit within_count
stray_in_range =
    record {
      id = omega arith;
      header_len = omega arith;
      property_len = omega arith;
      count = omega arith;
      number = omega arith;
      header_bytes = refl;
      property_bytes = refl;
      first = refl;
      within = refl;
    }

-- ---- the first chunk in a message
pub message_arrives : message_arrival (full_size 2) one_in_message 9000 lent_header lent_body ≡ granted (bearing 9 one 9000)
unfolding message_arrival one_in_message write_whole within28 carries_chunk chunk_len
message_arrives =
    let w : write_whole 0x34 9 7 one 4096 ≡ granted one_in_message = ask_yes one _ one_in_range in
    let r = whole_then_read 0x34 9 7 one 4096 one_in_message w in
    let b : drop 13 one_in_message ≡ chunk_bytes one = sym (read_bytes_are (drop 13 one_in_message) (fields one) r.1) ∙ ap chunk_bytes r.2 in
    rw (outputs_long, r.0, r.1, r.2, b) refl

-- ---- the run
arrives_before_8 : fed_arrival (full_size 2) 8 (chunk_bytes (other 5 1)) 0 lent_header lent_body ≡ granted (bearing 8 (other 5 1) 0)
arrives_before_8 = fed_arrives 8 (other 5 1) 0 refl (other_in_range 5 1 (omega arith) (omega arith))

arrives_before_9 : fed_arrival (full_size 2) 9 (chunk_bytes (other 6 1)) 10 lent_header lent_body ≡ granted (bearing 9 (other 6 1) 10)
arrives_before_9 = fed_arrives 9 (other 6 1) 10 refl (other_in_range 6 1 (omega arith) (omega arith))

pub arrives_first : fed_arrival (full_size 2) 9 (chunk_bytes two) 100 lent_header lent_body ≡ granted (bearing 9 two 100)
arrives_first = fed_arrives 9 two 100 refl two_in_range

pub arrives_8 : fed_arrival (full_size 2) 8 (chunk_bytes (other 5 2)) 150 lent_header lent_body ≡ granted (bearing 8 (other 5 2) 150)
arrives_8 = fed_arrives 8 (other 5 2) 150 refl (other_in_range 5 2 (omega arith) (omega arith))

pub arrives_9 : fed_arrival (full_size 2) 9 (chunk_bytes (other 6 1)) 200 lent_header lent_body ≡ granted (bearing 9 (other 6 1) 200)
arrives_9 = fed_arrives 9 (other 6 1) 200 refl (other_in_range 6 1 (omega arith) (omega arith))

pub arrives_stray : fed_arrival (full_size 2) 9 (chunk_bytes stray) 250 lent_header lent_body ≡ granted (bearing 9 stray 250)
arrives_stray = fed_arrives 9 stray 250 refl stray_in_range

pub torn_refused : fed_arrival (full_size 2) 9 torn 300 lent_header lent_body ≡ refused 2 0
unfolding fed_arrival read_fields read_end read_u14 is_seven_bit number_of
torn_refused = rw outputs_long refl

-- ---- what is open when the first of them comes
abbrev pub entry : ℕ → ℕ → ℕ → ℕ → Option (List ℕ) → ℕ → List Piece → Entry
entry peer request_id time tick header count pieces =
    record {
      peer = peer;
      request_id = request_id;
      state = record { time = time; tick = tick; slot = record { header = header; count = count; pieces = pieces } };
    }

abbrev pub piece : ℕ → List ℕ → Piece
piece number bytes = record { number = number; bytes = bytes }

abbrev pub open_before : Model
open_before = entry 9 6 10 3 (some []) 3 (piece 1 (9 ∷ []) ∷ []) ∷ entry 8 5 0 2 (some []) 3 (piece 1 (9 ∷ []) ∷ []) ∷ []

pub before_is : model_after (full_size 2) before ≡ clocked 3 open_before
unfolding next_tick arrives finds_record has_four judged judge header_fits header_agrees same_header within_count held_within count_agrees new_header new_count
    none_known held body_length after_chunk passed is_whole all_held event_of
before_is = rw (arrives_before_8, arrives_before_9) refl

instance_room : Room 2 9 5 (model_after (full_size 2) before).model
unfolding finds_record
instance_room =
    subst (λ (b : Clocked). Room 2 9 5 b.model) (sym before_is) (record { record_found = refl; not_open = refl; fewer = omega arith })

instance_once : Perm (map (λ (a : Arrival). a.bytes) (ours (full_size 2) 9 5 (first_call ∷ rest))) (chunk_bytes one ∷ chunk_bytes two ∷ [])
instance_once = rw (arrives_first, arrives_8, arrives_9, arrives_stray, torn_refused, message_arrives) swap

instance_spared : Spared 9 5 0 (map (act_of (full_size 2)) (first_call ∷ rest))
instance_spared = rw (arrives_first, arrives_8, arrives_9, arrives_stray, torn_refused, message_arrives) (omega arith, (omega arith, (refl, (refl, tt))))

pub instance : Delivery 2 (model_after (full_size 2) before).model 9 5 header body 128 first_call rest
instance =
    record {
      chunks = chunk_bytes one ∷ chunk_bytes two ∷ [];
      cut = cut;
      fits = omega arith;
      first_of_them = rw arrives_first refl;
      room = instance_room;
      each_once = instance_once;
      spared = instance_spared;
    }
