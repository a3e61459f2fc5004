-- The answers of the instance's run, from the first chunk on.
-- Assumes nothing.
use Prim.Native.Nat.{ℕ, ◌≤◌}
use mathlib.Core.List.{List, [], ◌∷◌, ◌++◌, map}
use mathlib.Core.Option.{none, some}
use mathlib.Core.Path.{◌≡◌, refl, ap, ap₂, subst, ◌∙◌}
use native.Mathlib.Omega.{arith}
use lib.ListN.{length, drop, replicate, length-replicate}
use Rattle.seven_bit.specs.Parts.{joined}
use Rattle.seven_bit.specs.Reply.{Reply, granted, refused}
use Rattle.pe_slot.specs.Slot.{held, all_held, body_length, is_whole, Event, waiting, whole, event_of, header_fits, same_header, eq_list, header_agrees}
use Rattle.pe_slot.specs.Slot.{none_known, new_header, held_within, count_agrees, new_count, after_chunk, passed, judge, insert, in_order, body_of}
use Rattle.pe_frame.specs.Chunk.{within_count}
use Rattle.pe_slot.specs.Feed.{told_answer, header_out, body_out}
use Rattle.pe_reassembler.specs.Calls.{reserved_of}
use Rattle.pe_reassembler.specs.Feed.{next_tick}
use Rattle.pe_reassembler.specs.Open.{ahead}
use Rattle.pe_reassembler.specs.Order.{put_in, ranked}
use Rattle.pe_reassembler.specs.Poll.{Timeout}
use Rattle.pe_reassembler.specs.Table.{numbers_len}
use Rattle.pe_run.specs.Lists.{keep}
use Rattle.pe_run.specs.Model.{Entry, Model, Clocked, clocked, is_late, finds_record, has_four, judged, Arrived, arrives, acted}
use Rattle.pe_run.specs.Calls.{Call, Answer, fed, timed_out, Arrival, granted_of, arrival_of, act_of, due_of, TimedOut, Right, AllRight}
use Rattle.pe_run.specs.Run.{Table, made, table_from, Run}
use Rattle.pe_run.specs.Demand.{full_size, LongEnough}
use Rattle.pe_run.specs.Instance.{lent_memory, places, header, body, one, two, other, stray, before, first_call, rest, answers}
use Rattle.pe_run.proofs.PermLaws.{perm_length}
use Rattle.pe_run.proofs.Ahead.{long_enough}
use Rattle.pe_run.proofs.Carried.{act_arrives, answer_arrives}
use Rattle.pe_run.proofs.Demand.{answers_right}
use Rattle.pe_run.proofs.Answered.{answered}
use Rattle.pe_run.proofs.Instance.{bearing, arrives_first, arrives_8, arrives_9, arrives_stray, torn_refused, message_arrives, entry, piece}
use Rattle.pe_run.proofs.Instance.{open_before, before_is}

-- ---- one call after the other
record Gives (b : Clocked) (calls : List Call) (xs : List Answer) : Type 0 where
  all : (told : List Answer) → AllRight (full_size 2) b calls told → told ≡ xs

done : {b : Clocked} → Gives b [] []
done {b} = record { all = go }
  where
    go : (told : List Answer) → AllRight (full_size 2) b [] told → told ≡ []
    go [] r = refl
    go (a ∷ told) r = absurd r

next : {b : Clocked} {c : Call} {calls : List Call} {x : Answer} {xs : List Answer} (left : Clocked)
    → ((a : Answer) → Right (full_size 2) b c a → a ≡ x) → acted (full_size 2) b (act_of (full_size 2) c) ≡ left → Gives left calls xs
    → Gives b (c ∷ calls) (x ∷ xs)
next {b} {c} {calls} {x} {xs} left is on more = record { all = go }
  where
    go : (told : List Answer) → AllRight (full_size 2) b (c ∷ calls) told → told ≡ x ∷ xs
    go [] r = absurd r
    go (a ∷ told) r =
        ap₂ (λ (y : Answer) (ys : List Answer). y ∷ ys) (is a r.0)
        (more.all told (subst (λ (m : Clocked). AllRight (full_size 2) m calls told) on r.1))

-- a chunk that arrives
next_chunk : {b : Clocked} {c : Call} {calls : List Call} {xs : List Answer} (a : Arrival) (left : Clocked) (answer : Reply Event)
    → arrival_of (full_size 2) c ≡ some a
    → arrives (full_size 2) b a.peer a.chunk a.time ≡ record { left = left; answer = answer } → Gives left calls xs
    → Gives b (c ∷ calls) (fed (told_answer answer) (header_out answer a.out_header) (body_out answer a.out_body) ∷ xs)
next_chunk {b} {c} a left answer e f more =
    next left
    (λ y w. answer_arrives (full_size 2) b c a y e w
    ∙ ap (λ (z : Arrived). fed (told_answer z.answer) (header_out z.answer a.out_header) (body_out z.answer a.out_body)) f)
    (ap (acted (full_size 2) b) (act_arrives (full_size 2) c a e) ∙ ap (λ (z : Arrived). z.left) f)
    more

-- a poll for which nothing is late
none_late : (b : Model) (now_ms : ℕ) (a : Answer) → keep (is_late now_ms) b ≡ [] → TimedOut b now_ms places places a → a ≡ timed_out (granted 0) places places
none_late b now_ms a e t = go t.rows (perm_length t.each_once ∙ ap (λ (l : List Entry). length (map due_of l)) e) t.told
  where
    go : (rows : List Timeout) → length rows ≡ 0
        → a
        ≡ timed_out (granted (length rows)) (map (λ (r : Timeout). r.peer) rows ++ drop (length rows) places)
        (map (λ (r : Timeout). r.request_id) rows ++ drop (length rows) places)
        → a ≡ timed_out (granted 0) places places
    go [] l q = q
    go (k ∷ rows) l q = absurd (omega (arith, l))

-- ---- what is open after each
abbrev ours_open : Entry
ours_open = entry 9 5 100 4 none 2 (piece 2 body ∷ [])

abbrev their_open : Entry
their_open = entry 8 5 150 5 (some []) 3 (piece 1 (9 ∷ []) ∷ piece 2 (9 ∷ []) ∷ [])

abbrev open_two : Model
open_two = their_open ∷ ours_open ∷ entry 9 6 10 3 (some []) 3 (piece 1 (9 ∷ []) ∷ []) ∷ []

abbrev open_all : Model
open_all = entry 9 6 200 6 (some []) 3 (piece 1 (9 ∷ []) ∷ []) ∷ their_open ∷ ours_open ∷ []

abbrev open_later : Model
open_later = entry 9 6 250 7 (some []) 3 (piece 1 (9 ∷ []) ∷ []) ∷ their_open ∷ ours_open ∷ []

takes_first : arrives (full_size 2) (clocked 3 open_before) 9 two 100 ≡ record { left = clocked 4 (ours_open ∷ open_before); answer = granted waiting }
unfolding next_tick arrives finds_record has_four judged judge header_fits header_agrees same_header within_count held_within count_agrees new_header new_count none_known
    held body_length after_chunk passed is_whole all_held event_of
takes_first = refl

takes_8 : arrives (full_size 2) (clocked 4 (ours_open ∷ open_before)) 8 (other 5 2) 150 ≡ record { left = clocked 5 open_two; answer = granted waiting }
unfolding next_tick arrives finds_record has_four judged judge header_fits header_agrees same_header within_count held_within count_agrees new_header new_count none_known
    held body_length after_chunk passed is_whole all_held event_of
takes_8 = refl

takes_9 : arrives (full_size 2) (clocked 5 open_two) 9 (other 6 1) 200 ≡ record { left = clocked 6 open_all; answer = refused 8 0 }
unfolding next_tick arrives finds_record has_four judged judge header_fits header_agrees same_header eq_list within_count held_within count_agrees new_header new_count
    none_known held body_length after_chunk passed is_whole all_held event_of
takes_9 = refl

takes_stray : arrives (full_size 2) (clocked 6 open_all) 9 stray 250 ≡ record { left = clocked 7 open_later; answer = refused 8 0 }
unfolding next_tick arrives finds_record has_four judged judge header_fits header_agrees same_header within_count held_within count_agrees new_header new_count
    none_known held body_length after_chunk passed is_whole all_held event_of
takes_stray = refl

takes_last : arrives (full_size 2) (clocked 7 (ours_open ∷ [])) 9 one 9000 ≡ record { left = clocked 8 []; answer = granted (whole header body) }
unfolding next_tick arrives finds_record has_four judged judge header_fits header_agrees same_header within_count held_within count_agrees new_header new_count none_known
    held body_length after_chunk passed is_whole all_held event_of insert in_order joined body_of
takes_last = refl

told_from : Gives (clocked 3 open_before) (first_call ∷ rest) answers
unfolding reserved_of body_length ranked put_in ahead
told_from =
    next_chunk (bearing 9 two 100) (clocked 4 (ours_open ∷ open_before)) (granted waiting) (ap granted_of arrives_first) takes_first
    (next_chunk (bearing 8 (other 5 2) 150) (clocked 5 open_two) (granted waiting) (ap granted_of arrives_8) takes_8
    (next_chunk (bearing 9 (other 6 1) 200) (clocked 6 open_all) (refused 8 0) (ap granted_of arrives_9) takes_9
    (next_chunk (bearing 9 stray 250) after (refused 8 0) (ap granted_of arrives_stray) takes_stray
    (next after (λ a e. e) refl
    (next after (λ a e. e) refl
    (next after (λ a e. none_late open_later 3099 a refl e) refl
    (next after (λ a e. e) refl
    (next after (λ a e. e ∙ rw torn_refused refl) (rw torn_refused refl)
    (next after (λ a e. none_late open_later 50 a refl e) refl
    (next (clocked 7 (their_open ∷ ours_open ∷ [])) (λ a e. e) refl
    (next (clocked 7 (ours_open ∷ [])) (λ a e. e) refl
    (next_chunk (bearing 9 one 9000) (clocked 8 []) (granted (whole header body)) (ap granted_of message_arrives) takes_last done))))))))))))
  where
    after : Clocked
    after = clocked 7 open_later

-- Whatever memory the table was made of, these are the answers, and the run gets them.
pub instance_told : (t : Table) → LongEnough 2 t → (told : List Answer)
    → Run (full_size 2) (table_from (full_size 2) (made (full_size 2) t) before) (first_call ∷ rest) told → told ≡ answers
instance_told t long told r =
    told_from.all told
    (subst (λ (b : Clocked). AllRight (full_size 2) b (first_call ∷ rest) told) before_is
    (answers_right (full_size 2) t (long_enough 2 t (omega arith) long) before (first_call ∷ rest) told r))

pub instance_run : (t : Table) → LongEnough 2 t → Run (full_size 2) (table_from (full_size 2) (made (full_size 2) t) before) (first_call ∷ rest) answers
instance_run t long =
    let a = answered (full_size 2) (table_from (full_size 2) (made (full_size 2) t) before) (first_call ∷ rest) in
    subst (λ (told : List Answer). Run (full_size 2) (table_from (full_size 2) (made (full_size 2) t) before) (first_call ∷ rest) told)
    (instance_told t long a.0 a.1) a.1

-- There is such memory.
pub memory_long : LongEnough 2 lent_memory
unfolding lent_memory
memory_long = record { numbers = zeros (numbers_len (full_size 2)); index = zeros 16384; headers = zeros 32768; arenas = zeros 524288 }
  where
    zeros : (n : ℕ) → n ≤ length (replicate {A = ℕ} n 0)
    zeros n = rw (length-replicate {A = ℕ} n 0) (omega arith)
