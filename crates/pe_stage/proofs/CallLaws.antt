-- The laws of joining and of a turn: the cases of their answers, by the code's tests.
-- Assumes nothing.
use Prim.Native.Nat.{ℕ, zero, suc, ◌+◌, ◌%◌, ◌<◌, ◌≤◌}
use mathlib.Core.Bool.{Bool, true, false, cond}
use mathlib.Core.List.{List, ◌++◌}
use Rattle.std.specs.Prelude.{Some, None}
use mathlib.Core.Path.{◌≡◌, refl, sym, ap, ◌∙◌}
use native.Mathlib.Omega.{arith}
use borrow.Author.Tests.{le-leb, lt-leb, eq-eqb, ne_eqb}
use lib.Dec.{ltb}
use lib.ListN.{length, get_or, drop}
use Rattle.seven_bit.specs.Reply.{Reply, granted, refused}
use Rattle.seven_bit.proofs.ReplyLaws.{refused_not}
use Rattle.pe_chunker.specs.Cut.{Sized, CountedLeft, counted, counting}
use Rattle.pe_stage.specs.declared.place.Outgoing.{Outgoing}
use Rattle.pe_stage.specs.Stage.{Place, holding, free_place, is_free, place_at, count_in, chunk_in, chunks_in, ask_join}
use Rattle.pe_stage.specs.Stage.{first_waiting, next_waiting, ask_chunk, ask_turn}
use Rattle.pe_stage.specs.Words.{stage_in, HasPlaces, kept, join_call, turn_left, turn_call, placed, moved_on}
use Rattle.pe_stage.proofs.CutLaws.{number_told}

-- ---- joining
-- the refusals, each past the questions before it
pub join_short : (words buffer : List ℕ) (p : ℕ) (list : Outgoing) → length words < 113 → join_call words buffer p list ≡ kept (refused 30 0) words
unfolding join_call
join_short words buffer p list h = rw (lt-leb 113 (length words) h)

pub join_no_place : (words buffer : List ℕ) (p : ℕ) (list : Outgoing) → HasPlaces words → 15 < p → join_call words buffer p list ≡ kept (refused 38 0) words
unfolding join_call ask_join
join_no_place words buffer p list h g = rw (le-leb 113 (length words) h, lt-leb p 15 g)

pub join_busy : (words buffer : List ℕ) (p : ℕ) (list : Outgoing) → HasPlaces words → p < 16 → ((place_at (stage_in words) p).next_chunk ≡ 0 → ⊥)
    → join_call words buffer p list ≡ kept (refused 39 0) words
unfolding join_call ask_join
join_busy words buffer p list h g b = rw (le-leb 113 (length words) h, le-leb p 15 (omega arith), ne_eqb (place_at (stage_in words) p).next_chunk 0 b)

-- the cutter's word about a list at a free place
pub join_refused : (words buffer : List ℕ) (p : ℕ) (list : Outgoing) (number value : ℕ) → HasPlaces words → p < 16
    → (place_at (stage_in words) p).next_chunk ≡ 0 → count_in buffer list ≡ refused number value
    → join_call words buffer p list ≡ kept (refused number value) words
unfolding join_call ask_join
join_refused words buffer p list number value h g b q =
    rw (le-leb 113 (length words) h, le-leb p 15 (omega arith), eq-eqb (place_at (stage_in words) p).next_chunk 0 b, q)

pub join_granted : (words buffer : List ℕ) (p : ℕ) (list : Outgoing) (count : ℕ) → HasPlaces words → p < 16
    → (place_at (stage_in words) p).next_chunk ≡ 0 → count_in buffer list ≡ granted count
    → join_call words buffer p list ≡ kept (granted count) (placed p list 1 words)
unfolding join_call ask_join
join_granted words buffer p list count h g b q =
    rw (le-leb 113 (length words) h, le-leb p 15 (omega arith), eq-eqb (place_at (stage_in words) p).next_chunk 0 b, q)

pub ruleset joins = (join_short, join_no_place, join_busy, join_refused, join_granted)

-- ---- a turn
-- a place that waits is one of the 16
waiting_within : (places : List Place) (more from p : ℕ) → from < 16 → first_waiting places more from ≡ Some p → p < 16
unfolding first_waiting
waiting_within places zero from p h q = absurd (let z : ◌≡◌ {A = ℕ} 0 1 = cc in omega arith)
waiting_within places (suc more) from p h q =
    go (is_free (get_or places from free_place)) (waiting_within places more ((from + 1) % 16) p (omega arith)) q
  where
    go : (b : Bool) → (first_waiting places more ((from + 1) % 16) ≡ Some p → p < 16)
        → cond b (first_waiting places more ((from + 1) % 16)) (Some from) ≡ Some p → p < 16
    go true rest e = rest e
    go false rest e = let s : from ≡ p = cc in omega arith

pub next_within : (words : List ℕ) (p : ℕ) → next_waiting (stage_in words) ≡ Some p → p < 16
next_within words p q = waiting_within (stage_in words).places 16 ((stage_in words).turn % 16) p (omega arith) q

-- what the cutter left tells what it said: its parts
answer_of : (l m : CountedLeft) → l ≡ m → l.answer ≡ m.answer
answer_of l m q = ap (λ (x : CountedLeft). x.answer) q

out_of : (l m : CountedLeft) → l ≡ m → l.out ≡ m.out
out_of l m q = ap (λ (x : CountedLeft). x.out) q

sized_same : (n len count size : ℕ)
    → ◌≡◌ {A = Reply Sized} (granted (record { num_chunks = n; len = len })) (granted (record { num_chunks = count; len = size }))
    → (n ≡ count) × (len ≡ size)
sized_same n len count size q =
    let e : ◌≡◌ {A = Sized} (record { num_chunks = n; len = len }) (record { num_chunks = count; len = size }) = cc in
    (ap (λ (s : Sized). s.num_chunks) e, ap (λ (s : Sized). s.len) e)

-- that a chunk was written, and which one
counting_granted : (count : ℕ) (r : Reply (List ℕ)) (out after : List ℕ) (n len : ℕ)
    → counted (granted (record { num_chunks = n; len = len })) after ≡ counting count r out
    → (bytes : List ℕ) × (r ≡ granted bytes) × (n ≡ count) × (len ≡ length bytes) × (after ≡ bytes ++ drop (length bytes) out)
counting_granted count (granted bytes) out after n len q =
    let s = sized_same n len count (length bytes) (answer_of _ _ q) in
    (bytes, refl, s.0, s.1, out_of _ _ q)
counting_granted count (refused number value) out after n len q = absurd (refused_not number value _ (sym (answer_of _ _ q)))

-- or that it was refused, and the output is as it was
counting_refused : (count : ℕ) (r : Reply (List ℕ)) (out after : List ℕ) (number value : ℕ)
    → counted (refused number value) after ≡ counting count r out → (r ≡ refused number value) × (after ≡ out)
counting_refused count (granted bytes) out after number value q = absurd (refused_not number value _ (answer_of _ _ q))
counting_refused count (refused number₀ value₀) out after number value q =
    let e : ◌≡◌ {A = Reply Sized} (refused number value) (refused number₀ value₀) = answer_of _ _ q in
    (cc, out_of _ _ q)

-- the answers without a place
pub turn_short : (words buffer out : List ℕ) → length words < 113 → turn_call words buffer out ≡ turn_left (refused 30 0) words out
unfolding turn_call
turn_short words buffer out h = rw (lt-leb 113 (length words) h)

pub turn_nobody : (words buffer out : List ℕ) → HasPlaces words → next_waiting (stage_in words) ≡ None
    → turn_call words buffer out ≡ turn_left (granted None) words out
unfolding turn_call ask_turn
turn_nobody words buffer out h q = rw (le-leb 113 (length words) h, q)

-- the same numbers are handed out, and the same is left
handed_same : (p k n len : ℕ) (moved after : List ℕ) (count size : ℕ) (words out : List ℕ) → n ≡ count → len ≡ size → moved ≡ words → after ≡ out
    → turn_left (granted (Some (record { place = p; chunk_num = k; num_chunks = n; len = len }))) moved after
    ≡ turn_left (granted (Some (record { place = p; chunk_num = k; num_chunks = count; len = size }))) words out
handed_same p k n len moved after count size words out e f g h = rw (e, f, g, h)

-- the cutter's word about the list of a place that waits
turn_not : (words buffer out : List ℕ) (p : ℕ) (list : Outgoing) (k number value : ℕ) → HasPlaces words
    → next_waiting (stage_in words) ≡ Some p → place_at (stage_in words) p ≡ holding list k
    → chunk_in buffer list k (length out) ≡ refused number value → turn_call words buffer out ≡ turn_left (refused number value) words out
unfolding turn_call ask_turn ask_chunk
turn_not words buffer out p list k number value h w e q = rw (le-leb 113 (length words) h, w, e, q)

turn_written : (words buffer out : List ℕ) (p : ℕ) (list : Outgoing) (k : ℕ) (bytes : List ℕ) → HasPlaces words
    → next_waiting (stage_in words) ≡ Some p → place_at (stage_in words) p ≡ holding list k → chunk_in buffer list k (length out) ≡ granted bytes
    → turn_call words buffer out
    ≡ turn_left (granted (Some (record { place = p; chunk_num = k; num_chunks = chunks_in buffer list; len = length bytes })))
    (moved_on p list (cond (ltb k (chunks_in buffer list)) (k + 1) 0) words)
    (bytes ++ drop (length bytes) out)
unfolding turn_call ask_turn ask_chunk
turn_written words buffer out p list k bytes h w e q = rw (le-leb 113 (length words) h, w, e, q, e)

-- the same by what the code's calls leave
pub turn_refused : (words buffer out : List ℕ) (p : ℕ) (list : Outgoing) (k : ℕ) (after : List ℕ) (number value : ℕ) → HasPlaces words
    → next_waiting (stage_in words) ≡ Some p → place_at (stage_in words) p ≡ holding list k
    → counted (refused number value) after ≡ counting (chunks_in buffer list) (chunk_in buffer list k (length out)) out
    → turn_left (refused number value) words after ≡ turn_call words buffer out
turn_refused words buffer out p list k after number value h w e q =
    let t = counting_refused _ (chunk_in buffer list k (length out)) out after number value q in
    ap (λ (o : List ℕ). turn_left (refused number value) words o) t.1
    ∙ sym (turn_not words buffer out p list k number value h w e t.0)

pub turn_granted : (words buffer out : List ℕ) (p : ℕ) (list : Outgoing) (k : ℕ) (after : List ℕ) (n len next : ℕ) (moved : List ℕ) → HasPlaces words
    → next_waiting (stage_in words) ≡ Some p → place_at (stage_in words) p ≡ holding list k
    → counted (granted (record { num_chunks = n; len = len })) after ≡ counting (chunks_in buffer list) (chunk_in buffer list k (length out)) out
    → next ≡ cond (ltb k n) (k + 1) 0 → moved ≡ moved_on p list next words
    → turn_left (granted (Some (record { place = p; chunk_num = k; num_chunks = n; len = len }))) moved after ≡ turn_call words buffer out
turn_granted words buffer out p list k after n len next moved h w e q g m =
    let t = counting_granted _ (chunk_in buffer list k (length out)) out after n len q in
    handed_same p k n len moved after (chunks_in buffer list) (length t.0) _ _ t.2 t.3
    (m
    ∙ ap (λ (i : ℕ). moved_on p list i words) (g ∙ ap (λ (c : ℕ). cond (ltb k c) (k + 1) 0) t.2))
    t.4
    ∙ sym (turn_written words buffer out p list k t.0 h w e t.1)

-- what a chunk that was written tells of its number
pub written_number : (buffer out : List ℕ) (list : Outgoing) (k : ℕ) (after : List ℕ) (n len : ℕ)
    → counted (granted (record { num_chunks = n; len = len })) after ≡ counting (chunks_in buffer list) (chunk_in buffer list k (length out)) out → k ≤ 16383
written_number buffer out list k after n len q =
    let t = counting_granted _ (chunk_in buffer list k (length out)) out after n len q in
    number_told buffer list k (length out) t.0 t.1
