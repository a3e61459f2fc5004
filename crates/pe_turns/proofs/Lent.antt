-- Calls over lent numbers: in memory that is long enough they answer and leave what the stage itself does. And K8, proved.
-- Assumes nothing.
use Prim.Native.Nat.{ℕ}
use mathlib.Core.List.{List, [], ◌∷◌}
use mathlib.Core.Path.{◌≡◌, refl, sym, ap, ap₂, fun_ext, subst, ◌∙◌}
use borrow.Author.Tests.{le-leb}
use lib.ListN.{length, drop, set, length-set, length-replicate}
use Rattle.seven_bit.specs.Reply.{Reply, granted, refused}
use lib.Seq.{take_at}
use Rattle.pe_stage.specs.declared.place.Outgoing.{Outgoing}
use Rattle.pe_stage.specs.Stage.{Place, Stage, free_place, empty, ask_join, after_join, written, Handout, nobody, hands, ask_turn, after_turn}
use Rattle.pe_stage.specs.Words.{HasPlaces, stage_words, places_in, stage_in, Kept, new_call, joining, join_call, TurnLeft, turning, turn_call}
use Rattle.pe_stage.proofs.WordLaws.{places_length, stored, storing_long}
use Rattle.pe_turns.specs.Calls.{Call, join, turn, Answer, joined, turned, seen_turn, answer_on, words_after, words_from, answers_on, seen_on}
use Rattle.pe_turns.specs.Turns.{TakingTurns, K8}
use Rattle.pe_turns.proofs.Plain.{answer, after, stage_from, answers, plain}
use Rattle.pe_turns.proofs.Theorem.{taking_turns}

-- a place is stored: there are 16 still
set_sixteen : (words : List ℕ) (p : ℕ) (x : Place) → length (set (stage_in words).places p x) ≡ 16
set_sixteen words p x = length-set (places_in 16 (drop 1 words)) p x ∙ places_length 16 (drop 1 words)

-- ---- one call
join_on : (words : List ℕ) (p : ℕ) (n : Outgoing) (r : Reply ℕ) → HasPlaces words
    → ((joining p n r words).answer ≡ r) × (stage_in (joining p n r words).words ≡ after_join (stage_in words) p n r) × HasPlaces (joining p n r words).words
join_on words p n (granted count) l =
    let s = after_join (stage_in words) p n (granted count) in
    (refl, stored s words (set_sixteen words p _), storing_long s words (set_sixteen words p _))
join_on words p n (refused number value) l = (refl, refl, l)

turn_on : (words out : List ℕ) (r : Reply Handout) → HasPlaces words
    → (seen_turn (turning r words out).answer (turning r words out).out ≡ r)
    × (stage_in (turning r words out).words ≡ after_turn (stage_in words) r)
    × HasPlaces (turning r words out).words
turn_on words out (granted nobody) l = (refl, refl, l)
turn_on words out (granted (hands p w)) l =
    let s = after_turn (stage_in words) (granted (hands p w)) in (
      ap (λ (bytes : List ℕ). granted (hands p (written w.number w.count bytes))) (take_at w.bytes _ _ refl),
      stored s words (set_sixteen words p _),
      storing_long s words (set_sixteen words p _),
    )
turn_on words out (refused number value) l = (refl, refl, l)

join_long : (words buffer : List ℕ) (p : ℕ) (n : Outgoing) → HasPlaces words
    → join_call words buffer p n ≡ joining p n (ask_join (stage_in words) buffer p n) words
unfolding join_call
join_long words buffer p n l = rw (le-leb stage_words (length words) l)

turn_long : (words buffer out : List ℕ) → HasPlaces words → turn_call words buffer out ≡ turning (ask_turn (stage_in words) buffer (length out)) words out
unfolding turn_call
turn_long words buffer out l = rw (le-leb stage_words (length words) l)

step_on : (words : List ℕ) (c : Call) → HasPlaces words
    → (answer_on words c ≡ answer (stage_in words) c) × (stage_in (words_after words c) ≡ after (stage_in words) c) × HasPlaces (words_after words c)
step_on words (join buffer p n) l =
    let e = join_long words buffer p n l in
    let r = join_on words p n (ask_join (stage_in words) buffer p n) l in (
      ap (λ (k : Kept). joined k.answer) e ∙ ap joined r.0,
      ap (λ (k : Kept). stage_in k.words) e ∙ r.1,
      subst (λ (k : Kept). HasPlaces k.words) (sym e) r.2,
    )
step_on words (turn buffer out) l =
    let e = turn_long words buffer out l in
    let r = turn_on words out (ask_turn (stage_in words) buffer (length out)) l in (
      ap (λ (k : TurnLeft). turned (seen_turn k.answer k.out)) e ∙ ap turned r.0,
      ap (λ (k : TurnLeft). stage_in k.words) e ∙ r.1,
      subst (λ (k : TurnLeft). HasPlaces k.words) (sym e) r.2,
    )

-- ---- whole sequences, whatever the memory holds
pub run_on : (words : List ℕ) (calls : List Call) → HasPlaces words
    → (answers_on words calls ≡ answers (stage_in words) calls) × (stage_in (words_from words calls) ≡ stage_from (stage_in words) calls)
    × HasPlaces (words_from words calls)
run_on words [] l = (refl, refl, l)
run_on words (c ∷ calls) l =
    let r = step_on words c l in
    let i = run_on (words_after words c) calls r.2 in (
      ap₂ (λ (a : Answer) (told : List Answer). a ∷ told) r.0 (i.0 ∙ ap (λ (s : Stage). answers s calls) r.1),
      i.1 ∙ ap (λ (s : Stage). stage_from s calls) r.1,
      i.2,
    )

-- ---- from `new` on
new_on : (words : List ℕ) → HasPlaces words → (stage_in (new_call words).words ≡ empty) × HasPlaces (new_call words).words
unfolding new_call
new_on words l =
    rw (le-leb stage_words (length words) l)
    (let g = length-replicate {A = Place} 16 free_place in (stored empty words g, storing_long empty words g))

-- what is seen is what is seen of the stage itself
pub seen_plain : (words : List ℕ) → HasPlaces words → seen_on words ≡ plain
seen_plain words l =
    ap₂ (λ (held : List Call → Stage) (told : (before calls : List Call) → List Answer). record { held = held; told = told })
    (fun_ext held) (fun_ext (λ before. fun_ext (told before)))
  where
    start : List ℕ
    start = (new_call words).words

    held : (calls : List Call) → stage_in (words_from start calls) ≡ stage_from empty calls
    held calls = let n = new_on words l in (run_on start calls n.1).1 ∙ ap (λ (s : Stage). stage_from s calls) n.0

    told : (before calls : List Call) → answers_on (words_from start before) calls ≡ answers (stage_from empty before) calls
    told before calls =
        let n = new_on words l in
        (run_on (words_from start before) calls (run_on start before n.1).2).0 ∙ ap (λ (s : Stage). answers s calls) (held before)

pub k8 : K8
k8 words l = subst TakingTurns (sym (seen_plain words l)) taking_turns
