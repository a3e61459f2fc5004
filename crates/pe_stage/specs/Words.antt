-- How the stage lies in lent numbers, one for whose turn is next and seven for each of 16 places, and its calls over them.
-- Assumes nothing.
use Rattle.std.specs.Prelude.{ℕ, zero, suc, ◌+◌, ◌*◌, ◌%◌, ◌≤◌, List, [], ◌∷◌, ◌++◌, leb, length, get_or, drop, set, Option, Some, None, Result, ⊤}
use Rattle.seven_bit.specs.Reply.{Reply, granted, refused, ◌else◌then◌}
use Rattle.pe_stage.specs.declared.Handed.{Handed}
use Rattle.pe_stage.specs.declared.place.Outgoing.{Outgoing}
use Rattle.pe_stage.specs.declared.error.StageError.{StageError}
use Rattle.pe_stage.specs.Errors.{stage_told}
use Rattle.pe_stage.specs.Stage.{Place, holding, Stage, stage, empty, ask_join, after_join, Handout, nobody, hands, ask_turn, after_turn}

abbrev pub place_words : ℕ
place_words = 7

abbrev pub place_words_at : ℕ → ℕ
place_words_at p = 1 + place_words * p

abbrev pub stage_words : ℕ
stage_words = place_words_at 16

-- Memory long enough for a stage.
abbrev pub HasPlaces : List ℕ → Type 0
HasPlaces words = stage_words ≤ length words

-- The place that seven words hold, taken as they are.
abbrev pub place_in : List ℕ → Place
place_in words =
    holding
    (record {
      header_at = get_or words 0 0;
      header_len = get_or words 1 0;
      body_at = get_or words 2 0;
      body_len = get_or words 3 0;
      request_id = get_or words 4 0;
      max_sysex = get_or words 5 0;
    })
    (get_or words 6 0)

unfoldable pub places_in : ℕ → List ℕ → List Place
places_in zero words = []
places_in (suc more) words = place_in words ∷ places_in more (drop place_words words)

-- The stage that lent numbers hold.
abbrev pub stage_in : List ℕ → Stage
stage_in words = stage (get_or words 0 0) (places_in 16 (drop 1 words))

unfoldable pub words_of : List Place → List ℕ
words_of [] = []
words_of (x ∷ places) =
    x.list.header_at
    ∷ x.list.header_len
    ∷ x.list.body_at
    ∷ x.list.body_len
    ∷ x.list.request_id
    ∷ x.list.max_sysex
    ∷ x.next_chunk
    ∷ words_of places

-- The lent numbers with a stage in front; those past it keep their values.
abbrev pub storing : Stage → List ℕ → List ℕ
storing s words = s.turn ∷ words_of s.places ++ drop stage_words words

-- ---- the calls
-- What `new` and joining leave: the answer, and the lent numbers.
pub record Kept : Type 0 where
  pub answer : Reply ℕ
  pub words : List ℕ

abbrev pub kept : Reply ℕ → List ℕ → Kept
kept answer words = record { answer = answer; words = words }

-- `new` empties the stage. Nothing is counted.
abbrev pub making : Reply ℕ → List ℕ → Kept
making (granted n) words = kept (granted n) (storing empty words)
making (refused number value) words = kept (refused number value) words

-- Every call asks first whether the stage's memory is long enough: 30.
unfoldable pub new_call : List ℕ → Kept
new_call words = making (leb stage_words (length words) else 30 then granted 0) words

abbrev pub joining : ℕ → Outgoing → Reply ℕ → List ℕ → Kept
joining p list (granted count) words = kept (granted count) (storing (after_join (stage_in words) p list (granted count)) words)
joining p list (refused number value) words = kept (refused number value) words

unfoldable pub join_call : List ℕ → List ℕ → ℕ → Outgoing → Kept
join_call words buffer p list = joining p list (leb stage_words (length words) else 30 then ask_join (stage_in words) buffer p list) words

-- What a turn leaves: its answer in numbers, none where nobody waits; the lent numbers; and the lent output.
pub record TurnLeft : Type 0 where
  pub answer : Reply (Option Handed)
  pub words : List ℕ
  pub out : List ℕ

abbrev pub turn_left : Reply (Option Handed) → List ℕ → List ℕ → TurnLeft
turn_left answer words out = record { answer = answer; words = words; out = out }

-- A chunk takes the front of the output, and the bytes past it keep their values; else both are as they were.
abbrev pub turning : Reply Handout → List ℕ → List ℕ → TurnLeft
turning (granted nobody) words out = turn_left (granted None) words out
turning (granted (hands p w)) words out =
    turn_left (granted (Some (record { place = p; chunk_num = w.number; num_chunks = w.count; len = length w.bytes })))
    (storing (after_turn (stage_in words) (granted (hands p w))) words)
    (w.bytes ++ drop (length w.bytes) out)
turning (refused number value) words out = turn_left (refused number value) words out

unfoldable pub turn_call : List ℕ → List ℕ → List ℕ → TurnLeft
turn_call words buffer out = turning (leb stage_words (length words) else 30 then ask_turn (stage_in words) buffer (length out)) words out

-- ---- the code's answers
-- Nothing is counted.
abbrev pub made_told : Result ⊤ StageError → Reply ℕ
made_told r = stage_told (λ _. 0) r

abbrev pub turned_told : Result (Option Handed) StageError → Reply (Option Handed)
turned_told r = stage_told (λ handed. handed) r

-- ---- what the private functions leave of lent numbers that are long enough
-- A list at place p, with the number of its next chunk.
abbrev pub placed : ℕ → Outgoing → ℕ → List ℕ → List ℕ
placed p list next_chunk words = storing (stage (stage_in words).turn (set (stage_in words).places p (holding list next_chunk))) words

-- The same, and the place after it is asked first.
abbrev pub moved_on : ℕ → Outgoing → ℕ → List ℕ → List ℕ
moved_on p list next_chunk words = storing (stage ((p + 1) % 16) (set (stage_in words).places p (holding list next_chunk))) words
