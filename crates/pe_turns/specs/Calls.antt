-- Calls on a stage that only they change, one after the other: what is held after them, and their answers.
-- Assumes nothing.
use Rattle.std.specs.Prelude.{ℕ, List, [], ◌∷◌, take, Option, Some, None}
use Rattle.seven_bit.specs.Reply.{Reply, granted, refused}
use Rattle.pe_stage.specs.declared.Handed.{Handed}
use Rattle.pe_stage.specs.declared.place.Outgoing.{Outgoing}
use Rattle.pe_stage.specs.Stage.{Stage, written, Handout, nobody, hands}
use Rattle.pe_stage.specs.Words.{stage_in, new_call, join_call, turn_call}

-- "From an empty stage that only joins and turns change", with any arguments: the buffer that is lent, and for a turn the lent output.
pub data Call : Type 0 where
  join : (buffer : List ℕ) (place : ℕ) (list : Outgoing) → Call
  turn : (buffer out : List ℕ) → Call

-- What a call tells: of a turn also the bytes that it handed out.
pub data Answer : Type 0 where
  joined : Reply ℕ → Answer
  turned : Reply Handout → Answer

-- What is seen of a turn: the numbers of its answer, and as many bytes as they say of the output that it left.
abbrev pub seen_turn : Reply (Option Handed) → List ℕ → Reply Handout
seen_turn (granted None) out = granted nobody
seen_turn (granted (Some h)) out = granted (hands h.place (written h.chunk_num h.num_chunks (take h.len out)))
seen_turn (refused number value) out = refused number value

-- ---- over lent numbers: what a call answers and leaves is what its contract says
abbrev pub answer_on : List ℕ → Call → Answer
answer_on words (join buffer p list) = joined (join_call words buffer p list).answer
answer_on words (turn buffer out) = let r = turn_call words buffer out in turned (seen_turn r.answer r.out)

abbrev pub words_after : List ℕ → Call → List ℕ
words_after words (join buffer p list) = (join_call words buffer p list).words
words_after words (turn buffer out) = (turn_call words buffer out).words

abbrev pub words_from : List ℕ → List Call → List ℕ
words_from words [] = words
words_from words (c ∷ calls) = words_from (words_after words c) calls

abbrev pub answers_on : List ℕ → List Call → List Answer
answers_on words [] = []
answers_on words (c ∷ calls) = answer_on words c ∷ answers_on (words_after words c) calls

-- What is seen from outside: the stage that is held after calls, and the answers to calls that are made after others.
pub record Seen : Type 0 where
  pub held : List Call → Stage
  pub told : (before calls : List Call) → List Answer

-- Lent numbers that `new` has just emptied.
abbrev pub seen_on : List ℕ → Seen
seen_on words =
    let start : List ℕ = (new_call words).words in
    record {
      held = λ calls. stage_in (words_from start calls);
      told = λ before calls. answers_on (words_from start before) calls;
    }
