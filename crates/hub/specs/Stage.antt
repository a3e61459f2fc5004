-- What the exports of the outgoing stage answer and leave.
-- Assumes nothing.
use Rattle.std.specs.Prelude.{ℕ, List, Option, Some, None}
use Rattle.seven_bit.specs.Reply.{Reply, granted, refused}
use Rattle.pe_stage.specs.declared.Handed.{Handed}
use Rattle.pe_stage.specs.Words.{Kept, TurnLeft}
use Rattle.hub.specs.declared.answer.Answer.{Answer}
use Rattle.hub.specs.declared.stage.TurnAnswer.{TurnAnswer}
use Rattle.hub.specs.Answers.{answer_of, Left, left}

abbrev pub turn_answer : ℕ → ℕ → ℕ → ℕ → ℕ → ℕ → TurnAnswer
turn_answer refusal handed chunk_num num_chunks place len =
    record { refusal = refusal; handed = handed; chunk_num = chunk_num; num_chunks = num_chunks; place = place; length = len }

abbrev pub turn_answer_of : Reply (Option Handed) → TurnAnswer
turn_answer_of (granted (Some h)) = turn_answer 0 1 h.chunk_num h.num_chunks h.place h.len
turn_answer_of (granted None) = turn_answer 0 0 0 0 0 0
turn_answer_of (refused number value) = turn_answer number 0 0 0 0 0

abbrev pub kept_of : Kept → Left Answer (List ℕ)
kept_of k = left (answer_of k.answer) k.words

abbrev pub turn_of : TurnLeft → Left TurnAnswer (List ℕ × List ℕ)
turn_of t = left (turn_answer_of t.answer) (t.words, t.out)
