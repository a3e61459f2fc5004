-- What the exports answer: document 01's replies as structs of numbers. With a refusal every other field is 0; else the
-- refusal's number and value are 0.
-- Assumes nothing.
use Rattle.std.specs.Prelude.{ℕ, Bool, cond, List}
use Rattle.seven_bit.specs.Reply.{Reply, granted, refused, Outcome}
use Rattle.pe_slot.specs.Feed.{Told, still, lengths}
use Rattle.pe_reassembler.specs.Calls.{Totals}
use Rattle.hub.specs.declared.answer.Answer.{Answer}
use Rattle.hub.specs.declared.answer.FedAnswer.{FedAnswer}
use Rattle.hub.specs.declared.answer.StatsAnswer.{StatsAnswer}

abbrev pub answer_of : Reply ℕ → Answer
answer_of (granted n) = record { refusal = 0; value = 0; count = n }
answer_of (refused number value) = record { refusal = number; value = value; count = 0 }

-- What a call leaves: its answer in numbers, and all that is lent to be written.
pub record Left (A M : Type 0) : Type 0 where
  pub answer : A
  pub memory : M

abbrev pub left : {A M : Type 0} → A → M → Left A M
left answer m = record { answer = answer; memory = m }

-- A writer's answer, and what its lent output holds.
abbrev pub written : Answer → List ℕ → Left Answer (List ℕ)
written answer out = left answer out

abbrev pub written_of : Outcome → Left Answer (List ℕ)
written_of o = written (answer_of o.answer) o.out

-- Yes counts 1, no 0.
abbrev pub as_count : Reply Bool → Reply ℕ
as_count (granted b) = granted (cond b 1 0)
as_count (refused number value) = refused number value

-- A feed's answer: whole is 1 with a whole list, and its lengths stand with it; waiting is all 0.
abbrev pub fed_answer : ℕ → ℕ → ℕ → ℕ → ℕ → FedAnswer
fed_answer refusal value whole header_len body_len =
    record { refusal = refusal; value = value; whole = whole; header_len = header_len; body_len = body_len }

abbrev pub fed_answer_of : Reply Told → FedAnswer
fed_answer_of (granted still) = fed_answer 0 0 0 0 0
fed_answer_of (granted (lengths header_len body_len)) = fed_answer 0 0 1 header_len body_len
fed_answer_of (refused number value) = fed_answer number value 0 0 0

abbrev pub stats_answer_of : Reply Totals → StatsAnswer
stats_answer_of (granted t) =
    record { refusal = 0; value = 0; reserved_bytes = t.reserved_bytes; active_bytes = t.active_bytes; active_slots = t.active_slots }
stats_answer_of (refused number value) =
    record { refusal = number; value = value; reserved_bytes = 0; active_bytes = 0; active_slots = 0 }
