-- What the export for files answers and leaves.
-- Assumes nothing.
use Rattle.std.specs.Prelude.{ℕ, List}
use Rattle.seven_bit.specs.Reply.{Reply, granted, refused}
use Rattle.syx.specs.Listing.{Counts, Listing}
use Rattle.hub.specs.declared.files.SyxAnswer.{SyxAnswer}
use Rattle.hub.specs.Answers.{Left, left}

abbrev pub syx_answer_of : Reply Counts → SyxAnswer
syx_answer_of (granted n) = record { refusal = 0; messages = n.messages; torn = n.torn }
syx_answer_of (refused number value) = record { refusal = number; messages = 0; torn = 0 }

abbrev pub syx_listed_of : Listing → Left SyxAnswer (List ℕ × List ℕ)
syx_listed_of l = left (syx_answer_of l.answer) (l.places, l.lengths)
