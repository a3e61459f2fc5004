-- What the export that cuts a whole list answers and leaves.
-- Assumes nothing.
use Rattle.std.specs.Prelude.{ℕ, List}
use Rattle.seven_bit.specs.Reply.{Reply, granted, refused}
use Rattle.pe_chunker.specs.Split.{Sizes, SplitLeft}
use Rattle.hub.specs.declared.chunks.CutAnswer.{CutAnswer}
use Rattle.hub.specs.Answers.{Left, left}

abbrev pub cut_answer_of : Reply Sizes → CutAnswer
cut_answer_of (granted n) = record { refusal = 0; chunks = n.chunks; bytes = n.bytes }
cut_answer_of (refused number value) = record { refusal = number; chunks = 0; bytes = 0 }

abbrev pub all_cut_of : SplitLeft → Left CutAnswer (List ℕ × List ℕ)
all_cut_of l = left (cut_answer_of l.answer) (l.out, l.lengths)
