-- What the reassembler's exports leave.
-- Assumes nothing.
use Rattle.std.specs.Prelude.{ℕ, Bool, List}
use Rattle.pe_reassembler.specs.Calls.{Fresh, Numbered}
use Rattle.pe_reassembler.specs.Feed.{Memory, FeedLeft}
use Rattle.pe_reassembler.specs.Open.{Listed}
use Rattle.pe_reassembler.specs.Poll.{Polled}
use Rattle.hub.specs.declared.answer.Answer.{Answer}
use Rattle.hub.specs.declared.answer.FedAnswer.{FedAnswer}
use Rattle.hub.specs.Answers.{answer_of, fed_answer_of, as_count, Left, left}

abbrev pub made_of : Fresh → Left Answer (List ℕ × List ℕ)
made_of f = left (answer_of f.answer) (f.numbers, f.index)

abbrev pub cancelled_of : Numbered Bool → Left Answer (List ℕ)
cancelled_of n = left (answer_of (as_count n.answer)) n.numbers

abbrev pub dropped_of : Numbered ℕ → Left Answer (List ℕ)
dropped_of n = left (answer_of n.answer) n.numbers

abbrev pub fed_of : FeedLeft → Left FedAnswer Memory
fed_of f = left (fed_answer_of f.answer) f.memory

abbrev pub polled_of : Polled → Left Answer (List ℕ × List ℕ × List ℕ)
polled_of p = left (answer_of p.answer) (p.numbers, p.out_peers, p.out_ids)

abbrev pub listed_of : Listed → Left Answer (List ℕ × List ℕ × List ℕ)
listed_of l = left (answer_of l.answer) (l.out_peers, l.out_ids, l.out_held)
