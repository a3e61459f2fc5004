use Rattle.std.proofs.Common.{◌≡◌}
use Rattle.pe_reassembler.proofs.CallsLaws.{closed}
use Rattle.pe_reassembler.proofs.calls.drop_record.Given as goal

abbrev pub invariant-loop-s : goal.invariant-loop-s
invariant-loop-s l = l.numbers ≡ closed l.p l.s l.initial.numbers
