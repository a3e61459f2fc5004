use Rattle.std.proofs.Common.{◌≡◌, ◌≤◌}
use Rattle.pe_reassembler.specs.Calls.{open_count}
use Rattle.pe_reassembler.proofs.CallsSums.{up_to}
use Rattle.pe_reassembler.proofs.calls.open_slots.Given as goal

abbrev pub invariant-loop-s : goal.invariant-loop-s
invariant-loop-s l = (l.open ≡ up_to (open_count l.numbers l.p) l.s) × (l.open ≤ l.s)
