use Rattle.std.proofs.Common.{◌≡◌, ◌+◌}
use Rattle.pe_reassembler.specs.Calls.{slot_bytes}
use Rattle.pe_reassembler.proofs.CallsSums.{held, up_to}
use Rattle.pe_reassembler.proofs.calls.add_peer_bytes.Given as goal

abbrev pub invariant-loop-s : goal.invariant-loop-s
invariant-loop-s l = l.sum ≡ held (l.total + up_to (slot_bytes l.numbers l.p) l.s)
