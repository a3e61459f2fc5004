use Rattle.std.proofs.Common.{◌≡◌}
use Rattle.pe_reassembler.proofs.CallsSums.{held}
use Rattle.pe_reassembler.specs.Calls.{slot_bytes, over_slots}
use Rattle.pe_reassembler.proofs.calls.active_bytes.Given as goal

abbrev pub invariant-loop-p : goal.invariant-loop-p
invariant-loop-p l = l.total ≡ held (over_slots (slot_bytes l.numbers) l.p)
