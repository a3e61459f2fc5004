use Rattle.std.proofs.Common.{◌≡◌, ℕ, ◌*◌, ◌≤◌}
use Rattle.pe_reassembler.specs.Calls.{open_count, over_slots}
use Rattle.pe_reassembler.proofs.calls.active_slots.Given as goal

abbrev pub invariant-loop-p : goal.invariant-loop-p
invariant-loop-p l = (l.total ≡ over_slots (λ (i s : ℕ). open_count l.numbers i s) l.p) × (l.total ≤ 4 * l.p)
