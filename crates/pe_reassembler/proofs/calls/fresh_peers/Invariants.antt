use Rattle.std.proofs.Common.{◌≡◌}
use Rattle.seven_bit.specs.Parts.{put}
use Rattle.pe_reassembler.specs.Calls.{fresh_peers}
use Rattle.pe_reassembler.proofs.calls.fresh_peers.Given as goal

abbrev pub invariant-loop-p : goal.invariant-loop-p
invariant-loop-p l = l.numbers ≡ put l.initial.numbers 1 (fresh_peers l.p)
