use Rattle.std.proofs.Common.{arith, sym}
use Rattle.pe_reassembler.proofs.CallsFresh.{fresh_step}
use Rattle.pe_reassembler.specs.Calls.{fresh_peers}
use Rattle.seven_bit.proofs.PartLaws.{put_none}
use Rattle.pe_reassembler.proofs.calls.fresh_peers.Goals as goal

pub loop-p-init : goal.loop-p-init
unfolding fresh_peers
loop-p-init c = sym (put_none _ _)

pub loop-p-preserved : goal.loop-p-preserved
loop-p-preserved c =
    let l = c.loop-p in
    fresh_step c.args.numbers.now l.p c.peer_at-at.ensures (omega arith) l.invariant c.fresh_peer.ensures
