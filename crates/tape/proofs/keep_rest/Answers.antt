use Rattle.std.proofs.Common.{arith}
use Rattle.tape.proofs.RestLaws.{none_moved, next_moved}
use Rattle.tape.proofs.keep_rest.Goals as goal

pub loop-i-init : goal.loop-i-init
loop-i-init c = none_moved c.args.block.now c.args.from

pub loop-i-preserved : goal.loop-i-preserved
loop-i-preserved c = next_moved c.args.block.now _ c.args.from c.loop-i.i c.loop-i.auto.i (omega (arith, c.requires.1)) c.loop-i.invariant
