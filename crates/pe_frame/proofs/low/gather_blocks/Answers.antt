use native.Mathlib.Omega.{arith}
use borrow.Author.Rules.{rules}
use Rattle.pe_frame.proofs.LowLaws.{gathered_none, gathered_block, gathered_last}
use Rattle.pe_frame.proofs.low.gather_blocks.Goals as goal

pub loop-at-init : goal.loop-at-init
loop-at-init c = (omega arith, c.requires.0, gathered_none c.args.largest.now c.args.s.now 0)

pub loop-at-preserved : goal.loop-at-preserved
loop-at-preserved c =
    let l = c.loop-at in
    let a = c.args in (
      omega (arith, c.loop-at-test.true),
      search rules,
      gathered_block a.largest.now a.s.now _ _ l.at 32 l.invariant.2 c.gather.ensures,
    )

pub returns : goal.returns
returns c =
    let l = c.loop-at in
    let a = c.args in
    gathered_last a.largest.now a.s.now _ _ l.at 32 l.invariant.2 c.gather-2.ensures c.requires.1
    (omega (arith, l.invariant.0, c.loop-at-test.false))
