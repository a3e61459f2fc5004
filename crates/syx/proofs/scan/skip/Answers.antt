use mathlib.Core.Path.{◌∙◌}
use Prim.Native.Nat.{◌+◌, ◌-◌, ◌≤◌}
use lib.ListN.{length}
use native.Mathlib.Omega.{arith}
use borrow.Author.Rules.{rules}
use Rattle.syx.proofs.ScanLaws.{block_passed, block_holds, end_near}
use Rattle.syx.proofs.scan.skip.Goals as goal

pub returns-then-has_stop : goal.returns-then-has_stop
returns-then-has_stop c =
    let a = c.args in
    let l = c.loop-i in
    (l.invariant.0, l.invariant.1, l.invariant.2, block_holds a.inside a.file.now l.i a.block (l.i + a.block - l.i) (omega arith) c.has_stop.ensures c.if-has_stop.true)

pub loop-i-preserved : goal.loop-i-preserved
loop-i-preserved c =
    let a = c.args in
    let l = c.loop-i in
    let h : l.i + a.block ≤ length a.file.now = omega arith in (
      search rules,
      h,
      block_passed a.inside a.file.now l.i a.block (l.i + a.block - l.i) (omega arith) c.has_stop.ensures h c.if-has_stop.false ∙ l.invariant.2,
    )

pub returns : goal.returns
returns c =
    let a = c.args in
    let l = c.loop-i in
    (l.invariant.0, l.invariant.1, l.invariant.2, end_near a.inside a.file.now l.i a.block c.loop-i-test.false)
