use Prim.Native.Nat.{◌+◌, ◌-◌, ◌≤◌}
use lib.ListN.{length}
use native.Mathlib.Omega.{arith}
use borrow.Author.Rules.{rules}
use Rattle.pe_header.proofs.PrintLaws.{lacks_on, lacks_block}
use Rattle.pe_header.proofs.names.pass_blocks.Goals as goal

pub loop-i-preserved : goal.loop-i-preserved
loop-i-preserved c =
    let a = c.args in
    let l = c.loop-i in
    let room : l.i + a.block ≤ length a.prints.now = omega arith in (
      search rules,
      search rules,
      lacks_on a.prints.now a.print a.from l.i (l.i + a.block) l.invariant.2
          (lacks_block a.prints.now a.print l.i a.block (l.i + a.block - l.i) (omega arith) room
          (c.has_print.ensures c.if-has_print.false)),
    )
