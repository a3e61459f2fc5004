use Prim.Native.Nat.{ℕ}
use mathlib.Core.Path.{refl, ap, ◌∙◌}
use borrow.Author.Rules.{rules}
use lib.ListN.{set}
use Rattle.seven_bit.specs.SevenBit.{is_seven_bit}
use Rattle.pe_frame.proofs.LowLaws.{gathered_none, gathered_byte}
use Rattle.pe_frame.proofs.low.gather.Goals as goal

pub loop-i-init : goal.loop-i-init
loop-i-init c = let a = c.args in (refl, gathered_none a.largest.now a.s.now a.at)

pub loop-i-preserved : goal.loop-i-preserved
loop-i-preserved c =
    let l = c.loop-i in
    let a = c.args in (
      search rules,
      ap (λ (x : ℕ). is_seven_bit (set l.largest l.i x)) c.max.ensures
          ∙ gathered_byte a.largest.now a.s.now l.largest a.at l.i l.invariant.1 (search rules) (search rules),
    )
