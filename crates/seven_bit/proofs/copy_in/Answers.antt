use mathlib.Core.Path.{sym, ◌∙◌}
use Prim.Native.Nat.{◌+◌, ◌-◌, ◌≤◌}
use lib.ListN.{length}
use native.Mathlib.Omega.{arith}
use Rattle.seven_bit.proofs.PartLaws.{fit_yes, fit_no}
use Rattle.seven_bit.proofs.CopyLaws.{copied_all}
use Rattle.seven_bit.proofs.copy_in.Goals as goal

pub returns-then-dst-at : goal.returns-then-dst-at
returns-then-dst-at c = sym (fit_no _ _ _ (omega arith))

pub returns-then-src-lt32 : goal.returns-then-src-lt32
returns-then-src-lt32 c =
    let a = c.args in
    let fits : a.at + length a.src.now ≤ length a.dst.now = omega arith in
    c.copy_range.ensures
    ∙ copied_all a.dst.now a.at a.src.now fits (length a.src.now - 0) (omega arith)
    ∙ sym (fit_yes a.dst.now a.at a.src.now fits)

pub returns-else-src-lt32 : goal.returns-else-src-lt32
returns-else-src-lt32 c =
    let a = c.args in
    c.copy_long.ensures ∙ sym (fit_yes a.dst.now a.at a.src.now (omega arith))
