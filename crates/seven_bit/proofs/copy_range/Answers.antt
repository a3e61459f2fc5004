use mathlib.Core.Path.{refl, sym, ap, ◌∙◌}
use Prim.Native.Nat.{ℕ, ◌+◌, ◌-◌}
use lib.ListN.{set, get_or, length-set}
use native.Mathlib.Omega.{arith}
use borrow.Author.Rules.{rules}
use mathlib.Core.List.{List}
use Rattle.seven_bit.proofs.CopyLaws.{none_copied, next_copied}
use Rattle.seven_bit.proofs.copy_range.Goals as goal

pub loop-i-init : goal.loop-i-init
loop-i-init c =
    let a = c.args in
    (search rules, search rules, sym (none_copied a.dst.now (a.at + a.from) a.src.now a.from (a.from - a.from) (omega arith)), refl)

pub loop-i-preserved : goal.loop-i-preserved
loop-i-preserved c =
    let a = c.args in
    let l = c.loop-i in
    let step = next_copied a.dst.now (a.at + a.from) a.src.now a.from (l.i - a.from) 0 (a.at + l.i) l.i (l.i + 1 - a.from) (omega arith) (omega arith) (omega arith) (search rules) in
    (search rules, search rules, ap (λ (d : List ℕ). set d (a.at + l.i) (get_or a.src.now l.i 0)) l.invariant.2 ∙ step, simp length-set l.invariant.3)
