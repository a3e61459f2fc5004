use mathlib.Core.Path.{◌≡◌, refl, sym, ap, ◌∙◌}
use Prim.Native.Nat.{ℕ, ◌+◌}
use lib.ListN.{length, set, get_or, length-set}
use native.Mathlib.Omega.{arith}
use borrow.Author.Rules.{rules}
use mathlib.Core.List.{List}
use Rattle.seven_bit.proofs.PartLaws.{put_none, put_next}
use Rattle.seven_bit.proofs.put_block.Goals as goal

pub loop-i-init : goal.loop-i-init
loop-i-init c =
    (search rules, sym (put_none _ _), refl)

pub loop-i-preserved : goal.loop-i-preserved
loop-i-preserved c =
    let a = c.args in
    let l = c.loop-i in
    let n : length a.block ≡ 16 = search rules in
    let step = put_next a.dst.now a.at a.block l.i 0 (omega (arith, n)) in
    (search rules, ap (λ (d : List ℕ). set d (a.at + l.i) (get_or a.block l.i 0)) l.invariant.1 ∙ step, simp length-set l.invariant.2)
