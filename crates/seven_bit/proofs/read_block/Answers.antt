use mathlib.Core.Path.{◌≡◌, refl, sym, ap, ◌∙◌}
use Prim.Native.Nat.{ℕ, ◌+◌}
use lib.ListN.{set, get_or, replicate}
use native.Mathlib.Omega.{arith}
use borrow.Author.Rules.{rules}
use mathlib.Core.List.{List}
use Rattle.seven_bit.proofs.PartLaws.{length_part}
use Rattle.seven_bit.proofs.CopyLaws.{none_copied, next_copied, put_all}
use Rattle.seven_bit.specs.Parts.{part, put}
use Rattle.seven_bit.proofs.read_block.Goals as goal

pub loop-i-init : goal.loop-i-init
loop-i-init c =
    let a = c.args in
    (search rules, sym (none_copied (replicate 16 0) 0 a.src.now a.from 0 refl))

pub loop-i-preserved : goal.loop-i-preserved
loop-i-preserved c =
    let a = c.args in
    let l = c.loop-i in
    let step = next_copied (replicate 16 0) 0 a.src.now a.from l.i 0 l.i (a.from + l.i) (l.i + 1) (omega arith) refl refl (search rules) in
    (search rules, ap (λ (d : List ℕ). set d l.i (get_or a.src.now (a.from + l.i) 0)) l.invariant.1 ∙ step)

pub returns : goal.returns
returns c =
    let a = c.args in
    let l = c.loop-i in
    let e : l.i ≡ 16 = omega arith in
    l.invariant.1
    ∙ ap (λ (i : ℕ). put (replicate 16 0) 0 (part a.from i a.src.now)) e
    ∙ put_all (replicate 16 0) (part a.from 16 a.src.now) (length_part a.from 16 a.src.now (search rules))
