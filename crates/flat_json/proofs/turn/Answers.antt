use mathlib.Core.Path.{◌≡◌, sym, ap, ◌∙◌}
use Prim.Native.Nat.{ℕ, ◌+◌}
use native.Mathlib.Omega.{arith}
use Rattle.flat_json.specs.Table.{spot, turned}
use Rattle.flat_json.proofs.WalkLaws.{turned_next, turned_other, turned_end}
use borrow.Author.Rules.{rules}
use Rattle.flat_json.proofs.turn.Goals as goal

pub returns-then-next-at : goal.returns-then-next-at
unfolding turned
returns-then-next-at c =
    let a = c.args in
    let l = c.loop-i in
    let e = c.step-next.ensures in
    ap (spot (l.i + 1)) e
    ∙ sym (l.invariant.1 ∙ turned_other a.table.now a.text.now a.at.state l.i (search rules) (λ q. c.if-next-at.true (e ∙ q)))

pub loop-i-preserved : goal.loop-i-preserved
loop-i-preserved c =
    let a = c.args in
    let l = c.loop-i in
    (omega arith, l.invariant.1 ∙ turned_next a.table.now a.text.now a.at.state l.i (search rules) (sym c.step-next.ensures ∙ c.if-next-at.false))

pub returns : goal.returns
unfolding turned
returns c =
    let a = c.args in
    let l = c.loop-i in
    let e : c.max.result ≡ l.i = omega arith in
    ap (λ (n : ℕ). spot n a.at.state) e ∙ sym (l.invariant.1 ∙ turned_end a.table.now a.text.now a.at.state l.i (search rules))
