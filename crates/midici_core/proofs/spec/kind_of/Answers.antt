use mathlib.Core.Path.{sym, ◌∙◌}
use borrow.Author.Rules.{rules}
use Rattle.midici_core.specs.Kinds.{kind_table}
use Rattle.midici_core.proofs.KindLaws.{found_here, found_next, table_rule}
use Rattle.midici_core.proofs.spec.kind_of.Goals as goal

pub returns-then-kind-sub_id2 : goal.returns-then-kind-sub_id2
unfolding kind_table
returns-then-kind-sub_id2 c =
    let kind = c.args.sub_id2 in
    let l = c.loop-kind in
    sym (sym (table_rule kind (search rules)) ∙ l.invariant ∙ found_here kind kind_table l.kind-index _ (search rules) c.if-kind-sub_id2.true)

pub loop-kind-preserved : goal.loop-kind-preserved
unfolding kind_table
loop-kind-preserved c =
    let l = c.loop-kind in
    l.invariant ∙ found_next c.args.sub_id2 kind_table l.kind-index _ (search rules) c.if-kind-sub_id2.false
