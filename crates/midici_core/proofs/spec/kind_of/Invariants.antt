use Rattle.std.specs.Prelude.{◌≡◌, drop}
use Rattle.midici_core.specs.Kinds.{kind_table, found}
use Rattle.midici_core.proofs.spec.kind_of.Given as goal

abbrev pub invariant-loop-kind : goal.invariant-loop-kind
invariant-loop-kind l = found l.sub_id2 kind_table ≡ found l.sub_id2 (drop l.kind-index l.kind-items)
