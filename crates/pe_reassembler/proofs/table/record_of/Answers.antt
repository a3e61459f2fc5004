use Rattle.std.proofs.Common.{rules, tests}
use Rattle.pe_reassembler.specs.Table.{bound_to, record_of}
use Rattle.pe_reassembler.proofs.TableLaws.{first_found}
use Rattle.pe_reassembler.proofs.table.record_of.Goals as goal

pub returns : goal.returns
unfolding record_of
returns c = first_found (bound_to c.args.numbers.now c.args.peer) _ _ _ _ c.find.ensures.ran (λ x b q k. search (rules, tests))
