use Rattle.std.proofs.Common.{not, rules, tests}
use Rattle.pe_reassembler.specs.Table.{is_bound}
use Rattle.pe_reassembler.proofs.TableLaws.{first_found}
use Rattle.pe_reassembler.proofs.table.record_unbound.Goals as goal

pub returns : goal.returns
returns c = first_found (λ i. not (is_bound c.args.numbers.now i)) _ _ _ _ c.find.ensures.ran (λ x b q k. search (rules, tests))
