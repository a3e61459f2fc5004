use Rattle.std.proofs.Common.{rules, tests}
use Rattle.pe_reassembler.specs.Table.{is_idle}
use Rattle.pe_reassembler.proofs.TableLaws.{first_found}
use Rattle.pe_reassembler.proofs.table.record_idle.Goals as goal

pub returns : goal.returns
returns c = first_found (is_idle c.args.numbers.now) _ _ _ _ c.find.ensures.ran (λ x b q k. search (rules, tests))
