use Rattle.std.proofs.Common.{rules, tests}
use Rattle.pe_reassembler.specs.Table.{has_id, slot_open}
use Rattle.pe_reassembler.proofs.TableLaws.{first_found}
use Rattle.pe_reassembler.proofs.table.slot_open.Goals as goal

pub returns : goal.returns
unfolding slot_open
returns c = first_found (has_id c.args.numbers.now c.args.request_id c.args.p) _ _ _ _ c.find.ensures.ran (λ x b q k. search (rules, tests))
