use Rattle.std.proofs.Common.{rules, tests, ◌∙◌}
use Rattle.std.proofs.lemmas.Iterator.{YieldsList-from_slice}
use Rattle.std.proofs.lemmas.Iterator.Search.{position_from_yields_List}
use Rattle.pe_slot.proofs.MetaLaws.{place_words}
use Rattle.pe_slot.proofs.meta.position.Goals as goal

pub returns : goal.returns
returns c =
    position_from_yields_List _ _ _ c.position.result c.position.ensures.ran (YieldsList-from_slice c.args.index.now cc) (λ x b q k. search (rules, tests))
    ∙ place_words c.args.chunk_num c.args.index.now
