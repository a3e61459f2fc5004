use mathlib.Core.Path.{◌∙◌}
use lib.Dec.{leb}
use Rattle.std.proofs.Common.{rules, tests}
use Rattle.std.proofs.lemmas.Iterator.{YieldsList-from_slice}
use Rattle.std.proofs.lemmas.Iterator.Search.{all_from_yields_List}
use Rattle.pe_frame.proofs.LowLaws.{all_low_is}
use Rattle.pe_frame.proofs.low.each_low.Goals as goal

pub returns : goal.returns
returns c =
    all_from_yields_List (λ b. leb b 127) _ _ c.all.result c.all.ensures.ran (YieldsList-from_slice c.args.s.now cc) (λ x b q k. search (rules, tests))
    ∙ all_low_is c.args.s.now
