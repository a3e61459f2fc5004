use native.Mathlib.Omega.{arith}
use mathlib.Core.Path.{◌∙◌}
use lib.ListN.{replicate, length-set}
use Rattle.pe_tape.proofs.LineLaws.{last_put}
use Rattle.pe_tape.proofs.line.last_line.Goals as goal

pub returns : goal.returns
returns c =
    let e = c.args.e in
    let put = last_put e (replicate 22 0) c.put_marked-end.new.out c.number.result c.put_marked-end.result c.number.ensures c.put_marked-end.ensures.2 c.put_marked-end.ensures.0 in
    let long = length-set c.put_marked-end.new.out c.put_marked-end.result 10 ∙ c.put_marked-end.auto.out in
    record { bytes_value = put; len_in_bounds = omega (arith, long, c.put_marked-end.ensures.1) }
