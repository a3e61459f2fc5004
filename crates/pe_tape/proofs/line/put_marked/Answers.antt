use native.Mathlib.Omega.{arith}
use Rattle.pe_tape.proofs.LineLaws.{marked_length, marked_put}
use Rattle.pe_tape.proofs.line.put_marked.Goals as goal

pub returns : goal.returns
returns c =
    let a = c.args in
    let p = c.put_decimal in
    let e = marked_length a.n in
    (omega (arith, e, p.ensures.0), omega (arith, p.ensures.1), marked_put a.out.now _ a.at a.n p.ensures.2)
