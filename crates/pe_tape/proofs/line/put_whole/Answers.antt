use native.Mathlib.Omega.{arith}
use Rattle.pe_tape.proofs.LineLaws.{whole_length, whole_put}
use Rattle.pe_tape.proofs.line.put_whole.Goals as goal

pub returns : goal.returns
returns c =
    let a = c.args in
    let p = c.put_decimal-behind in
    let q = c.put_decimal in
    let e = whole_length a.header_len a.body_len in (
      omega (arith, e, p.ensures.0, q.ensures.0),
      omega (arith, p.ensures.1, q.ensures.1),
      whole_put a.out.now _ _ a.at a.header_len a.body_len p.result p.ensures.2 p.ensures.0 q.ensures.2,
    )
