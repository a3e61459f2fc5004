use native.Mathlib.Omega.{arith}
use Rattle.pe_tape.specs.Told.{shown_told}
use Rattle.pe_tape.proofs.LineLaws.{line_length, line_put}
use Rattle.pe_tape.proofs.line.put_line.Goals as goal

pub returns : goal.returns
returns c =
    let a = c.args in
    let p = c.put_shown-end in
    let e = line_length a.kind (shown_told a.shown) c.requires.0 in (
      omega (arith, e, p.ensures.0),
      omega (arith, p.ensures.1),
      line_put a.out.now _ a.at a.kind p.result (shown_told a.shown) c.requires.0 p.ensures.2 p.ensures.0,
    )
