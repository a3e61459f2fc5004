use native.Mathlib.Omega.{arith}
use Rattle.pe_header.specs.Names.{print_of}
use Rattle.pe_header.proofs.NameLaws.{printed_over, printed_on}
use Rattle.pe_header.proofs.names.fingerprint.Goals as goal

pub loop-a-preserved : goal.loop-a-preserved
loop-a-preserved c =
    let l = c.loop-a in
    (omega arith, λ t h. l.invariant.1 t (printed_on c.args.text.now l.i l.print c.in-Some.a c.in-Some.ensures.unit_at t h))

pub returns : goal.returns
unfolding print_of
returns c =
    let l = c.loop-a in
    l.invariant.1 l.print (printed_over c.args.text.now l.i l.print c.in_default.ensures.unit_at)
