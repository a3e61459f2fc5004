use Rattle.std.proofs.Common.{arith}
use Rattle.pe_tape.proofs.LineLaws.{tenth_short, digit_put, last_digit_put}
use Rattle.pe_tape.proofs.line.+put_decimal.Goals as goal

pub returns-then-n-lt10 : goal.returns-then-n-lt10
returns-then-n-lt10 t c =
    let e = digit_put c.args.out.now c.args.at c.args.n c.if-n-lt10.true in
    (e.0, omega arith, e.1)

-- the last digit is within the twenty
pub bounds-out-last : goal.bounds-out-last
bounds-out-last t c =
    let e = tenth_short c.args.n (omega arith) c.if-n-lt10.false in
    omega (arith, e, c.put_decimal-last.ensures.0, c.put_decimal-last.auto.out, c.requires)

pub returns : goal.returns
returns t c =
    let p = c.put_decimal-last in
    let e = tenth_short c.args.n (omega arith) c.if-n-lt10.false in
    let d = last_digit_put c.args.out.now _ c.args.at c.args.n p.result c.if-n-lt10.false p.ensures.0 p.ensures.2 in
    (d.0, omega (arith, e, p.ensures.0), d.1)
