use Rattle.std.proofs.Common.{◌≡◌, length, take, sym, ◌∙◌, ap, arith, length-set, length-take-le, get_or-take}
use Rattle.pe_slot.specs.Records.{place_of}
use Rattle.pe_slot.proofs.MetaLaws.{unpacked_more, unpacked}
use Rattle.pe_slot.proofs.meta.position_of.Goals as goal

pub loop-i-preserved : goal.loop-i-preserved
loop-i-preserved c =
    let n : length (take c.min-len.result c.args.index.now) ≡ c.min-len.result = length-take-le c.min-len.result c.args.index.now (omega (arith, c.min-len.ensures)) in
    let t = c.loop-i.invariant in
    let e = get_or-take c.min-len.result c.args.index.now c.loop-i.i 0 (omega (arith, c.loop-i-test.true)) in
    (simp length-set t.0, rw (c.from.ensures, e) (unpacked_more c.loop-i.table c.args.index.now c.loop-i.i (omega (arith, c.min-len.ensures, c.loop-i-test.true)) (omega (arith, c.min-len.ensures, c.loop-i-test.true)) t.1))

pub returns : goal.returns
returns c =
    let n : length (take c.min-len.result c.args.index.now) ≡ c.min-len.result = length-take-le c.min-len.result c.args.index.now (omega (arith, c.min-len.ensures)) in
    let i : c.loop-i.i ≡ c.min-len.result = omega (arith, c.loop-i-test.false, c.loop-i.auto.i-end) in
    let t = rw (i, c.min-len.ensures) at c.loop-i.invariant.1 in
    c.position.ensures ∙ ap (place_of c.args.chunk_num) (rw (sym c.min-len.ensures) at (unpacked c.loop-i.table c.args.index.now 2048 t))
