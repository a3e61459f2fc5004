use native.Mathlib.Omega.{arith}
use mathlib.Core.List.{◌∷◌}
use Rattle.pe_tape.proofs.WritingLaws.{stored, short_stored}
use Rattle.pe_tape.proofs.write.write_short.Goals as goal

pub returns : goal.returns
returns c =
    let a = c.args in
    stored _ (a.kind ∷ a.operands.now) a.out.now _ (omega arith) c.if-out-len.false
    (short_stored a.kind a.operands.now a.out.now _ c.if-out-len.false c.copy_in.ensures)
