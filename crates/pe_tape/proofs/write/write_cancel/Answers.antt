use native.Mathlib.Omega.{arith}
use mathlib.Core.List.{[]}
use mathlib.Core.Path.{sym, ap, ◌∙◌}
use lib.Dec.{leb}
use lib.ListN.{length}
use Rattle.seven_bit.specs.Reply.{granted, ◌else◌then◌}
use Rattle.pe_tape.proofs.WritingLaws.{asked, cancel_bytes, cancel_call}
use Rattle.pe_tape.proofs.write.write_cancel.Goals as goal

pub returns : goal.returns
returns c =
    let a = c.args in
    c.write_short.ensures
    ∙ asked a.out.now (ap (λ bytes. leb 6 (length a.out.now) else 3 then granted bytes) (cancel_bytes a.peer a.request_id _ c.to_le_bytes.ensures (omega arith))
    ∙ sym (cancel_call a.peer a.request_id [] _))
