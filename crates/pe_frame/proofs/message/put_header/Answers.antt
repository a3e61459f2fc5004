use mathlib.Core.Path.{◌≡◌, sym, ap, ◌∙◌}
use Prim.Native.Nat.{ℕ}
use lib.ListN.{length}
use mathlib.Core.List.{List}
use native.Mathlib.Omega.{arith}
use borrow.Author.Tests.{le-leb}
use Rattle.seven_bit.specs.Reply.{Reply, Outcome, granted, outcome, writing}
use Rattle.seven_bit.proofs.PartLaws.{put_front}
use Rattle.midici_core.specs.Errors.{ci_count, ci_number, ci_value}
use Rattle.midici_core.specs.Header.{bytes_of_header, header_of, write_header}
use Rattle.midici_core.proofs.HeaderLaws.{header_length}
use Rattle.pe_frame.proofs.ResultLaws.{granted_ok}
use Rattle.pe_frame.proofs.message.put_header.Goals as goal
use Rattle.pe_frame.proofs.message.put_header.Goals.{After-encode}

-- the header's bytes are written, since there is room
wrote : (c : After-encode) → outcome (ci_count c.encode.result) c.encode.new.out ≡ writing (granted (bytes_of_header (header_of c.args.header))) c.args.out.now
unfolding write_header
wrote c =
    let d = c.args.out.now in
    let w : write_header (header_of c.args.header) (length d) ≡ granted (bytes_of_header (header_of c.args.header)) = rw (c.requires.0, le-leb _ _ c.requires.1) in
    c.encode.ensures ∙ ap (λ (r : Reply (List ℕ)). writing r d) w

pub unwrap-requires : goal.unwrap-requires
unwrap-requires c = granted_ok (λ (n : ℕ). n) ci_number ci_value c.encode.result _ (ap (λ (o : Outcome). o.answer) (wrote (goal.at.unwrap-requires c).After-encode))

pub returns : goal.returns
returns c =
    let h = header_of c.args.header in
    ap (λ (o : Outcome). o.out) (wrote (goal.at.returns c).After-encode)
    ∙ sym (put_front c.args.out.now (bytes_of_header h) (omega (arith, header_length h, c.requires.1)))
