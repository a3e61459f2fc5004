use mathlib.Core.Path.{◌≡◌, sym, ◌∙◌}
use Prim.Native.Nat.{◌+◌}
use lib.ListN.{length, length-append}
use native.Mathlib.Omega.{arith}
use mathlib.Core.Bool.{true}
use mathlib.Core.List.{◌++◌}
use borrow.Author.Tests.{le-leb}
use Rattle.seven_bit.proofs.PartLaws.{put_front}
use Rattle.seven_bit.proofs.ReplyLaws.{wrote}
use Rattle.midici_core.specs.Header.{within28, header_of, bytes_of_header}
use Rattle.midici_core.specs.Message.{write_message}
use Rattle.midici_core.proofs.HeaderLaws.{header_length}
use Rattle.midici_core.proofs.pe_msg.PeMessage.encode.Goals as goal

pub returns : goal.returns
unfolding write_message
returns c =
    let a = c.args in
    let bytes = bytes_of_header (header_of a.header) ++ a.pe_payload.now in
    let room = c.if-out-total.false in
    let e : within28 (header_of a.header) ≡ true = sym c.muids_fit.ensures ∙ c.if-not-muids_fit.false in
    let l : length bytes ≡ 13 + length a.pe_payload.now = simp (length-append, header_length) in
    rw (e, le-leb _ _ room) (wrote bytes a.out.now _ _ l (c.store.ensures ∙ put_front a.out.now bytes (omega arith)))
