use Prim.Native.Nat.{◌+◌, ◌≤◌}
use native.Mathlib.Omega.{arith}
use mathlib.Core.Path.{ap, ◌∙◌}
use lib.ListN.{length}
use Rattle.seven_bit.specs.Parts.{part, put_fit}
use Rattle.seven_bit.proofs.PartLaws.{length_part}
use Rattle.pe_reassembler.proofs.TableClose.{part_lent}
use Rattle.pe_tape.proofs.WritingLaws.{feed_outside, feed_long, feed_short, feed_written, feed_stored}
use Rattle.pe_tape.proofs.write.write_feed.Goals as goal
use Rattle.pe_tape.proofs.write.write_feed.Goals.{then-source-f-via-then-source-f, then-source-f-via-else-source-f+then-source-f-2}

pub returns-then-source-f : goal.returns-then-source-f
returns-then-source-f c =
    let a = c.args in
    feed_outside a.f a.source.now a.out.now
    (elim c.then-source-f.branch [
      | then-source-f-via-then-source-f w ↦ omega arith
      | then-source-f-via-else-source-f+then-source-f-2 w ↦ omega arith
    ])

pub returns-then-f-gt-MAX_CHUNK_LEN : goal.returns-then-f-gt-MAX_CHUNK_LEN
returns-then-f-gt-MAX_CHUNK_LEN c =
    let a = c.args in
    feed_long a.f a.source.now a.out.now (omega arith) c.if-f-gt-MAX_CHUNK_LEN.true

pub returns-then-out-len : goal.returns-then-out-len
returns-then-out-len c =
    let a = c.args in
    feed_short a.f a.source.now a.out.now (omega arith) c.if-f-gt-MAX_CHUNK_LEN.false c.if-out-len.true

pub returns : goal.returns
returns c =
    let a = c.args in
    let f = a.f in
    let inside : f.chunk_at + f.chunk_len ≤ length a.source.now = omega arith in
    let chunk = part f.chunk_at f.chunk_len a.source.now in
    let held = feed_stored a.out.now _ _ _ _ chunk f.peer f.now_ms f.chunk_len (length_part f.chunk_at f.chunk_len a.source.now inside) c.if-out-len.false
    (c.copy_in.ensures ∙ ap (put_fit _ 1) c.to_le_bytes.ensures)
    (c.copy_in-2.ensures ∙ ap (put_fit _ 5) c.to_le_bytes-2.ensures)
    (c.copy_in-3.ensures ∙ ap (put_fit _ 13) c.to_le_bytes-3.ensures)
    (c.copy_in-4.ensures ∙ ap (put_fit _ 15) (part_lent f.chunk_at f.chunk_len a.source.now)) in
    feed_written f a.source.now a.out.now _ inside c.if-f-gt-MAX_CHUNK_LEN.false c.if-out-len.false held
