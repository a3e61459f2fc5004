use mathlib.Core.Bool.{true, false}
use mathlib.Core.Path.{◌≡◌, refl, sym, ap, ◌∙◌}
use Prim.Native.Nat.{ℕ, ◌+◌}
use lib.ListN.{length}
use native.Mathlib.Omega.{arith}
use Rattle.seven_bit.specs.Parts.{put}
use Rattle.seven_bit.specs.Reply.{granted}
use Rattle.seven_bit.proofs.PartLaws.{put_front}
use Rattle.seven_bit.proofs.ReplyLaws.{wrote, same_grant}
use Rattle.midici_core.specs.Header.{bytes_of_header, within28}
use Rattle.midici_core.specs.Kinds.{carries_chunk}
use Rattle.midici_core.proofs.HeaderLaws.{header_length}
use Rattle.pe_wire.specs.Errors.{pe_count}
use Rattle.pe_frame.specs.Chunk.{chunk_from}
use Rattle.pe_frame.specs.Write.{InRange, chunk_bytes, chunk_len, header_for, write_whole}
use Rattle.pe_frame.proofs.ChunkLaws.{ask_told, put_on}
use Rattle.pe_frame.proofs.MessageLaws.{whole_bytes, whole_length, whole_granted}
use Rattle.pe_frame.proofs.message.encode_message.Goals as goal
use Rattle.pe_frame.proofs.message.encode_message.Goals.{After-fill, Else-not-is_pe_chunked_sub_id, In_ok-len}

-- both consoles within 28 bits, and a kind that carries a chunk
consoles : (c : Else-not-is_pe_chunked_sub_id) → within28 (header_for c.args.sub_id2 c.args.source.0 c.args.dest.0) ≡ true
consoles c = sym c.muids_fit.ensures ∙ c.if-not-muids_fit.false

kind : (c : Else-not-is_pe_chunked_sub_id) → carries_chunk c.args.sub_id2 ≡ true
kind c = sym c.is_pe_chunked_sub_id.ensures ∙ c.if-not-is_pe_chunked_sub_id.false

told : (c : In_ok-len) → let x = chunk_from c.args.request_id c.args.header.now c.args.num_chunks c.args.chunk_num c.args.property.now in
    InRange x × (granted (chunk_len x) ≡ granted c.in_ok-len.len)
told c = ask_told _ _ _ (sym c.questions.ensures ∙ ap pe_count c.in_ok-len.was)

len : (c : In_ok-len) → chunk_len (chunk_from c.args.request_id c.args.header.now c.args.num_chunks c.args.chunk_num c.args.property.now) ≡ c.in_ok-len.len
len c = same_grant _ _ _ refl (told c).1

-- what out holds behind the header and the chunk
held : (c : After-fill) → let a = c.args in
    c.fill.new.out ≡ put a.out.now 0 (whole_bytes a.sub_id2 a.source.0 a.dest.0 (chunk_from a.request_id a.header.now a.num_chunks a.chunk_num a.property.now))
held c =
    let x = chunk_from c.args.request_id c.args.header.now c.args.num_chunks c.args.chunk_num c.args.property.now in
    let h = header_for c.args.sub_id2 c.args.source.0 c.args.dest.0 in
    c.fill.ensures ∙ put_on c.args.out.now _ (bytes_of_header h) (chunk_bytes x) 0 13 c.put_header.ensures (omega (arith, header_length h))

pub returns-then-not-muids_fit : goal.returns-then-not-muids_fit
unfolding write_whole
returns-then-not-muids_fit c =
    let a = c.args in
    let e : within28 (header_for a.sub_id2 a.source.0 a.dest.0) ≡ false = sym c.muids_fit.ensures ∙ c.if-not-muids_fit.true in
    rw e

pub returns-then-not-is_pe_chunked_sub_id : goal.returns-then-not-is_pe_chunked_sub_id
unfolding write_whole
returns-then-not-is_pe_chunked_sub_id c =
    let a = c.args in
    let w : within28 (header_for a.sub_id2 a.source.0 a.dest.0) ≡ true = sym c.muids_fit.ensures ∙ c.if-not-muids_fit.false in
    let k : carries_chunk a.sub_id2 ≡ false = sym c.is_pe_chunked_sub_id.ensures ∙ c.if-not-is_pe_chunked_sub_id.true in
    rw (w, k)

pub returns : goal.returns
returns c =
    let at = (goal.at.returns c).Else-not-is_pe_chunked_sub_id in
    let ok = (goal.at.returns c).In_ok-len in
    let x = chunk_from c.args.request_id c.args.header.now c.args.num_chunks c.args.chunk_num c.args.property.now in
    let bytes = whole_bytes c.args.sub_id2 c.args.source.0 c.args.dest.0 x in
    let l = whole_length c.args.sub_id2 c.args.source.0 c.args.dest.0 x in
    let room = c.if-out-need.false in
    rw (whole_granted _ _ _ x (length c.args.out.now) (consoles at) (kind at) (told ok).0 (omega (arith, len ok, room)))
    (wrote bytes c.args.out.now _ _ (l ∙ ap (λ (k : ℕ). 13 + k) (len ok)) (held (goal.at.returns c).After-fill ∙ put_front c.args.out.now bytes (omega (arith, l, len ok, room))))
