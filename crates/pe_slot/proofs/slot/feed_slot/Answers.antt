use Rattle.std.proofs.Common.{◌≡◌, true, length, take, sym, ◌∙◌, arith, rules}
use Rattle.std.specs.Prelude.{Err}
use Rattle.pe_frame.specs.Chunk.{chunk_from}
use Rattle.pe_slot.specs.Memory.{slot_of, is_sound}
use Rattle.pe_slot.specs.Records.{holds}
use Rattle.pe_slot.specs.Feed.{is_shaped}
use Rattle.pe_slot.proofs.FeedAsked.{Shaped, shaped_told, damaged_asked, sound_asked, ready, fed_unshaped, fed_damaged, fed_long, fed_sound}
use Rattle.pe_slot.proofs.StepEnds.{Reaching, header_no, ready_header, count_no, ready_count, piece_no, ready_piece, all_passed}
use Rattle.pe_slot.proofs.slot.feed_slot.Goals as goal
use Rattle.pe_slot.proofs.slot.feed_slot.Goals.{Else-not-is_shaped, In_ok-held, After-touch}

is_shaped_law : (c : Else-not-is_shaped) → (is_shaped c.args.words.now c.args.index.now c.args.header.now c.args.arena.now c.args.out_header.now c.args.out_body.now ≡ true)
is_shaped_law c = sym c.is_shaped.ensures ∙ c.if-not-is_shaped.false

shape : (c : Else-not-is_shaped) → (Shaped c.args.words.now c.args.index.now c.args.header.now c.args.arena.now c.args.out_header.now c.args.out_body.now)
shape c = shaped_told _ _ _ _ _ _ (is_shaped_law c)

-- a yes to question 31, and the chunk's number among the records
sound : (c : In_ok-held)
    → ((is_sound (length c.args.header.now) (length c.args.arena.now) (length c.args.index.now) (slot_of c.args.words.now) c.args.index.now ≡ true)
    × (c.in_ok-held.held ≡ holds c.args.chunk_num (take (slot_of c.args.words.now).index_len c.args.index.now)))
sound c = sound_asked _ _ _ _ _ c.in_ok-held.ensures

-- the chunk reaches the slot, which is touched then
reaching : (c : After-touch)
    → (Reaching c.touch.new.words c.args.index.now c.args.header.now c.args.arena.now
    (chunk_from (slot_of c.touch.new.words).request_id c.args.chunk_header.now c.args.num_chunks c.args.chunk_num c.args.property.now) c.in_ok-held.held
    c.args.out_header.now c.args.out_body.now)
reaching c =
    let p = shaped_told _ _ _ _ _ _ (sym c.is_shaped.ensures ∙ c.if-not-is_shaped.false) in
    let s = sound_asked _ _ _ _ _ c.in_ok-held.ensures in
    record {
      ready = ready _ _ _ _ _ _ _ _ _ p s.0 c.touch.ensures;
      named = (let f = c.ranges in let g = c.well_formed in omega arith);
      short = c.if-property.false;
      holding = rw c.touch.ensures s.1;
    }

pub returns-then-not-is_shaped : goal.returns-then-not-is_shaped
returns-then-not-is_shaped c =
    fed_unshaped c.args.words.now c.args.index.now c.args.header.now c.args.arena.now (chunk_from c.args.request_id c.args.chunk_header.now c.args.num_chunks c.args.chunk_num c.args.property.now) c.args.moment.now_ms c.args.moment.tick c.args.out_header.now c.args.out_body.now
    (sym c.is_shaped.ensures ∙ c.if-not-is_shaped.true)

pub soundness_of-requires : goal.soundness_of-requires
soundness_of-requires c = let s = shape c in (s.nine, s.records)

pub returns-in_err-held : goal.returns-in_err-held
returns-in_err-held c =
    let e : c.from_residual.result ≡ Err c.in_err-held.field-0.0 = search rules in
    rw e
    (fed_damaged c.args.words.now c.args.index.now c.args.header.now c.args.arena.now (chunk_from c.args.request_id c.args.chunk_header.now c.args.num_chunks c.args.chunk_num c.args.property.now) c.args.moment.now_ms c.args.moment.tick c.args.out_header.now c.args.out_body.now
    (is_shaped_law (goal.at.returns-in_err-held c).Else-not-is_shaped) (damaged_asked _ _ _ _ _ c.in_err-held.ensures))

pub returns-then-property : goal.returns-then-property
returns-then-property c =
    fed_long c.args.words.now c.args.index.now c.args.header.now c.args.arena.now (chunk_from c.args.request_id c.args.chunk_header.now c.args.num_chunks c.args.chunk_num c.args.property.now) c.args.moment.now_ms c.args.moment.tick c.args.out_header.now c.args.out_body.now
    (is_shaped_law (goal.at.returns-then-property c).Else-not-is_shaped) (sound (goal.at.returns-then-property c).In_ok-held).0 c.if-property.true

pub touch-requires : goal.touch-requires
touch-requires c = (shape (goal.at.touch-requires c).Else-not-is_shaped).nine

pub take_header-requires : goal.take_header-requires
take_header-requires c = let r = (reaching (goal.at.take_header-requires c).After-touch).ready in (r.nine, r.head)

pub returns-in_err-take_header : goal.returns-in_err-take_header
returns-in_err-take_header c =
    let e : c.from_residual-in_err-take_header.result ≡ Err c.in_err-take_header.field-0.0 = search rules in
    rw e
    (fed_sound c.args.words.now c.args.index.now c.args.header.now c.args.arena.now (chunk_from c.args.request_id c.args.chunk_header.now c.args.num_chunks c.args.chunk_num c.args.property.now) c.args.moment.now_ms c.args.moment.tick c.args.out_header.now c.args.out_body.now
    (is_shaped_law (goal.at.returns-in_err-take_header c).Else-not-is_shaped) (sound (goal.at.returns-in_err-take_header c).In_ok-held).0 c.if-property.false c.touch.ensures
    (header_no (reaching (goal.at.returns-in_err-take_header c).After-touch) c.in_err-take_header.ensures))

pub take_count-requires : goal.take_count-requires
take_count-requires c = let r = ready_header (reaching (goal.at.take_count-requires c).After-touch) c.in_ok-take_header.ensures in (r.nine, r.held)

pub returns-in_err-take_count : goal.returns-in_err-take_count
returns-in_err-take_count c =
    let e : c.from_residual-in_err-take_count.result ≡ Err c.in_err-take_count.field-0.0 = search rules in
    rw e
    (fed_sound c.args.words.now c.args.index.now c.args.header.now c.args.arena.now (chunk_from c.args.request_id c.args.chunk_header.now c.args.num_chunks c.args.chunk_num c.args.property.now) c.args.moment.now_ms c.args.moment.tick c.args.out_header.now c.args.out_body.now
    (is_shaped_law (goal.at.returns-in_err-take_count c).Else-not-is_shaped) (sound (goal.at.returns-in_err-take_count c).In_ok-held).0 c.if-property.false c.touch.ensures
    (count_no (reaching (goal.at.returns-in_err-take_count c).After-touch) c.in_ok-take_header.ensures c.in_err-take_count.ensures))

pub add_piece-requires : goal.add_piece-requires
add_piece-requires c =
    let r = ready_count (reaching (goal.at.add_piece-requires c).After-touch) c.in_ok-take_header.ensures c.in_ok-take_count.ensures in
    (r.nine, r.bytes, r.body, c.if-property.false)

pub returns-in_err-add_piece : goal.returns-in_err-add_piece
returns-in_err-add_piece c =
    let e : c.from_residual-in_err-add_piece.result ≡ Err c.in_err-add_piece.field-0.0 = search rules in
    rw e
    (fed_sound c.args.words.now c.args.index.now c.args.header.now c.args.arena.now (chunk_from c.args.request_id c.args.chunk_header.now c.args.num_chunks c.args.chunk_num c.args.property.now) c.args.moment.now_ms c.args.moment.tick c.args.out_header.now c.args.out_body.now
    (is_shaped_law (goal.at.returns-in_err-add_piece c).Else-not-is_shaped) (sound (goal.at.returns-in_err-add_piece c).In_ok-held).0 c.if-property.false c.touch.ensures
    (piece_no (reaching (goal.at.returns-in_err-add_piece c).After-touch) c.in_ok-take_header.ensures c.in_ok-take_count.ensures c.in_err-add_piece.ensures))

pub finish-requires : goal.finish-requires
finish-requires c = ready_piece (reaching (goal.at.finish-requires c).After-touch) c.in_ok-take_header.ensures c.in_ok-take_count.ensures c.in_ok-add_piece.ensures

pub returns : goal.returns
returns c =
    fed_sound c.args.words.now c.args.index.now c.args.header.now c.args.arena.now (chunk_from c.args.request_id c.args.chunk_header.now c.args.num_chunks c.args.chunk_num c.args.property.now) c.args.moment.now_ms c.args.moment.tick c.args.out_header.now c.args.out_body.now
    (is_shaped_law (goal.at.returns c).Else-not-is_shaped) (sound (goal.at.returns c).In_ok-held).0 c.if-property.false c.touch.ensures
    (all_passed (reaching (goal.at.returns c).After-touch) c.in_ok-take_header.ensures c.in_ok-take_count.ensures c.in_ok-add_piece.ensures c.finish.ensures)
