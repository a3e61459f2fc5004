use Rattle.std.proofs.Common.{arith, rules}
use Rattle.pe_frame.specs.Chunk.{chunk_of, fields_of}
use Rattle.pe_frame.proofs.RoundTrip.{read_told}
use Rattle.pe_reassembler.specs.Steps.{memory_of}
use Rattle.pe_reassembler.proofs.TableClose.{part_lent}
use Rattle.pe_reassembler.proofs.FeedLaws.{Lies, lies, read_bounds, feed_back}
use Rattle.pe_reassembler.proofs.feed.reach_slot.Goals as goal
use Rattle.pe_reassembler.proofs.feed.reach_slot.Goals.{Start}

-- where the slot's parts lie
parts : (b : Start) → Lies b.args.shape (memory_of b.args.numbers.now b.args.rooms.now) b.args.p b.args.s
parts b = lies _ _ _ _ b.requires.all b.requires.found.0 b.requires.found.1

pub slot_at-at-requires : goal.slot_at-at-requires
slot_at-at-requires c = let l = parts (goal.at.slot_at-at-requires c).Start in (l.peer.0, c.requires.found.1)

pub room_at-index_at-requires : goal.room_at-index_at-requires
room_at-index_at-requires c = let l = parts (goal.at.room_at-index_at-requires c).Start in omega (arith, l, l.ranges)

pub room_at-header_at-requires : goal.room_at-header_at-requires
room_at-header_at-requires c = let l = parts (goal.at.room_at-header_at-requires c).Start in omega (arith, l, l.ranges)

pub room_at-arena_at-requires : goal.room_at-arena_at-requires
room_at-arena_at-requires c = let l = parts (goal.at.room_at-arena_at-requires c).Start in omega (arith, l, l.ranges)

pub overflow_add-header_end : goal.overflow_add-header_end
overflow_add-header_end c = let t = (read_bounds _ _ c.requires.found.2).0 in omega (arith, t)

pub overflow_add-end : goal.overflow_add-end
overflow_add-end c = let t = (read_bounds _ _ c.requires.found.2).1 in omega (arith, t)

pub overflow_add-at : goal.overflow_add-at
overflow_add-at c = let l = parts (goal.at.overflow_add-at c).Start in omega (arith, l.peer, c.slot_at-at.ensures)

pub offset_bounds-numbers-at : goal.offset_bounds-numbers-at
offset_bounds-numbers-at c = let l = parts (goal.at.offset_bounds-numbers-at c).Start in omega (arith, l.peer, c.slot_at-at.ensures)

pub slice_bounds-feed_slot-end : goal.slice_bounds-feed_slot-end
slice_bounds-feed_slot-end c = let l = parts (goal.at.slice_bounds-feed_slot-end c).Start in search (rules, l, l.peer)

pub overflow_add-index_at : goal.overflow_add-index_at
overflow_add-index_at c = let l = parts (goal.at.overflow_add-index_at c).Start in omega (arith, l, l.ranges, c.room_at-index_at.ensures)

pub offset_bounds-rooms-index_at : goal.offset_bounds-rooms-index_at
offset_bounds-rooms-index_at c = let l = parts (goal.at.offset_bounds-rooms-index_at c).Start in omega (arith, l, l.ranges, c.room_at-index_at.ensures)

pub slice_bounds-feed_slot-end-2 : goal.slice_bounds-feed_slot-end-2
slice_bounds-feed_slot-end-2 c = let l = parts (goal.at.slice_bounds-feed_slot-end-2 c).Start in omega (arith, l, c.room_at-index_at.ensures)

pub overflow_add-header_at : goal.overflow_add-header_at
overflow_add-header_at c = let l = parts (goal.at.overflow_add-header_at c).Start in omega (arith, l, l.ranges, c.room_at-header_at.ensures)

pub slice_bounds-feed_slot-end-3 : goal.slice_bounds-feed_slot-end-3
slice_bounds-feed_slot-end-3 c = let l = parts (goal.at.slice_bounds-feed_slot-end-3 c).Start in omega (arith, l, c.room_at-header_at.ensures)

pub overflow_add-arena_at : goal.overflow_add-arena_at
overflow_add-arena_at c = let l = parts (goal.at.overflow_add-arena_at c).Start in omega (arith, l, l.ranges, c.room_at-arena_at.ensures)

pub slice_bounds-feed_slot-end-4 : goal.slice_bounds-feed_slot-end-4
slice_bounds-feed_slot-end-4 c = let l = parts (goal.at.slice_bounds-feed_slot-end-4 c).Start in omega (arith, l, c.room_at-arena_at.ensures)

pub slice_bounds-feed_slot-end-5 : goal.slice_bounds-feed_slot-end-5
slice_bounds-feed_slot-end-5 c = let t = (read_told _ _ c.requires.found.2).long in omega (arith, t)

pub slice_bounds-feed_slot-end-6 : goal.slice_bounds-feed_slot-end-6
slice_bounds-feed_slot-end-6 c = let t = read_told _ _ c.requires.found.2 in let l = t.long in let a = t.at in omega (arith, l, a)

pub returns-clause-left : goal.returns-clause-left
returns-clause-left c =
    let a = c.args in
    feed_back a.shape (memory_of a.numbers.now a.rooms.now) a.p a.s (chunk_of a.data.now (fields_of a.f)) a.moment.now_ms a.moment.tick _ _ _ _ _ _ _ _ _ _ _
    c.slot_at-at.ensures c.room_at-index_at.ensures c.room_at-header_at.ensures c.room_at-arena_at.ensures
    (rw (part_lent 3 a.f.header_len a.data.now, part_lent a.f.property_at a.f.property_len a.data.now) at c.feed_slot.ensures)
