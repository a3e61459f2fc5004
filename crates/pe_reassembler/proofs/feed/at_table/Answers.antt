use Rattle.std.proofs.Common.{◌≡◌, sym, ◌∙◌, Some, arith, rules}
use Rattle.pe_frame.proofs.RoundTrip.{read_in_range}
use Rattle.pe_reassembler.specs.Feed.{at_table}
use Rattle.pe_reassembler.specs.Table.{HasPeer, record_for, slot_for}
use Rattle.pe_reassembler.proofs.TableLaws.{numbers_long, record_for_below, slot_for_below}
use Rattle.pe_reassembler.proofs.FeedLaws.{lent_told, record_for_in, reached_from}
use Rattle.pe_reassembler.proofs.feed.at_table.Goals as goal
use Rattle.pe_reassembler.proofs.feed.at_table.Goals.{In_ok-p, In_ok-s}

-- the record and the slot that were found
record_is : (c : In_ok-p) → record_for c.args.shape c.args.numbers.now c.args.peer ≡ Some c.in_ok-p.p
record_is c = sym c.record_for.ensures ∙ c.in_ok-p.ensures.ok_part

record_lies : (c : In_ok-p) → HasPeer c.args.numbers.now c.in_ok-p.p
record_lies c = record_for_in _ _ _ _ (lent_told _ _ c.requires.all).numbers (record_is c)

slot_is : (c : In_ok-s) → slot_for c.args.numbers.now c.in_ok-p.p c.args.f.request_id ≡ Some c.in_ok-s.s
slot_is c = sym c.slot_for.ensures ∙ c.in_ok-s.ensures.ok_part

pub record_for-requires : goal.record_for-requires
record_for-requires c = numbers_long _ _ (lent_told _ _ c.requires.all).numbers

pub slot_for-requires : goal.slot_for-requires
slot_for-requires c = record_lies c

pub bounds-numbers-0 : goal.bounds-numbers-0
bounds-numbers-0 c = let r = record_lies (goal.at.bounds-numbers-0 c).In_ok-p in omega (arith, r)

pub note-requires : goal.note-requires
note-requires c = let r = record_lies (goal.at.note-requires c).In_ok-p in search (rules, r)

pub returns-clause-left : goal.returns-clause-left
unfolding at_table
returns-clause-left c =
    let p = record_is (goal.at.returns-clause-left c).In_ok-p in
    let s = slot_is (goal.at.returns-clause-left c).In_ok-s in
    rw (p, s)
    (reached_from c.args.shape _ c.args.peer _ c.args.now_ms _ _ c.requires.all (record_for_below _ _ _ _ p) (slot_for_below _ _ _ _ s) _ _ _
    (read_in_range _ _ c.requires.read).property_len c.next_tick-tick.ensures c.reach_slot-answer.ensures.left c.note.ensures)
