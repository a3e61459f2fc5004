use Rattle.std.proofs.Common.{take, ◌∙◌, arith, length-take-le}
use Rattle.pe_slot.specs.Memory.{slot_of}
use Rattle.pe_slot.proofs.FeedLaws.{finish_headless, finish_countless, finish_missing, finish_whole}
use Rattle.pe_slot.proofs.OrderJoinLaws.{join_short}
use Rattle.pe_slot.proofs.SlotWords.{close_nine}
use Rattle.pe_slot.proofs.slot.finish.Goals as goal
use Rattle.pe_slot.proofs.slot.finish.Goals.{then-words-eq0-via-then-words-eq0, then-words-eq0-via-else-words-eq0+then-count-eq0, then-words-eq0-via-else-words-eq0+else-count-eq0+then-len-count}

pub returns-then-words-eq0 : goal.returns-then-words-eq0
returns-then-words-eq0 c =
    let a = c.args in
    elim c.then-words-eq0.branch [
      | then-words-eq0-via-then-words-eq0 w ↦ finish_headless a.words.now a.index.now a.header.now a.arena.now a.out_header.now a.out_body.now w.if-words-eq0.true
      | then-words-eq0-via-else-words-eq0+then-count-eq0 w ↦
          finish_countless a.words.now a.index.now a.header.now a.arena.now a.out_header.now a.out_body.now w.if-words-eq0.false w.if-count-eq0.true
      | then-words-eq0-via-else-words-eq0+else-count-eq0+then-len-count w ↦
          finish_missing a.words.now a.index.now a.header.now a.arena.now a.out_header.now a.out_body.now w.if-words-eq0.false w.if-count-eq0.false
          (join_short _ (take (slot_of a.words.now).index_len a.index.now) a.arena.now a.out_body.now
          (omega (arith, w.if-len-count.true, length-take-le (slot_of a.words.now).index_len a.index.now c.requires.held)))
    ]

pub returns-in_err-body_len : goal.returns-in_err-body_len
returns-in_err-body_len c =
    let a = c.args in
    rw c.from_residual.ensures
    (finish_missing a.words.now a.index.now a.header.now a.arena.now a.out_header.now a.out_body.now c.if-words-eq0.false c.if-count-eq0.false c.in_err-body_len.ensures)

pub returns : goal.returns
returns c =
    let a = c.args in
    finish_whole a.words.now a.index.now a.header.now a.arena.now a.out_header.now a.out_body.now c.if-words-eq0.false c.if-count-eq0.false
    c.in_ok-body_len.ensures (c.close.ensures ∙ close_nine _ c.requires.nine) c.copy_in.ensures c.requires.head c.requires.header_room
