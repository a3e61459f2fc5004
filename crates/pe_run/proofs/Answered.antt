-- Every list of calls has answers.
-- Assumes nothing.
use mathlib.Core.List.{List, [], ◌∷◌}
use mathlib.Core.Path.{refl}
use Rattle.pe_reassembler.specs.declared.shape.Shape.{Shape}
use Rattle.pe_run.specs.Calls.{Call, feed, feed_message, cancel, drop_peer, poll, memory_stats, reserved_bytes, open_list, Answer}
use Rattle.pe_run.specs.Run.{Table, step, Answers, Run}

pub answer : (shape : Shape) (t : Table) (c : Call) → (a : Answer) × Answers shape t c a
answer shape t (feed peer chunk now_ms out_header out_body) = (_, refl)
answer shape t (feed_message message now_ms out_header out_body) = (_, refl)
answer shape t (cancel peer request_id) = (_, refl)
answer shape t (drop_peer peer) = (_, refl)
answer shape t (poll now_ms out_peers out_ids) = (_, refl)
answer shape t memory_stats = (_, refl)
answer shape t reserved_bytes = (_, refl)
answer shape t (open_list out_peers out_ids out_held) = (_, refl)

pub answered : (shape : Shape) (t : Table) (calls : List Call) → (told : List Answer) × Run shape t calls told
answered shape t [] = ([], tt)
answered shape t (c ∷ calls) =
    let a = answer shape t c in
    let more = answered shape (step shape t c) calls in
    (a.0 ∷ more.0, (a.1, more.1))
