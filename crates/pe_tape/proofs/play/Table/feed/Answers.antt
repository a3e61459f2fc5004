use Prim.Native.Nat.{ℕ}
use mathlib.Core.List.{List}
use mathlib.Core.Path.{ap, ◌∙◌}
use Rattle.pe_reassembler.specs.Feed.{feed_call}
use Rattle.pe_reassembler.proofs.TableClose.{part_lent}
use Rattle.pe_slot.specs.Feed.{fed_told}
use Rattle.pe_tape.specs.Play.{tape_shape}
use Rattle.pe_tape.specs.Table.{memory_in}
use Rattle.pe_tape.specs.Told.{shown_told}
use Rattle.pe_tape.proofs.CallLaws.{feed_called}
use Rattle.pe_tape.proofs.play.Table.feed.Goals as goal

pub returns-clause-left : goal.returns-clause-left
returns-clause-left c =
    let a = c.args in
    let chunk = part_lent a.f.chunk_at a.f.chunk_len a.tape.now in
    feed_called (shown_told c.feed_shown.result) (fed_told c.feed-answer.result) (memory_in a.self.now) _ a.f.peer a.f.now_ms _ c.feed_shown.ensures
    (c.feed-answer.ensures ∙ ap (λ (t : List ℕ). feed_call tape_shape (memory_in a.self.now) a.f.peer t a.f.now_ms) chunk)
