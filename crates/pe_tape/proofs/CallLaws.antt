-- What a call's contract tells of the command that stands for it.
-- Assumes nothing.
use Prim.Native.Nat.{ℕ}
use mathlib.Core.Bool.{Bool}
use mathlib.Core.List.{List}
use mathlib.Core.Path.{◌≡◌, ap, ap₂, ◌∙◌}
use Rattle.seven_bit.specs.Reply.{Reply}
use Rattle.pe_slot.specs.Feed.{Told}
use Rattle.pe_reassembler.specs.Feed.{Memory, FeedLeft, feed_left, feed_call}
use Rattle.pe_reassembler.specs.Calls.{Numbered, numbered, cancel_call, drop_call}
use Rattle.pe_reassembler.specs.Poll.{poll_call}
use Rattle.pe_tape.specs.Command.{feed, cancel, drop_peer, poll}
use Rattle.pe_tape.specs.Line.{Shown, feed_shown, cancel_shown, count_shown}
use Rattle.pe_tape.specs.Play.{tape_shape, column, called, renumbered, make_call}

pub feed_called : (s : Shown) (answer : Reply Told) (m after : Memory) (peer now_ms : ℕ) (chunk : List ℕ) → s ≡ feed_shown answer
    → feed_left answer after ≡ feed_call tape_shape m peer chunk now_ms → called s after ≡ make_call m (feed peer now_ms chunk)
unfolding make_call
feed_called s answer m after peer now_ms chunk e h =
    ap (λ (t : Shown). called t after) e ∙ ap (λ (l : FeedLeft). called (feed_shown l.answer) l.memory) h

pub cancel_called : (s : Shown) (answer : Reply Bool) (m : Memory) (after : List ℕ) (peer request_id : ℕ) → s ≡ cancel_shown answer
    → numbered answer after ≡ cancel_call tape_shape m.numbers peer request_id → called s (renumbered m after) ≡ make_call m (cancel peer request_id)
unfolding make_call
cancel_called s answer m after peer request_id e h =
    ap (λ (t : Shown). called t (renumbered m after)) e ∙ ap (λ (l : Numbered Bool). called (cancel_shown l.answer) (renumbered m l.numbers)) h

pub drop_called : (s : Shown) (answer : Reply ℕ) (m : Memory) (after : List ℕ) (peer : ℕ) → s ≡ count_shown answer
    → numbered answer after ≡ drop_call tape_shape m.numbers peer → called s (renumbered m after) ≡ make_call m (drop_peer peer)
unfolding make_call
drop_called s answer m after peer e h =
    ap (λ (t : Shown). called t (renumbered m after)) e ∙ ap (λ (l : Numbered ℕ). called (count_shown l.answer) (renumbered m l.numbers)) h

pub poll_called : (s : Shown) (m : Memory) (after : List ℕ) (now_ms : ℕ)
    → s ≡ count_shown (poll_call tape_shape m.numbers now_ms column column).answer
    → after ≡ (poll_call tape_shape m.numbers now_ms column column).numbers → called s (renumbered m after) ≡ make_call m (poll now_ms)
unfolding make_call
poll_called s m after now_ms e h = ap₂ (λ (t : Shown) (n : List ℕ). called t (renumbered m n)) e h
