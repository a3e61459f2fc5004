-- What poll, memory_stats, reserved_bytes and the open list answer is the model's answer, in whatever order the model has what is open.
-- Assumes nothing.
use Prim.Native.Nat.{ℕ, ◌*◌}
use mathlib.Core.Bool.{Bool, true, false, cond, ◌&&◌}
use mathlib.Core.List.{List, [], ◌++◌, map}
use mathlib.Core.Path.{◌≡◌, sym, ap, ◌∙◌, subst}
use lib.ListN.{length, drop}
use Rattle.seven_bit.specs.Reply.{granted, refused}
use Rattle.seven_bit.proofs.ReplyLaws.{and_told}
use Rattle.pe_reassembler.specs.declared.shape.Shape.{Shape}
use Rattle.pe_reassembler.specs.Table.{in_range, has_numbers}
use Rattle.pe_reassembler.specs.Calls.{stats_call, reserved_call}
use Rattle.pe_reassembler.specs.Order.{ranked}
use Rattle.pe_reassembler.specs.Poll.{Timeout, due_from, by_tick, close_due, Polled, polled}
use Rattle.pe_reassembler.specs.Open.{Shown, ahead, open_rows}
use Rattle.pe_reassembler.proofs.OrderLaws.{order_ascending}
use Rattle.pe_reassembler.proofs.SoundLaws.{SlotsSound}
use Rattle.pe_run.specs.Lists.{keep, Perm, then}
use Rattle.pe_run.specs.Model.{Clocked, is_late}
use Rattle.pe_run.specs.Calls.{poll, memory_stats, reserved_bytes, open_list, Answer, timed_out, has_places, due_of, TimedOut, shows, list_told, Right}
use Rattle.pe_run.specs.Run.{Table, LongFor, Answers}
use Rattle.pe_run.proofs.Value.{value_of, opens}
use Rattle.pe_run.proofs.PermLaws.{perm_sym, perm_map, perm_keep, perm_length}
use Rattle.pe_run.proofs.ModelLaws.{Unique, perm_unique}
use Rattle.pe_run.proofs.RowLaws.{open_rows_law, due_rows}
use Rattle.pe_run.proofs.SumLaws.{bytes_held, count_open, perm_bytes}
use Rattle.pe_run.proofs.Sorted.{order_perm, tick_ranks, shown_same}
use Rattle.pe_run.proofs.Ahead.{numbers_asked, poll_ahead, list_ahead}

module _ (shape : Shape) (t : Table) (b : Clocked) (long : LongFor shape t) (order : Perm (opens (value_of shape t)) b.model) where
  -- ---- poll
  module _ (now_ms : ℕ) (out_peers out_ids : List ℕ) where
    abbrev due : List Timeout
    due = ranked by_tick [] (due_from t.numbers now_ms 0 0 (4 * shape.max_peers))

    due_once : Perm due (map due_of (keep (is_late now_ms) b.model))
    due_once =
        then (order_perm by_tick (due_from t.numbers now_ms 0 0 (4 * shape.max_peers)))
        (subst (λ (l : List Timeout). Perm l (map due_of (keep (is_late now_ms) b.model))) (sym (due_rows shape t now_ms))
        (perm_map due_of (perm_keep (is_late now_ms) order)))

    abbrev poll_answer : Polled → Answer
    poll_answer r = timed_out r.answer r.out_peers r.out_ids

    pub poll_right : (a : Answer) → Answers shape t (poll now_ms out_peers out_ids) a → Right shape b (poll now_ms out_peers out_ids) a
    poll_right a e =
        go (has_places shape.max_peers out_peers && has_places shape.max_peers out_ids)
        (e ∙ ap poll_answer (poll_ahead shape t long now_ms out_peers out_ids))
      where
        go : (places : Bool)
            → a ≡ poll_answer (cond places
            (polled (granted (length due)) (close_due now_ms 0 0 (4 * shape.max_peers) t.numbers)
            (map (λ (r : Timeout). r.peer) due ++ drop (length due) out_peers)
            (map (λ (r : Timeout). r.request_id) due ++ drop (length due) out_ids))
            (polled (refused 30 0) t.numbers out_peers out_ids))
            → cond places (TimedOut b.model now_ms out_peers out_ids a) (a ≡ timed_out (refused 30 0) out_peers out_ids)
        go true q = record { rows = due; each_once = due_once; in_tick_order = order_ascending by_tick tick_ranks [] _ tt; told = q }
        go false q = q

  -- ---- the open list
  module _ (sound : SlotsSound shape t.numbers t.index) (unique : Unique b.model) where
    rows_shown : open_rows shape t.numbers ≡ shows b.model
    unfolding open_rows
    rows_shown =
        ap (λ (l : List Shown). ranked ahead [] l) (open_rows_law shape t long sound) ∙ shown_same order (perm_unique (perm_sym order) unique) []

    pub list_right : (out_peers out_ids out_held : List ℕ) (a : Answer) → Answers shape t (open_list out_peers out_ids out_held) a
        → Right shape b (open_list out_peers out_ids out_held) a
    list_right out_peers out_ids out_held a e = e ∙ ap list_told (list_ahead shape t long out_peers out_ids out_held ∙ rw rows_shown)

  -- ---- memory_stats
  pub stats_right : SlotsSound shape t.numbers t.index → (a : Answer) → Answers shape t memory_stats a → Right shape b memory_stats a
  unfolding stats_call
  stats_right sound a e =
      e ∙ rw (numbers_asked shape t long, bytes_held shape t long sound ∙ perm_bytes order, count_open shape t ∙ perm_length order)

  -- ---- reserved_bytes
  pub reserved_right : (a : Answer) → Answers shape t reserved_bytes a → Right shape b reserved_bytes a
  unfolding reserved_call has_numbers
  reserved_right a e = e ∙ rw (and_told (in_range shape) _ (numbers_asked shape t long)).0
