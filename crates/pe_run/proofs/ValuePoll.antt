-- Poll: what it leaves of the numbers stands for what the value's poll leaves.
-- Assumes nothing.
use Prim.Native.Nat.{ℕ, ◌-◌, ◌*◌, ◌<◌}
use mathlib.Core.Bool.{Bool, true, false, cond, not, ◌&&◌}
use mathlib.Core.List.{List}
use mathlib.Core.Option.{none, some}
use mathlib.Core.Path.{◌≡◌, refl, sym, ap, ap₂, ◌∙◌}
use native.Mathlib.Omega.{arith}
use lib.Dec.{leb, eqb}
use lib.ListN.{get_or}
use Rattle.seven_bit.specs.Reply.{refused}
use Rattle.pe_slot.specs.Layout.{slot_words, active_at, last_activity_at}
use Rattle.pe_reassembler.specs.Table.{slot_at}
use Rattle.pe_reassembler.specs.Poll.{Polled, polled as polledInto, is_due, close_due, poll_call}
use Rattle.pe_reassembler.proofs.PlaceLaws.{get_part}
use Rattle.pe_reassembler.proofs.EffectsClose.{active_of, due_words_law, due_peer, due_clock, due_length}
use Rattle.pe_run.specs.Model.{Open}
use Rattle.pe_run.specs.Calls.{has_places}
use Rattle.pe_run.specs.Run.{Table, renumbered, LongFor}
use Rattle.pe_reassembler.specs.declared.shape.Shape.{Shape}
use Rattle.pe_run.proofs.Ahead.{numbers_asked}
use Rattle.pe_reassembler.proofs.TableLaws.{numbers_long}
use Rattle.pe_run.proofs.Value.{cell_of, shut, late_state, poll_cell, poll_rec, polled, cell_at, rec_at, value_of}
use Rattle.pe_run.proofs.ValuePlaces.{rec_cells, cells_map, recs_map}
use Rattle.pe_run.proofs.ValueCalls.{renumbered_long, cell_closed, value_with}

-- a slot is due as its cell is late
late_is : (words index header arena : List ℕ) (now_ms : ℕ)
    → (not (eqb (get_or words active_at 0) 0) && leb 3000 (now_ms - get_or words last_activity_at 0)) ≡ late_state now_ms (cell_of words index header arena).state
unfolding cell_of
late_is words index header arena now_ms = go (eqb (get_or words active_at 0) 0) _
  where
    go : (b : Bool) (o : Open) → (not b && leb 3000 (now_ms - o.time)) ≡ late_state now_ms (cond b none (some o))
    go true o = refl
    go false o = refl

pub due_is : (shape : Shape) (t : Table) (now_ms p s : ℕ) → is_due t.numbers now_ms p s ≡ late_state now_ms (cell_at shape t p s).state
unfolding is_due cell_at
due_is shape t now_ms p s =
    ap₂ (λ (b : Bool) (x : ℕ). b && leb 3000 (now_ms - x)) (active_of t.numbers p s) (sym (get_part (slot_at p s) slot_words last_activity_at t.numbers (omega arith)))
    ∙ late_is _ _ _ _ now_ms

pub record PollValue (shape : Shape) (t : Table) (now_ms : ℕ) (r : Polled) : Type 0 where
  pub value_is : value_of shape (renumbered t r.numbers) ≡ polled (value_of shape t) now_ms
  pub long : LongFor shape (renumbered t r.numbers)

module _ (shape : Shape) (t : Table) (now_ms : ℕ) (out_peers out_ids : List ℕ) (ok : LongFor shape t) where
  abbrev numbers' : List ℕ
  numbers' = close_due now_ms 0 0 (4 * shape.max_peers) t.numbers

  abbrev new : Table
  new = renumbered t numbers'

  rec_polled : (q : ℕ) → q < shape.max_peers → rec_at shape new q ≡ poll_rec now_ms (rec_at shape t q)
  rec_polled q hq =
      let h = (numbers_long shape t.numbers (numbers_asked shape t ok)).1 in
      let w = due_peer shape t.numbers h now_ms q in
      rec_cells shape t new q w.0 w.1
      (cells_map shape t new q (poll_cell now_ms)
      (λ u hu. cell_closed shape t numbers' q u (is_due t.numbers now_ms q u) (due_words_law shape t.numbers h now_ms q u hq hu)
      ∙ ap (λ (b : Bool). cond b (shut (cell_at shape t q u)) (cell_at shape t q u)) (due_is shape t now_ms q u)))

  closed_value : value_of shape new ≡ polled (value_of shape t) now_ms
  unfolding polled value_of
  closed_value =
      value_with shape t new (due_clock shape t.numbers (numbers_long shape t.numbers (numbers_asked shape t ok)).1 now_ms)
      (recs_map shape t new shape.max_peers (poll_rec now_ms) rec_polled)

  pub poll_value : (has_places shape.max_peers out_peers && has_places shape.max_peers out_ids) ≡ true
      → PollValue shape t now_ms (poll_call shape t.numbers now_ms out_peers out_ids)
  unfolding poll_call
  poll_value e =
      rw (numbers_asked shape t ok, e)
      (record {
        value_is = closed_value;
        long = renumbered_long shape t numbers' ok (due_length shape t.numbers (numbers_long shape t.numbers (numbers_asked shape t ok)).1 now_ms);
      })

  pub poll_refused : (has_places shape.max_peers out_peers && has_places shape.max_peers out_ids) ≡ false
      → poll_call shape t.numbers now_ms out_peers out_ids ≡ polledInto (refused 30 0) t.numbers out_peers out_ids
  unfolding poll_call
  poll_refused e = rw (numbers_asked shape t ok, e)
