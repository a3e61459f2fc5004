-- What `new` leaves of lent memory stands for: nothing bound, nothing open, and a clock of 1.
-- Assumes nothing.
use Prim.Native.Nat.{ℕ, ◌<◌}
use mathlib.Core.List.{List}
use mathlib.Core.Path.{◌≡◌, refl, ap, ap₂, ◌∙◌}
use native.Mathlib.Omega.{arith}
use lib.ListN.{replicate}
use Rattle.pe_reassembler.specs.Table.{has_numbers, has_rooms}
use Rattle.pe_slot.specs.Layout.{slot_words}
use Rattle.pe_reassembler.specs.Feed.{room_part}
use Rattle.pe_reassembler.proofs.EffectsNew.{new_words, new_bound, new_muid, new_clock, new_lengths}
use Rattle.pe_run.specs.Run.{Table, LongFor, made}
use Rattle.pe_reassembler.specs.declared.shape.Shape.{Shape}
use Rattle.pe_run.proofs.Value.{Rec, cell_of, no_cell, no_rec, cell_at, rec_at, value_of}
use Rattle.pe_run.proofs.PlaceOf.{tab_replicate}
use Rattle.pe_run.proofs.ValueAsks.{recs_tab, cells_tab}
use Rattle.pe_run.proofs.ValuePlaces.{rec_is}

-- words of 0 are a cell with nothing open
zero_cell : (index header arena : List ℕ) → cell_of (replicate slot_words 0) index header arena ≡ no_cell
unfolding cell_of
zero_cell index header arena = refl

module _ (shape : Shape) (t : Table) (ok : LongFor shape t) where
  new_cell : (p s : ℕ) → p < shape.max_peers → s < 4 → cell_at shape (made shape t) p s ≡ no_cell
  unfolding cell_at
  new_cell p s hp hs =
      ap (λ (w : List ℕ). cell_of w (room_part shape.fragment_records (made shape t).index p s) (room_part shape.header_bytes t.headers p s)
      (room_part shape.tx_bytes t.arenas p s))
      (new_words shape t.numbers t.index t.headers t.arenas ok p s hp hs)
      ∙ zero_cell _ _ _

  new_rec : (p : ℕ) → p < shape.max_peers → rec_at shape (made shape t) p ≡ no_rec
  new_rec p hp =
      rec_is shape (made shape t) p (new_bound shape t.numbers t.index t.headers t.arenas ok p hp)
      (new_muid shape t.numbers t.index t.headers t.arenas ok p hp)
      (cells_tab shape (made shape t) p ∙ tab_replicate (cell_at shape (made shape t) p) no_cell 0 4 (λ s hs. new_cell p s hp hs))

  pub new_value : value_of shape (made shape t) ≡ record { clock = 1; recs = replicate shape.max_peers no_rec }
  unfolding value_of
  new_value =
      ap₂ (λ (clock : ℕ) (recs : List Rec). record { clock = clock; recs = recs })
      (new_clock shape t.numbers t.index t.headers t.arenas ok)
      (recs_tab shape (made shape t) 0 shape.max_peers
      ∙ tab_replicate (rec_at shape (made shape t)) no_rec 0 shape.max_peers (λ p hp. new_rec p (omega arith)))

  pub new_long : LongFor shape (made shape t)
  unfolding has_rooms has_numbers
  new_long =
      let e = new_lengths shape t.numbers t.index t.headers t.arenas ok in
      rw (e.0, e.1) ok
