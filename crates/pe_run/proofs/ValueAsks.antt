-- Memory's questions are the value's: what a call asks of the numbers is what it asks of the records and cells.
-- Assumes nothing.
use Prim.Native.Nat.{ℕ, zero, suc, ◌+◌}
use mathlib.Core.Bool.{Bool, true, false, cond, not, ◌&&◌}
use mathlib.Core.List.{List, ◌∷◌}
use mathlib.Core.Option.{none, some}
use mathlib.Core.Path.{◌≡◌, refl, sym, ap, ap₂, ◌∙◌}
use native.Mathlib.Omega.{arith}
use lib.Dec.{eqb}
use lib.ListN.{get_or}
use Rattle.pe_slot.specs.Layout.{slot_words, active_at, request_id_at}
use Rattle.pe_reassembler.specs.Table.{slot_at, is_bound, bound_to, is_active, is_idle as idleAt, has_id as has_id_at, or_else, record_of, record_for, slot_open, slot_for}
use Rattle.pe_reassembler.proofs.PlaceLaws.{get_part}
use Rattle.pe_reassembler.proofs.EffectsClose.{active_of}
use Rattle.pe_run.specs.Model.{Open, is_none}
use Rattle.pe_reassembler.specs.declared.shape.Shape.{Shape}
use Rattle.pe_run.specs.Run.{Table}
use Rattle.pe_run.proofs.Value.{Rec, cell_of, place, is_free, has_id, is_own, is_unbound, is_idle, choose, choose_cell, cell_at, rec_at, recs_from}
use Rattle.pe_run.proofs.PlaceOf.{tab, search}
use Rattle.pe_run.proofs.ListLaws.{eqb_sym}

-- a cell is free as its slot is not active
free_is : (words index header arena : List ℕ) → is_free (cell_of words index header arena) ≡ eqb (get_or words active_at 0) 0
unfolding cell_of
free_is words index header arena = go (eqb (get_or words active_at 0) 0) _
  where
    go : (b : Bool) (o : Open) → is_none (cond b none (some o)) ≡ b
    go true o = refl
    go false o = refl

not_not : (b : Bool) → not (not b) ≡ b
not_not true = refl
not_not false = refl

module _ (shape : Shape) (t : Table) where
  pub active_is : (p s : ℕ) → is_active t.numbers p s ≡ not (is_free (cell_at shape t p s))
  unfolding cell_at
  active_is p s = active_of t.numbers p s ∙ ap not (sym (free_is _ _ _ _))

  pub inactive_is : (p s : ℕ) → not (is_active t.numbers p s) ≡ is_free (cell_at shape t p s)
  inactive_is p s = ap not (active_is p s) ∙ not_not (is_free (cell_at shape t p s))

  pub id_at : (p s : ℕ) → (cell_at shape t p s).request_id ≡ get_or t.numbers (slot_at p s + request_id_at) 0
  unfolding cell_at cell_of
  id_at p s = get_part (slot_at p s) slot_words request_id_at t.numbers (omega arith)

  has_id_is : (request_id p s : ℕ) → has_id_at t.numbers request_id p s ≡ has_id request_id (cell_at shape t p s)
  unfolding has_id_at
  has_id_is request_id p s =
      ap₂ ◌&&◌ (active_is p s) (eqb_sym (get_or t.numbers (slot_at p s + request_id_at) 0) request_id ∙ ap (λ (x : ℕ). eqb request_id x) (sym (id_at p s)))

  pub own_is : (peer p : ℕ) → bound_to t.numbers peer p ≡ is_own peer (rec_at shape t p)
  unfolding bound_to rec_at
  own_is peer p = ap (λ (b : Bool). is_bound t.numbers p && b) (eqb_sym _ peer)

  unbound_is : (p : ℕ) → not (is_bound t.numbers p) ≡ is_unbound (rec_at shape t p)
  unfolding rec_at
  unbound_is p = refl

  pub idle_is : (p : ℕ) → idleAt t.numbers p ≡ is_idle (rec_at shape t p)
  unfolding idleAt rec_at
  idle_is p =
      rw (inactive_is p 0, inactive_is p 1, inactive_is p 2, inactive_is p 3)
      (go (is_free (cell_at shape t p 0)) (is_free (cell_at shape t p 1)) (is_free (cell_at shape t p 2)) (is_free (cell_at shape t p 3)))
    where
      go : (a b c d : Bool) → (a && b && c && d) ≡ (a && (b && (c && (d && true))))
      go true true true true = refl
      go true true true false = refl
      go true true false d = refl
      go true false c d = refl
      go false b c d = refl

  -- the records and the cells by place
  pub recs_tab : (p k : ℕ) → recs_from shape t p k ≡ tab (rec_at shape t) p k
  unfolding recs_from tab
  recs_tab p zero = refl
  recs_tab p (suc k) = ap (λ (l : List Rec). rec_at shape t p ∷ l) (recs_tab (suc p) k)

  pub cells_tab : (p : ℕ) → (rec_at shape t p).cells ≡ tab (cell_at shape t p) 0 4
  unfolding rec_at tab
  cells_tab p = refl

  -- the searches
  pub record_of_is : (peer : ℕ) → record_of shape t.numbers peer ≡ place (is_own peer) (recs_from shape t 0 shape.max_peers)
  unfolding record_of
  record_of_is peer =
      search (is_own peer) (rec_at shape t) _ shape.max_peers (λ p l. own_is peer p) ∙ ap (place (is_own peer)) (sym (recs_tab 0 shape.max_peers))

  pub record_for_is : (peer : ℕ) → record_for shape t.numbers peer ≡ choose peer (recs_from shape t 0 shape.max_peers)
  unfolding record_for
  record_for_is peer =
      ap₂ or_else (record_of_is peer)
      (ap₂ or_else
      (search is_unbound (rec_at shape t) _ shape.max_peers (λ p l. unbound_is p) ∙ ap (place is_unbound) (sym (recs_tab 0 shape.max_peers)))
      (search is_idle (rec_at shape t) _ shape.max_peers (λ p l. idle_is p) ∙ ap (place is_idle) (sym (recs_tab 0 shape.max_peers))))

  pub slot_open_is : (p request_id : ℕ) → slot_open t.numbers p request_id ≡ place (has_id request_id) (rec_at shape t p).cells
  unfolding slot_open
  slot_open_is p request_id =
      search (has_id request_id) (cell_at shape t p) _ 4 (λ s l. has_id_is request_id p s) ∙ ap (place (has_id request_id)) (sym (cells_tab p))

  pub slot_for_is : (p request_id : ℕ) → slot_for t.numbers p request_id ≡ choose_cell request_id (rec_at shape t p).cells
  unfolding slot_for
  slot_for_is p request_id =
      ap₂ or_else (slot_open_is p request_id) (search is_free (cell_at shape t p) _ 4 (λ s l. inactive_is p s) ∙ ap (place is_free) (sym (cells_tab p)))
