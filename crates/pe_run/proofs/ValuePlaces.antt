-- The records and cells of two tables by place: where they agree, and what a change of one place, or of every place, is for the value.
-- Assumes nothing.
use Prim.Native.Nat.{ℕ, ◌+◌, ◌<◌}
use mathlib.Core.Bool.{Bool}
use mathlib.Core.List.{List, map}
use mathlib.Core.Path.{◌≡◌, sym, ap, ap₂, ◌∙◌}
use native.Mathlib.Nat.{zero-add}
use native.Mathlib.Omega.{arith}
use lib.ListN.{get_or, set}
use Rattle.pe_reassembler.specs.Table.{peer_at, is_bound}
use Rattle.pe_reassembler.specs.Feed.{words_part, room_part}
use Rattle.pe_reassembler.specs.declared.shape.Shape.{Shape}
use Rattle.pe_run.specs.Run.{Table}
use Rattle.pe_run.proofs.Value.{Cell, Rec, cell_of, no_cell, no_rec, with_cells, cell_at, rec_at, recs_from}
use Rattle.pe_run.proofs.PlaceOf.{tab_same, tab_at, tab_set, tab_map}
use Rattle.pe_run.proofs.ValueAsks.{recs_tab, cells_tab}

-- the record and the cell at a place of the lists
pub rec_at_law : (shape : Shape) (t : Table) (n p : ℕ) → p < n → get_or (recs_from shape t 0 n) p no_rec ≡ rec_at shape t p
rec_at_law shape t n p l = ap (λ (x : List Rec). get_or x p no_rec) (recs_tab shape t 0 n) ∙ tab_at (rec_at shape t) 0 n p no_rec l ∙ ap (rec_at shape t) (zero-add p)

pub cell_at_law : (shape : Shape) (t : Table) (p s : ℕ) → s < 4 → get_or (rec_at shape t p).cells s no_cell ≡ cell_at shape t p s
cell_at_law shape t p s l =
    ap (λ (x : List Cell). get_or x s no_cell) (cells_tab shape t p) ∙ tab_at (cell_at shape t p) 0 4 s no_cell l ∙ ap (cell_at shape t p) (zero-add s)

-- a record by its parts
pub rec_is : (shape : Shape) (t : Table) (p : ℕ) {b : Bool} {muid : ℕ} {cells : List Cell} → is_bound t.numbers p ≡ b
    → get_or t.numbers (peer_at p + 1) 0 ≡ muid → (rec_at shape t p).cells ≡ cells
    → rec_at shape t p ≡ record { bound = b; muid = muid; cells = cells }
unfolding rec_at
rec_is shape t p e f g = rw (e, f, g)

pub cell_same : {words words' index index' header header' arena arena' : List ℕ} → words' ≡ words → index' ≡ index → header' ≡ header → arena' ≡ arena
    → cell_of words' index' header' arena' ≡ cell_of words index header arena
cell_same a b c d = rw (a, b, c, d)

module _ (shape : Shape) (t t' : Table) where
  -- a slot whose parts are as they were
  pub cell_kept : (p s : ℕ) → words_part t'.numbers p s ≡ words_part t.numbers p s
      → room_part shape.fragment_records t'.index p s ≡ room_part shape.fragment_records t.index p s
      → room_part shape.header_bytes t'.headers p s ≡ room_part shape.header_bytes t.headers p s
      → room_part shape.tx_bytes t'.arenas p s ≡ room_part shape.tx_bytes t.arenas p s
      → cell_at shape t' p s ≡ cell_at shape t p s
  unfolding cell_at
  cell_kept p s a b c d = cell_same a b c d

  -- the cells of a record
  pub cells_set : (p s : ℕ) → s < 4 → ((u : ℕ) → u < 4 → (u ≡ s → ⊥) → cell_at shape t' p u ≡ cell_at shape t p u)
      → (rec_at shape t' p).cells ≡ set (rec_at shape t p).cells s (cell_at shape t' p s)
  cells_set p s l h =
      let z : 0 + s ≡ s = zero-add s in
      cells_tab shape t' p
      ∙ tab_set (cell_at shape t p) (cell_at shape t' p) 0 4 s l (λ u a b n. h u b (λ e. n (e ∙ sym z)))
      ∙ ap₂ (λ (cells : List Cell) (u : ℕ). set cells s (cell_at shape t' p u)) (sym (cells_tab shape t p)) z

  pub cells_map : (p : ℕ) (g : Cell → Cell) → ((u : ℕ) → u < 4 → cell_at shape t' p u ≡ g (cell_at shape t p u))
      → (rec_at shape t' p).cells ≡ map g (rec_at shape t p).cells
  cells_map p g h =
      cells_tab shape t' p
      ∙ tab_map (cell_at shape t p) (cell_at shape t' p) g 0 4 h
      ∙ ap (map g) (sym (cells_tab shape t p))

  -- the records
  pub rec_cells : (p : ℕ) {cells : List Cell} → is_bound t'.numbers p ≡ is_bound t.numbers p
      → get_or t'.numbers (peer_at p + 1) 0 ≡ get_or t.numbers (peer_at p + 1) 0
      → (rec_at shape t' p).cells ≡ cells → rec_at shape t' p ≡ with_cells (rec_at shape t p) cells
  unfolding rec_at
  rec_cells p e f g = rec_is shape t' p e f g

  pub rec_kept : (p : ℕ) → is_bound t'.numbers p ≡ is_bound t.numbers p → get_or t'.numbers (peer_at p + 1) 0 ≡ get_or t.numbers (peer_at p + 1) 0
      → ((u : ℕ) → u < 4 → cell_at shape t' p u ≡ cell_at shape t p u) → rec_at shape t' p ≡ rec_at shape t p
  rec_kept p e f h = rec_cells p e f (cells_tab shape t' p ∙ tab_same (cell_at shape t' p) (cell_at shape t p) 0 4 (λ u a b. h u b) ∙ sym (cells_tab shape t p))

  module _ (n : ℕ) where
    pub recs_set : (p : ℕ) → p < n → ((q : ℕ) → q < n → (q ≡ p → ⊥) → rec_at shape t' q ≡ rec_at shape t q)
        → recs_from shape t' 0 n ≡ set (recs_from shape t 0 n) p (rec_at shape t' p)
    recs_set p l h =
        let z : 0 + p ≡ p = zero-add p in
        recs_tab shape t' 0 n
        ∙ tab_set (rec_at shape t) (rec_at shape t') 0 n p l (λ q a b d. h q (omega arith) (λ e. d (e ∙ sym z)))
        ∙ ap₂ (λ (recs : List Rec) (q : ℕ). set recs p (rec_at shape t' q)) (sym (recs_tab shape t 0 n)) z

    pub recs_map : (g : Rec → Rec) → ((q : ℕ) → q < n → rec_at shape t' q ≡ g (rec_at shape t q)) → recs_from shape t' 0 n ≡ map g (recs_from shape t 0 n)
    recs_map g h =
        recs_tab shape t' 0 n
        ∙ tab_map (rec_at shape t) (rec_at shape t') g 0 n (λ q l. h q (omega arith))
        ∙ ap (map g) (sym (recs_tab shape t 0 n))
