-- What memory shows by place is what its value shows: the open slots, and those whose time is up.
-- Assumes nothing.
use Prim.Native.Nat.{ℕ, zero, suc, ◌+◌, ◌*◌, ◌≤◌, ◌<◌}
use mathlib.Core.Bool.{Bool, true, false, cond, ◌&&◌}
use mathlib.Core.List.{List, [], ◌∷◌, ◌++◌, map, append_assoc, append-nil, map-append}
use mathlib.Core.Path.{◌≡◌, refl, sym, ap, ◌∙◌}
use native.Mathlib.Numerals.{add-one}
use native.Mathlib.Omega.{arith}
use lib.ListN.{length, get_or}
use Rattle.pe_slot.specs.Layout.{request_id_at, lru_tick_at, index_len_at}
use Rattle.pe_reassembler.specs.declared.shape.Shape.{Shape}
use Rattle.pe_reassembler.specs.Table.{slot_at, is_active, rows_from}
use Rattle.pe_reassembler.specs.Open.{Shown, shown_at, open_slots}
use Rattle.pe_reassembler.specs.Poll.{Timeout, is_due, timeout_of, due_from}
use Rattle.pe_reassembler.proofs.SoundLaws.{SlotsSound}
use Rattle.pe_run.specs.Lists.{keep}
use Rattle.pe_run.specs.Model.{Entry, Model, is_late}
use Rattle.pe_run.specs.Calls.{due_of, shown_of}
use Rattle.pe_run.specs.Run.{Table, LongFor}
use Rattle.pe_run.proofs.Value.{cell_at, rec_at, recs_from, value_of, cell_open, recs_open, opens}
use Rattle.pe_run.proofs.CellLaws.{peer_in, entry_at, cell_open_law, entry_held}
use Rattle.pe_run.proofs.ListLaws.{keep_append}

-- ---- rows by place
module _ {A : Type 0} (test : ℕ → ℕ → Bool) (row : ℕ → ℕ → A) where
  -- the row of one slot, if the test takes it
  abbrev pub row_of : ℕ → ℕ → List A
  row_of p s = cond (test p s) (row p s ∷ []) []

  pub rows_four : (p k : ℕ) → rows_from test row p 0 (4 * suc k) ≡ row_of p 0 ++ (row_of p 1 ++ (row_of p 2 ++ (row_of p 3 ++ rows_from test row (suc p) 0 (4 * k))))
  unfolding rows_from
  rows_four p k =
      let e : 4 * suc k ≡ suc (suc (suc (suc (4 * k)))) = omega arith in
      rw (e, ← add-one p)

-- what is shown of a model entry by entry: by each slot, and so by all of them
module _ {A : Type 0} (g : Model → List A) (none_shown : g [] ≡ []) (both_shown : (xs ys : Model) → g (xs ++ ys) ≡ g xs ++ g ys) (shape : Shape) (t : Table)
    (test : ℕ → ℕ → Bool) (row : ℕ → ℕ → A) where
  abbrev Slots : ℕ → ℕ → Type 0
  Slots p k = (i s : ℕ) → p ≤ i → i < p + k → s < 4 → row_of test row i s ≡ g (cond (is_active t.numbers i s) (entry_at shape t i s ∷ []) [])

  four_shown : (c0 c1 c2 c3 rest : Model) → g ((c0 ++ (c1 ++ (c2 ++ (c3 ++ [])))) ++ rest) ≡ g c0 ++ (g c1 ++ (g c2 ++ (g c3 ++ g rest)))
  four_shown c0 c1 c2 c3 rest =
      rw (append-nil c3, append_assoc c0, append_assoc c1, append_assoc c2)
      (both_shown c0 (c1 ++ (c2 ++ (c3 ++ rest)))
      ∙ rw (both_shown c1 (c2 ++ (c3 ++ rest)), both_shown c2 (c3 ++ rest), both_shown c3 rest))

  rows_from_law : (p k : ℕ) → Slots p k → rows_from test row p 0 (4 * k) ≡ g (recs_open (recs_from shape t p k))
  unfolding recs_from rows_from rec_at
  rows_from_law p zero h = sym none_shown
  rows_from_law p (suc k) h =
      let c : ℕ → Model = λ s. cell_open (peer_in t p) (cell_at shape t p s) in
      let one : (s : ℕ) → s < 4 → row_of test row p s ≡ g (c s) = λ s l. h p s (omega arith) (omega arith) l ∙ ap g (sym (cell_open_law shape t p s)) in
      let rest = rows_from_law (suc p) k (λ i s a b l. h i s (omega arith) (omega arith) l) in
      rows_four test row p k
      ∙ rw (one 0 (omega arith), one 1 (omega arith), one 2 (omega arith), one 3 (omega arith), rest) refl
      ∙ sym (four_shown (c 0) (c 1) (c 2) (c 3) (recs_open (recs_from shape t (suc p) k)))

  pub rows_by : ((p s : ℕ) → p < shape.max_peers → s < 4 → row_of test row p s ≡ g (cond (is_active t.numbers p s) (entry_at shape t p s ∷ []) []))
      → rows_from test row 0 0 (4 * shape.max_peers) ≡ g (opens (value_of shape t))
  unfolding value_of
  rows_by h = rows_from_law 0 shape.max_peers (λ p s a b l. h p s (omega arith) l)

-- ---- the open slots
pub open_rows_law : (shape : Shape) (t : Table) → LongFor shape t → SlotsSound shape t.numbers t.index
    → open_slots shape t.numbers ≡ map shown_of (opens (value_of shape t))
unfolding open_slots
open_rows_law shape t long sound =
    rows_by (λ (b : Model). map shown_of b) refl (map-append shown_of) shape t (is_active t.numbers) (shown_at t.numbers)
    (λ p s h k. one p s (is_active t.numbers p s) (entry_held shape t long p s h k (sound.each p s h k)))
  where
    with_held : ℕ → ℕ → ℕ → Shown
    with_held p s k =
        record {
          tick = get_or t.numbers (slot_at p s + lru_tick_at) 0;
          peer = peer_in t p;
          request_id = get_or t.numbers (slot_at p s + request_id_at) 0;
          held = k;
        }

    one : (p s : ℕ) (b : Bool) → length (entry_at shape t p s).state.slot.pieces ≡ get_or t.numbers (slot_at p s + index_len_at) 0
        → cond b (shown_at t.numbers p s ∷ []) [] ≡ map shown_of (cond b (entry_at shape t p s ∷ []) [])
    one p s true e = ap (λ (k : ℕ). with_held p s k ∷ []) (sym e)
    one p s false e = refl

-- ---- those whose time is up
abbrev late_rows : ℕ → Model → List Timeout
late_rows now_ms b = map due_of (keep (is_late now_ms) b)

pub due_rows : (shape : Shape) (t : Table) (now_ms : ℕ)
    → due_from t.numbers now_ms 0 0 (4 * shape.max_peers) ≡ map due_of (keep (is_late now_ms) (opens (value_of shape t)))
unfolding is_due
due_rows shape t now_ms =
    rows_by (late_rows now_ms) refl split shape t (is_due t.numbers now_ms) (timeout_of t.numbers)
    (λ p s h k. one (entry_at shape t p s) (is_active t.numbers p s))
  where
    split : (xs ys : Model) → late_rows now_ms (xs ++ ys) ≡ late_rows now_ms xs ++ late_rows now_ms ys
    split xs ys = ap (map due_of) (keep_append (is_late now_ms) xs ys) ∙ map-append due_of (keep (is_late now_ms) xs) (keep (is_late now_ms) ys)

    row : (e : Entry) (late : Bool) → cond late (due_of e ∷ []) [] ≡ map due_of (cond late (e ∷ []) [])
    row e true = refl
    row e false = refl

    one : (e : Entry) (b : Bool) → cond (b && is_late now_ms e) (due_of e ∷ []) [] ≡ late_rows now_ms (cond b (e ∷ []) [])
    one e true = row e (is_late now_ms e)
    one e false = refl
