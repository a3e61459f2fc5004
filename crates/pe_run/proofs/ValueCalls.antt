-- The calls that close: what they leave of the numbers stands for what the value's calls leave, and their answers are the value's.
-- Assumes nothing.
use Prim.Native.Nat.{ℕ, suc, ◌+◌, ◌<◌}
use mathlib.Core.Bool.{Bool, true, false, cond, not, ◌||◌}
use mathlib.Core.List.{List, [], ◌∷◌, map}
use Rattle.std.specs.Prelude.{Option, None, Some, is_none}
use mathlib.Core.Path.{◌≡◌, refl, sym, ap, ◌∙◌, subst}
use native.Mathlib.Omega.{arith}
use lib.ListN.{length, get_or, set}
use lib.Seq.{set-get_or}
use Rattle.seven_bit.specs.Reply.{granted, refused}
use Rattle.pe_slot.specs.Feed.{closed_slot}
use Rattle.pe_slot.specs.Memory.{slot_of, words_of}
use Rattle.pe_reassembler.specs.Table.{has_numbers, has_rooms, is_muid, peer_at, is_bound, is_active, record_of, slot_open}
use Rattle.pe_reassembler.specs.Feed.{words_part, room_part}
use Rattle.pe_reassembler.specs.Calls.{Numbered, numbered, close_at, cancel_in, cancel_at, cancel_call, open_count, drop_at, drop_call}
use Rattle.pe_reassembler.proofs.TableLaws.{numbers_long, record_of_below, slot_open_below}
use Rattle.pe_reassembler.proofs.EffectsClose.{close_words, close_words_other, close_peer, close_clock, close_length, drop_words, drop_words_other, drop_bound, drop_muid_kept, drop_peer_other, drop_clock, drop-length}
use Rattle.pe_run.specs.Lists.{tally}
use Rattle.pe_run.specs.Run.{Table, renumbered, LongFor}
use Rattle.pe_reassembler.specs.declared.shape.Shape.{Shape}
use Rattle.pe_run.proofs.Ahead.{numbers_asked}
use Rattle.pe_run.proofs.Value.{Cell, Rec, cell_of, no_rec, no_cell, up, place, is_free, has_id, is_own, shut, with_cells, with_recs, on_first, cancelled, shut_open, drop_rec, dropped, some_cell, cancels, drops, cell_at, rec_at, recs_from, value_of}
use Rattle.pe_run.proofs.PlaceOf.{first_at, first_none}
use Rattle.pe_run.proofs.ValueAsks.{active_is, record_of_is, slot_open_is}
use Rattle.pe_run.proofs.ValueSlot.{closed_cell}
use Rattle.pe_run.proofs.ValuePlaces.{rec_at_law, cell_at_law, rec_is, rec_cells, rec_kept, cells_set, cells_map, recs_set}

-- ---- the answers on records
some_is : (test : Cell → Bool) (cells : List Cell) → some_cell test cells ≡ not (is_none (place test cells))
some_is test [] = refl
some_is test (c ∷ cells) = rw (some_is test cells) (go (test c) (place test cells))
  where
    go : (b : Bool) (o : Option ℕ) → (b || not (is_none o)) ≡ not (is_none (cond b (Some 0) (up o)))
    go true o = refl
    go false None = refl
    go false (Some i) = refl

-- what is told of the first record that a test takes
module _ {B : Type 0} (test : Rec → Bool) (f : Rec → B) (g : List Rec → B) (turn : (r : Rec) (l : List Rec) → g (r ∷ l) ≡ cond (test r) (f r) (g l)) where
  pub told_at : (l : List Rec) (p : ℕ) → place test l ≡ Some p → g l ≡ f (get_or l p no_rec)
  told_at [] p e = cc
  told_at (r ∷ l) p e = turn r l ∙ go (test r) (place test l) refl e (told_at l)
    where
      go : (b : Bool) (o : Option ℕ) → place test l ≡ o → cond b (Some 0) (up o) ≡ Some p → ((i : ℕ) → place test l ≡ Some i → g l ≡ f (get_or l i no_rec))
          → cond b (f r) (g l) ≡ f (get_or (r ∷ l) p no_rec)
      go true o w q h = subst (λ (i : ℕ). f r ≡ f (get_or (r ∷ l) i no_rec)) (let z : 0 ≡ p = cc in z) refl
      go false None w q h = cc
      go false (Some i) w q h = subst (λ (k : ℕ). g l ≡ f (get_or (r ∷ l) k no_rec)) (let z : suc i ≡ p = cc in z) (h i w)

  pub told_none : (l : List Rec) → place test l ≡ None → g l ≡ g []
  told_none [] e = refl
  told_none (r ∷ l) e = turn r l ∙ go (test r) (place test l) refl e (told_none l)
    where
      go : (b : Bool) (o : Option ℕ) → place test l ≡ o → cond b (Some 0) (up o) ≡ None → (place test l ≡ None → g l ≡ g []) → cond b (f r) (g l) ≡ g []
      go true o w q h = cc
      go false None w q h = h w
      go false (Some i) w q h = cc

-- ---- numbers in the place of others
module _ (shape : Shape) (t : Table) (numbers' : List ℕ) where
  abbrev t' : Table
  t' = renumbered t numbers'

  pub renumbered_long : LongFor shape t → length numbers' ≡ length t.numbers → LongFor shape t'
  unfolding has_rooms has_numbers
  renumbered_long l e = rw e l

  -- a slot that is closed if a test says so
  pub cell_closed : (p s : ℕ) (b : Bool) → words_part numbers' p s ≡ cond b (words_of (closed_slot (slot_of (words_part t.numbers p s)))) (words_part t.numbers p s)
      → cell_at shape t' p s ≡ cond b (shut (cell_at shape t p s)) (cell_at shape t p s)
  unfolding cell_at
  cell_closed p s b e =
      ap (λ (w : List ℕ). cell_of w (room_part shape.fragment_records t.index p s) (room_part shape.header_bytes t.headers p s)
      (room_part shape.tx_bytes t.arenas p s)) e
      ∙ go b
    where
      go : (b : Bool) → cell_of (cond b (words_of (closed_slot (slot_of (words_part t.numbers p s)))) (words_part t.numbers p s))
          (room_part shape.fragment_records t.index p s) (room_part shape.header_bytes t.headers p s)
          (room_part shape.tx_bytes t.arenas p s)
          ≡ cond b (shut (cell_of (words_part t.numbers p s) (room_part shape.fragment_records t.index p s)
          (room_part shape.header_bytes t.headers p s) (room_part shape.tx_bytes t.arenas p s)))
          (cell_of (words_part t.numbers p s) (room_part shape.fragment_records t.index p s) (room_part shape.header_bytes t.headers p s)
          (room_part shape.tx_bytes t.arenas p s))
      go true = closed_cell (words_part t.numbers p s) _ _ _
      go false = refl

-- the value, where only the records differ
pub value_with : (shape : Shape) (t t' : Table) {recs : List Rec} → get_or t'.numbers 0 0 ≡ get_or t.numbers 0 0
    → recs_from shape t' 0 shape.max_peers ≡ recs → value_of shape t' ≡ with_recs (value_of shape t) recs
unfolding value_of
value_with shape t t' e f = rw (e, f)

-- ---- cancel
pub record CancelValue (shape : Shape) (t : Table) (peer request_id : ℕ) (r : Numbered Bool) : Type 0 where
  pub value_is : value_of shape (renumbered t r.numbers) ≡ cancelled (value_of shape t) peer request_id
  pub answer_is : r.answer ≡ granted (cancels peer request_id (value_of shape t).recs)
  pub long : LongFor shape (renumbered t r.numbers)

module _ (shape : Shape) (t : Table) (peer request_id : ℕ) (ok : LongFor shape t) where
  abbrev recs : List Rec
  recs = recs_from shape t 0 shape.max_peers

  -- the record with the first cell of the id shut
  abbrev change : Rec → Rec
  change r = with_cells r (on_first (has_id request_id) shut r.cells)

  module _ (p : ℕ) (own : place (is_own peer) recs ≡ Some p) (hp : p < shape.max_peers) where
    changed : {cells : List Cell} → on_first (has_id request_id) shut (rec_at shape t p).cells ≡ cells
        → on_first (is_own peer) change recs ≡ set recs p (with_cells (rec_at shape t p) cells)
    changed e =
        first_at (is_own peer) change no_rec recs p own
        ∙ ap (λ (r : Rec). set recs p (change r)) (rec_at_law shape t shape.max_peers p hp)
        ∙ ap (λ (cells : List Cell). set recs p (with_cells (rec_at shape t p) cells)) e

    named : cancels peer request_id recs ≡ some_cell (has_id request_id) (rec_at shape t p).cells
    named =
        told_at (is_own peer) (λ (r : Rec). some_cell (has_id request_id) r.cells) (cancels peer request_id) (λ r l. refl) recs p own
        ∙ ap (λ (r : Rec). some_cell (has_id request_id) r.cells) (rec_at_law shape t shape.max_peers p hp)

    cancel_in_law : (o : Option ℕ) → slot_open t.numbers p request_id ≡ o → CancelValue shape t peer request_id (cancel_in o p t.numbers)
    unfolding cancelled value_of
    cancel_in_law None e =
        let none_there : place (has_id request_id) (rec_at shape t p).cells ≡ None = sym (slot_open_is shape t p request_id) ∙ e in
        let same : set recs p (rec_at shape t p) ≡ recs =
        ap (λ (r : Rec). set recs p r) (sym (rec_at_law shape t shape.max_peers p hp)) ∙ set-get_or recs p no_rec in
        record {
          value_is = ap (with_recs (value_of shape t)) (sym (changed (first_none (has_id request_id) shut (rec_at shape t p).cells none_there) ∙ same));
          answer_is = ap granted (sym (named ∙ some_is (has_id request_id) (rec_at shape t p).cells ∙ ap (λ (o : Option ℕ). not (is_none o)) none_there));
          long = ok;
        }
    cancel_in_law (Some s) e =
        let there : place (has_id request_id) (rec_at shape t p).cells ≡ Some s = sym (slot_open_is shape t p request_id) ∙ e in
        let hs = slot_open_below t.numbers p request_id s e in
        let numbers' = close_at p s t.numbers in
        let new = renumbered t numbers' in
        let h = (numbers_long shape t.numbers (numbers_asked shape t ok)).1 in
        let other : (q u : ℕ) → q < shape.max_peers → u < 4 → (q ≡ p → u ≡ s → ⊥) → cell_at shape new q u ≡ cell_at shape t q u =
        λ q u hq hu d. cell_closed shape t numbers' q u false (close_words_other shape t.numbers h p s hp hs q u hq hu d) in
        let here : cell_at shape new p s ≡ shut (cell_at shape t p s) = cell_closed shape t numbers' p s true (close_words shape t.numbers h p s hp hs) in
        let kept : (q : ℕ) → q < shape.max_peers → (q ≡ p → ⊥) → rec_at shape new q ≡ rec_at shape t q =
        λ q hq d. let w = close_peer shape t.numbers h p s hp hs q in rec_kept shape t new q w.0 w.1 (λ u hu. other q u hq hu (λ f g. d f)) in
        let cells : (rec_at shape new p).cells ≡ set (rec_at shape t p).cells s (shut (get_or (rec_at shape t p).cells s no_cell)) =
        cells_set shape t new p s hs (λ u hu d. other p u hp hu (λ f g. d g))
        ∙ ap (λ (c : Cell). set (rec_at shape t p).cells s c) (here ∙ ap shut (sym (cell_at_law shape t p s hs))) in
        let w = close_peer shape t.numbers h p s hp hs p in
        record {
          value_is =
              value_with shape t new (close_clock shape t.numbers h p s hp hs)
              (recs_set shape t new shape.max_peers p hp kept ∙ ap (λ (r : Rec). set recs p r) (rec_cells shape t new p w.0 w.1 cells)
              ∙ sym (changed (first_at (has_id request_id) shut no_cell (rec_at shape t p).cells s there)));
          answer_is = ap granted (sym (named ∙ some_is (has_id request_id) (rec_at shape t p).cells ∙ ap (λ (o : Option ℕ). not (is_none o)) there));
          long = renumbered_long shape t numbers' ok (close_length shape t.numbers h p s hp hs);
        }

  cancel_at_law : (o : Option ℕ) → record_of shape t.numbers peer ≡ o → CancelValue shape t peer request_id (cancel_at o request_id t.numbers)
  unfolding cancelled value_of
  cancel_at_law None e =
      let nobody : place (is_own peer) recs ≡ None = sym (record_of_is shape t peer) ∙ e in
      record {
        value_is = ap (with_recs (value_of shape t)) (sym (first_none (is_own peer) change recs nobody));
        answer_is =
            ap granted (sym (told_none (is_own peer) (λ (r : Rec). some_cell (has_id request_id) r.cells) (cancels peer request_id)
            (λ r l. refl) recs nobody));
        long = ok;
      }
  cancel_at_law (Some p) e =
      cancel_in_law p (sym (record_of_is shape t peer) ∙ e) (record_of_below shape t.numbers peer p e) (slot_open t.numbers p request_id) refl

  pub cancel_value : is_muid peer ≡ true → CancelValue shape t peer request_id (cancel_call shape t.numbers peer request_id)
  unfolding cancel_call
  cancel_value e = rw (numbers_asked shape t ok, e) (cancel_at_law (record_of shape t.numbers peer) refl)

  pub cancel_refused : is_muid peer ≡ false → cancel_call shape t.numbers peer request_id ≡ numbered (refused 28 0) t.numbers
  unfolding cancel_call
  cancel_refused e = rw (numbers_asked shape t ok, e)

-- ---- drop
pub record DropValue (shape : Shape) (t : Table) (peer : ℕ) (r : Numbered ℕ) : Type 0 where
  pub value_is : value_of shape (renumbered t r.numbers) ≡ dropped (value_of shape t) peer
  pub answer_is : r.answer ≡ granted (drops peer (value_of shape t).recs)
  pub long : LongFor shape (renumbered t r.numbers)

-- the open cells of a record, counted
counted : (shape : Shape) (t : Table) (p : ℕ) → tally (λ (c : Cell). not (is_free c)) (rec_at shape t p).cells
    ≡ open_count t.numbers p 0 + open_count t.numbers p 1 + open_count t.numbers p 2 + open_count t.numbers p 3
unfolding rec_at
counted shape t p =
    rw (active_is shape t p 0, active_is shape t p 1, active_is shape t p 2, active_is shape t p 3)
    (go (not (is_free (cell_at shape t p 0))) (not (is_free (cell_at shape t p 1))) (not (is_free (cell_at shape t p 2))) (not (is_free (cell_at shape t p 3))))
  where
    one : (b : Bool) (k : ℕ) → cond b (suc k) k ≡ cond b 1 0 + k
    one true k = omega arith
    one false k = omega arith

    go : (a b c d : Bool) → cond a (suc (cond b (suc (cond c (suc (cond d 1 0)) (cond d 1 0))) (cond c (suc (cond d 1 0)) (cond d 1 0))))
        (cond b (suc (cond c (suc (cond d 1 0)) (cond d 1 0))) (cond c (suc (cond d 1 0)) (cond d 1 0)))
        ≡ cond a 1 0 + cond b 1 0 + cond c 1 0 + cond d 1 0
    go a b c d =
        let e = one c (cond d 1 0) in
        let f = one b (cond c (suc (cond d 1 0)) (cond d 1 0)) in
        let g = one a (cond b (suc (cond c (suc (cond d 1 0)) (cond d 1 0))) (cond c (suc (cond d 1 0)) (cond d 1 0))) in
        omega (arith, e, f, g)

-- an open cell shut
open_shut : (shape : Shape) (t : Table) (p s : ℕ)
    → cond (is_active t.numbers p s) (shut (cell_at shape t p s)) (cell_at shape t p s) ≡ shut_open (cell_at shape t p s)
open_shut shape t p s = rw (active_is shape t p s) (go (is_free (cell_at shape t p s)))
  where
    go : (b : Bool) → cond (not b) (shut (cell_at shape t p s)) (cell_at shape t p s) ≡ cond b (cell_at shape t p s) (shut (cell_at shape t p s))
    go true = refl
    go false = refl

rec_dropped : (shape : Shape) (t t' : Table) (p : ℕ) → is_bound t'.numbers p ≡ false
    → get_or t'.numbers (peer_at p + 1) 0 ≡ get_or t.numbers (peer_at p + 1) 0
    → (rec_at shape t' p).cells ≡ map shut_open (rec_at shape t p).cells → rec_at shape t' p ≡ drop_rec (rec_at shape t p)
unfolding rec_at
rec_dropped shape t t' p e f g = rec_is shape t' p e f g

module _ (shape : Shape) (t : Table) (peer : ℕ) (ok : LongFor shape t) where
  drop_at_law : (o : Option ℕ) → record_of shape t.numbers peer ≡ o → DropValue shape t peer (drop_at o t.numbers)
  unfolding dropped value_of
  drop_at_law None e =
      let nobody : place (is_own peer) (recs_from shape t 0 shape.max_peers) ≡ None = sym (record_of_is shape t peer) ∙ e in
      record {
        value_is = ap (with_recs (value_of shape t)) (sym (first_none (is_own peer) drop_rec (recs_from shape t 0 shape.max_peers) nobody));
        answer_is =
            ap granted (sym (told_none (is_own peer) (λ (r : Rec). tally (λ (c : Cell). not (is_free c)) r.cells) (drops peer) (λ r l. refl)
            (recs_from shape t 0 shape.max_peers) nobody));
        long = ok;
      }
  drop_at_law (Some p) e =
      let own : place (is_own peer) (recs_from shape t 0 shape.max_peers) ≡ Some p = sym (record_of_is shape t peer) ∙ e in
      let hp = record_of_below shape t.numbers peer p e in
      let numbers' = (drop_at (Some p) t.numbers).numbers in
      let new = renumbered t numbers' in
      let h = (numbers_long shape t.numbers (numbers_asked shape t ok)).1 in
      let kept : (q : ℕ) → q < shape.max_peers → (q ≡ p → ⊥) → rec_at shape new q ≡ rec_at shape t q =
      λ q hq d.
      let w = drop_peer_other shape t.numbers h p hp q hq d in
      rec_kept shape t new q w.0 w.1 (λ u hu. cell_closed shape t numbers' q u false (drop_words_other shape t.numbers h p hp q u hq hu d)) in
      let cells : (rec_at shape new p).cells ≡ map shut_open (rec_at shape t p).cells =
      cells_map shape t new p shut_open
      (λ u hu. cell_closed shape t numbers' p u (is_active t.numbers p u) (drop_words shape t.numbers h p hp u hu) ∙ open_shut shape t p u) in
      record {
        value_is =
            value_with shape t new (drop_clock shape t.numbers h p hp)
            (recs_set shape t new shape.max_peers p hp kept
            ∙ ap (λ (r : Rec). set (recs_from shape t 0 shape.max_peers) p r)
            (rec_dropped shape t new p (drop_bound shape t.numbers h p hp) (drop_muid_kept shape t.numbers h p hp) cells)
            ∙ sym (first_at (is_own peer) drop_rec no_rec (recs_from shape t 0 shape.max_peers) p own
            ∙ ap (λ (r : Rec). set (recs_from shape t 0 shape.max_peers) p (drop_rec r)) (rec_at_law shape t shape.max_peers p hp)));
        answer_is =
            ap granted
            (sym (told_at (is_own peer) (λ (r : Rec). tally (λ (c : Cell). not (is_free c)) r.cells) (drops peer) (λ r l. refl)
            (recs_from shape t 0 shape.max_peers) p own
            ∙ ap (λ (r : Rec). tally (λ (c : Cell). not (is_free c)) r.cells) (rec_at_law shape t shape.max_peers p hp)
            ∙ counted shape t p));
        long = renumbered_long shape t numbers' ok (drop-length shape t.numbers h p hp);
      }

  pub drop_value : is_muid peer ≡ true → DropValue shape t peer (drop_call shape t.numbers peer)
  unfolding drop_call
  drop_value e = rw (numbers_asked shape t ok, e) (drop_at_law (record_of shape t.numbers peer) refl)

  pub drop_refused : is_muid peer ≡ false → drop_call shape t.numbers peer ≡ numbered (refused 28 0) t.numbers
  unfolding drop_call
  drop_refused e = rw (numbers_asked shape t ok, e)
