-- The value of a table against the model: what a run keeps between them.
-- Assumes nothing.
use Prim.Native.Nat.{ℕ, zero, suc, ◌≤◌}
use mathlib.Core.Bool.{Bool, true, not, ◌&&◌, false≢true}
use mathlib.Core.List.{List, [], ◌∷◌, ◌++◌, append_assoc}
use mathlib.Core.Option.{Option, none, some}
use mathlib.Core.Path.{◌≡◌, refl, sym, ap, ap₂, ◌∙◌, subst}
use native.Mathlib.Omega.{arith}
use borrow.Author.Tests.{eqb-true}
use lib.Dec.{eqb}
use lib.ListN.{length, replicate, length-replicate}
use Rattle.seven_bit.proofs.ReplyLaws.{and_told}
use Rattle.pe_run.specs.Lists.{keep, tally, Perm, empty, then}
use Rattle.pe_run.specs.Model.{Open, Entry, Model, Clocked, clocked, start, is_at, is_of, find, is_none, open_of, peer_of, peers_open, entry_of, without}
use Rattle.pe_run.proofs.ListLaws.{eqb_self, All, NoneOf, keep_append, tally_append}
use Rattle.pe_run.proofs.PermLaws.{perm_refl, perm_sym, perm_map, perm_keep, perm_tally, perm_different, perm_append_left, perm_middle}
use Rattle.pe_run.proofs.ModelLaws.{key, find_append, without_none, Unique, perm_find, perm_unique, unique_arrived, Four}
use Rattle.pe_run.proofs.Value.{Cell, Rec, Value, no_rec, has_id, is_own, cell_open, cells_open, recs_open, opens, with_cells}
use Rattle.pe_run.proofs.Places.{Split, split_length, split_all, split_hit}
use Rattle.pe_run.proofs.Records.{Away, away_tally, away_find, away_drop, cells_append, recs_append, no_id_open, is_used, open_tally, Apart, Tidy, apart_away, tidy_first, tidy_second, tidy_bind, is_busy, peers_recs}

abbrev pub FourCells : Rec → Type 0
FourCells r = length r.cells ≡ 4

pub record Rel (n : ℕ) (v : Value) (b : Clocked) : Type 0 where
  pub size : length v.recs ≡ n
  pub fours : All FourCells v.recs
  pub tidy : Tidy v.recs
  pub clock_is : v.clock ≡ b.clock
  pub same : Perm (opens v) b.model
  pub unique : Unique b.model

module _ {n : ℕ} {v : Value} {b : Clocked} (rel : Rel n v b) where
  pub tally_is : (peer : ℕ) → open_of peer b.model ≡ tally (is_of peer) (opens v)
  tally_is peer = sym (perm_tally (is_of peer) rel.same)

  pub find_is : (peer id : ℕ) → find peer id b.model ≡ find peer id (opens v)
  find_is peer id = sym (perm_find peer id rel.same (perm_unique (perm_sym rel.same) rel.unique))

  pub peers_are : peers_open b.model ≡ tally is_busy v.recs
  peers_are = sym (perm_different (perm_map peer_of rel.same)) ∙ peers_recs v.recs rel.tidy

  pub four_open : Four b.model → (peer : ℕ) → tally (is_of peer) (opens v) ≤ 4
  four_open h peer = subst (λ (k : ℕ). k ≤ 4) (tally_is peer) (h peer)

-- ---- a table that is just made
fresh_open : (n : ℕ) → recs_open (replicate n no_rec) ≡ []
fresh_open zero = refl
fresh_open (suc n) = fresh_open n

fresh_fours : (n : ℕ) → All FourCells (replicate n no_rec)
fresh_fours zero = tt
fresh_fours (suc n) = (refl, fresh_fours n)

fresh_tidy : (n : ℕ) → Tidy (replicate n no_rec)
fresh_tidy zero = tt
fresh_tidy (suc n) = (λ e. refl, λ e. absurd (false≢true e), fresh_tidy n)

pub fresh_rel : (n : ℕ) → Rel n (record { clock = 1; recs = replicate n no_rec }) start
fresh_rel n =
    record { size = length-replicate n no_rec; fours = fresh_fours n; tidy = fresh_tidy n; clock_is = refl; same = rw (fresh_open n) empty; unique = tt }

-- ---- a peer's own record
module _ (peer : ℕ) {recs : List Rec} (tidy : Tidy recs) (s : Split (is_own peer) recs) where
  pub own_split : Tidy (s.before ++ s.hit ∷ s.after)
  own_split = subst Tidy s.parts tidy

  pub own_bound : s.hit.bound ≡ true
  own_bound = (and_told s.hit.bound (eqb peer s.hit.muid) s.passes).0

  pub own_muid : peer ≡ s.hit.muid
  own_muid = eqb-true peer s.hit.muid (and_told s.hit.bound (eqb peer s.hit.muid) s.passes).1

  pub own_after : Apart peer s.after
  own_after = subst (λ (muid : ℕ). Apart muid s.after) (sym own_muid) ((tidy_second s.before (s.hit ∷ s.after) own_split).1 own_bound)

  before_away : Away peer (recs_open s.before)
  before_away = apart_away peer s.before (tidy_first s.before (s.hit ∷ s.after) own_split) s.fails

  after_away : Away peer (recs_open s.after)
  after_away = apart_away peer s.after (tidy_second s.before (s.hit ∷ s.after) own_split).2 own_after

  own_parts : recs_open recs ≡ recs_open s.before ++ (cells_open peer s.hit.cells ++ recs_open s.after)
  own_parts =
      ap recs_open s.parts ∙ recs_append s.before (s.hit ∷ s.after)
      ∙ ap (λ (muid : ℕ). recs_open s.before ++ (cells_open muid s.hit.cells ++ recs_open s.after)) (sym own_muid)

  pub own_find : (id : ℕ) → NoneOf (has_id id) s.hit.cells → find peer id (recs_open recs) ≡ none
  own_find id a =
      ap (find peer id) own_parts
      ∙ find_append peer id (recs_open s.before) (cells_open peer s.hit.cells ++ recs_open s.after)
      (away_find peer id (recs_open s.before) before_away)
      ∙ find_append peer id (cells_open peer s.hit.cells) (recs_open s.after) (no_id_open peer id s.hit.cells a)
      ∙ away_find peer id (recs_open s.after) after_away

  pub own_tally : tally (is_of peer) (recs_open recs) ≡ tally is_used s.hit.cells
  own_tally =
      ap (tally (is_of peer)) own_parts
      ∙ omega (
        arith,
        tally_append (is_of peer) (recs_open s.before) (cells_open peer s.hit.cells ++ recs_open s.after),
        tally_append (is_of peer) (cells_open peer s.hit.cells) (recs_open s.after),
        away_tally peer (recs_open s.before) before_away,
        away_tally peer (recs_open s.after) after_away,
        open_tally peer s.hit.cells,
      )

  pub own_drop : keep (λ (e : Entry). not (is_of peer e)) (recs_open recs) ≡ recs_open s.before ++ recs_open s.after
  own_drop =
      ap (keep others) own_parts ∙ keep_append others (recs_open s.before) (cells_open peer s.hit.cells ++ recs_open s.after)
      ∙ ap₂ (λ (x y : Model). x ++ y) (away_drop peer (recs_open s.before) before_away)
      (keep_append others (cells_open peer s.hit.cells) (recs_open s.after)
      ∙ ap₂ (λ (x y : Model). x ++ y) (none_left s.hit.cells) (away_drop peer (recs_open s.after) after_away))
    where
      others : Entry → Bool
      others e = not (is_of peer e)

      none_left : (cells : List Cell) → keep others (cells_open peer cells) ≡ []
      none_left [] = refl
      none_left (cell ∷ cells) =
          keep_append others (cell_open peer cell) (cells_open peer cells) ∙ ap₂ (λ (x y : Model). x ++ y) (one cell.state) (none_left cells)
        where
          one : (o : Option Open) → keep others (entry_of peer cell.request_id o) ≡ []
          one none = refl
          one (some x) = rw (eqb_self peer)

-- ---- a cell in a record, and what is open beside it
slide : (peer id : ℕ) (o : Option Open) (p q : Model) → Perm (p ++ (entry_of peer id o ++ q)) (entry_of peer id o ++ (p ++ q))
slide peer id none p q = perm_refl (p ++ q)
slide peer id (some x) p q = perm_middle (record { peer = peer; request_id = id; state = x }) p q

module _ {recs : List Rec} {test : Rec → Bool} (s : Split test recs) {taken : Cell → Bool} (u : Split taken s.hit.cells) where
  abbrev pub rest : ℕ → Model
  rest muid = recs_open s.before ++ cells_open muid u.before ++ (cells_open muid u.after ++ recs_open s.after)

  abbrev pub put_cell : Bool → ℕ → Cell → List Rec
  put_cell bound muid cell = s.before ++ record { bound = bound; muid = muid; cells = u.before ++ cell ∷ u.after } ∷ s.after

  put_open : (bound : Bool) (muid : ℕ) (cell : Cell) → Perm (recs_open (put_cell bound muid cell)) (cell_open muid cell ++ rest muid)
  put_open bound muid cell =
      subst (λ (l : Model). Perm l (cell_open muid cell ++ rest muid)) (sym flat)
      (slide muid cell.request_id cell.state (recs_open s.before ++ cells_open muid u.before) (cells_open muid u.after ++ recs_open s.after))
    where
      flat : recs_open (put_cell bound muid cell)
          ≡ recs_open s.before ++ cells_open muid u.before ++ (cell_open muid cell ++ (cells_open muid u.after ++ recs_open s.after))
      flat =
          recs_append s.before (record { bound = bound; muid = muid; cells = u.before ++ cell ∷ u.after } ∷ s.after)
          ∙ rw (cells_append muid u.before (cell ∷ u.after)) (simp append_assoc)

  -- as it stands
  pub here_open : Perm (recs_open recs) (cell_open s.hit.muid u.hit ++ rest s.hit.muid)
  here_open =
      subst (λ (l : List Rec). Perm (recs_open l) (cell_open s.hit.muid u.hit ++ rest s.hit.muid)) here
      (put_open s.hit.bound s.hit.muid u.hit)
    where
      here : put_cell s.hit.bound s.hit.muid u.hit ≡ recs
      here = ap (λ (cells : List Cell). s.before ++ with_cells s.hit cells ∷ s.after) (sym u.parts) ∙ sym s.parts

-- changed, against the model with what is left open there
pub put_rel : {n : ℕ} {v : Value} {b : Clocked} → Rel n v b
    → {test : Rec → Bool} (s : Split test v.recs) {taken : Cell → Bool} (u : Split taken s.hit.cells)
    → (clock peer id : ℕ) (o : Option Open) → Apart peer s.before → Apart peer s.after → Perm (rest s u peer) (without peer id b.model)
    → (cell : Cell) → cell_open peer cell ≡ entry_of peer id o
    → {clock' : ℕ} → clock ≡ clock'
    → Rel n (record { clock = clock; recs = put_cell s u true peer cell }) (clocked clock' (entry_of peer id o ++ without peer id b.model))
put_rel {n} {v} {b} rel s u clock peer id o before behind p cell q ticks = record {
  size = split_length s changed ∙ rel.size;
  fours = split_all s FourCells changed rel.fours (split_length u cell ∙ split_hit s FourCells rel.fours);
  tidy = tidy_bind peer s.before s.hit s.after (u.before ++ cell ∷ u.after) (subst Tidy s.parts rel.tidy) before behind;
  clock_is = ticks;
  same = then (put_open s u true peer cell)
      (subst (λ (l : Model). Perm (l ++ rest s u peer) (entry_of peer id o ++ without peer id b.model)) (sym q) (perm_append_left (entry_of peer id o) p));
  unique = unique_arrived peer id b.model o rel.unique;
}
  where
    changed : Rec
    changed = record { bound = true; muid = peer; cells = u.before ++ cell ∷ u.after }

-- ---- a cell that has the id open, in its peer's own record
take_out : (peer id : ℕ) (e : Entry) (l b : Model) → Perm (e ∷ l) b → Unique b → is_at peer id e ≡ true → Perm l (without peer id b)
take_out peer id e l b p u h = subst (λ (k : Model). Perm k (without peer id b)) gone (perm_keep (λ (z : Entry). not (is_at peer id z)) p)
  where
    once : find peer id l ≡ none
    once = let k = key peer id e h in rw (k.0, k.1) (perm_unique (perm_sym p) u).0

    gone : without peer id (e ∷ l) ≡ l
    gone = rw h (without_none peer id l once)

pub own_open : {n : ℕ} {v : Value} {b : Clocked} → Rel n v b → (peer id : ℕ) (s : Split (is_own peer) v.recs) (u : Split (has_id id) s.hit.cells)
    → (x : Open) × (u.hit.state ≡ some x) × (find peer id b.model ≡ some x) × Perm (rest s u peer) (without peer id b.model)
own_open {n} {v} {b} rel peer id s u = go u.hit.state refl
  where
    own : Perm (opens v) (cell_open peer u.hit ++ rest s u peer)
    own = subst (λ (muid : ℕ). Perm (opens v) (cell_open muid u.hit ++ rest s u muid)) (sym (own_muid peer rel.tidy s)) (here_open s u)

    go : (o : Option Open) → u.hit.state ≡ o
        → (x : Open) × (u.hit.state ≡ some x) × (find peer id b.model ≡ some x) × Perm (rest s u peer) (without peer id b.model)
    go none e = absurd (false≢true (subst (λ (o : Option Open). (not (is_none o) && eqb id u.hit.request_id) ≡ true) e u.passes))
    go (some x) e = (x, e, found, take_out peer id entry (rest s u peer) b.model perm rel.unique is_at_it)
      where
        entry : Entry
        entry = record { peer = peer; request_id = u.hit.request_id; state = x }

        perm : Perm (entry ∷ rest s u peer) b.model
        perm = then (perm_sym (subst (λ (o : Option Open). Perm (opens v) (entry_of peer u.hit.request_id o ++ rest s u peer)) e own)) rel.same

        is_at_it : is_at peer id entry ≡ true
        is_at_it = rw (eqb_self peer) (and_told (is_used u.hit) (eqb id u.hit.request_id) u.passes).1

        found : find peer id b.model ≡ some x
        found = sym (perm_find peer id perm (perm_unique (perm_sym perm) rel.unique)) ∙ rw is_at_it
