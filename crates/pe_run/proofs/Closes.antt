-- The calls that close, on the value of a table and on the model.
-- Assumes nothing.
use Prim.Native.Nat.{ℕ, ◌-◌}
use mathlib.Core.Bool.{Bool, true, false, cond, not, ◌&&◌, false≢true, or-true}
use mathlib.Core.List.{List, [], ◌∷◌, ◌++◌, map}
use mathlib.Core.Logic.{◌⊎◌, inl, inr}
use mathlib.Core.Option.{Option, none, some}
use mathlib.Core.Path.{◌≡◌, refl, sym, ap, ap₂, ◌∙◌, subst}
use lib.Dec.{leb}
use lib.ListN.{length-map}
use Rattle.pe_run.specs.Lists.{keep, tally, Perm}
use Rattle.pe_run.specs.Model.{Open, Entry, Model, Clocked, clocked, is_of, is_late, find, is_none, open_of, entry_of, without}
use Rattle.pe_run.proofs.ListLaws.{All, NoneOf, keep_append}
use Rattle.pe_run.proofs.PermLaws.{perm_keep}
use Rattle.pe_run.proofs.ModelLaws.{without_none, unique_keep}
use Rattle.pe_run.proofs.Value.{Cell, Rec, Value, every, is_free, has_id, is_own, cell_open, cells_open, recs_open, opens, shut, with_cells, with_recs, on_first, cancelled, shut_open, drop_rec, dropped, poll_cell, poll_rec, polled, some_cell, cancels, drops}
use Rattle.pe_run.proofs.Places.{Split, view, on_first_absent, split_on_first, split_length, split_all, split_hit}
use Rattle.pe_run.proofs.Records.{away_tally, away_find, away_drop, recs_append, free_open, is_used, Apart, Tidy, apart_away, tidy_unbind}
use Rattle.pe_run.proofs.Refine.{FourCells, Rel, tally_is, find_is, own_split, own_bound, own_muid, own_after, own_find, own_tally, own_drop, put_cell, put_rel, own_open}

-- ---- a poll
module _ (now_ms : ℕ) where
  abbrev in_time : Entry → Bool
  in_time e = not (is_late now_ms e)

  poll_cells : (muid : ℕ) (cells : List Cell) → cells_open muid (map (poll_cell now_ms) cells) ≡ keep in_time (cells_open muid cells)
  poll_cells muid [] = refl
  poll_cells muid (cell ∷ cells) =
      ap₂ (λ (a b : Model). a ++ b) (one cell.state) (poll_cells muid cells) ∙ sym (keep_append in_time (cell_open muid cell) (cells_open muid cells))
    where
      with : Option Open → Cell
      with o = record { request_id = cell.request_id; state = o }

      one : (o : Option Open) → cell_open muid (poll_cell now_ms (with o)) ≡ keep in_time (entry_of muid cell.request_id o)
      one none = refl
      one (some x) = go (leb 3000 (now_ms - x.time))
        where
          go : (late : Bool) → cell_open muid (cond late (shut (with (some x))) (with (some x))) ≡ cond (not late) (entry_of muid cell.request_id (some x)) []
          go true = refl
          go false = refl

  poll_recs : (recs : List Rec) → recs_open (map (poll_rec now_ms) recs) ≡ keep in_time (recs_open recs)
  poll_recs [] = refl
  poll_recs (r ∷ recs) =
      ap₂ (λ (a b : Model). a ++ b) (poll_cells r.muid r.cells) (poll_recs recs)
      ∙ sym (keep_append in_time (cells_open r.muid r.cells) (recs_open recs))

  pub poll_idle : (cells : List Cell) → every is_free cells ≡ true → every is_free (map (poll_cell now_ms) cells) ≡ true
  poll_idle [] h = refl
  poll_idle (cell ∷ cells) h = go cell.state h (poll_idle cells)
    where
      go : (o : Option Open) → (is_none o && every is_free cells) ≡ true → (every is_free cells ≡ true → every is_free (map (poll_cell now_ms) cells) ≡ true)
          → (is_free (poll_cell now_ms (record { request_id = cell.request_id; state = o })) && every is_free (map (poll_cell now_ms) cells))
          ≡ true
      go none e r = r e
      go (some x) e r = absurd (false≢true e)

  poll_apart : (peer : ℕ) (recs : List Rec) → Apart peer recs → Apart peer (map (poll_rec now_ms) recs)
  poll_apart peer [] a = tt
  poll_apart peer (r ∷ recs) a = (a.0, poll_apart peer recs a.1)

  poll_tidy : (recs : List Rec) → Tidy recs → Tidy (map (poll_rec now_ms) recs)
  poll_tidy [] t = tt
  poll_tidy (r ∷ recs) t = (λ e. poll_idle r.cells (t.0 e), λ e. poll_apart r.muid recs (t.1 e), poll_tidy recs t.2)

  poll_fours : (recs : List Rec) → All FourCells recs → All FourCells (map (poll_rec now_ms) recs)
  poll_fours [] a = tt
  poll_fours (r ∷ recs) a = (length-map r.cells (poll_cell now_ms) ∙ a.0, poll_fours recs a.1)

pub poll_rel : {n : ℕ} {v : Value} {b : Clocked} → Rel n v b → (now_ms : ℕ)
    → Rel n (polled v now_ms) (clocked b.clock (keep (λ (e : Entry). not (is_late now_ms e)) b.model))
unfolding polled
poll_rel {n} {v} {b} rel now_ms = record {
  size = length-map v.recs (poll_rec now_ms) ∙ rel.size;
  fours = poll_fours now_ms v.recs rel.fours;
  tidy = poll_tidy now_ms v.recs rel.tidy;
  clock_is = rel.clock_is;
  same = rw (poll_recs now_ms v.recs) (perm_keep (in_time now_ms) rel.same);
  unique = unique_keep (in_time now_ms) b.model rel.unique;
}

-- ---- a drop
pub shut_idle : (cells : List Cell) → every is_free (map shut_open cells) ≡ true
shut_idle [] = refl
shut_idle (cell ∷ cells) = ap₂ (λ (a b : Bool). a && b) (one cell.state) (shut_idle cells)
  where
    one : (o : Option Open) → is_free (shut_open (record { request_id = cell.request_id; state = o })) ≡ true
    one none = refl
    one (some x) = refl

shut_open_law : (muid : ℕ) (cells : List Cell) → cells_open muid (map shut_open cells) ≡ []
shut_open_law muid cells = free_open muid (map shut_open cells) (shut_idle cells)

pub drop_rel : {n : ℕ} {v : Value} {b : Clocked} → Rel n v b → (peer : ℕ)
    → Rel n (dropped v peer) (clocked b.clock (keep (λ (e : Entry). not (is_of peer e)) b.model))
unfolding dropped
drop_rel {n} {v} {b} rel peer = go (view (is_own peer) v.recs)
  where
    others : Entry → Bool
    others e = not (is_of peer e)

    go : Apart peer v.recs ⊎ Split (is_own peer) v.recs
        → Rel n (with_recs v (on_first (is_own peer) drop_rec v.recs)) (clocked b.clock (keep (λ (e : Entry). not (is_of peer e)) b.model))
    go (inl a) = rw (on_first_absent (is_own peer) drop_rec v.recs a) (record {
      size = rel.size;
      fours = rel.fours;
      tidy = rel.tidy;
      clock_is = rel.clock_is;
      same =
          subst (λ (l : Model). Perm l (keep others b.model)) (away_drop peer (opens v) (apart_away peer v.recs rel.tidy a))
          (perm_keep others rel.same);
      unique = unique_keep (λ (e : Entry). not (is_of peer e)) b.model rel.unique;
    })
    go (inr s) = rw (split_on_first s drop_rec) (record {
      size = split_length s (drop_rec s.hit) ∙ rel.size;
      fours = split_all s FourCells (drop_rec s.hit) rel.fours (length-map s.hit.cells shut_open ∙ split_hit s FourCells rel.fours);
      tidy =
          tidy_unbind s.hit.muid s.before s.hit s.after (map shut_open s.hit.cells) (own_split peer rel.tidy s) (shut_idle s.hit.cells);
      clock_is = rel.clock_is;
      same = subst (λ (l : Model). Perm l (keep others b.model)) left (perm_keep others rel.same);
      unique = unique_keep (λ (e : Entry). not (is_of peer e)) b.model rel.unique;
    })
      where
        left : keep others (opens v) ≡ recs_open (s.before ++ drop_rec s.hit ∷ s.after)
        left =
            own_drop peer rel.tidy s
            ∙ sym (recs_append s.before (drop_rec s.hit ∷ s.after)
            ∙ ap (λ (l : Model). recs_open s.before ++ (l ++ recs_open s.after)) (shut_open_law s.hit.muid s.hit.cells))

-- ---- a cancel
cancel_absent : {n : ℕ} {v : Value} {b : Clocked} → Rel n v b → (peer id : ℕ) → find peer id (opens v) ≡ none
    → Rel n v (clocked b.clock (without peer id b.model))
cancel_absent {b = b} rel peer id h = rw (without_none peer id b.model (find_is rel peer id ∙ h)) rel

pub cancel_rel : {n : ℕ} {v : Value} {b : Clocked} → Rel n v b → (peer id : ℕ)
    → Rel n (cancelled v peer id) (clocked b.clock (without peer id b.model))
unfolding cancelled
cancel_rel {n} {v} {b} rel peer id = go (view (is_own peer) v.recs)
  where
    change : Rec → Rec
    change r = with_cells r (on_first (has_id id) shut r.cells)

    go : Apart peer v.recs ⊎ Split (is_own peer) v.recs
        → Rel n (with_recs v (on_first (is_own peer) change v.recs)) (clocked b.clock (without peer id b.model))
    go (inl a) =
        rw (on_first_absent (is_own peer) change v.recs a) (cancel_absent rel peer id (away_find peer id (opens v) (apart_away peer v.recs rel.tidy a)))
    go (inr s) = inner (view (has_id id) s.hit.cells)
      where
        changes : (cells : List Cell) → on_first (has_id id) shut s.hit.cells ≡ cells
            → on_first (is_own peer) change v.recs ≡ s.before ++ with_cells s.hit cells ∷ s.after
        changes cells e = split_on_first s change ∙ ap (λ (l : List Cell). s.before ++ with_cells s.hit l ∷ s.after) e

        inner : NoneOf (has_id id) s.hit.cells ⊎ Split (has_id id) s.hit.cells
            → Rel n (with_recs v (on_first (is_own peer) change v.recs)) (clocked b.clock (without peer id b.model))
        inner (inl a) =
            rw (changes s.hit.cells (on_first_absent (has_id id) shut s.hit.cells a) ∙ sym s.parts)
            (cancel_absent rel peer id (own_find peer rel.tidy s id a))
        inner (inr u) =
            rw (changes (u.before ++ shut u.hit ∷ u.after) (split_on_first u shut) ∙ bound)
            (put_rel rel s u v.clock peer id none s.fails (own_after peer rel.tidy s) (own_open rel peer id s u).3 (shut u.hit) refl
            rel.clock_is)
          where
            bound : put_cell s u s.hit.bound s.hit.muid (shut u.hit) ≡ put_cell s u true peer (shut u.hit)
            bound = ap₂ (λ (d : Bool) (muid : ℕ). put_cell s u d muid (shut u.hit)) (own_bound peer rel.tidy s) (sym (own_muid peer rel.tidy s))

-- ---- what a drop and a cancel answer
module _ {A : Type 0} (g : Rec → A) (peer : ℕ) (f : List Rec → A) (each : (r : Rec) (recs : List Rec) → f (r ∷ recs) ≡ cond (is_own peer r) (g r) (f recs)) where
  -- what is told of the peer's own record, if there is one
  own_absent : (recs : List Rec) → Apart peer recs → f recs ≡ f []
  own_absent [] a = refl
  own_absent (r ∷ recs) a = each r recs ∙ rw a.0 (own_absent recs a.1)

  own_hit : {recs : List Rec} (s : Split (is_own peer) recs) → f recs ≡ g s.hit
  own_hit {recs} s = ap f s.parts ∙ go s.before s.fails
    where
      go : (xs : List Rec) → Apart peer xs → f (xs ++ s.hit ∷ s.after) ≡ g s.hit
      go [] a = each s.hit s.after ∙ rw s.passes
      go (x ∷ xs) a = each x (xs ++ s.hit ∷ s.after) ∙ rw a.0 (go xs a.1)

abbrev used_in : Rec → ℕ
used_in r = tally is_used r.cells

abbrev has_in : ℕ → Rec → Bool
has_in id r = some_cell (has_id id) r.cells

pub drops_are : {n : ℕ} {v : Value} {b : Clocked} → Rel n v b → (peer : ℕ) → drops peer v.recs ≡ open_of peer b.model
drops_are {n} {v} {b} rel peer = go (view (is_own peer) v.recs)
  where
    go : Apart peer v.recs ⊎ Split (is_own peer) v.recs → drops peer v.recs ≡ open_of peer b.model
    go (inl a) =
        own_absent used_in peer (drops peer) (λ r recs. refl) v.recs a
        ∙ sym (tally_is rel peer ∙ away_tally peer (opens v) (apart_away peer v.recs rel.tidy a))
    go (inr s) = own_hit used_in peer (drops peer) (λ r recs. refl) s ∙ sym (tally_is rel peer ∙ own_tally peer rel.tidy s)

some_absent : (test : Cell → Bool) (cells : List Cell) → NoneOf test cells → some_cell test cells ≡ false
some_absent test [] a = refl
some_absent test (cell ∷ cells) a = rw a.0 (some_absent test cells a.1)

some_hit : {test : Cell → Bool} {cells : List Cell} (u : Split test cells) → some_cell test cells ≡ true
some_hit {test} u = ap (some_cell test) u.parts ∙ go u.before
  where
    go : (us : List Cell) → some_cell test (us ++ u.hit ∷ u.after) ≡ true
    go [] = rw u.passes
    go (x ∷ us) = rw (go us) (or-true (test x))

pub cancels_are : {n : ℕ} {v : Value} {b : Clocked} → Rel n v b → (peer id : ℕ) → cancels peer id v.recs ≡ not (is_none (find peer id b.model))
cancels_are {n} {v} {b} rel peer id = go (view (is_own peer) v.recs)
  where
    told : (o : Option Open) → find peer id b.model ≡ o → not (is_none o) ≡ not (is_none (find peer id b.model))
    told o e = ap (λ (x : Option Open). not (is_none x)) (sym e)

    go : Apart peer v.recs ⊎ Split (is_own peer) v.recs → cancels peer id v.recs ≡ not (is_none (find peer id b.model))
    go (inl a) =
        own_absent (has_in id) peer (cancels peer id) (λ r recs. refl) v.recs a
        ∙ told none (find_is rel peer id ∙ away_find peer id (opens v) (apart_away peer v.recs rel.tidy a))
    go (inr s) = own_hit (has_in id) peer (cancels peer id) (λ r recs. refl) s ∙ inner (view (has_id id) s.hit.cells)
      where
        inner : NoneOf (has_id id) s.hit.cells ⊎ Split (has_id id) s.hit.cells → has_in id s.hit ≡ not (is_none (find peer id b.model))
        inner (inl a) = some_absent (has_id id) s.hit.cells a ∙ told none (find_is rel peer id ∙ own_find peer rel.tidy s id a)
        inner (inr u) = let o = own_open rel peer id s u in some_hit u ∙ told (some o.0) o.2
