-- What is open in a table's records, and the order that a run keeps among them.
-- Assumes nothing.
use Prim.Native.Nat.{ℕ, suc, ◌≤◌}
use mathlib.Core.Bool.{Bool, true, false, cond, not, ◌&&◌, false≢true}
use mathlib.Core.List.{List, [], ◌∷◌, ◌++◌, map, append_assoc}
use mathlib.Core.Logic.{◌⊎◌, inl, inr}
use mathlib.Core.Option.{Option, none, some}
use mathlib.Core.Path.{◌≡◌, refl, sym, ap, ◌∙◌, subst}
use native.Mathlib.Omega.{arith}
use lib.Dec.{eqb}
use Rattle.seven_bit.proofs.ReplyLaws.{both, and_told}
use Rattle.pe_run.specs.Lists.{keep, tally, memb}
use Rattle.pe_run.specs.Model.{Open, Entry, Model, is_of, find, is_none, peer_of, peers_open, entry_of}
use Rattle.pe_run.proofs.ListLaws.{eqb_self, eqb_sym, All, NoneOf, all_append, all_first, all_change}
use Rattle.pe_run.proofs.ModelLaws.{find_append}
use Rattle.pe_run.proofs.Value.{Cell, Rec, every, is_free, has_id, is_own, is_idle, cell_open, cells_open, recs_open}

-- ---- a model in which a peer has nothing
abbrev pub Away : ℕ → Model → Type 0
Away peer b = NoneOf (is_of peer) b

module _ (peer : ℕ) where
  pub away_tally : (b : Model) → Away peer b → tally (is_of peer) b ≡ 0
  away_tally [] h = refl
  away_tally (e ∷ b) h = rw h.0 (away_tally b h.1)

  pub away_find : (id : ℕ) (b : Model) → Away peer b → find peer id b ≡ none
  away_find id [] h = refl
  away_find id (e ∷ b) h = rw h.0 (away_find id b h.1)

  pub away_drop : (b : Model) → Away peer b → keep (λ (e : Entry). not (is_of peer e)) b ≡ b
  away_drop [] h = refl
  away_drop (e ∷ b) h = rw h.0 (ap (λ (l : Model). e ∷ l) (away_drop b h.1))

  away_memb : (b : Model) → Away peer b → memb peer (map peer_of b) ≡ false
  away_memb [] h = refl
  away_memb (e ∷ b) h = rw h.0 (away_memb b h.1)

  other_open : (muid : ℕ) (cells : List Cell) → eqb peer muid ≡ false → Away peer (cells_open muid cells)
  other_open muid [] h = tt
  other_open muid (cell ∷ cells) h =
      all_append (λ (e : Entry). is_of peer e ≡ false) (cell_open muid cell) (cells_open muid cells) (one cell.state) (other_open muid cells h)
    where
      one : (o : Option Open) → Away peer (entry_of muid cell.request_id o)
      one none = tt
      one (some x) = (h, tt)

-- ---- what is open in cells
pub cells_append : (muid : ℕ) (us vs : List Cell) → cells_open muid (us ++ vs) ≡ cells_open muid us ++ cells_open muid vs
cells_append muid [] vs = refl
cells_append muid (u ∷ us) vs =
    ap (λ (l : Model). cell_open muid u ++ l) (cells_append muid us vs) ∙ sym (append_assoc (cell_open muid u) (cells_open muid us) (cells_open muid vs))

pub recs_append : (xs ys : List Rec) → recs_open (xs ++ ys) ≡ recs_open xs ++ recs_open ys
recs_append [] ys = refl
recs_append (r ∷ xs) ys =
    ap (λ (l : Model). cells_open r.muid r.cells ++ l) (recs_append xs ys)
    ∙ sym (append_assoc (cells_open r.muid r.cells) (recs_open xs) (recs_open ys))

pub free_none : (cell : Cell) → is_free cell ≡ true → cell.state ≡ none
free_none cell h = go cell.state h
  where
    go : (o : Option Open) → is_none o ≡ true → o ≡ none
    go none e = refl
    go (some x) e = absurd (false≢true e)

pub free_open : (muid : ℕ) (cells : List Cell) → every is_free cells ≡ true → cells_open muid cells ≡ []
free_open muid [] h = refl
free_open muid (cell ∷ cells) h = let a = and_told (is_free cell) (every is_free cells) h in rw (free_none cell a.0) (free_open muid cells a.1)

pub no_id_open : (peer id : ℕ) (cells : List Cell) → NoneOf (has_id id) cells → find peer id (cells_open peer cells) ≡ none
no_id_open peer id [] a = refl
no_id_open peer id (cell ∷ cells) a =
    find_append peer id (cell_open peer cell) (cells_open peer cells) (one cell.state a.0) ∙ no_id_open peer id cells a.1
  where
    one : (o : Option Open) → (not (is_none o) && eqb id cell.request_id) ≡ false → find peer id (entry_of peer cell.request_id o) ≡ none
    one none h = refl
    one (some x) h = rw (eqb_self peer, h)

abbrev pub is_used : Cell → Bool
is_used cell = not (is_free cell)

pub open_tally : (peer : ℕ) (cells : List Cell) → tally (is_of peer) (cells_open peer cells) ≡ tally is_used cells
open_tally peer [] = refl
open_tally peer (cell ∷ cells) = go cell.state (open_tally peer cells)
  where
    go : (o : Option Open) → tally (is_of peer) (cells_open peer cells) ≡ tally is_used cells
        → tally (is_of peer) (entry_of peer cell.request_id o ++ cells_open peer cells) ≡ cond (not (is_none o)) (suc (tally is_used cells)) (tally is_used cells)
    go none e = e
    go (some x) e = rw (eqb_self peer) (ap suc e)

pub used_some : (cells : List Cell) → every is_free cells ≡ false → 1 ≤ tally is_used cells
used_some [] h = absurd (false≢true (sym h))
used_some (cell ∷ cells) h = go (is_free cell) h (used_some cells)
  where
    go : (b : Bool) → (b && every is_free cells) ≡ false → (every is_free cells ≡ false → 1 ≤ tally is_used cells)
        → 1 ≤ cond (not b) (suc (tally is_used cells)) (tally is_used cells)
    go true e r = r e
    go false e r = omega arith

-- ---- an unbound record is idle; no two records are bound to one peer
abbrev pub Apart : ℕ → List Rec → Type 0
Apart peer recs = NoneOf (is_own peer) recs

abbrev pub Tidy : List Rec → Type 0
Tidy [] = Unit {0}
Tidy (r ∷ recs) = (r.bound ≡ false → is_idle r ≡ true) × (r.bound ≡ true → Apart r.muid recs) × Tidy recs

pub apart_away : (peer : ℕ) (recs : List Rec) → Tidy recs → Apart peer recs → Away peer (recs_open recs)
apart_away peer [] t a = tt
apart_away peer (r ∷ recs) t a =
    all_append (λ (e : Entry). is_of peer e ≡ false) (cells_open r.muid r.cells) (recs_open recs) (go (both r.bound)) (apart_away peer recs t.2 a.1)
  where
    go : (r.bound ≡ true) ⊎ (r.bound ≡ false) → Away peer (cells_open r.muid r.cells)
    go (inl e) = other_open peer r.muid r.cells (subst (λ (b : Bool). (b && eqb peer r.muid) ≡ false) e a.0)
    go (inr e) = rw (free_open r.muid r.cells (t.0 e)) tt

pub tidy_first : (xs ys : List Rec) → Tidy (xs ++ ys) → Tidy xs
tidy_first [] ys t = tt
tidy_first (r ∷ xs) ys t = (t.0, λ e. all_first (λ (z : Rec). is_own r.muid z ≡ false) xs ys (t.1 e), tidy_first xs ys t.2)

pub tidy_second : (xs ys : List Rec) → Tidy (xs ++ ys) → Tidy ys
tidy_second [] ys t = t
tidy_second (r ∷ xs) ys t = tidy_second xs ys t.2

-- a record changed in its place, which is still apart from those before it
tidy_change : (xs : List Rec) (r : Rec) (ys : List Rec) (s : Rec) → Tidy (xs ++ r ∷ ys) → All (λ (x : Rec). x.bound ≡ true → is_own x.muid s ≡ false) xs
    → Tidy (s ∷ ys) → Tidy (xs ++ s ∷ ys)
tidy_change [] r ys s t a h = h
tidy_change (x ∷ xs) r ys s t a h =
    (t.0, λ e. all_change (λ (z : Rec). is_own x.muid z ≡ false) xs r ys s (t.1 e) (a.0 e), tidy_change xs r ys s t.2 a.1 h)

-- bound to a peer that no other is bound to
pub tidy_bind : (peer : ℕ) (xs : List Rec) (r : Rec) (ys : List Rec) (cells : List Cell) → Tidy (xs ++ r ∷ ys) → Apart peer xs → Apart peer ys
    → Tidy (xs ++ record { bound = true; muid = peer; cells = cells } ∷ ys)
tidy_bind peer xs r ys cells t a b =
    tidy_change xs r ys (record { bound = true; muid = peer; cells = cells }) t (others xs a)
    (λ e. absurd (false≢true (sym e)), λ e. b, (tidy_second xs (r ∷ ys) t).2)
  where
    others : (zs : List Rec) → Apart peer zs → All (λ (x : Rec). x.bound ≡ true → eqb x.muid peer ≡ false) zs
    others [] h = tt
    others (z ∷ zs) h = (λ e. eqb_sym z.muid peer ∙ subst (λ (q : Bool). (q && eqb peer z.muid) ≡ false) e h.0, others zs h.1)

-- unbound and idle
pub tidy_unbind : (muid : ℕ) (xs : List Rec) (r : Rec) (ys : List Rec) (cells : List Cell) → Tidy (xs ++ r ∷ ys) → every is_free cells ≡ true
    → Tidy (xs ++ record { bound = false; muid = muid; cells = cells } ∷ ys)
tidy_unbind muid xs r ys cells t h =
    tidy_change xs r ys (record { bound = false; muid = muid; cells = cells }) t (others xs) (λ e. h, λ e. absurd (false≢true e), (tidy_second xs (r ∷ ys) t).2)
  where
    others : (zs : List Rec) → All (λ (x : Rec). x.bound ≡ true → ◌≡◌ {A = Bool} false false) zs
    others [] = tt
    others (z ∷ zs) = (λ e. refl, others zs)

-- ---- peers with something open are records with something open
memb_open : (muid : ℕ) (cells : List Cell) (l : Model) → every is_free cells ≡ false → memb muid (map peer_of (cells_open muid cells ++ l)) ≡ true
memb_open muid [] l h = absurd (false≢true (sym h))
memb_open muid (cell ∷ cells) l h = go cell.state h (memb_open muid cells l)
  where
    go : (o : Option Open) → (is_none o && every is_free cells) ≡ false → (every is_free cells ≡ false → memb muid (map peer_of (cells_open muid cells ++ l)) ≡ true)
        → memb muid (map peer_of (entry_of muid cell.request_id o ++ cells_open muid cells ++ l)) ≡ true
    go none e r = r e
    go (some x) e r = rw (eqb_self muid)

peers_cells : (muid : ℕ) (cells : List Cell) (l : Model) → memb muid (map peer_of l) ≡ false
    → peers_open (cells_open muid cells ++ l) ≡ cond (every is_free cells) (peers_open l) (suc (peers_open l))
peers_cells muid [] l h = refl
peers_cells muid (cell ∷ cells) l h = go cell.state (both (every is_free cells)) (peers_cells muid cells l h)
  where
    go : (o : Option Open) → (every is_free cells ≡ true) ⊎ (every is_free cells ≡ false)
        → peers_open (cells_open muid cells ++ l) ≡ cond (every is_free cells) (peers_open l) (suc (peers_open l))
        → peers_open (entry_of muid cell.request_id o ++ cells_open muid cells ++ l) ≡ cond (is_none o && every is_free cells) (peers_open l) (suc (peers_open l))
    go none b r = r
    go (some x) (inl b) r = rw (free_open muid cells b, h)
    go (some x) (inr b) r = rw (memb_open muid cells l b) (r ∙ rw b)

abbrev pub is_busy : Rec → Bool
is_busy r = not (is_idle r)

pub peers_recs : (recs : List Rec) → Tidy recs → peers_open (recs_open recs) ≡ tally is_busy recs
peers_recs [] t = refl
peers_recs (r ∷ recs) t = go (both r.bound) (peers_recs recs t.2)
  where
    turn : (b : Bool) (n : ℕ) → cond b n (suc n) ≡ cond (not b) (suc n) n
    turn true n = refl
    turn false n = refl

    go : (r.bound ≡ true) ⊎ (r.bound ≡ false) → peers_open (recs_open recs) ≡ tally is_busy recs → peers_open (recs_open (r ∷ recs)) ≡ tally is_busy (r ∷ recs)
    go (inl e) ih =
        peers_cells r.muid r.cells (recs_open recs) (away_memb r.muid (recs_open recs) (apart_away r.muid recs t.2 (t.1 e)))
        ∙ turn (is_idle r) (peers_open (recs_open recs)) ∙ ap (λ (n : ℕ). cond (is_busy r) (suc n) n) ih
    go (inr e) ih = rw (t.0 e, free_open r.muid r.cells (t.0 e)) ih
