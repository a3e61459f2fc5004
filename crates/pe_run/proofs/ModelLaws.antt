-- The model's own laws: its order does not matter, each peer and request id is there once, and no peer has more than four.
-- Assumes nothing.
use Prim.Native.Nat.{ℕ, suc, ◌≤◌, ◌<◌}
use mathlib.Core.Bool.{Bool, true, false, cond, not, ◌&&◌}
use mathlib.Core.List.{[], ◌∷◌, ◌++◌}
use mathlib.Core.Logic.{◌⊎◌, inl, inr}
use mathlib.Core.Option.{Option, none, some}
use mathlib.Core.Path.{◌≡◌, refl, sym, ap, ap₂, ◌∙◌, subst}
use native.Mathlib.Omega.{arith}
use borrow.Author.Tests.{eqb-true, leb-false}
use lib.Dec.{leb, eqb}
use Rattle.seven_bit.specs.Reply.{refused}
use Rattle.seven_bit.proofs.ReplyLaws.{both, and_told}
use Rattle.pe_frame.specs.Chunk.{Chunk}
use Rattle.pe_reassembler.specs.Feed.{next_tick}
use Rattle.pe_reassembler.specs.declared.shape.Shape.{Shape}
use Rattle.pe_run.specs.Lists.{keep, tally, Perm, empty, skip, swap, then}
use Rattle.pe_run.specs.Model.{Open, Entry, Model, Clocked, is_at, is_of, is_late, find, finds_record, has_four, touched_at, judged, entry_of}
use Rattle.pe_run.specs.Model.{without, Arrived, arrived, arrives, Act, arrive, cancel, drop, poll, nothing, acted}
use Rattle.pe_run.proofs.ListLaws.{eqb_sym, tally_keep}

-- ---- finding
pub key : (peer id : ℕ) (e : Entry) → is_at peer id e ≡ true → (peer ≡ e.peer) × (id ≡ e.request_id)
key peer id e h =
    let a = and_told (eqb peer e.peer) (eqb id e.request_id) h in
    (eqb-true peer e.peer a.0, eqb-true id e.request_id a.1)

-- two under one peer and id
at_both : (peer id : ℕ) (x y : Entry) → is_at peer id x ≡ true → is_at peer id y ≡ is_at x.peer x.request_id y
at_both peer id x y h = let k = key peer id x h in ap₂ (λ (p i : ℕ). is_at p i y) k.0 k.1

at_sym : (x y : Entry) → is_at x.peer x.request_id y ≡ is_at y.peer y.request_id x
at_sym x y = ap₂ (λ (a b : Bool). a && b) (eqb_sym x.peer y.peer) (eqb_sym x.request_id y.request_id)

-- nothing found: neither the first nor the rest
pub find_none_head : (peer id : ℕ) (e : Entry) (b : Model) → find peer id (e ∷ b) ≡ none → is_at peer id e ≡ false
find_none_head peer id e b h = go (both (is_at peer id e))
  where
    go : (is_at peer id e ≡ true) ⊎ (is_at peer id e ≡ false) → is_at peer id e ≡ false
    go (inl a) = let z : some e.state ≡ none = rw a at h in cc
    go (inr a) = a

pub find_none_tail : (peer id : ℕ) (e : Entry) (b : Model) → find peer id (e ∷ b) ≡ none → find peer id b ≡ none
find_none_tail peer id e b h = rw (find_none_head peer id e b h) at h

pub find_append : (peer id : ℕ) (a b : Model) → find peer id a ≡ none → find peer id (a ++ b) ≡ find peer id b
find_append peer id [] b h = refl
find_append peer id (e ∷ a) b h = rw (find_none_head peer id e a h) (find_append peer id a b (find_none_tail peer id e a h))

pub without_none : (peer id : ℕ) (b : Model) → find peer id b ≡ none → without peer id b ≡ b
without_none peer id [] h = refl
without_none peer id (e ∷ b) h = rw (find_none_head peer id e b h) (ap (λ (l : Model). e ∷ l) (without_none peer id b (find_none_tail peer id e b h)))

find_without : (peer id : ℕ) (b : Model) → find peer id (without peer id b) ≡ none
find_without peer id [] = refl
find_without peer id (e ∷ b) = go (both (is_at peer id e)) (find_without peer id b)
  where
    go : (is_at peer id e ≡ true) ⊎ (is_at peer id e ≡ false) → find peer id (without peer id b) ≡ none → find peer id (without peer id (e ∷ b)) ≡ none
    go (inl a) r = rw a r
    go (inr a) r = simp a r

find_keep_none : (test : Entry → Bool) (peer id : ℕ) (b : Model) → find peer id b ≡ none → find peer id (keep test b) ≡ none
find_keep_none test peer id [] h = refl
find_keep_none test peer id (e ∷ b) h = go (both (test e)) (find_keep_none test peer id b (find_none_tail peer id e b h))
  where
    go : (test e ≡ true) ⊎ (test e ≡ false) → find peer id (keep test b) ≡ none → find peer id (keep test (e ∷ b)) ≡ none
    go (inl a) r = rw (a, find_none_head peer id e b h) r
    go (inr a) r = rw a r

-- ---- each peer and request id once
abbrev pub Unique : Model → Type 0
Unique [] = Unit {0}
Unique (e ∷ b) = (find e.peer e.request_id b ≡ none) × Unique b

swap_find : (peer id : ℕ) (x y : Entry) (b : Model) → is_at x.peer x.request_id y ≡ false → find peer id (x ∷ y ∷ b) ≡ find peer id (y ∷ x ∷ b)
swap_find peer id x y b h = go (both (is_at peer id x)) (both (is_at peer id y))
  where
    go : (is_at peer id x ≡ true) ⊎ (is_at peer id x ≡ false) → (is_at peer id y ≡ true) ⊎ (is_at peer id y ≡ false)
        → find peer id (x ∷ y ∷ b) ≡ find peer id (y ∷ x ∷ b)
    go (inl a) (inl d) = let z : is_at peer id y ≡ false = at_both peer id x y a ∙ h in cc
    go (inl a) (inr d) = rw (a, d)
    go (inr a) (inl d) = rw (a, d)
    go (inr a) (inr d) = rw (a, d)

perm_both : {xs ys : Model} → Perm xs ys → Unique xs → ((peer id : ℕ) → find peer id xs ≡ find peer id ys) × Unique ys
perm_both empty u = (λ peer id. refl, u)
perm_both (skip {x = x} p) u =
    let r = perm_both p u.1 in
    (λ peer id. ap (λ (o : Option Open). cond (is_at peer id x) (some x.state) o) (r.0 peer id), (sym (r.0 x.peer x.request_id) ∙ u.0, r.1))
perm_both (swap {x = x} {y = y} {xs = xs}) u =
    let h : is_at x.peer x.request_id y ≡ false = find_none_head x.peer x.request_id y xs u.0 in
    (λ peer id. swap_find peer id x y xs h, (rw (sym (at_sym x y) ∙ h) u.1.0, (find_none_tail x.peer x.request_id y xs u.0, u.1.1)))
perm_both (then p q) u =
    let r = perm_both p u in
    let s = perm_both q r.1 in
    (λ peer id. r.0 peer id ∙ s.0 peer id, s.1)

pub perm_find : (peer id : ℕ) {xs ys : Model} → Perm xs ys → Unique xs → find peer id xs ≡ find peer id ys
perm_find peer id p u = (perm_both p u).0 peer id

pub perm_unique : {xs ys : Model} → Perm xs ys → Unique xs → Unique ys
perm_unique p u = (perm_both p u).1

pub unique_keep : (test : Entry → Bool) (b : Model) → Unique b → Unique (keep test b)
unique_keep test [] u = tt
unique_keep test (e ∷ b) u = go (test e) (unique_keep test b u.1)
  where
    go : (a : Bool) → Unique (keep test b) → Unique (cond a (e ∷ keep test b) (keep test b))
    go true r = (find_keep_none test e.peer e.request_id b u.0, r)
    go false r = r

pub unique_arrived : (peer id : ℕ) (b : Model) (o : Option Open) → Unique b → Unique (entry_of peer id o ++ without peer id b)
unique_arrived peer id b none u = unique_keep (λ (e : Entry). not (is_at peer id e)) b u
unique_arrived peer id b (some x) u = (find_without peer id b, unique_keep (λ (e : Entry). not (is_at peer id e)) b u)

-- what is open in the slot that a chunk reaches
abbrev pub reached_open : Clocked → ℕ → Chunk → ℕ → Open
reached_open b peer c now_ms = touched_at (find peer c.request_id b.model) now_ms (next_tick b.clock)

-- what a chunk does: it is refused by 7 or 6, or it reaches its slot
module _ (shape : Shape) (b : Clocked) (peer : ℕ) (c : Chunk) (now_ms : ℕ) where
  abbrev Reaches : Type 0
  Reaches =
      (has_four peer c.request_id b.model ≡ false)
      × (arrives shape b peer c now_ms ≡ arrived peer c.request_id b (judged shape (reached_open b peer c now_ms) c))

  arrives_cases : (arrives shape b peer c now_ms ≡ record { left = b; answer = refused 7 0 })
      ⊎ ((arrives shape b peer c now_ms ≡ record { left = b; answer = refused 6 0 }) ⊎ Reaches)
  unfolding arrives
  arrives_cases = go (both (finds_record shape.max_peers peer b.model)) (both (has_four peer c.request_id b.model))
    where
      go : (finds_record shape.max_peers peer b.model ≡ true) ⊎ (finds_record shape.max_peers peer b.model ≡ false)
          → (has_four peer c.request_id b.model ≡ true) ⊎ (has_four peer c.request_id b.model ≡ false)
          → (arrives shape b peer c now_ms ≡ record { left = b; answer = refused 7 0 })
          ⊎ ((arrives shape b peer c now_ms ≡ record { left = b; answer = refused 6 0 }) ⊎ Reaches)
      go (inr e) k = inl (rw e refl)
      go (inl e) (inl k) = inr (inl (rw (e, k) refl))
      go (inl e) (inr k) = inr (inr (k, rw (e, k) refl))

  -- what holds of the model, and of it with what a chunk leaves, holds after a chunk
  pub arrives_keeps : (P : Model → Type 0) → P b.model
      → (has_four peer c.request_id b.model ≡ false
      → P (entry_of peer c.request_id (judged shape (reached_open b peer c now_ms) c).left ++ without peer c.request_id b.model))
      → P (arrives shape b peer c now_ms).left.model
  arrives_keeps P same changed = go arrives_cases
    where
      go : (arrives shape b peer c now_ms ≡ record { left = b; answer = refused 7 0 })
          ⊎ ((arrives shape b peer c now_ms ≡ record { left = b; answer = refused 6 0 }) ⊎ Reaches) → P (arrives shape b peer c now_ms).left.model
      go (inl e) = subst (λ (a : Arrived). P a.left.model) (sym e) same
      go (inr (inl e)) = subst (λ (a : Arrived). P a.left.model) (sym e) same
      go (inr (inr e)) = subst (λ (a : Arrived). P a.left.model) (sym e.1) (changed e.0)

-- ---- at most four
abbrev pub Four : Model → Type 0
Four b = (peer : ℕ) → tally (is_of peer) b ≤ 4

four_keep : (test : Entry → Bool) (b : Model) → Four b → Four (keep test b)
four_keep test b h peer = omega (arith, h peer, tally_keep (is_of peer) test b)

-- one less without what is open
without_fewer : (peer id : ℕ) (b : Model) (x : Open) → find peer id b ≡ some x → tally (is_of peer) (without peer id b) < tally (is_of peer) b
without_fewer peer id [] x h = let z : ◌≡◌ {A = ℕ} 0 1 = cc in omega arith
without_fewer peer id (e ∷ b) x h = go (both (is_at peer id e)) (both (eqb peer e.peer)) (without_fewer peer id b x)
  where
    go : (is_at peer id e ≡ true) ⊎ (is_at peer id e ≡ false) → (eqb peer e.peer ≡ true) ⊎ (eqb peer e.peer ≡ false)
        → (find peer id b ≡ some x → tally (is_of peer) (without peer id b) < tally (is_of peer) b)
        → tally (is_of peer) (without peer id (e ∷ b)) < tally (is_of peer) (e ∷ b)
    go (inl a) d r =
        rw (a, (and_told (eqb peer e.peer) (eqb id e.request_id) a).0) (omega (arith, tally_keep (is_of peer) (λ (y : Entry). not (is_at peer id y)) b))
    go (inr a) (inl d) r = rw (a, d) (omega (arith, r (rw a at h)))
    go (inr a) (inr d) r = rw (a, d) (r (rw a at h))

four_arrived : (peer id : ℕ) (b : Model) (o : Option Open) → Four b → has_four peer id b ≡ false → Four (entry_of peer id o ++ without peer id b)
unfolding has_four
four_arrived peer id b none h e other = four_keep (λ (y : Entry). not (is_at peer id y)) b h other
four_arrived peer id b (some y) h e other = go (both (eqb other peer)) (find peer id b) refl
  where
    go : (eqb other peer ≡ true) ⊎ (eqb other peer ≡ false) → (o : Option Open) → find peer id b ≡ o
        → tally (is_of other) (entry_of peer id (some y) ++ without peer id b) ≤ 4
    go (inl a) (some x) w =
        rw a (subst (λ (k : ℕ). suc (tally (is_of k) (without peer id b)) ≤ 4) (sym (eqb-true other peer a))
        (omega (arith, without_fewer peer id b x w, h peer)))
    go (inl a) none w =
        let spare : leb 4 (tally (is_of peer) b) ≡ false = rw w at e in
        rw a (subst (λ (k : ℕ). suc (tally (is_of k) (without peer id b)) ≤ 4) (sym (eqb-true other peer a))
        (omega (arith, leb-false 4 (tally (is_of peer) b) spare, tally_keep (is_of peer) (λ (z : Entry). not (is_at peer id z)) b)))
    go (inr a) o w = rw a (four_keep (λ (z : Entry). not (is_at peer id z)) b h other)

pub four_step : (shape : Shape) (b : Clocked) (act : Act) → Four b.model → Four (acted shape b act).model
four_step shape b (arrive peer c now_ms) h =
    arrives_keeps shape b peer c now_ms Four h
    (λ e. four_arrived peer c.request_id b.model (judged shape (reached_open b peer c now_ms) c).left h e)
four_step shape b (cancel peer id) h = four_keep (λ (e : Entry). not (is_at peer id e)) b.model h
four_step shape b (drop peer) h = four_keep (λ (e : Entry). not (is_of peer e)) b.model h
four_step shape b (poll now_ms) h = four_keep (λ (e : Entry). not (is_late now_ms e)) b.model h
four_step shape b nothing h = h
