-- What is open under a peer and request id, through what happens to the model.
-- Assumes nothing.
use Prim.Native.Nat.{ℕ, ◌-◌, ◌≤◌, ◌<◌}
use mathlib.Core.Bool.{Bool, true, false, not, ◌&&◌, ◌||◌, or-true}
use mathlib.Core.List.{List, [], ◌∷◌, ◌++◌}
use mathlib.Core.Logic.{◌⊎◌, inl, inr}
use mathlib.Core.Option.{Option, none, some}
use mathlib.Core.Path.{◌≡◌, refl, sym, ap, ◌∙◌}
use native.Mathlib.Omega.{arith}
use borrow.Author.Tests.{eqb-true, ne_eqb, lt-leb, lt-ltb}
use lib.Dec.{leb, ltb, eqb}
use Rattle.seven_bit.proofs.ReplyLaws.{both, and_told}
use Rattle.pe_frame.specs.Chunk.{Chunk}
use Rattle.pe_reassembler.specs.Feed.{next_tick}
use Rattle.pe_reassembler.specs.declared.shape.Shape.{Shape}
use Rattle.pe_run.specs.Lists.{keep}
use Rattle.pe_run.specs.Model.{Open, Entry, Model, Clocked, is_at, is_of, is_late, find, is_none, open_of, peers_open, finds_record, has_four, touched_at}
use Rattle.pe_run.specs.Model.{judged, entry_of, without, arrived, arrives, Act, arrive, cancel, drop, poll, nothing, acted}
use Rattle.pe_run.specs.Demand.{Room, Spared}
use Rattle.pe_run.proofs.ModelLaws.{reached_open, arrives_keeps}
use Rattle.pe_run.proofs.ListLaws.{eqb_self, eqb_sym, never}

-- ---- finding
find_keep : (test : Entry → Bool) (peer request_id : ℕ) (b : Model) (o : Open) → ((e : Entry) → is_at peer request_id e ≡ true → e.state ≡ o → test e ≡ true)
    → find peer request_id b ≡ some o → find peer request_id (keep test b) ≡ some o
find_keep test peer request_id [] o h q = q
find_keep test peer request_id (e ∷ b) o h q = go (both (is_at peer request_id e)) (both (test e)) (find_keep test peer request_id b o h)
  where
    go : (is_at peer request_id e ≡ true) ⊎ (is_at peer request_id e ≡ false) → (test e ≡ true) ⊎ (test e ≡ false)
        → (find peer request_id b ≡ some o → find peer request_id (keep test b) ≡ some o) → find peer request_id (keep test (e ∷ b)) ≡ some o
    go (inl a) (inl k) r = rw (k, a) (rw a at q)
    go (inl a) (inr k) r =
        let w : some e.state ≡ some o = rw a at q in
        let z : e.state ≡ o = cc in
        never (sym (h e a z) ∙ k)
    go (inr a) (inl k) r = rw (k, a) (r (rw a at q))
    go (inr a) (inr k) r = rw k (r (rw a at q))

find_tally : (peer request_id : ℕ) (b : Model) (o : Open) → find peer request_id b ≡ some o → 1 ≤ open_of peer b
find_tally peer request_id [] o q = absurd (let z : ◌≡◌ {A = ℕ} 0 1 = cc in omega arith)
find_tally peer request_id (e ∷ b) o q = go (both (eqb peer e.peer)) (find_tally peer request_id b o)
  where
    go : (eqb peer e.peer ≡ true) ⊎ (eqb peer e.peer ≡ false) → (find peer request_id b ≡ some o → 1 ≤ open_of peer b) → 1 ≤ open_of peer (e ∷ b)
    go (inl a) r = rw a (omega arith)
    go (inr a) r = rw a (r (rw a at q))

-- ---- does the peer find a record?
pub finds_open : (n peer : ℕ) (b : Model) → 1 ≤ open_of peer b → finds_record n peer b ≡ true
unfolding finds_record
finds_open n peer b h = ap (λ (none_open : Bool). not none_open || ltb (peers_open b) n) (ne_eqb (open_of peer b) 0 (omega arith))

pub finds_fewer : (n peer : ℕ) (b : Model) → peers_open b < n → finds_record n peer b ≡ true
unfolding finds_record
finds_fewer n peer b h =
    ap (λ (fewer : Bool). not (eqb (open_of peer b) 0) || fewer) (lt-ltb (peers_open b) n h) ∙ or-true (not (eqb (open_of peer b) 0))

-- ---- an arrival at what is open, and one that opens
pub arrive_open : (shape : Shape) (peer : ℕ) (b : Clocked) (o : Open) (c : Chunk) (now_ms : ℕ) → find peer c.request_id b.model ≡ some o
    → arrives shape b peer c now_ms ≡ arrived peer c.request_id b (judged shape (touched_at (some o) now_ms (next_tick b.clock)) c)
unfolding arrives has_four
arrive_open shape peer b o c now_ms q =
    let found : finds_record shape.max_peers peer b.model ≡ true =
    finds_open shape.max_peers peer b.model (find_tally peer c.request_id b.model o q) in
    rw (found, q) refl

room_free : (peer request_id : ℕ) (b : Model) → find peer request_id b ≡ none → open_of peer b < 4 → has_four peer request_id b ≡ false
unfolding has_four
room_free peer request_id b free h = ap (λ (o : Option Open). is_none o && leb 4 (open_of peer b)) free ∙ lt-leb 4 (open_of peer b) h

pub arrive_new : (shape : Shape) (peer : ℕ) (b : Clocked) (c : Chunk) (now_ms : ℕ) → Room shape.max_peers peer c.request_id b.model
    → arrives shape b peer c now_ms ≡ arrived peer c.request_id b (judged shape (touched_at none now_ms (next_tick b.clock)) c)
unfolding arrives
arrive_new shape peer b c now_ms r =
    let found : finds_record shape.max_peers peer b.model ≡ true = r.record_found in
    let free : find peer c.request_id b.model ≡ none = r.not_open in
    rw (found, room_free peer c.request_id b.model free r.fewer, free) refl

-- what stays open is found
pub find_arrived : (peer request_id : ℕ) (b : Model) (o : Open) → find peer request_id (entry_of peer request_id (some o) ++ without peer request_id b) ≡ some o
find_arrived peer request_id b o = rw (eqb_self peer, eqb_self request_id)

-- ---- what leaves another peer or request id open
other_key : (p i q j : ℕ) (e : Entry) → (eqb p q && eqb i j) ≡ false → is_at p i e ≡ true → not (is_at q j e) ≡ true
other_key p i q j e h k =
    rw (
      ← eqb-true p e.peer (and_told (eqb p e.peer) (eqb i e.request_id) k).0,
      ← eqb-true i e.request_id (and_told (eqb p e.peer) (eqb i e.request_id) k).1,
      eqb_sym q p,
      eqb_sym j i,
      h,
    )

-- Is the act an arrival under this peer and request id?
abbrev pub is_arrival : ℕ → ℕ → Act → Bool
is_arrival peer request_id (arrive q c now_ms) = eqb peer q && eqb request_id c.request_id
is_arrival peer request_id (cancel q j) = false
is_arrival peer request_id (drop q) = false
is_arrival peer request_id (poll now_ms) = false
is_arrival peer request_id nothing = false

module _ (p i : ℕ) (b : Clocked) (o : Open) (f : find p i b.model ≡ some o) where
  find_without : (q j : ℕ) → (eqb p q && eqb i j) ≡ false → find p i (without q j b.model) ≡ some o
  find_without q j h = find_keep (λ (e : Entry). not (is_at q j e)) p i b.model o (λ e k w. other_key p i q j e h k) f

  find_done : (q j : ℕ) (left : Option Open) → (eqb p q && eqb i j) ≡ false → find p i (entry_of q j left ++ without q j b.model) ≡ some o
  find_done q j none h = find_without q j h
  find_done q j (some x) h = rw h (find_without q j h)

  find_arrives : (shape : Shape) (q : ℕ) (c : Chunk) (now_ms : ℕ) → (eqb p q && eqb i c.request_id) ≡ false
      → find p i (arrives shape b q c now_ms).left.model ≡ some o
  find_arrives shape q c now_ms h =
      arrives_keeps shape b q c now_ms (λ (m : Model). find p i m ≡ some o) f (λ e.
      find_done q c.request_id (judged shape (reached_open b q c now_ms) c).left h)

  -- Any other act leaves it open, and what is spared then is spared now.
  pub find_acted : (shape : Shape) (a : Act) (acts : List Act) → is_arrival p i a ≡ false → Spared p i o.time (a ∷ acts)
      → (find p i (acted shape b a).model ≡ some o) × Spared p i o.time acts
  find_acted shape (arrive q c now_ms) acts h s = (find_arrives shape q c now_ms h, rw h at s)
  find_acted shape (cancel q j) acts h s = (find_without q j s.0, s.1)
  find_acted shape (drop q) acts h s = (find_keep (λ (e : Entry). not (is_of q e)) p i b.model o (λ e k w. away e k) f, s.1)
    where
      away : (e : Entry) → is_at p i e ≡ true → not (eqb q e.peer) ≡ true
      away e k =
          let apart : eqb p q ≡ false = s.0 in
          rw (← eqb-true p e.peer (and_told (eqb p e.peer) (eqb i e.request_id) k).0, eqb_sym q p, apart)
  find_acted shape (poll now_ms) acts h s = (find_keep (λ (e : Entry). not (is_late now_ms e)) p i b.model o (λ e k w. soon e w) f, s.1)
    where
      soon : (e : Entry) → e.state ≡ o → not (leb 3000 (now_ms - e.state.time)) ≡ true
      soon e w = rw (ap (λ (x : Open). x.time) w, lt-leb 3000 (now_ms - o.time) s.0)
  find_acted shape nothing acts h s = (f, s)
