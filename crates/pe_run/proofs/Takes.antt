-- A chunk, on the value of a table and on the model.
-- Assumes nothing.
use Prim.Native.Nat.{ℕ, ◌≤◌}
use mathlib.Core.Bool.{Bool, true, false, not, ◌&&◌, ◌||◌}
use mathlib.Core.List.{List, [], ◌∷◌, ◌++◌}
use mathlib.Core.Logic.{◌⊎◌, inl, inr}
use mathlib.Core.Option.{Option, none, some}
use Rattle.std.specs.Prelude.{Some, None}
use mathlib.Core.Path.{◌≡◌, refl, sym, ap, ap₂, ◌∙◌, subst}
use native.Mathlib.Omega.{arith}
use borrow.Author.Tests.{le-ltb, le-leb, not-true}
use lib.Dec.{leb, eqb}
use lib.ListN.{length, set}
use Rattle.seven_bit.specs.Reply.{refused}
use Rattle.seven_bit.proofs.ReplyLaws.{both, and_told}
use Rattle.pe_frame.specs.Chunk.{Chunk}
use Rattle.pe_reassembler.specs.declared.shape.Shape.{Shape}
use Rattle.pe_reassembler.specs.Feed.{next_tick}
use Rattle.pe_run.specs.Lists.{tally, Perm, then}
use Rattle.pe_run.specs.Model.{Open, Model, Clocked, find, is_none, open_of, peers_open, finds_record, has_four}
use Rattle.pe_run.specs.Model.{touched_at, Judged, judged, entry_of, without, Arrived, arrived, arrives}
use Rattle.pe_run.specs.Demand.{Room}
use Rattle.pe_run.proofs.ListLaws.{NoneOf, all_first, all_second, tally_all}
use Rattle.pe_run.proofs.PermLaws.{perm_sym}
use Rattle.pe_run.proofs.ModelLaws.{without_none}
use Rattle.pe_run.proofs.Arrive.{finds_open, finds_fewer, arrive_open, arrive_new}
use Rattle.pe_run.proofs.Value.{Cell, Rec, Value, no_cell, no_rec, every, is_free, has_id, is_own, is_unbound, is_idle, choose, choose_cell, cell_open, cells_open, recs_open, opens, Taken, cell_with, take_cell, take_rec, take_at, takes}
use Rattle.pe_run.proofs.Places.{Split, view, place_absent, split_place, split_get_d, split_set, split_hit, split_short}
use Rattle.pe_run.proofs.Records.{away_tally, away_find, free_none, free_open, is_used, used_some, Apart, Tidy, apart_away, tidy_second, is_busy}
use Rattle.pe_run.proofs.Refine.{FourCells, Rel, tally_is, find_is, peers_are, own_muid, own_after, own_find, own_tally, rest, put_cell, here_open, put_rel, own_open}

-- ---- does the peer find a record?
finds_idle : {n : ℕ} {v : Value} {b : Clocked} → Rel n v b → (peer : ℕ) {test : Rec → Bool} (s : Split test v.recs) → is_idle s.hit ≡ true
    → finds_record n peer b.model ≡ true
finds_idle {n} {v} {b} rel peer s h = finds_fewer n peer b.model (omega (arith, peers_are rel, split_short s is_busy (rw h), rel.size))

-- the two refusals
finds_none : (n peer : ℕ) (b : Model) → open_of peer b ≡ 0 → n ≤ peers_open b → finds_record n peer b ≡ false
unfolding finds_record
finds_none n peer b e h = ap₂ (λ (k : ℕ) (fewer : Bool). not (eqb k 0) || fewer) e (le-ltb (peers_open b) n h)

arrive_full : (shape : Shape) (peer : ℕ) (b : Clocked) (c : Chunk) (now_ms : ℕ) → open_of peer b.model ≡ 0 → shape.max_peers ≤ peers_open b.model
    → arrives shape b peer c now_ms ≡ record { left = b; answer = refused 7 0 }
unfolding arrives
arrive_full shape peer b c now_ms e h = rw (finds_none shape.max_peers peer b.model e h) refl

has_four_law : (peer request_id : ℕ) (b : Model) → 4 ≤ open_of peer b → find peer request_id b ≡ none → has_four peer request_id b ≡ true
unfolding has_four
has_four_law peer request_id b h e = ap (λ (o : Option Open). is_none o && leb 4 (open_of peer b)) e ∙ le-leb 4 (open_of peer b) h

arrive_fifth : (shape : Shape) (peer : ℕ) (b : Clocked) (c : Chunk) (now_ms : ℕ) → 4 ≤ open_of peer b.model → find peer c.request_id b.model ≡ none
    → arrives shape b peer c now_ms ≡ record { left = b; answer = refused 6 0 }
unfolding arrives
arrive_fifth shape peer b c now_ms h e =
    rw (finds_open shape.max_peers peer b.model (omega arith), has_four_law peer c.request_id b.model h e) refl

-- ---- what the value makes of a chunk
module _ (shape : Shape) (v : Value) (peer : ℕ) (c : Chunk) (now_ms : ℕ) where
  takes_full : choose peer v.recs ≡ None → takes shape v peer c now_ms ≡ record { value = v; answer = refused 7 0 }
  unfolding takes take_at
  takes_full e = ap (take_at shape v peer c now_ms) e

  module _ {test : Rec → Bool} (s : Split test v.recs) (chosen : choose peer v.recs ≡ Some (length s.before)) where
    takes_in : takes shape v peer c now_ms ≡ take_rec shape v peer c now_ms (length s.before) s.hit (choose_cell c.request_id s.hit.cells)
    unfolding takes take_at
    takes_in =
        ap (take_at shape v peer c now_ms) chosen
        ∙ ap (λ (r : Rec). take_rec shape v peer c now_ms (length s.before) r (choose_cell c.request_id r.cells)) (split_get_d s no_rec)

    takes_fifth : choose_cell c.request_id s.hit.cells ≡ None → takes shape v peer c now_ms ≡ record { value = v; answer = refused 6 0 }
    unfolding take_rec
    takes_fifth e = takes_in ∙ ap (take_rec shape v peer c now_ms (length s.before) s.hit) e

    -- the cell that is chosen gets what is left
    module _ {taken : Cell → Bool} (u : Split taken s.hit.cells) where
      -- with what was open in it
      abbrev judging : Option Open → Judged
      judging o = judged shape (touched_at o now_ms (next_tick v.clock)) c

      abbrev taking : Judged → Taken
      taking j = record {
        value = record { clock = next_tick v.clock; recs = put_cell s u true peer (cell_with c.request_id j.left) };
        answer = j.answer;
      }

      takes_at : choose_cell c.request_id s.hit.cells ≡ Some (length u.before)
          → takes shape v peer c now_ms ≡ taking (judging u.hit.state)
      unfolding take_rec take_cell
      takes_at e =
          takes_in ∙ ap (take_rec shape v peer c now_ms (length s.before) s.hit) e
          ∙ ap (λ (cell : Cell). stored (judging cell.state)) (split_get_d u no_cell)
          ∙ there (judging u.hit.state)
        where
          bound : List Cell → Rec
          bound cells = record { bound = true; muid = peer; cells = cells }

          new : Judged → Cell
          new j = cell_with c.request_id j.left

          stored : Judged → Taken
          stored j = record {
            value =
                record { clock = next_tick v.clock; recs = set v.recs (length s.before) (bound (set s.hit.cells (length u.before) (new j))) };
            answer = j.answer;
          }

          there : (j : Judged) → stored j ≡ taking j
          there j =
              ap (λ (recs : List Rec). record { value = record { clock = next_tick v.clock; recs = recs }; answer = j.answer })
              (ap (λ (cells : List Cell). set v.recs (length s.before) (bound cells)) (split_set u (new j))
              ∙ split_set s (bound (u.before ++ new j ∷ u.after)))

-- ---- value and model
-- one answer, and what both leave
pub record Agrees (n : ℕ) (t : Taken) (a : Arrived) : Type 0 where
  pub rel : Rel n t.value a.left
  pub answer_is : t.answer ≡ a.answer

cell_open_law : (peer id : ℕ) (o : Option Open) → cell_open peer (cell_with id o) ≡ entry_of peer id o
cell_open_law peer id none = refl
cell_open_law peer id (some x) = refl

-- the first cell of a record with nothing open
idle_split : (cells : List Cell) → every is_free cells ≡ true → length cells ≡ 4
    → (u : Split is_free cells) × ((muid : ℕ) → cells_open muid u.before ≡ []) × ((muid : ℕ) → cells_open muid u.after ≡ [])
idle_split [] h e = absurd (omega arith)
idle_split (cell ∷ cells) h e =
    let a = and_told (is_free cell) (every is_free cells) h in
    (record { before = []; hit = cell; after = cells; parts = refl; passes = a.0; fails = tt }, λ muid. refl, λ muid. free_open muid cells a.1)

no_ids : (id : ℕ) (cells : List Cell) → every is_free cells ≡ true → NoneOf (has_id id) cells
no_ids id [] h = tt
no_ids id (cell ∷ cells) h = let a = and_told (is_free cell) (every is_free cells) h in (rw a.0, no_ids id cells a.1)

module _ (shape : Shape) {v : Value} {b : Clocked} (rel : Rel shape.max_peers v b) (peer : ℕ) (c : Chunk) (now_ms : ℕ) where
  -- one tick above the model's last
  abbrev judged_by : ℕ → Option Open → Judged
  judged_by clock o = judged shape (touched_at o now_ms (next_tick clock)) c

  abbrev Goal : Type 0
  Goal = Agrees shape.max_peers (takes shape v peer c now_ms) (arrives shape b peer c now_ms)

  -- a refusal of both
  refused_both : (number : ℕ) → takes shape v peer c now_ms ≡ record { value = v; answer = refused number 0 }
      → arrives shape b peer c now_ms ≡ record { left = b; answer = refused number 0 } → Goal
  refused_both number e f = rw (e, f) (record { rel = rel; answer_is = refl })

  module _ {test : Rec → Bool} (s : Split test v.recs) (chosen : choose peer v.recs ≡ Some (length s.before))
      (before : Apart peer s.before) (behind : Apart peer s.after) where
    -- the chosen cell has what the model has
    judged_both : {taken : Cell → Bool} (u : Split taken s.hit.cells) → choose_cell c.request_id s.hit.cells ≡ Some (length u.before)
        → Perm (rest s u peer) (without peer c.request_id b.model)
        → arrives shape b peer c now_ms ≡ arrived peer c.request_id b (judged_by b.clock u.hit.state) → Goal
    judged_both u e p arr = rw (
      takes_at shape v peer c now_ms s chosen u e,
      arr ∙ ap (λ (clock : ℕ). arrived peer c.request_id b (judged_by clock u.hit.state)) (sym rel.clock_is),
    ) (record {
      rel = put_rel rel s u (next_tick v.clock) peer c.request_id left before behind p
          (cell_with c.request_id left) (cell_open_law peer c.request_id left) (ap next_tick rel.clock_is);
      answer_is = refl;
    })
      where
        left : Option Open
        left = (judged_by v.clock u.hit.state).left

    -- a free cell is opened
    open_both : (u : Split is_free s.hit.cells) → NoneOf (has_id c.request_id) s.hit.cells
        → cells_open s.hit.muid u.before ≡ cells_open peer u.before → cells_open s.hit.muid u.after ≡ cells_open peer u.after
        → Room shape.max_peers peer c.request_id b.model → Goal
    open_both u a same-before same_after room =
        judged_both u (rw (place_absent (has_id c.request_id) s.hit.cells a) (split_place u))
        (rw (without_none peer c.request_id b.model room.not_open) (then (perm_sym here) rel.same))
        (arrive_new shape peer b c now_ms room
        ∙ ap (λ (o : Option Open). arrived peer c.request_id b (judged_by b.clock o)) (sym (free_none u.hit u.passes)))
      where
        here : Perm (opens v) (rest s u peer)
        here = subst (λ (l : Model). Perm (opens v) l)
            (ap (λ (o : Option Open). entry_of s.hit.muid u.hit.request_id o ++ rest s u s.hit.muid) (free_none u.hit u.passes)
            ∙ ap₂ (λ (x y : Model). recs_open s.before ++ x ++ (y ++ recs_open s.after)) same-before same_after)
            (here_open s u)

  -- a record with nothing open, and none is the peer's own
  idle_both : {test : Rec → Bool} (s : Split test v.recs) → choose peer v.recs ≡ Some (length s.before) → Apart peer v.recs → is_idle s.hit ≡ true
      → Goal
  idle_both s chosen apart idle =
      let i = idle_split s.hit.cells idle (split_hit s FourCells rel.fours) in
      open_both s chosen (all_first own s.before (s.hit ∷ s.after) parts) (all_second own s.before (s.hit ∷ s.after) parts).1
      i.0 (no_ids c.request_id s.hit.cells idle) (i.1 s.hit.muid ∙ sym (i.1 peer)) (i.2 s.hit.muid ∙ sym (i.2 peer))
      (record {
        record_found = finds_idle rel peer s idle;
        not_open = find_is rel peer c.request_id ∙ away_find peer c.request_id (opens v) (apart_away peer v.recs rel.tidy apart);
        fewer = omega (arith, tally_is rel peer, away_tally peer (opens v) (apart_away peer v.recs rel.tidy apart));
      })
    where
      own : Rec → Type 0
      own r = is_own peer r ≡ false

      parts : Apart peer (s.before ++ s.hit ∷ s.after)
      parts = subst (λ (l : List Rec). Apart peer l) s.parts apart

  -- the peer's own record
  own_both : Split (is_own peer) v.recs → Goal
  own_both s = ids (view (has_id c.request_id) s.hit.cells)
    where
      chosen : choose peer v.recs ≡ Some (length s.before)
      chosen = rw (split_place s)

      behind : Apart peer s.after
      behind = own_after peer rel.tidy s

      used : open_of peer b.model ≡ tally is_used s.hit.cells
      used = tally_is rel peer ∙ own_tally peer rel.tidy s

      four : length s.hit.cells ≡ 4
      four = split_hit s FourCells rel.fours

      absent : NoneOf (has_id c.request_id) s.hit.cells → find peer c.request_id b.model ≡ none
      absent a = find_is rel peer c.request_id ∙ own_find peer rel.tidy s c.request_id a

      frees : NoneOf (has_id c.request_id) s.hit.cells → NoneOf is_free s.hit.cells ⊎ Split is_free s.hit.cells → Goal
      frees a (inl k) =
          refused_both 6
          (takes_fifth shape v peer c now_ms s chosen (rw (place_absent (has_id c.request_id) s.hit.cells a) (place_absent is_free s.hit.cells k)))
          (arrive_fifth shape peer b c now_ms (omega (arith, used, tally_all is_free s.hit.cells k, four)) (absent a))
      frees a (inr u) =
          open_both s chosen s.fails behind u a
          (ap (λ (muid : ℕ). cells_open muid u.before) (sym (own_muid peer rel.tidy s)))
          (ap (λ (muid : ℕ). cells_open muid u.after) (sym (own_muid peer rel.tidy s)))
          (record {
            record_found = found (both (every is_free s.hit.cells));
            not_open = absent a;
            fewer = omega (arith, used, four, split_short u is_used (rw u.passes));
          })
        where
          found : (every is_free s.hit.cells ≡ true) ⊎ (every is_free s.hit.cells ≡ false) → finds_record shape.max_peers peer b.model ≡ true
          found (inl w) = finds_idle rel peer s w
          found (inr w) = finds_open shape.max_peers peer b.model (omega (arith, used, used_some s.hit.cells w))

      ids : NoneOf (has_id c.request_id) s.hit.cells ⊎ Split (has_id c.request_id) s.hit.cells → Goal
      ids (inl a) = frees a (view is_free s.hit.cells)
      ids (inr u) =
          let o = own_open rel peer c.request_id s u in
          judged_both s chosen s.fails behind u (rw (split_place u)) o.3
          (arrive_open shape peer b o.0 c now_ms o.2
          ∙ ap (λ (x : Option Open). arrived peer c.request_id b (judged_by b.clock x)) (sym o.1))

  pub take_rel : Goal
  take_rel = owns (view (is_own peer) v.recs)
    where
      idles : Apart peer v.recs → NoneOf is_unbound v.recs → NoneOf is_idle v.recs ⊎ Split is_idle v.recs → Goal
      idles apart bound (inl a) =
          refused_both 7
          (takes_full shape v peer c now_ms
          (rw (place_absent (is_own peer) v.recs apart, place_absent is_unbound v.recs bound) (place_absent is_idle v.recs a)))
          (arrive_full shape peer b c now_ms (tally_is rel peer ∙ away_tally peer (opens v) (apart_away peer v.recs rel.tidy apart))
          (omega (arith, peers_are rel, tally_all is_idle v.recs a, rel.size)))
      idles apart bound (inr s) =
          idle_both s (rw (place_absent (is_own peer) v.recs apart, place_absent is_unbound v.recs bound) (split_place s)) apart s.passes

      unbounds : Apart peer v.recs → NoneOf is_unbound v.recs ⊎ Split is_unbound v.recs → Goal
      unbounds apart (inl a) = idles apart a (view is_idle v.recs)
      unbounds apart (inr s) =
          idle_both s (rw (place_absent (is_own peer) v.recs apart, split_place s)) apart
          ((tidy_second s.before (s.hit ∷ s.after) (subst Tidy s.parts rel.tidy)).0 (not-true s.hit.bound s.passes))

      owns : Apart peer v.recs ⊎ Split (is_own peer) v.recs → Goal
      owns (inl a) = unbounds a (view is_unbound v.recs)
      owns (inr s) = own_both s
