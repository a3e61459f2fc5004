-- K8 of the stage itself: every sequence of joins and turns from an empty stage.
-- Assumes nothing.
use Prim.Native.Nat.{ℕ, zero, suc, ◌+◌, ◌-◌, ◌%◌, ◌<◌, ◌≤◌}
use mathlib.Core.Bool.{Bool, true, false, cond}
use mathlib.Core.List.{List, [], ◌∷◌, ◌++◌, append_assoc}
use mathlib.Core.Logic.{◌⊎◌, inl, inr}
use Rattle.std.specs.Prelude.{None}
use mathlib.Core.Path.{◌≡◌, refl, sym, ap, subst, ◌∙◌}
use native.Mathlib.Omega.{arith}
use borrow.Author.Tests.{leb-true, le-ltb}
use lib.Dec.{eqb}
use lib.ListN.{length, length-replicate, length-append}
use lib.Seq.{get_or-set_same}
use Rattle.seven_bit.specs.Reply.{Reply, granted, refused}
use Rattle.seven_bit.proofs.ReplyLaws.{both}
use Rattle.pe_chunker.specs.Cut.{body_pieces, cut_count}
use Rattle.pe_chunker.proofs.ChunkLaws.{count_told}
use Rattle.pe_stage.specs.declared.place.Outgoing.{Outgoing}
use Rattle.pe_stage.specs.Stage.{Place, holding, Stage, free_place, empty, is_free, place_at, header_in, body_in, ask_join, after_join, next_waiting}
use Rattle.pe_stage.specs.Stage.{Written, Handout, hands, ask_chunk, ask_turn, after_turn}
use Rattle.pe_turns.specs.Calls.{Call, join, turn, Answer, joined, turned}
use Rattle.pe_turns.specs.Turns.{is_refused, sent_from, LentUnchanged, Leaves, TakingTurns}
use Rattle.pe_turns.proofs.Plain.{answer, after, stage_from, left, plain, Unchanged, stage_append, left_then}
use Rattle.pe_turns.proofs.Waiting.{low}
use Rattle.pe_turns.proofs.Steps.{join_told, turn_nobody, sixteen, never_none, Step, quiet, other, ours, step}
use Rattle.pe_turns.proofs.Sending.{holding_busy, count_some, chunk_sent, place_after, turn_granted}
use Rattle.pe_turns.proofs.Order.{served_from, sofar}

-- ---- there are always 16 places
all_sixteen : (s : Stage) (calls : List Call) → length s.places ≡ 16 → length (stage_from s calls).places ≡ 16
all_sixteen s [] g = g
all_sixteen s (c ∷ calls) g = all_sixteen (after s c) calls (sixteen s c g)

good : (before : List Call) → length (stage_from empty before).places ≡ 16
good before = all_sixteen empty before (length-replicate {A = Place} 16 free_place)

-- ---- refusals
unchanged : (s : Stage) (c : Call) → is_refused (answer s c) ≡ true → after s c ≡ s
unchanged s (join buffer p n) e = go (ask_join s buffer p n) e
  where
    go : (r : Reply ℕ) → is_refused (joined r) ≡ true → after_join s p n r ≡ s
    go (granted count) e = absurd (let z : ◌≡◌ {A = ℕ} 0 1 = cc in omega arith)
    go (refused number value) e = refl
unchanged s (turn buffer out) e = go (ask_turn s buffer (length out)) e
  where
    go : (r : Reply Handout) → is_refused (turned r) ≡ true → after_turn s r ≡ s
    go (granted t) e = absurd (let z : ◌≡◌ {A = ℕ} 0 1 = cc in omega arith)
    go (refused number value) e = refl

-- ---- a list at place p of which nothing has left
module _ (n : Outgoing) (header body : List ℕ) (count p : ℕ) (cut : length (body_pieces n.max_sysex (length header) body) ≡ count) where
  -- the last of its chunks
  one_more : (s : Stage) (k : ℕ) (c : Call) → length s.places ≡ 16 → place_at s p ≡ holding n (suc k)
      → ((buffer out : List ℕ) → c ≡ turn buffer out → (w : Written) → answer s (turn buffer out) ≡ turned (granted (hands p w))
      → (header_in buffer n ≡ header) × (body_in buffer n ≡ body))
      → k < count → k + length (left p s (c ∷ [])) ≡ count → is_free (place_at (after s c) p) ≡ true
  one_more s k c g w u l e = go (step s p c g (ap is_free w ∙ holding_busy n k))
    where
      go : Step s p c → is_free (place_at (after s c) p) ≡ true
      go (quiet h pl t) = absurd (let z : length (left p s (c ∷ [])) ≡ 0 = ap (λ (x : List Handout). length (sent_from p x)) (h []) in omega arith)
      go (other q f h nq pl t) =
          absurd
          (let z : length (left p s (c ∷ [])) ≡ 0 =
          ap (λ (x : List Handout). length (sent_from p x)) (h []) ∙ ap (λ (b : Bool). length (cond b (f ∷ []) [])) nq in omega arith)
      go (ours f buffer out i o h q a) =
          let v = u buffer out i f o in
          let is = chunk_sent buffer (length out) n (suc k) count header body f
          (subst (λ (x : Place). ◌≡◌ (ask_chunk buffer (length out) x) (granted f)) w q) v.0 v.1 cut in
          let z : length (left p s (c ∷ [])) ≤ 1 = short (eqb p p) (ap (λ (x : List Handout). length (sent_from p x)) (h [])) in
          ap (λ (x : Stage). is_free (place_at x p)) a
          ∙ ap is_free (place_after s p n (suc k) count _ f (low s.places p (ap is_free w ∙ holding_busy n k)) w is)
          ∙ ap (λ (b : Bool). is_free (holding n (cond b (suc k + 1) 0))) (le-ltb (suc k) count (omega arith))
        where
          short : (b : Bool) → length (left p s (c ∷ [])) ≡ length (cond b (f ∷ []) []) → length (left p s (c ∷ [])) ≤ 1
          short true e = omega arith
          short false e = omega arith

  -- in the calls after those that ended with its join
  leaves_all : (since calls : List Call) → place_at (stage_from empty since) p ≡ holding n 1 → 0 < count
      → cut_count n.request_id header body n.max_sysex ≡ granted count → Unchanged p n header body count (stage_from empty since) calls
      → Leaves plain p n header body count since calls
  leaves_all since calls w c cuts u = go count cut cuts refl u
    where
      s : Stage
      s = stage_from empty since

      on : (xs : List Call) → stage_from empty (since ++ xs) ≡ stage_from s xs
      on xs = stage_append empty since xs

      go : (m : ℕ) → length (body_pieces n.max_sysex (length header) body) ≡ m → cut_count n.request_id header body n.max_sysex ≡ granted m
          → m ≡ count → Unchanged p n header body m s calls → Leaves plain p n header body m since calls
      go zero e cuts h u = absurd (omega arith)
      go (suc m) e cuts h u =
          let r = sofar n header body (suc m) p e calls s 0 m (good since) w (omega arith) u in
          record {
            in_order = r.order;
            complete = λ l. r.complete 15 (below (p + 16 - s.turn % 16)) (omega arith);
            busy = λ l. ap (λ (x : Stage). is_free (place_at x p)) (on calls) ∙ ap is_free (r.place l) ∙ holding_busy n (0 + length (left p s calls));
            freed = freed;
            progress = λ buffer out next l i hd bd room.
                ap (λ (x : Reply Handout). turned x ∷ [])
                (turn_granted (stage_from empty (since ++ calls)) buffer (length out) p n header body (suc (length (left p s calls))) (suc m) next
                (ap (λ (x : Stage). place_at x p) (on calls) ∙ r.place l ∙ ap (λ (x : ℕ). holding n (suc x)) (none_plus (length (left p s calls))))
                i hd bd cuts (omega arith) l room);
          }
        where
          below : (x : ℕ) → x % 16 ≤ 15
          below x = omega arith

          none_plus : (x : ℕ) → 0 + x ≡ x
          none_plus x = omega arith

          freed : (xs : List Call) (last : Call) → calls ≡ xs ++ last ∷ [] → length (left p s xs) < suc m → length (left p s calls) ≡ suc m
              → is_free (place_at (stage_from empty (since ++ calls)) p) ≡ true
          freed xs last i a b =
              let u' : Unchanged p n header body (suc m) s xs =
              (λ ys buffer out rest t l x q.
              u ys buffer out (rest ++ last ∷ [])
              (i ∙ ap (λ (x : List Call). x ++ last ∷ []) t ∙ append_assoc ys (turn buffer out ∷ rest) (last ∷ [])) l x q) in
              let r = sofar n header body (suc m) p e xs s 0 m (good since) w (omega arith) u' in
              let len : length (left p s xs) + length (left p (stage_from s xs) (last ∷ [])) ≡ suc m =
              sym (length-append (left p s xs) (left p (stage_from s xs) (last ∷ [])))
              ∙ ap length (sym (left_then p s xs (last ∷ [])))
              ∙ ap (λ (x : List Call). length (left p s x)) (sym i)
              ∙ b in
              ap (λ (x : Stage). is_free (place_at x p)) (on calls)
              ∙ ap (λ (x : List Call). is_free (place_at (stage_from s x) p)) i
              ∙ ap (λ (x : Stage). is_free (place_at x p)) (stage_append s xs (last ∷ []))
              ∙ one_more (stage_from s xs) (length (left p s xs)) last (all_sixteen s xs (good since))
              (r.place a ∙ ap (λ (x : ℕ). holding n (suc x)) (none_plus (length (left p s xs))))
              (λ buffer out j. u xs buffer out [] (i ∙ ap (λ (x : Call). xs ++ x ∷ []) j) a) (omega arith) (len ∙ h)

-- ---- after a join
pub told_once : {r q : Reply ℕ} → ◌≡◌ {A = List Answer} (joined r ∷ []) (joined q ∷ []) → r ≡ q
told_once e = cc

-- the hypothesis, of the stage that the calls since have left
plainly : (p : ℕ) (n : Outgoing) (header body : List ℕ) (count : ℕ) (since calls : List Call) → LentUnchanged plain p n header body count since calls
    → Unchanged p n header body count (stage_from empty since) calls
plainly p n header body count since calls u = λ xs buffer out more e l w q.
    u xs buffer out more e l w
    (ap (λ (s : Stage). answer s (turn buffer out) ∷ []) (stage_append empty since xs) ∙ ap (λ (a : Answer). a ∷ []) q)

joins : (before : List Call) (buffer : List ℕ) (p : ℕ) (n : Outgoing) (count : ℕ) (calls : List Call)
    → ask_join (stage_from empty before) buffer p n ≡ granted count
    → LentUnchanged plain p n (header_in buffer n) (body_in buffer n) count (before ++ join buffer p n ∷ []) calls
    → Leaves plain p n (header_in buffer n) (body_in buffer n) count (before ++ join buffer p n ∷ []) calls
joins before buffer p n count calls q u =
    let s = stage_from empty before in
    let t = join_told s buffer p n count q in
    let below = leb-true p 15 t.0 in
    let c = (count_told n.request_id (header_in buffer n) (body_in buffer n) n.max_sysex count t.3).1 in
    let g = good before in
    leaves_all n (header_in buffer n) (body_in buffer n) count p c (before ++ join buffer p n ∷ []) calls
    (ap (λ (x : Stage). place_at x p) (stage_append empty before (join buffer p n ∷ []))
    ∙ ap (λ (r : Reply ℕ). place_at (after_join s p n r) p) q
    ∙ get_or-set_same s.places p (holding n 1) free_place (omega arith))
    (some_count count t.3) t.3 (plainly p n (header_in buffer n) (body_in buffer n) count (before ++ join buffer p n ∷ []) calls u)
  where
    some_count : (x : ℕ) → cut_count n.request_id (header_in buffer n) (body_in buffer n) n.max_sysex ≡ granted x → 0 < x
    some_count zero e = absurd (count_some n.request_id (header_in buffer n) (body_in buffer n) n.max_sysex e)
    some_count (suc x) e = omega arith

turned_once : {r q : Reply Handout} → ◌≡◌ {A = List Answer} (turned r ∷ []) (turned q ∷ []) → r ≡ q
turned_once e = cc

pub taking_turns : TakingTurns plain
taking_turns =
    record {
      served = λ before p calls w l.
          served_from calls (stage_from empty before) p 15 (good before) w (below (p + 16 - (stage_from empty before).turn % 16)) (omega arith);
      leaves = λ before buffer p n count calls e u. joins before buffer p n count calls (told_once e) u;
      none = λ before buffer out p e.
          nobody_waits before p (turn_nobody (stage_from empty before) buffer (length out) (turned_once e)) (both (is_free (place_at (stage_from empty before) p)));
      refusals = λ before c a e r. stage_append empty before (c ∷ []) ∙ unchanged (stage_from empty before) c (ap is_refused (answered before c a e) ∙ r);
    }
  where
    below : (x : ℕ) → x % 16 ≤ 15
    below x = omega arith

    answered : (before : List Call) (c : Call) (a : Answer) → ◌≡◌ {A = List Answer} (answer (stage_from empty before) c ∷ []) (a ∷ [])
        → answer (stage_from empty before) c ≡ a
    answered before c a e = cc

    nobody_waits : (before : List Call) (p : ℕ) → next_waiting (stage_from empty before) ≡ None
        → (is_free (place_at (stage_from empty before) p) ≡ true) ⊎ (is_free (place_at (stage_from empty before) p) ≡ false)
        → is_free (place_at (stage_from empty before) p) ≡ true
    nobody_waits before p e (inl f) = f
    nobody_waits before p e (inr w) = absurd (never_none (stage_from empty before) p (good before) w e)
