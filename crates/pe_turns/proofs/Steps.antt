-- One call, as a place that waits sees it.
-- Assumes nothing.
use Prim.Native.Nat.{ℕ, ◌+◌, ◌%◌, ◌<◌}
use mathlib.Core.Bool.{true, false}
use mathlib.Core.List.{List, ◌∷◌}
use mathlib.Core.Logic.{◌⊎◌, inl, inr}
use Rattle.std.specs.Prelude.{Option, Some, None}
use mathlib.Core.Path.{◌≡◌, refl, sym, ap, ◌∙◌}
use native.Mathlib.Omega.{arith}
use borrow.Author.Tests.{eqb-true, eqb-false}
use lib.Dec.{eqb, leb}
use lib.ListN.{length, length-set}
use lib.Seq.{get_or-set_other}
use Rattle.seven_bit.specs.Reply.{Reply, granted, refused}
use Rattle.seven_bit.proofs.ReplyLaws.{both, asked, first_granted}
use Rattle.pe_chunker.specs.Cut.{cut_count}
use Rattle.pe_stage.specs.declared.place.Outgoing.{Outgoing}
use Rattle.pe_stage.specs.Stage.{Stage, free_place, is_free, place_at, header_in, body_in, is_inside, count_in, ask_join, after_join, next_waiting, Written, Handout}
use Rattle.pe_stage.specs.Stage.{nobody, hands, ask_chunk, ask_at, ask_turn, after_turn}
use Rattle.pe_turns.specs.Calls.{Call, join, turn, Answer, turned}
use Rattle.pe_turns.specs.Turns.{turns_in}
use Rattle.pe_turns.proofs.Plain.{answer, after}
use Rattle.pe_turns.proofs.Waiting.{distance, low, distance_less, Found, found}

-- ---- what answers tell
pub join_told : (s : Stage) (buffer : List ℕ) (p : ℕ) (n : Outgoing) (count : ℕ) → ask_join s buffer p n ≡ granted count
    → (leb p 15 ≡ true) × (is_free (place_at s p) ≡ true) × (is_inside buffer n ≡ true)
    × (cut_count n.request_id (header_in buffer n) (body_in buffer n) n.max_sysex ≡ granted count)
unfolding ask_join count_in
join_told s buffer p n count q =
    let a = asked (leb p 15) 38 _ count q in
    let b = asked (is_free (place_at s p)) 39 _ count a.1 in
    let c = asked (is_inside buffer n) 30 _ count b.1 in
    (a.0, b.0, c.0, c.1)

at_hands : (s : Stage) (buffer : List ℕ) (room : ℕ) (o : Option ℕ) (q : ℕ) (f : Written) → ask_at s buffer room o ≡ granted (hands q f)
    → (o ≡ Some q) × (ask_chunk buffer room (place_at s q) ≡ granted f)
at_hands s buffer room None q f e = absurd (let z : ◌≡◌ {A = ℕ} 0 1 = cc in omega arith)
at_hands s buffer room (Some r) q f e =
    let t = first_granted (ask_chunk buffer room (place_at s r)) (λ g. granted (hands r g)) (hands q f) e in
    let e1 = t.1 in
    let e2 = t.2 in
    (cc, cc)

pub turn_hands : (s : Stage) (buffer : List ℕ) (room q : ℕ) (f : Written) → ask_turn s buffer room ≡ granted (hands q f)
    → (next_waiting s ≡ Some q) × (ask_chunk buffer room (place_at s q) ≡ granted f)
unfolding ask_turn
turn_hands s buffer room q f e = at_hands s buffer room (next_waiting s) q f e

at_nobody : (s : Stage) (buffer : List ℕ) (room : ℕ) (o : Option ℕ) → ask_at s buffer room o ≡ granted nobody → o ≡ None
at_nobody s buffer room None e = refl
at_nobody s buffer room (Some r) e =
    let t = first_granted (ask_chunk buffer room (place_at s r)) (λ g. granted (hands r g)) nobody e in
    let e2 = t.2 in
    absurd (let z : ◌≡◌ {A = ℕ} 0 1 = cc in omega arith)

pub turn_nobody : (s : Stage) (buffer : List ℕ) (room : ℕ) → ask_turn s buffer room ≡ granted nobody → next_waiting s ≡ None
unfolding ask_turn
turn_nobody s buffer room e = at_nobody s buffer room (next_waiting s) e

-- ---- the stage keeps its 16 places
pub sixteen : (s : Stage) (c : Call) → length s.places ≡ 16 → length (after s c).places ≡ 16
sixteen s (join buffer p n) g = go (ask_join s buffer p n)
  where
    go : (r : Reply ℕ) → length (after_join s p n r).places ≡ 16
    go (granted count) = length-set s.places p _ ∙ g
    go (refused number value) = g
sixteen s (turn buffer out) g = go (ask_turn s buffer (length out))
  where
    go : (r : Reply Handout) → length (after_turn s r).places ≡ 16
    go (granted nobody) = g
    go (granted (hands p f)) = length-set s.places p _ ∙ g
    go (refused number value) = g

-- ---- the first that waits
pub next_found : (s : Stage) (p : ℕ) → length s.places ≡ 16 → is_free (place_at s p) ≡ false → Found s.places 16 (s.turn % 16) p
next_found s p g w =
    let l = low s.places p w in
    found s.places 16 (s.turn % 16) p (omega arith) (omega arith) w (omega arith)

pub never_none : (s : Stage) (p : ℕ) → length s.places ≡ 16 → is_free (place_at s p) ≡ false → next_waiting s ≡ None → ⊥
never_none s p g w e =
    let r = next_found s p g w in
    let i = r.is in
    let z : ◌≡◌ {A = ℕ} 0 1 = cc in omega arith

-- ---- one call
pub data Step (s : Stage) (p : ℕ) (c : Call) : Type 0 where
  quiet : ((told : List Answer) → turns_in (answer s c ∷ told) ≡ turns_in told) → place_at (after s c) p ≡ place_at s p → (after s c).turn ≡ s.turn → Step s p c
  other : (q : ℕ) (f : Written) → ((told : List Answer) → turns_in (answer s c ∷ told) ≡ hands q f ∷ turns_in told) → eqb p q ≡ false
      → place_at (after s c) p ≡ place_at s p → distance p ((after s c).turn % 16) < distance p (s.turn % 16) → Step s p c
  ours : (f : Written) (buffer out : List ℕ) → c ≡ turn buffer out → answer s (turn buffer out) ≡ turned (granted (hands p f))
      → ((told : List Answer) → turns_in (answer s c ∷ told) ≡ hands p f ∷ turns_in told)
      → ask_chunk buffer (length out) (place_at s p) ≡ granted f → after s c ≡ after_turn s (granted (hands p f)) → Step s p c

pub step : (s : Stage) (p : ℕ) (c : Call) → length s.places ≡ 16 → is_free (place_at s p) ≡ false → Step s p c
step s p (join buffer q n) g w = go (ask_join s buffer q n) refl
  where
    go : (r : Reply ℕ) → ask_join s buffer q n ≡ r → Step s p (join buffer q n)
    go (refused number value) e =
        quiet (λ told. refl) (ap (λ (r : Reply ℕ). place_at (after_join s q n r) p) e) (ap (λ (r : Reply ℕ). (after_join s q n r).turn) e)
    go (granted count) e =
        let f = (join_told s buffer q n count e).1 in
        let apart : (p ≡ q → ⊥) = λ h. (let z : ◌≡◌ {A = ℕ} 0 1 = cc in omega arith) in
        quiet (λ told. refl)
        (ap (λ (r : Reply ℕ). place_at (after_join s q n r) p) e ∙ get_or-set_other s.places q p _ free_place apart)
        (ap (λ (r : Reply ℕ). (after_join s q n r).turn) e)
step s p (turn buffer out) g w = go (ask_turn s buffer (length out)) refl
  where
    go : (r : Reply Handout) → ask_turn s buffer (length out) ≡ r → Step s p (turn buffer out)
    go (refused number value) e =
        quiet
        (λ told. ap (λ (r : Reply Handout). turns_in (turned r ∷ told)) e)
        (ap (λ (r : Reply Handout). place_at (after_turn s r) p) e)
        (ap (λ (r : Reply Handout). (after_turn s r).turn) e)
    go (granted nobody) e = absurd (never_none s p g w (turn_nobody s buffer (length out) e))
    go (granted (hands q f)) e = by (both (eqb p q))
      where
        t : (next_waiting s ≡ Some q) × (ask_chunk buffer (length out) (place_at s q) ≡ granted f)
        t = turn_hands s buffer (length out) q f e

        tells : (told : List Answer) → turns_in (turned (ask_turn s buffer (length out)) ∷ told) ≡ hands q f ∷ turns_in told
        tells told = ap (λ (r : Reply Handout). turns_in (turned r ∷ told)) e

        by : (eqb p q ≡ true) ⊎ (eqb p q ≡ false) → Step s p (turn buffer out)
        by (inl y) =
            let h : q ≡ p = sym (eqb-true p q y) in
            ours f buffer out refl (ap turned (e ∙ ap (λ (x : ℕ). granted (hands x f)) h))
            (λ told. tells told ∙ ap (λ (x : ℕ). hands x f ∷ turns_in told) h)
            (ap (λ (x : ℕ). ask_chunk buffer (length out) (place_at s x)) (sym h) ∙ t.1)
            (ap (after_turn s) e ∙ ap (λ (x : ℕ). after_turn s (granted (hands x f))) h)
        by (inr n) =
            other q f tells n
            (ap (λ (r : Reply Handout). place_at (after_turn s r) p) e ∙ get_or-set_other s.places q p _ free_place (eqb-false p q n))
            (nearer (next_found s p g w) (ap (λ (r : Reply Handout). (after_turn s r).turn) e) (eqb-false p q n) (low s.places p w))
          where
            nearer : Found s.places 16 (s.turn % 16) p → (after_turn s (ask_turn s buffer (length out))).turn ≡ (q + 1) % 16 → (p ≡ q → ⊥)
                → p < length s.places
                → distance p ((after_turn s (ask_turn s buffer (length out))).turn % 16) < distance p (s.turn % 16)
            nearer r h d l =
                let i = r.is in
                let j = t.0 in
                let k : r.q ≡ q = cc in
                let u = r.under in
                let v = r.near in
                distance_less p q (s.turn % 16) _ (omega arith) (omega arith) (omega arith) d h (rw k at v)
