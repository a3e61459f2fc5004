-- A place that waits is served, and what leaves from it is its list's chunks in order.
-- Assumes nothing.
use Prim.Native.Nat.{ℕ, zero, suc, ◌+◌, ◌-◌, ◌*◌, ◌%◌, ◌<◌, ◌≤◌}
use mathlib.Core.Bool.{Bool, true, false, cond}
use mathlib.Core.List.{List, [], ◌∷◌}
use mathlib.Core.Path.{◌≡◌, refl, sym, ap, ap₂, subst, ◌∙◌}
use native.Mathlib.Omega.{arith}
use borrow.Author.Tests.{eq-eqb, lt-ltb}
use lib.Dec.{eqb}
use lib.ListN.{length, take}
use lib.Seq.{take-nil}
use Rattle.seven_bit.specs.Reply.{granted}
use Rattle.seven_bit.proofs.PartLaws.{part_none}
use Rattle.pe_chunker.specs.Cut.{body_pieces}
use Rattle.pe_stage.specs.declared.place.Outgoing.{Outgoing}
use Rattle.pe_stage.specs.Stage.{holding, Place, Stage, is_free, place_at, Written, Handout, hands, ask_chunk}
use Rattle.pe_turns.specs.Calls.{Call, Answer}
use Rattle.pe_turns.specs.Turns.{turns_in, is_served, sent_from, chunk_of, chunks_from}
use Rattle.pe_turns.proofs.Plain.{answer, after, stage_from, answers, left, Unchanged}
use Rattle.pe_turns.proofs.Waiting.{distance, low}
use Rattle.pe_turns.proofs.Steps.{sixteen, Step, quiet, other, ours, step}
use Rattle.pe_turns.proofs.Sending.{holding_busy, chunk_sent, place_after}

-- ---- served
abbrev Among : ℕ → ℕ → List Handout → Type 0
Among p d turns = d < length turns → is_served p (take (suc d) turns) ≡ true

among_other : (p q d : ℕ) (f : Written) (turns : List Handout) (x y : ℕ) → eqb p q ≡ false → x < y → y ≤ d → ((d : ℕ) → x ≤ d → Among p d turns)
    → Among p d (hands q f ∷ turns)
among_other p q zero f turns x y n a b h l = absurd (omega arith)
among_other p q (suc d) f turns x y n a b h l = ap (λ (t : Bool). cond t true (is_served p (take (suc d) turns))) n ∙ h d (omega arith) (omega arith)

pub served_from : (calls : List Call) (s : Stage) (p d : ℕ) → length s.places ≡ 16 → is_free (place_at s p) ≡ false → distance p (s.turn % 16) ≤ d
    → Among p d (turns_in (answers s calls))
served_from [] s p d g w a = λ l. absurd (omega arith)
served_from (c ∷ calls) s p d g w a =
    go (λ e x. served_from calls (after s c) p x (sixteen s c g) (ap is_free e ∙ w)) (step s p c g w)
  where
    go : (place_at (after s c) p ≡ place_at s p → (x : ℕ) → distance p ((after s c).turn % 16) ≤ x → Among p x (turns_in (answers (after s c) calls))) → Step s p c
        → Among p d (turns_in (answers s (c ∷ calls)))
    go ih (quiet e pl t) =
        subst (Among p d) (sym (e (answers (after s c) calls)))
        (ih pl d (subst (λ (x : ℕ). distance p (x % 16) ≤ d) (sym t) a))
    go ih (other q f e n pl l) =
        subst (Among p d) (sym (e (answers (after s c) calls)))
        (among_other p q d f (turns_in (answers (after s c) calls)) _ _ n l a (ih pl))
    go ih (ours f buffer room i o e q h) =
        subst (Among p d) (sym (e (answers (after s c) calls)))
        (λ l. ap (λ (t : Bool). cond t true (is_served p (take d (turns_in (answers (after s c) calls))))) (eq-eqb p p refl))

-- ---- complete and in order
module _ (n : Outgoing) (header body : List ℕ) (count : ℕ) (p : ℕ) where
  -- k chunks have left before, and m and one more are to come; what leaves in so many turns from a stage with this turn
  pub record Sofar (k m from : ℕ) (out : List Written) (turns : ℕ) (end : Stage) : Type 0 where
    pub order : take (suc m) out ≡ take (length out) (chunks_from n header body count (suc k) (suc m))
    pub place : length out < suc m → place_at end p ≡ holding n (suc (k + length out))
    pub complete : (d : ℕ) → distance p (from % 16) ≤ d → d + 16 * m < turns → suc m ≤ length out

  sofar_out : (k m from : ℕ) (out out' : List Written) (turns turns' : ℕ) (end : Stage) → out ≡ out' → turns ≡ turns' → Sofar k m from out' turns' end
      → Sofar k m from out turns end
  sofar_out k m from out out' turns turns' end e t r =
      subst (λ (x : List Written). Sofar k m from x turns end) (sym e) (subst (λ (x : ℕ). Sofar k m from out' x end) (sym t) r)

  sofar_other : (k m from from' : ℕ) (out : List Written) (turns : ℕ) (end : Stage) → distance p (from' % 16) < distance p (from % 16)
      → Sofar k m from' out turns end
      → Sofar k m from out (suc turns) end
  sofar_other k m from from' out turns end l r =
      record { order = r.order; place = r.place; complete = λ d a h. go d _ _ l a h r.complete }
    where
      go : (d x y : ℕ) → x < y → y ≤ d → d + 16 * m < suc turns → ((d : ℕ) → x ≤ d → d + 16 * m < turns → suc m ≤ length out) → suc m ≤ length out
      go d x y l a h f = f (d - 1) (omega arith) (omega arith)

  sofar_last : (k from : ℕ) (f : Written) (out : List Written) (turns : ℕ) (end : Stage) → f ≡ chunk_of n header body count (suc k)
      → Sofar k 0 from (f ∷ out) turns end
  sofar_last k from f out turns end e =
      record {
        order = ap₂ (λ (x : Written) (xs : List Written). x ∷ xs) e (part_none 0 out ∙ sym (take-nil (length out)));
        place = λ l. absurd (omega arith);
        complete = λ d a h. omega arith;
      }

  sofar_next : (k m from from' : ℕ) (f : Written) (out : List Written) (turns : ℕ) (end : Stage) → f ≡ chunk_of n header body count (suc k)
      → Sofar (suc k) m from' out turns end → Sofar k (suc m) from (f ∷ out) (suc turns) end
  sofar_next k m from from' f out turns end e r =
      record {
        order = ap₂ (λ (x : Written) (xs : List Written). x ∷ xs) e r.order;
        place = λ l. r.place (omega arith) ∙ ap (holding n) (shift (length out));
        complete = λ d a h. go d h (r.complete 15 (below (p + 16 - from' % 16)));
      }
    where
      shift : (x : ℕ) → suc (suc k + x) ≡ suc (k + suc x)
      shift x = omega arith

      below : (x : ℕ) → x % 16 ≤ 15
      below x = omega arith

      go : (d : ℕ) → d + 16 * suc m < suc turns → (15 + 16 * m < turns → suc m ≤ length out) → suc (suc m) ≤ suc (length out)
      go d h f = let x = f (omega arith) in omega arith

  -- the calls after one of them
  later : (c : Call) (calls : List Call) (s : Stage) (more total add : ℕ) → total ≡ add + more
      → ((some : List Call) → length (left p s (c ∷ some)) ≡ add + length (left p (after s c) some))
      → Unchanged p n header body total s (c ∷ calls) → Unchanged p n header body more (after s c) calls
  later c calls s more total add t e u = λ some buffer out rest h l w q.
      u (c ∷ some) buffer out rest (ap (λ (x : List Call). c ∷ x) h) (let z = e some in omega arith) w q

  pub sofar : (cut : length (body_pieces n.max_sysex (length header) body) ≡ count) (calls : List Call) (s : Stage) (k m : ℕ)
      → length s.places ≡ 16 → place_at s p ≡ holding n (suc k)
      → k + suc m ≡ count → Unchanged p n header body (suc m) s calls
      → Sofar k m s.turn (left p s calls) (length (turns_in (answers s calls))) (stage_from s calls)
  sofar cut [] s k m g w t u =
      record { order = refl; place = λ l. w ∙ ap (holding n) (zeros k); complete = λ d a h. absurd (omega arith) }
    where
      zeros : (x : ℕ) → suc x ≡ suc (x + 0)
      zeros x = omega arith
  sofar cut (c ∷ calls) s k m g w t u =
      go m t u (λ x y. sofar cut calls (after s c) x y (sixteen s c g)) (step s p c g (ap is_free w ∙ holding_busy n k))
    where
      rest : List Handout
      rest = turns_in (answers (after s c) calls)

      go : (m : ℕ) → k + suc m ≡ count → Unchanged p n header body (suc m) s (c ∷ calls)
          → ((x y : ℕ) → place_at (after s c) p ≡ holding n (suc x) → x + suc y ≡ count → Unchanged p n header body (suc y) (after s c) calls
          → Sofar x y (after s c).turn (left p (after s c) calls) (length (turns_in (answers (after s c) calls))) (stage_from (after s c) calls))
          → Step s p c → Sofar k m s.turn (left p s (c ∷ calls)) (length (turns_in (answers s (c ∷ calls)))) (stage_from s (c ∷ calls))
      go m t u ih (quiet e pl h) =
          subst (λ (x : ℕ). Sofar k m x (left p s (c ∷ calls)) (length (turns_in (answers s (c ∷ calls)))) (stage_from s (c ∷ calls))) h
          (sofar_out k m (after s c).turn _ _ _ _ _ (ap (sent_from p) (e (answers (after s c) calls))) (ap length (e (answers (after s c) calls)))
          (ih k m (pl ∙ w) t
          (later c calls s (suc m) (suc m) 0 (omega arith)
          (λ some. ap (λ (x : List Handout). length (sent_from p x)) (e (answers (after s c) some)) ∙ plus _) u)))
        where
          plus : (x : ℕ) → x ≡ 0 + x
          plus x = omega arith
      go m t u ih (other q f e nq pl l) =
          sofar_out k m s.turn _ _ _ _ _ (out (answers (after s c) calls)) (ap length (e (answers (after s c) calls)))
          (sofar_other k m s.turn (after s c).turn _ _ _ l
          (ih k m (pl ∙ w) t (later c calls s (suc m) (suc m) 0 (omega arith) (λ some. ap length (out (answers (after s c) some)) ∙ plus _) u)))
        where
          plus : (x : ℕ) → x ≡ 0 + x
          plus x = omega arith

          out : (told : List Answer) → sent_from p (turns_in (answer s c ∷ told)) ≡ sent_from p (turns_in told)
          out told = ap (sent_from p) (e told) ∙ ap (λ (b : Bool). cond b (f ∷ sent_from p (turns_in told)) (sent_from p (turns_in told))) nq
      go m t u ih (ours f buffer room i o e q h) = by m t u
        where
          out : (told : List Answer) → sent_from p (turns_in (answer s c ∷ told)) ≡ f ∷ sent_from p (turns_in told)
          out told = ap (sent_from p) (e told) ∙ ap (λ (b : Bool). cond b (f ∷ sent_from p (turns_in told)) (sent_from p (turns_in told))) (eq-eqb p p refl)

          is : (m : ℕ) → Unchanged p n header body (suc m) s (c ∷ calls) → f ≡ chunk_of n header body count (suc k)
          is m u =
              let v = u [] buffer room calls (ap (λ (x : Call). x ∷ calls) i) (omega arith) f o in
              chunk_sent buffer (length room) n (suc k) count header body f
              (subst (λ (x : Place). ◌≡◌ (ask_chunk buffer (length room) x) (granted f)) w q) v.0 v.1 cut

          by : (m : ℕ) → k + suc m ≡ count → Unchanged p n header body (suc m) s (c ∷ calls)
              → Sofar k m s.turn (left p s (c ∷ calls)) (length (turns_in (answers s (c ∷ calls)))) (stage_from s (c ∷ calls))
          by zero t u =
              sofar_out k 0 s.turn _ _ _ _ _ (out (answers (after s c) calls)) (ap length (e (answers (after s c) calls)))
              (sofar_last k s.turn f _ _ _ (is 0 u))
          by (suc m) t u =
              sofar_out k (suc m) s.turn _ _ _ _ _ (out (answers (after s c) calls)) (ap length (e (answers (after s c) calls)))
              (sofar_next k m s.turn (after s c).turn f _ _ _ (is (suc m) u)
              (ih (suc k) m
              (ap (λ (x : Stage). place_at x p) h
              ∙ place_after s p n (suc k) count _ f (low s.places p (ap is_free w ∙ holding_busy n k)) w (is (suc m) u)
              ∙ ap (λ (b : Bool). holding n (cond b (suc k + 1) 0)) (lt-ltb (suc k) count (omega arith))
              ∙ ap (holding n) (one k))
              (omega arith)
              (later c calls s (suc m) (suc (suc m)) 1 (omega arith) (λ some. ap length (out (answers (after s c) some)) ∙ plus _) u)))
            where
              one : (x : ℕ) → suc x + 1 ≡ suc (suc x)
              one x = omega arith

              plus : (x : ℕ) → suc x ≡ 1 + x
              plus x = omega arith
