-- Rows in an order are the same rows in another order; and where no two may change places, it does not matter in which they came.
-- Assumes nothing.
use Prim.Native.Nat.{ℕ}
use mathlib.Core.Bool.{Bool, true, false, cond}
use mathlib.Core.List.{List, [], ◌∷◌, ◌++◌, map, append-nil}
use mathlib.Core.Logic.{◌⊎◌, inl, inr}
use mathlib.Core.Path.{◌≡◌, refl, sym, ap, ◌∙◌, subst}
use native.Mathlib.Omega.{arith}
use borrow.Author.Tests.{le-leb, leb-true, leb-false, eq-eqb}
use Rattle.seven_bit.proofs.ReplyLaws.{both}
use Rattle.pe_reassembler.specs.declared.shape.Shape.{Shape}
use Rattle.pe_reassembler.specs.Open.{Shown, ahead, open_slots, open_rows}
use Rattle.pe_reassembler.specs.Order.{put_in, ranked, Ascending}
use Rattle.pe_reassembler.specs.Poll.{by_tick}
use Rattle.pe_reassembler.proofs.OrderLaws.{Ranks, order_ascending}
use Rattle.pe_reassembler.proofs.AheadLaws.{ahead_ranks, ahead_both}
use Rattle.pe_run.specs.Lists.{Perm, empty, skip, swap, then}
use Rattle.pe_run.specs.Model.{Entry, Model, is_at}
use Rattle.pe_run.specs.Calls.{shown_of}
use Rattle.pe_run.proofs.ListLaws.{never}
use Rattle.pe_run.proofs.PermLaws.{perm_refl, perm_sym, perm_append_right, perm_middle}
use Rattle.pe_run.proofs.ModelLaws.{find_none_head, Unique, perm_unique}

module _ {A : Type 0} (test : A → A → Bool) where
  put_perm : (r : A) (rs : List A) → Perm (put_in test r rs) (r ∷ rs)
  unfolding put_in
  put_perm r [] = perm_refl (r ∷ [])
  put_perm r (u ∷ us) = go (test u r) (put_perm r us)
    where
      go : (b : Bool) → Perm (put_in test r us) (r ∷ us) → Perm (cond b (u ∷ put_in test r us) (r ∷ u ∷ us)) (r ∷ u ∷ us)
      go true p = then (skip p) swap
      go false p = perm_refl (r ∷ u ∷ us)

  order_onto : (done rs : List A) → Perm (ranked test done rs) (done ++ rs)
  unfolding ranked
  order_onto done [] = subst (λ (l : List A). Perm done l) (sym (append-nil done)) (perm_refl done)
  order_onto done (r ∷ rs) =
      then (order_onto (put_in test r done) rs) (then (perm_append_right rs (put_perm r done)) (perm_sym (perm_middle r done rs)))

  pub order_perm : (rs : List A) → Perm (ranked test [] rs) rs
  order_perm rs = order_onto [] rs

  -- behind one that may stand ahead, and ahead of one that may not
  put_behind : (r u : A) (us : List A) → test u r ≡ true → put_in test r (u ∷ us) ≡ u ∷ put_in test r us
  unfolding put_in
  put_behind r u us e = rw e

  put_ahead : (r u : A) (us : List A) → test u r ≡ false → put_in test r (u ∷ us) ≡ r ∷ u ∷ us
  unfolding put_in
  put_ahead r u us e = rw e

  -- two that may not change places stand one before the other, whichever is put in first
  module _ (ranks : Ranks test) (x y : A) (e : test x y ≡ true) (f : test y x ≡ false) where
    put_both : (rs : List A) → put_in test y (put_in test x rs) ≡ put_in test x (put_in test y rs)
    unfolding put_in
    put_both [] = put_behind y x [] e ∙ sym (put_ahead x y [] f)
    put_both (u ∷ us) = go (both (test u x)) (both (test u y)) (put_both us)
      where
        ahead_of : test u x ≡ false → put_in test y (put_in test x (u ∷ us)) ≡ x ∷ put_in test y (u ∷ us)
        ahead_of a = ap (put_in test y) (put_ahead x u us a) ∙ put_behind y x (u ∷ us) e

        go : (test u x ≡ true) ⊎ (test u x ≡ false) → (test u y ≡ true) ⊎ (test u y ≡ false)
            → put_in test y (put_in test x us) ≡ put_in test x (put_in test y us)
            → put_in test y (put_in test x (u ∷ us)) ≡ put_in test x (put_in test y (u ∷ us))
        go (inl a) (inl b) h =
            ap (put_in test y) (put_behind x u us a) ∙ put_behind y u (put_in test x us) b ∙ ap (λ (l : List A). u ∷ l) h
            ∙ sym (ap (put_in test x) (put_behind y u us b) ∙ put_behind x u (put_in test y us) a)
        go (inl a) (inr b) h = never (sym (ranks.follows u x y a e) ∙ b)
        go (inr a) (inl b) h =
            ahead_of a ∙ ap (λ (l : List A). x ∷ l) (put_behind y u us b)
            ∙ sym (ap (put_in test x) (put_behind y u us b) ∙ put_ahead x u (put_in test y us) a)
        go (inr a) (inr b) h =
            ahead_of a ∙ ap (λ (l : List A). x ∷ l) (put_ahead y u us b) ∙ sym (ap (put_in test x) (put_ahead y u us b) ∙ put_ahead x y (u ∷ us) f)

-- ---- a poll's rows
pub tick_ranks : Ranks by_tick
tick_ranks =
    record {
      either = λ t u e. let h = leb-false t.tick u.tick e in le-leb u.tick t.tick (omega arith);
      follows = λ t u w e f.
          let h = leb-true t.tick u.tick e in
          let k = leb-true u.tick w.tick f in
          le-leb t.tick w.tick (omega arith);
    }

-- ---- an open list's rows
-- Whatever the numbers hold: each open slot once, and each row may stand ahead of all behind it.
pub each_open_once : (shape : Shape) (numbers : List ℕ) → Perm (open_rows shape numbers) (open_slots shape numbers)
unfolding open_rows
each_open_once shape numbers = order_perm ahead (open_slots shape numbers)

pub open_ascending : (shape : Shape) (numbers : List ℕ) → Ascending ahead (open_rows shape numbers)
unfolding open_rows
open_ascending shape numbers = order_ascending ahead ahead_ranks [] (open_slots shape numbers) tt

-- two entries under another peer or id
swap_shown : (x y : Entry) → is_at x.peer x.request_id y ≡ false → (done : List Shown)
    → put_in ahead (shown_of y) (put_in ahead (shown_of x) done) ≡ put_in ahead (shown_of x) (put_in ahead (shown_of y) done)
swap_shown x y apart done = go (both (ahead (shown_of x) (shown_of y))) (both (ahead (shown_of y) (shown_of x)))
  where
    go : (ahead (shown_of x) (shown_of y) ≡ true) ⊎ (ahead (shown_of x) (shown_of y) ≡ false)
        → (ahead (shown_of y) (shown_of x) ≡ true) ⊎ (ahead (shown_of y) (shown_of x) ≡ false)
        → put_in ahead (shown_of y) (put_in ahead (shown_of x) done) ≡ put_in ahead (shown_of x) (put_in ahead (shown_of y) done)
    go (inl e) (inl f) =
        let s = ahead_both (shown_of x) (shown_of y) e f in
        let same : is_at x.peer x.request_id y ≡ true = rw (eq-eqb x.peer y.peer s.1, eq-eqb x.request_id y.request_id s.2) in
        never (sym same ∙ apart)
    go (inl e) (inr f) = put_both ahead ahead_ranks (shown_of x) (shown_of y) e f done
    go (inr e) f = sym (put_both ahead ahead_ranks (shown_of y) (shown_of x) (ahead_ranks.either (shown_of x) (shown_of y) e) e done)

pub shown_same : {b d : Model} → Perm b d → Unique b → (done : List Shown) → ranked ahead done (map shown_of b) ≡ ranked ahead done (map shown_of d)
unfolding ranked
shown_same empty u done = refl
shown_same (skip {x = x} p) u done = shown_same p u.1 (put_in ahead (shown_of x) done)
shown_same (swap {x = x} {y = y} {xs = xs}) u done =
    ap (λ (l : List Shown). ranked ahead l (map shown_of xs)) (swap_shown x y (find_none_head x.peer x.request_id y xs u.0) done)
shown_same (then p q) u done = shown_same p u done ∙ shown_same q (perm_unique p u) done
