-- Laws of pieces: with distinct numbers their order does not matter, and what they hold.
-- Assumes nothing.
use Prim.Native.Nat.{ℕ, ◌+◌, ◌≤◌}
use mathlib.Core.Bool.{Bool, true, false, cond}
use mathlib.Core.List.{List, [], ◌∷◌, ◌++◌, map}
use mathlib.Core.Path.{◌≡◌, refl, sym, ap, ◌∙◌}
use native.Mathlib.Omega.{arith}
use borrow.Author.Tests.{leb-true, leb-false, le-leb, eqb-false}
use lib.Dec.{leb, eqb}
use lib.ListN.{length}
use Rattle.pe_slot.specs.Slot.{Piece, held, body_length, insert, in_order}
use Rattle.pe_run.specs.Lists.{memb, Perm, empty, skip, swap, then}
use Rattle.pe_run.proofs.ListLaws.{eqb_sym, or_false_left, All, Distinct}
use Rattle.pe_run.proofs.PermLaws.{perm_map, perm_distinct}

abbrev pub num_of : Piece → ℕ
num_of p = p.number

-- ---- order
insert_comm : (p q : Piece) (l : List Piece) → eqb p.number q.number ≡ false → insert p (insert q l) ≡ insert q (insert p l)
unfolding insert
insert_comm p q [] d = go (leb p.number q.number) (leb q.number p.number) refl refl
  where
    go : (a b : Bool) → leb p.number q.number ≡ a → leb q.number p.number ≡ b
        → cond (leb q.number p.number) (q ∷ p ∷ []) (p ∷ q ∷ []) ≡ cond (leb p.number q.number) (p ∷ q ∷ []) (q ∷ p ∷ [])
    go true true e f = absurd (eqb-false p.number q.number d (omega (arith, leb-true p.number q.number e, leb-true q.number p.number f)))
    go true false e f = rw (e, f)
    go false true e f = rw (e, f)
    go false false e f = absurd (omega (arith, leb-false p.number q.number e, leb-false q.number p.number f))
insert_comm p q (x ∷ xs) d =
    go (leb p.number q.number) (leb q.number p.number) (leb x.number p.number) (leb x.number q.number) refl refl refl refl
    (insert_comm p q xs d)
  where
    go : (a b c e : Bool) → leb p.number q.number ≡ a → leb q.number p.number ≡ b → leb x.number p.number ≡ c
        → leb x.number q.number ≡ e
        → insert p (insert q xs) ≡ insert q (insert p xs) → insert p (insert q (x ∷ xs)) ≡ insert q (insert p (x ∷ xs))
    go true true c e h₁ h₂ h₃ h₄ ih =
        absurd (eqb-false p.number q.number d (omega (arith, leb-true p.number q.number h₁, leb-true q.number p.number h₂)))
    go false false c e h₁ h₂ h₃ h₄ ih = absurd (omega (arith, leb-false p.number q.number h₁, leb-false q.number p.number h₂))
    go true false true true h₁ h₂ h₃ h₄ ih = simp (h₃, h₄, ih)
    go true false true false h₁ h₂ h₃ h₄ ih =
        absurd (omega (arith, leb-true p.number q.number h₁, leb-true x.number p.number h₃, leb-false x.number q.number h₄))
    go true false false true h₁ h₂ h₃ h₄ ih = simp (h₁, h₃, h₄)
    go true false false false h₁ h₂ h₃ h₄ ih = simp (h₁, h₂, h₃, h₄)
    go false true true true h₁ h₂ h₃ h₄ ih = simp (h₃, h₄, ih)
    go false true true false h₁ h₂ h₃ h₄ ih = simp (h₂, h₃, h₄)
    go false true false true h₁ h₂ h₃ h₄ ih =
        absurd (omega (arith, leb-true q.number p.number h₂, leb-false x.number p.number h₃, leb-true x.number q.number h₄))
    go false true false false h₁ h₂ h₃ h₄ ih = simp (h₁, h₂, h₃, h₄)

-- Pieces with distinct numbers stand in the same order however they came.
pub perm_in_order : (sorted : List Piece) {ps qs : List Piece} → Perm ps qs → Distinct (map num_of ps) → in_order sorted ps ≡ in_order sorted qs
unfolding in_order
perm_in_order sorted empty d = refl
perm_in_order sorted (skip {x = x} p) d = perm_in_order (insert x sorted) p d.1
perm_in_order sorted (swap {x = x} {y = y} {xs = xs}) d =
    ap (λ (l : List Piece). in_order l xs)
    (sym (insert_comm x y sorted (or_false_left (eqb x.number y.number) (memb x.number (map num_of xs)) d.0)))
perm_in_order sorted (then p q) d = perm_in_order sorted p d ∙ perm_in_order sorted q (perm_distinct (perm_map num_of p) d)

-- the highest number goes last
pub insert_end : (p : Piece) (qs : List Piece) → All (λ (q : Piece). q.number ≤ p.number) qs → insert p qs ≡ qs ++ (p ∷ [])
unfolding insert
insert_end p [] a = refl
insert_end p (q ∷ qs) a = rw (le-leb q.number p.number a.0) (ap (λ (l : List Piece). q ∷ l) (insert_end p qs a.1))

-- ---- what is held
pub held_memb : (n : ℕ) (ps : List Piece) → held n ps ≡ memb n (map num_of ps)
unfolding held
held_memb n [] = refl
held_memb n (p ∷ ps) = rw (eqb_sym p.number n) (ap (λ (b : Bool). cond (eqb n p.number) true b) (held_memb n ps))

pub body_len_append : (ps qs : List Piece) → body_length (ps ++ qs) ≡ body_length ps + body_length qs
unfolding body_length
body_len_append [] qs = omega arith
body_len_append (p ∷ ps) qs = omega (arith, body_len_append ps qs)

pub perm_body_len : {ps qs : List Piece} → Perm ps qs → body_length ps ≡ body_length qs
unfolding body_length
perm_body_len empty = refl
perm_body_len (skip {x = x} p) = ap (λ (n : ℕ). length x.bytes + n) (perm_body_len p)
perm_body_len (swap {x = x} {y = y} {xs = xs}) = omega arith
perm_body_len (then p q) = perm_body_len p ∙ perm_body_len q
