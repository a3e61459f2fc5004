-- A test that antt computes: is what may follow a byte in one expression what another expression matches? And what its yes tells.
-- Assumes nothing.
use Prim.Native.Nat.{ℕ, ◌≤◌}
use mathlib.Core.Bool.{Bool, true, false, cond, ◌&&◌, ◌||◌, beq, true≢false}
use mathlib.Core.List.{List, [], ◌∷◌, ◌++◌, append-nil}
use mathlib.Core.Logic.{◌⊎◌, inl, inr, ⊎_elim, ◌↔◌}
use mathlib.Core.Path.{◌≡◌, refl, sym, ap, ◌∙◌, subst}
use borrow.Author.Tests.{leb-true, le-leb, eqb-true}
use lib.Dec.{leb, eqb}
use Rattle.flat_json.specs.Abnf.{Abnf, never, empty, range, ◌then◌, ◌or◌, many, Matches}
use Rattle.flat_json.proofs.Branches.{InTurn, push, push_in, push_out, Branch, branch, Takes, takes_left, takes_right, takes_told, branches, branches_all}
use Rattle.flat_json.proofs.Branches.{branches_only, ends, ends_yes, ends_only, and_left, and_right, and_both, or_told, or_first, or_second}

-- one of several lists of parts matches
unfoldable pub Any : List (List Abnf) → List ℕ → Type 0
Any [] w = ⊥
Any (x ∷ xs) w = InTurn x w ⊎ Any xs w

-- the parts that are still to come behind a byte
unfoldable pub behind : ℕ → List Branch → List (List Abnf)
behind b [] = []
behind b (branch low high rest ∷ bs) = cond (leb low b && leb b high) (rest ∷ behind b bs) (behind b bs)

pub behind_all : (bs : List Branch) (b : ℕ) (w : List ℕ) → Takes bs b w → Any (behind b bs) w
unfolding Takes Any behind
behind_all [] b w t = t
behind_all (branch low high rest ∷ bs) b w t =
    ⊎_elim
    (λ h. yes_first (leb low b && leb b high) (and_both (leb low b) (leb b high) (le-leb low b h.0) (le-leb b high h.1)) h.2)
    (λ h. later (leb low b && leb b high) (behind_all bs b w h))
    t
  where
    yes_first : (t : Bool) → t ≡ true → InTurn rest w → Any (cond t (rest ∷ behind b bs) (behind b bs)) w
    yes_first true e m = inl m
    yes_first false e m = absurd (true≢false (sym e))

    later : (t : Bool) → Any (behind b bs) w → Any (cond t (rest ∷ behind b bs) (behind b bs)) w
    later true m = inr m
    later false m = m

pub behind_only : (bs : List Branch) (b : ℕ) (w : List ℕ) → Any (behind b bs) w → Takes bs b w
unfolding Takes Any behind
behind_only [] b w m = m
behind_only (branch low high rest ∷ bs) b w m = go (leb low b && leb b high) refl (λ k. behind_only bs b w k) m
  where
    go : (t : Bool) → (leb low b && leb b high) ≡ t → (Any (behind b bs) w → Takes bs b w) → Any (cond t (rest ∷ behind b bs) (behind b bs)) w
        → ((low ≤ b) × (b ≤ high) × InTurn rest w) ⊎ Takes bs b w
    go true e more m = ⊎_elim (λ h. inl (
      leb-true low b (and_left (leb low b) (leb b high) e),
      leb-true b high
          (and_right (leb low b) (leb b high) e),
      h,
    )) (λ h. inr (more h)) m
    go false e more m = inr (more m)

-- all their branches, and whether one of them matches the empty text
unfoldable pub all_branches : List (List Abnf) → List Branch
all_branches [] = []
all_branches (x ∷ xs) = branches x ++ all_branches xs

unfoldable pub any_ends : List (List Abnf) → Bool
any_ends [] = false
any_ends (x ∷ xs) = ends x || any_ends xs

pub any_all : (xs : List (List Abnf)) (b : ℕ) (w : List ℕ) → Any xs (b ∷ w) → Takes (all_branches xs) b w
unfolding Any all_branches Takes
any_all [] b w m = m
any_all (x ∷ xs) b w m =
    ⊎_elim (λ h. takes_left (branches x) (all_branches xs) b w (branches_all x b w h)) (λ h. takes_right (branches x) (all_branches xs) b w (any_all xs b w h)) m

pub any_only : (xs : List (List Abnf)) (b : ℕ) (w : List ℕ) → Takes (all_branches xs) b w → Any xs (b ∷ w)
unfolding Any all_branches Takes
any_only [] b w t = t
any_only (x ∷ xs) b w t =
    ⊎_elim (λ h. inl (branches_only x b w h)) (λ h. inr (any_only xs b w h)) (takes_told (branches x) (all_branches xs) b w t)

pub any_ends_yes : (xs : List (List Abnf)) → any_ends xs ≡ true → Any xs []
unfolding Any any_ends
any_ends_yes [] e = absurd (true≢false (sym e))
any_ends_yes (x ∷ xs) e = ⊎_elim (λ h. inl (ends_yes x h)) (λ h. inr (any_ends_yes xs h)) (or_told (ends x) (any_ends xs) e)

pub any_ends_only : (xs : List (List Abnf)) → Any xs [] → any_ends xs ≡ true
unfolding Any any_ends
any_ends_only [] m = absurd m
any_ends_only (x ∷ xs) m = ⊎_elim (λ h. or_first (ends x) (any_ends xs) (ends_only x h)) (λ h. or_second (ends x) (any_ends xs) (any_ends_only xs h)) m

-- equality of expressions, parts and branches, as tests
same : Abnf → Abnf → Bool
same never never = true
same never empty = false
same never (range l' h') = false
same never (a' then c') = false
same never (a' or c') = false
same never (many a') = false
same empty never = false
same empty empty = true
same empty (range l' h') = false
same empty (a' then c') = false
same empty (a' or c') = false
same empty (many a') = false
same (range l h) never = false
same (range l h) empty = false
same (range l h) (range l' h') = eqb l l' && eqb h h'
same (range l h) (a' then c') = false
same (range l h) (a' or c') = false
same (range l h) (many a') = false
same (a then c) never = false
same (a then c) empty = false
same (a then c) (range l' h') = false
same (a then c) (a' then c') = same a a' && same c c'
same (a then c) (a' or c') = false
same (a then c) (many a') = false
same (a or c) never = false
same (a or c) empty = false
same (a or c) (range l' h') = false
same (a or c) (a' then c') = false
same (a or c) (a' or c') = same a a' && same c c'
same (a or c) (many a') = false
same (many a) never = false
same (many a) empty = false
same (many a) (range l' h') = false
same (many a) (a' then c') = false
same (many a) (a' or c') = false
same (many a) (many a') = same a a'

same_told : (x y : Abnf) → same x y ≡ true → x ≡ y
unfolding same
same_told never never e = refl
same_told never empty e = absurd (true≢false (sym e))
same_told never (range l' h') e = absurd (true≢false (sym e))
same_told never (a' then c') e = absurd (true≢false (sym e))
same_told never (a' or c') e = absurd (true≢false (sym e))
same_told never (many a') e = absurd (true≢false (sym e))
same_told empty never e = absurd (true≢false (sym e))
same_told empty empty e = refl
same_told empty (range l' h') e = absurd (true≢false (sym e))
same_told empty (a' then c') e = absurd (true≢false (sym e))
same_told empty (a' or c') e = absurd (true≢false (sym e))
same_told empty (many a') e = absurd (true≢false (sym e))
same_told (range l h) never e = absurd (true≢false (sym e))
same_told (range l h) empty e = absurd (true≢false (sym e))
same_told (range l h) (range l' h') e =
    let p : l ≡ l' = eqb-true l l' (and_left (eqb l l') (eqb h h') e) in
    let q : h ≡ h' = eqb-true h h' (and_right (eqb l l') (eqb h h') e) in
    cc
same_told (range l h) (a' then c') e = absurd (true≢false (sym e))
same_told (range l h) (a' or c') e = absurd (true≢false (sym e))
same_told (range l h) (many a') e = absurd (true≢false (sym e))
same_told (a then c) never e = absurd (true≢false (sym e))
same_told (a then c) empty e = absurd (true≢false (sym e))
same_told (a then c) (range l' h') e = absurd (true≢false (sym e))
same_told (a then c) (a' then c') e =
    let p : a ≡ a' = same_told a a' (and_left (same a a') (same c c') e) in
    let q : c ≡ c' = same_told c c' (and_right (same a a') (same c c') e) in
    cc
same_told (a then c) (a' or c') e = absurd (true≢false (sym e))
same_told (a then c) (many a') e = absurd (true≢false (sym e))
same_told (a or c) never e = absurd (true≢false (sym e))
same_told (a or c) empty e = absurd (true≢false (sym e))
same_told (a or c) (range l' h') e = absurd (true≢false (sym e))
same_told (a or c) (a' then c') e = absurd (true≢false (sym e))
same_told (a or c) (a' or c') e =
    let p : a ≡ a' = same_told a a' (and_left (same a a') (same c c') e) in
    let q : c ≡ c' = same_told c c' (and_right (same a a') (same c c') e) in
    cc
same_told (a or c) (many a') e = absurd (true≢false (sym e))
same_told (many a) never e = absurd (true≢false (sym e))
same_told (many a) empty e = absurd (true≢false (sym e))
same_told (many a) (range l' h') e = absurd (true≢false (sym e))
same_told (many a) (a' then c') e = absurd (true≢false (sym e))
same_told (many a) (a' or c') e = absurd (true≢false (sym e))
same_told (many a) (many a') e = ap many (same_told a a' e)

same_parts : List Abnf → List Abnf → Bool
same_parts [] [] = true
same_parts [] (c ∷ cs) = false
same_parts (a ∷ as') [] = false
same_parts (a ∷ as') (c ∷ cs) = same a c && same_parts as' cs

same_parts_law : (xs ys : List Abnf) → same_parts xs ys ≡ true → xs ≡ ys
unfolding same_parts
same_parts_law [] [] e = refl
same_parts_law [] (c ∷ cs) e = absurd (true≢false (sym e))
same_parts_law (a ∷ as') [] e = absurd (true≢false (sym e))
same_parts_law (a ∷ as') (c ∷ cs) e =
    let p : a ≡ c = same_told a c (and_left (same a c) (same_parts as' cs) e) in
    let q : as' ≡ cs = same_parts_law as' cs (and_right (same a c) (same_parts as' cs) e) in
    cc

same_branch : Branch → Branch → Bool
same_branch (branch l h xs) (branch l' h' ys) = eqb l l' && (eqb h h' && same_parts xs ys)

same_branch_law : (x y : Branch) → same_branch x y ≡ true → x ≡ y
unfolding same_branch
same_branch_law (branch l h xs) (branch l' h' ys) e =
    let f = and_right (eqb l l') (eqb h h' && same_parts xs ys) e in
    let p : l ≡ l' = eqb-true l l' (and_left (eqb l l') (eqb h h' && same_parts xs ys) e) in
    let q : h ≡ h' = eqb-true h h' (and_left (eqb h h') (same_parts xs ys) f) in
    let r : xs ≡ ys = same_parts_law xs ys (and_right (eqb h h') (same_parts xs ys) f) in
    cc

-- each branch of one list stands in the other
among : Branch → List Branch → Bool
among x [] = false
among x (y ∷ ys) = same_branch x y || among x ys

within : List Branch → List Branch → Bool
within [] ys = true
within (x ∷ xs) ys = among x ys && within xs ys

Goes : Branch → ℕ → List ℕ → Type 0
Goes (branch low high rest) b w = (low ≤ b) × (b ≤ high) × InTurn rest w

among_takes : (x : Branch) (ys : List Branch) (b : ℕ) (w : List ℕ) → among x ys ≡ true → Goes x b w → Takes ys b w
unfolding among Takes Goes
among_takes x [] b w e g = absurd (true≢false (sym e))
among_takes x (branch low high rest ∷ ys) b w e g =
    ⊎_elim
    (λ h. inl (subst (λ (z : Branch). Goes z b w) (same_branch_law x (branch low high rest) h) g))
    (λ h. inr (among_takes x ys b w h g))
    (or_told (same_branch x (branch low high rest)) (among x ys) e)

within_takes : (xs ys : List Branch) (b : ℕ) (w : List ℕ) → within xs ys ≡ true → Takes xs b w → Takes ys b w
unfolding within Takes Goes
within_takes [] ys b w e t = absurd t
within_takes (branch low high rest ∷ xs) ys b w e t =
    let f = and_left (among (branch low high rest) ys) (within xs ys) e in
    ⊎_elim
    (λ h. among_takes (branch low high rest) ys b w f h)
    (λ h. within_takes xs ys b w (and_right (among (branch low high rest) ys) (within xs ys) e) h)
    t

-- two lists of parts with the same branches and the same answer on the empty text match the same texts
unfoldable pub alike : List (List Abnf) → List (List Abnf) → Bool
unfolding within among same_branch same_parts same
alike xs ys = within (all_branches xs) (all_branches ys) && beq (any_ends xs) (any_ends ys)

beq_told : (a b : Bool) → beq a b ≡ true → a ≡ b
beq_told true true e = refl
beq_told true false e = absurd (true≢false (sym e))
beq_told false true e = absurd (true≢false (sym e))
beq_told false false e = refl

pub alike_all : (xs ys : List (List Abnf)) → alike xs ys ≡ true → (w : List ℕ) → Any xs w → Any ys w
unfolding alike
alike_all xs ys e [] m =
    let f = beq_told (any_ends xs) (any_ends ys) (and_right (within (all_branches xs) (all_branches ys)) (beq (any_ends xs) (any_ends ys)) e) in
    any_ends_yes ys (sym f ∙ any_ends_only xs m)
alike_all xs ys e (b ∷ w) m =
    any_only ys b w
    (within_takes (all_branches xs) (all_branches ys) b w (and_left (within (all_branches xs) (all_branches ys)) (beq (any_ends xs) (any_ends ys)) e)
    (any_all xs b w m))

-- The test: behind the byte b, what is left of a is what c matches.
unfoldable pub follows : Abnf → ℕ → Abnf → Bool
follows a b c =
    let rest = behind b (branches (push a [])) in
    let whole = push c [] ∷ [] in
    alike rest whole && alike whole rest

pub alone_in : (a : Abnf) (w : List ℕ) → Matches a w → InTurn (push a []) w
unfolding InTurn
alone_in a w m = push_in a [] w (w, [], sym (append-nil w), m, refl)

pub alone_out : (a : Abnf) (w : List ℕ) → InTurn (push a []) w → Matches a w
unfolding InTurn
alone_out a w m =
    let n = push_out a [] w m in
    let e : w ≡ n.0 = n.2 ∙ ap (λ (l : List ℕ). n.0 ++ l) n.4 ∙ append-nil n.0 in
    subst (Matches a) (sym e) n.3

pub one_out : (x : List Abnf) (w : List ℕ) → Any (x ∷ []) w → InTurn x w
unfolding Any
one_out x w m = ⊎_elim (λ h. h) (λ h. absurd h) m

pub one_in : (x : List Abnf) (w : List ℕ) → InTurn x w → Any (x ∷ []) w
unfolding Any
one_in x w m = inl m

-- What its yes tells.
pub follows_law : (a : Abnf) (b : ℕ) (c : Abnf) → follows a b c ≡ true → (w : List ℕ) → Matches a (b ∷ w) ↔ Matches c w
unfolding follows Any
follows_law a b c e w =
    let rest = behind b (branches (push a [])) in
    let whole = push c [] ∷ [] in (
      λ m. alone_out c w (one_out (push c []) w (alike_all rest whole (and_left (alike rest whole) (alike whole rest) e) w
          (behind_all (branches (push a [])) b w (branches_all (push a []) b w (alone_in a (b ∷ w) m))))),
      λ m. alone_out a (b ∷ w) (branches_only (push a []) b w (behind_only (branches (push a [])) b w
          (alike_all whole rest (and_right (alike rest whole) (alike whole rest) e) w (inl (alone_in c w m))))),
    )
