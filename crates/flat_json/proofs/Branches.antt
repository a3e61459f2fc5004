-- What may stand first: each text that an expression matches and that is not empty begins by one of the expression's branches,
-- a byte of a range with the parts that are still to come in turn.
-- Assumes nothing.
use Prim.Native.Nat.{ℕ, ◌≤◌}
use mathlib.Core.Bool.{Bool, true, false, ◌&&◌, ◌||◌, true≢false}
use mathlib.Core.List.{List, [], ◌∷◌, ◌++◌, append_assoc}
use mathlib.Core.Logic.{◌⊎◌, inl, inr, ⊎_elim}
use mathlib.Core.Path.{◌≡◌, refl, sym, ap, ◌∙◌, subst}
use native.Mathlib.Omega.{arith}
use Rattle.flat_json.specs.Abnf.{Abnf, never, empty, range, ◌then◌, ◌or◌, many, Matches, Many, none, more, Both}

-- lists: what an equation between two of them tells
pub nil_cons : {b : ℕ} {u : List ℕ} → [] ≡ b ∷ u → ⊥
nil_cons e = let z : ◌≡◌ {A = ℕ} 0 1 = cc in omega arith

pub heads_same : {a b : ℕ} {u v : List ℕ} → a ∷ u ≡ b ∷ v → a ≡ b
heads_same e = cc

pub tails_same : {a b : ℕ} {u v : List ℕ} → a ∷ u ≡ b ∷ v → u ≡ v
tails_same e = cc

-- an empty text in two parts
pub nil_parts : (u v : List ℕ) → [] ≡ u ++ v → (u ≡ []) × (v ≡ [])
nil_parts [] v e = (refl, sym e)
nil_parts (b ∷ u) v e = absurd (nil_cons e)

-- a text that is not empty, in two parts: the first is empty, or begins with the text's first byte
pub cons_parts : (b : ℕ) (w u v : List ℕ) → b ∷ w ≡ u ++ v → ((u ≡ []) × (v ≡ b ∷ w)) ⊎ ((p : List ℕ) × (u ≡ b ∷ p) × (w ≡ p ++ v))
cons_parts b w [] v e = inl (refl, sym e)
cons_parts b w (c ∷ u) v e = inr (u, ap (λ (x : ℕ). x ∷ u) (sym (heads_same e)), tails_same e)

-- tests
pub and_left : (a b : Bool) → (a && b) ≡ true → a ≡ true
and_left true b e = refl
and_left false b e = e

pub and_right : (a b : Bool) → (a && b) ≡ true → b ≡ true
and_right true b e = e
and_right false b e = absurd (true≢false (sym e))

pub and_both : (a b : Bool) → a ≡ true → b ≡ true → (a && b) ≡ true
and_both true b e f = f
and_both false b e f = e

pub or_told : (a b : Bool) → (a || b) ≡ true → (a ≡ true) ⊎ (b ≡ true)
or_told true b e = inl refl
or_told false b e = inr e

pub or_first : (a b : Bool) → a ≡ true → (a || b) ≡ true
or_first true b e = refl
or_first false b e = absurd (true≢false (sym e))

pub or_second : (a b : Bool) → b ≡ true → (a || b) ≡ true
or_second true b e = refl
or_second false b e = e

-- does an expression match the empty text?
unfoldable pub nullable : Abnf → Bool
nullable never = false
nullable empty = true
nullable (range low high) = false
nullable (a then c) = nullable a && nullable c
nullable (a or c) = nullable a || nullable c
nullable (many a) = true

pub nullable_yes : (a : Abnf) → nullable a ≡ true → Matches a []
unfolding nullable Matches
nullable_yes never e = absurd (true≢false (sym e))
nullable_yes empty e = refl
nullable_yes (range low high) e = absurd (true≢false (sym e))
nullable_yes (a then c) e = ([], [], refl, nullable_yes a (and_left (nullable a) (nullable c) e), nullable_yes c (and_right (nullable a) (nullable c) e))
nullable_yes (a or c) e = ⊎_elim (λ h. inl (nullable_yes a h)) (λ h. inr (nullable_yes c h)) (or_told (nullable a) (nullable c) e)
nullable_yes (many a) e = none

pub nullable_only : (a : Abnf) → Matches a [] → nullable a ≡ true
unfolding nullable Matches
nullable_only never m = absurd m
nullable_only empty m = refl
nullable_only (range low high) m = absurd (nil_cons m.1)
nullable_only (a then c) m =
    let parts = nil_parts m.0 m.1 m.2 in
    and_both (nullable a) (nullable c) (nullable_only a (subst (Matches a) parts.0 m.3)) (nullable_only c (subst (Matches c) parts.1 m.4))
nullable_only (a or c) m =
    ⊎_elim (λ h. or_first (nullable a) (nullable c) (nullable_only a h)) (λ h. or_second (nullable a) (nullable c) (nullable_only c h)) m
nullable_only (many a) m = refl

-- parts that are matched in turn
unfoldable pub InTurn : List Abnf → List ℕ → Type 0
InTurn [] w = w ≡ []
InTurn (a ∷ rest) w = Both (Matches a) (InTurn rest) w

-- an expression before such parts, taken apart where it is a concatenation
unfoldable pub push : Abnf → List Abnf → List Abnf
push never rest = never ∷ rest
push empty rest = rest
push (range low high) rest = range low high ∷ rest
push (a then c) rest = push a (push c rest)
push (a or c) rest = (a or c) ∷ rest
push (many a) rest = many a ∷ rest

pub push_in : (a : Abnf) (rest : List Abnf) (w : List ℕ) → Both (Matches a) (InTurn rest) w → InTurn (push a rest) w
unfolding push InTurn Matches
push_in never rest w m = m
push_in empty rest w m =
    let e : w ≡ m.1 = m.2 ∙ ap (λ (l : List ℕ). l ++ m.1) m.3 in
    subst (InTurn rest) (sym e) m.4
push_in (range low high) rest w m = m
push_in (a then c) rest w m =
    let n = m.3 in
    let e : w ≡ n.0 ++ (n.1 ++ m.1) = m.2 ∙ ap (λ (l : List ℕ). l ++ m.1) n.2 ∙ append_assoc n.0 n.1 m.1 in
    push_in a (push c rest) w (n.0, n.1 ++ m.1, e, n.3, push_in c rest (n.1 ++ m.1) (n.1, m.1, refl, n.4, m.4))
push_in (a or c) rest w m = m
push_in (many a) rest w m = m

pub push_out : (a : Abnf) (rest : List Abnf) (w : List ℕ) → InTurn (push a rest) w → Both (Matches a) (InTurn rest) w
unfolding push InTurn Matches
push_out never rest w m = m
push_out empty rest w m = ([], w, refl, refl, m)
push_out (range low high) rest w m = m
push_out (a then c) rest w m =
    let n = push_out a (push c rest) w m in
    let k = push_out c rest n.1 n.4 in
    let e : w ≡ n.0 ++ k.0 ++ k.1 = n.2 ∙ ap (λ (l : List ℕ). n.0 ++ l) k.2 ∙ sym (append_assoc n.0 k.0 k.1) in
    (n.0 ++ k.0, k.1, e, (n.0, k.0, refl, n.3, k.3), k.4)
push_out (a or c) rest w m = m
push_out (many a) rest w m = m

-- a byte of a range, and the parts that are still to come
pub data Branch : Type 0 where
  branch : ℕ → ℕ → List Abnf → Branch

-- a byte and the text behind it go by one of the branches
unfoldable pub Takes : List Branch → ℕ → List ℕ → Type 0
Takes [] b w = ⊥
Takes (branch low high rest ∷ bs) b w = ((low ≤ b) × (b ≤ high) × InTurn rest w) ⊎ Takes bs b w

pub takes_left : (xs ys : List Branch) (b : ℕ) (w : List ℕ) → Takes xs b w → Takes (xs ++ ys) b w
unfolding Takes
takes_left [] ys b w t = absurd t
takes_left (branch low high rest ∷ xs) ys b w t = ⊎_elim (λ h. inl h) (λ h. inr (takes_left xs ys b w h)) t

pub takes_right : (xs ys : List Branch) (b : ℕ) (w : List ℕ) → Takes ys b w → Takes (xs ++ ys) b w
unfolding Takes
takes_right [] ys b w t = t
takes_right (branch low high rest ∷ xs) ys b w t = inr (takes_right xs ys b w t)

pub takes_told : (xs ys : List Branch) (b : ℕ) (w : List ℕ) → Takes (xs ++ ys) b w → Takes xs b w ⊎ Takes ys b w
unfolding Takes
takes_told [] ys b w t = inr t
takes_told (branch low high rest ∷ xs) ys b w t =
    ⊎_elim (λ h. inl (inl h)) (λ h. ⊎_elim (λ k. inl (inr k)) (λ k. inr k) (takes_told xs ys b w h)) t

-- branches that are there only where a test passes
unfoldable pub given : Bool → List Branch → List Branch
given true bs = bs
given false bs = []

pub given_yes : (t : Bool) (bs : List Branch) (b : ℕ) (w : List ℕ) → t ≡ true → Takes bs b w → Takes (given t bs) b w
unfolding given
given_yes true bs b w e h = h
given_yes false bs b w e h = absurd (true≢false (sym e))

pub given_told : (t : Bool) (bs : List Branch) (b : ℕ) (w : List ℕ) → Takes (given t bs) b w → (t ≡ true) × Takes bs b w
unfolding given Takes
given_told true bs b w h = (refl, h)
given_told false bs b w h = absurd h

-- the branches of an expression before some parts, by a byte of the expression itself
unfoldable pub first : Abnf → List Abnf → List Branch
first never rest = []
first empty rest = []
first (range low high) rest = branch low high rest ∷ []
first (a then c) rest = first a (push c rest) ++ given (nullable a) (first c rest)
first (a or c) rest = first a rest ++ first c rest
first (many a) rest = first a (many a ∷ rest)

-- the first text that is not empty of a run of texts that begins with b
pub many_cons : {P : List ℕ → Type 0} {w : List ℕ} → Many P w → (b : ℕ) (u : List ℕ) → w ≡ b ∷ u → (p : List ℕ) × (q : List ℕ) × (u ≡ p ++ q)
    × P (b ∷ p) × Many P q
many_cons none b u e = absurd (nil_cons e)
many_cons (more [] v m ms) b u e = many_cons ms b u e
many_cons {P} (more (x ∷ p) v m ms) b u e = (p, v, sym (tails_same e), subst (λ (y : ℕ). P (y ∷ p)) (heads_same e) m, ms)

-- what an expression matches before some parts goes by its branches
pub first_all : (a : Abnf) (rest : List Abnf) (b : ℕ) (u v : List ℕ) → Matches a (b ∷ u) → InTurn rest v → Takes (first a rest) b (u ++ v)
unfolding first Matches Takes InTurn
first_all never rest b u v m r = m
first_all empty rest b u v m r = absurd (nil_cons (sym m))
first_all (range low high) rest b u v m r =
    let e = heads_same m.1 in
    let low_le : low ≤ m.0 = m.2 in
    let le_high : m.0 ≤ high = m.3 in
    let same : b ≡ m.0 = e in
    let t : u ≡ [] = tails_same m.1 in
    inl (omega arith, omega arith, subst (λ (l : List ℕ). InTurn rest (l ++ v)) (sym t) r)
first_all (a then c) rest b u v m r =
    ⊎_elim
    (λ h. takes_right (first a (push c rest)) (given (nullable a) (first c rest)) b (u ++ v)
    (given_yes (nullable a) (first c rest) b (u ++ v) (nullable_only a (subst (Matches a) h.0 m.3))
    (first_all c rest b u v (subst (Matches c) h.1 m.4) r)))
    (λ h. takes_left (first a (push c rest)) (given (nullable a) (first c rest)) b (u ++ v)
    (subst (Takes (first a (push c rest)) b) (sym (append_assoc h.0 m.1 v) ∙ ap (λ (l : List ℕ). l ++ v) (sym h.2))
    (first_all a (push c rest) b h.0 (m.1 ++ v) (subst (Matches a) h.1 m.3) (push_in c rest (m.1 ++ v) (m.1, v, refl, m.4, r)))))
    (cons_parts b u m.0 m.1 m.2)
first_all (a or c) rest b u v m r =
    ⊎_elim
    (λ h. takes_left (first a rest) (first c rest) b (u ++ v) (first_all a rest b u v h r))
    (λ h. takes_right (first a rest) (first c rest) b (u ++ v) (first_all c rest b u v h r))
    m
first_all (many a) rest b u v m r =
    let n = many_cons m b u refl in
    subst (Takes (first a (many a ∷ rest)) b) (sym (append_assoc n.0 n.1 v) ∙ ap (λ (l : List ℕ). l ++ v) (sym n.2))
    (first_all a (many a ∷ rest) b n.0 (n.1 ++ v) n.3 (n.1, v, refl, n.4, r))

-- and only that
pub first_only : (a : Abnf) (rest : List Abnf) (b : ℕ) (w : List ℕ) → Takes (first a rest) b w → Both (λ (u : List ℕ). Matches a (b ∷ u)) (InTurn rest) w
unfolding first Matches Takes InTurn
first_only never rest b w t = absurd t
first_only empty rest b w t = absurd t
first_only (range low high) rest b w t = ⊎_elim (λ h. ([], w, refl, (b, refl, h.0, h.1), h.2)) (λ h. absurd h) t
first_only (a then c) rest b w t =
    ⊎_elim
    (λ h. let n = first_only a (push c rest) b w h in
    let k = push_out c rest n.1 n.4 in
    let e : w ≡ n.0 ++ k.0 ++ k.1 = n.2 ∙ ap (λ (l : List ℕ). n.0 ++ l) k.2 ∙ sym (append_assoc n.0 k.0 k.1) in
    (n.0 ++ k.0, k.1, e, (b ∷ n.0, k.0, refl, n.3, k.3), k.4))
    (λ h. let g = given_told (nullable a) (first c rest) b w h in
    let n = first_only c rest b w g.1 in
    (n.0, n.1, n.2, ([], b ∷ n.0, refl, nullable_yes a g.0, n.3), n.4))
    (takes_told (first a (push c rest)) (given (nullable a) (first c rest)) b w t)
first_only (a or c) rest b w t =
    ⊎_elim
    (λ h. let n = first_only a rest b w h in (n.0, n.1, n.2, inl n.3, n.4))
    (λ h. let n = first_only c rest b w h in (n.0, n.1, n.2, inr n.3, n.4))
    (takes_told (first a rest) (first c rest) b w t)
first_only (many a) rest b w t =
    let n = first_only a (many a ∷ rest) b w t in
    let k = n.4 in
    let e : w ≡ n.0 ++ k.0 ++ k.1 = n.2 ∙ ap (λ (l : List ℕ). n.0 ++ l) k.2 ∙ sym (append_assoc n.0 k.0 k.1) in
    (n.0 ++ k.0, k.1, e, more (b ∷ n.0) k.0 n.3 k.3, k.4)

-- the branches of parts in turn, and whether they match the empty text
unfoldable pub branches : List Abnf → List Branch
branches [] = []
branches (a ∷ rest) = first a rest ++ given (nullable a) (branches rest)

unfoldable pub ends : List Abnf → Bool
ends [] = true
ends (a ∷ rest) = nullable a && ends rest

pub branches_all : (rest : List Abnf) (b : ℕ) (w : List ℕ) → InTurn rest (b ∷ w) → Takes (branches rest) b w
unfolding branches InTurn
branches_all [] b w m = absurd (nil_cons (sym m))
branches_all (a ∷ rest) b w m =
    ⊎_elim
    (λ h. takes_right (first a rest) (given (nullable a) (branches rest)) b w
    (given_yes (nullable a) (branches rest) b w (nullable_only a (subst (Matches a) h.0 m.3))
    (branches_all rest b w (subst (InTurn rest) h.1 m.4))))
    (λ h. takes_left (first a rest) (given (nullable a) (branches rest)) b w
    (subst (Takes (first a rest) b) (sym h.2) (first_all a rest b h.0 m.1 (subst (Matches a) h.1 m.3) m.4)))
    (cons_parts b w m.0 m.1 m.2)

pub branches_only : (rest : List Abnf) (b : ℕ) (w : List ℕ) → Takes (branches rest) b w → InTurn rest (b ∷ w)
unfolding branches InTurn Takes
branches_only [] b w t = absurd t
branches_only (a ∷ rest) b w t =
    ⊎_elim
    (λ h. let n = first_only a rest b w h in (b ∷ n.0, n.1, ap (λ (l : List ℕ). b ∷ l) n.2, n.3, n.4))
    (λ h. let g = given_told (nullable a) (branches rest) b w h in
    ([], b ∷ w, refl, nullable_yes a g.0, branches_only rest b w g.1))
    (takes_told (first a rest) (given (nullable a) (branches rest)) b w t)

pub ends_yes : (rest : List Abnf) → ends rest ≡ true → InTurn rest []
unfolding ends InTurn
ends_yes [] e = refl
ends_yes (a ∷ rest) e = ([], [], refl, nullable_yes a (and_left (nullable a) (ends rest) e), ends_yes rest (and_right (nullable a) (ends rest) e))

pub ends_only : (rest : List Abnf) → InTurn rest [] → ends rest ≡ true
unfolding ends InTurn
ends_only [] m = refl
ends_only (a ∷ rest) m =
    let parts = nil_parts m.0 m.1 m.2 in
    and_both (nullable a) (ends rest) (nullable_only a (subst (Matches a) parts.0 m.3)) (ends_only rest (subst (InTurn rest) parts.1 m.4))
