-- Does a name stand twice? A name is compared with those before it, the definition compares it with those after it.
-- Assumes nothing.
use Prim.Native.Nat.{ℕ, ◌+◌, ◌<◌, ◌≤◌}
use mathlib.Core.Bool.{Bool, true, false, ◌||◌, or-true, or-false, or_assoc}
use mathlib.Core.List.{List, [], ◌∷◌, ◌++◌}
use mathlib.Core.Path.{◌≡◌, refl, sym, ap, ◌∙◌}
use native.Mathlib.Omega.{arith}
use native.Mathlib.Numerals.{add-one}
use lib.ListN.{length, get_or, take, set}
use lib.Seq.{slice, slice-cons, slice_empty, take-suc, take-suc-set}
use Rattle.flat_json.specs.Tree.{Piece, Entry}
use Rattle.pe_header.specs.Find.{units, same_units, is_named, any_named, repeated}
use Rattle.pe_header.specs.Names.{NameAt, NamesAt, print_of, PrintsOf, IsAmong}
use Rattle.pe_header.proofs.EntryLaws.{same_equal}

-- is one of the later entries named as one of the earlier?
any_shared : List Entry → List Entry → Bool
any_shared ds [] = false
any_shared ds (e ∷ es) = any_named (units e.name) ds || any_shared ds es

-- is one of the later entries named as one before it?
pub repeated_after : List Entry → List Entry → Bool
repeated_after ds [] = false
repeated_after ds (e ∷ es) = any_named (units e.name) ds || repeated_after (ds ++ e ∷ []) es

-- two names compared either way round
same_swap : (us vs : List ℕ) → same_units us vs ≡ same_units vs us
same_swap us vs = go (same_units us vs) (same_units vs us) refl refl
  where
    swapped : us ≡ vs → same_units us vs ≡ same_units vs us
    swapped e = ap (λ (l : List ℕ). same_units l vs) e ∙ ap (λ (l : List ℕ). same_units vs l) (sym e)

    go : (s t : Bool) → same_units us vs ≡ s → same_units vs us ≡ t → same_units us vs ≡ same_units vs us
    go true t e f = swapped (same_equal us vs e)
    go false true e f = swapped (sym (same_equal vs us f))
    go false false e f = e ∙ sym f

or_four : (a b c d : Bool) → ((a || b) || (c || d)) ≡ ((a || c) || (b || d))
or_four true b c d = refl
or_four false true c d = sym (or-true c)
or_four false false c d = refl

-- one entry more among the earlier
named_behind : (u : List ℕ) (ds : List Entry) (e : Entry) → any_named u (ds ++ e ∷ []) ≡ (any_named u ds || is_named u e)
unfolding any_named
named_behind u [] e = or-false (is_named u e)
named_behind u (d ∷ ds) e = ap (λ (t : Bool). is_named u d || t) (named_behind u ds e) ∙ sym (or_assoc (is_named u d) (any_named u ds) (is_named u e))

shared_behind : (ds : List Entry) (e : Entry) (es : List Entry) → any_shared (ds ++ e ∷ []) es ≡ (any_shared ds es || any_named (units e.name) es)
unfolding any_shared any_named is_named
shared_behind ds e [] = refl
shared_behind ds e (x ∷ es) =
    ap (λ (t : Bool). t || any_shared (ds ++ e ∷ []) es) (named_behind (units x.name) ds e)
    ∙ ap (λ (t : Bool). (any_named (units x.name) ds || is_named (units x.name) e) || t) (shared_behind ds e es)
    ∙ or_four (any_named (units x.name) ds) (is_named (units x.name) e) (any_shared ds es) (any_named (units e.name) es)
    ∙ ap (λ (t : Bool). (any_named (units x.name) ds || any_shared ds es) || (t || any_named (units e.name) es))
    (same_swap (units e.name) (units x.name))

after_is : (ds es : List Entry) → repeated_after ds es ≡ (any_shared ds es || repeated es)
unfolding repeated_after any_shared repeated
after_is ds [] = refl
after_is ds (e ∷ es) =
    let n = any_named (units e.name) ds in
    let s = any_shared ds es in
    let m = any_named (units e.name) es in
    let r = repeated es in
    ap (λ (t : Bool). n || t) (after_is (ds ++ e ∷ []) es)
    ∙ ap (λ (t : Bool). n || (t || r)) (shared_behind ds e es)
    ∙ ap (λ (t : Bool). n || t) (or_assoc s m r)
    ∙ sym (or_assoc n s (m || r))

none_shared : (es : List Entry) → any_shared [] es ≡ false
unfolding any_shared any_named
none_shared [] = refl
none_shared (e ∷ es) = none_shared es

after_none : (es : List Entry) → repeated_after [] es ≡ repeated es
after_none es = after_is [] es ∙ ap (λ (t : Bool). t || repeated es) (none_shared es)

-- a flag says whether one of the names at the later places is one of those before it
abbrev pub Twice : List ℕ → List ℕ → List ℕ → List ℕ → Bool → Type 0
Twice text done prints left t =
    (ds es : List Entry) → NamesAt text done ds → PrintsOf prints ds → NamesAt text left es → t ≡ repeated_after ds es

names_more : (text xs : List ℕ) (ds : List Entry) (x : ℕ) (e : Entry)
    → NamesAt text xs ds → NameAt text x e.name → NamesAt text (xs ++ x ∷ []) (ds ++ e ∷ [])
unfolding NamesAt
names_more text [] [] x e n m = (m, tt)
names_more text [] (d ∷ ds) x e n m = absurd n
names_more text (y ∷ xs) [] x e n m = absurd n
names_more text (y ∷ xs) (d ∷ ds) x e n m = (n.0, names_more text xs ds x e n.1 m)

prints_more : (xs : List ℕ) (ds : List Entry) (x : ℕ) (e : Entry)
    → PrintsOf xs ds → x ≡ print_of (units e.name) → PrintsOf (xs ++ x ∷ []) (ds ++ e ∷ [])
unfolding PrintsOf
prints_more [] [] x e n m = (m, tt)
prints_more [] (d ∷ ds) x e n m = absurd n
prints_more (y ∷ xs) [] x e n m = absurd n
prints_more (y ∷ xs) (d ∷ ds) x e n m = (n.0, prints_more xs ds x e n.1 m)

-- the next place's name is one of those before it, or it joins them
module _ (text done prints : List ℕ) (x : ℕ) (left : List ℕ) where
  here : ((ps : List Piece) → NameAt text x ps → IsAmong text done prints ps true) → Twice text done prints (x ∷ left) true
  unfolding NamesAt repeated_after
  here h ds [] n q m = absurd m
  here h ds (e ∷ es) n q m = ap (λ (t : Bool). t || repeated_after (ds ++ e ∷ []) es) (h e.name m.0 ds n q)

  on : (print : ℕ) → ((ps : List Piece) → NameAt text x ps → print ≡ print_of (units ps))
      → ((ps : List Piece) → NameAt text x ps → IsAmong text done prints ps false)
      → (t : Bool) → Twice text (done ++ x ∷ []) (prints ++ print ∷ []) left t → Twice text done prints (x ∷ left) t
  unfolding NamesAt repeated_after
  on print f h t r ds [] n q m = absurd m
  on print f h t r ds (e ∷ es) n q m =
      r (ds ++ e ∷ []) es (names_more text done ds x e n m.0) (prints_more prints ds print e q (f e.name m.0)) m.1
      ∙ ap (λ (t : Bool). t || repeated_after (ds ++ e ∷ []) es) (h e.name m.0 ds n q)

module _ (text names prints : List ℕ) (count k : ℕ) (below : k < count) (in_names : count ≤ length names) (in_prints : count ≤ length prints) where
  pub twice_here : ((ps : List Piece) → NameAt text (get_or names k 0) ps → IsAmong text (take k names) (take k prints) ps true)
      → Twice text (take k names) (take k prints) (slice k count names) true
  twice_here h = rw (slice-cons k count names 0 below in_names) (here text _ _ _ _ h)

  pub twice_on : (print : ℕ) → ((ps : List Piece) → NameAt text (get_or names k 0) ps → print ≡ print_of (units ps))
      → ((ps : List Piece) → NameAt text (get_or names k 0) ps → IsAmong text (take k names) (take k prints) ps false)
      → (t : Bool) → Twice text (take (k + 1) names) (take (k + 1) (set prints k print)) (slice (k + 1) count names) t
      → Twice text (take k names) (take k prints) (slice k count names) t
  twice_on print f h t =
      rw (slice-cons k count names 0 below in_names, add-one k, take-suc names k 0 (omega arith), take-suc-set prints k print (omega arith))
      (on text _ _ _ _ print f h t)

pub twice_none : (text names prints : List ℕ) (count : ℕ) → Twice text (take count names) (take count prints) (slice count count names) false
unfolding NamesAt repeated_after
twice_none text names prints count = rw (slice_empty count names) none
  where
    none : Twice text (take count names) (take count prints) [] false
    none ds [] n q m = refl
    none ds (e ∷ es) n q m = absurd m

-- from the first place on
pub twice_all : (text names : List ℕ) (t : Bool) → Twice text [] [] names t → (es : List Entry) → NamesAt text names es → t ≡ repeated es
unfolding NamesAt PrintsOf
twice_all text names t h es m = h [] es tt tt m ∙ after_none es
