-- Names read unit by unit: two names compared, a name compared with bytes, and a name's fingerprint.
-- Each law says what is left to answer behind the first unit of what stands at a place.
-- Assumes nothing.
use Prim.Native.Nat.{ℕ, ◌+◌, ◌*◌, ◌%◌, ◌<◌, ◌≤◌}
use mathlib.Core.Bool.{Bool, true, false, not, true≢false}
use mathlib.Core.List.{List, [], ◌∷◌}
use mathlib.Core.Path.{◌≡◌, refl, sym, ap, ◌∙◌, subst}
use native.Mathlib.Numerals.{add-one}
use borrow.Author.Tests.{eq-eqb, ne_eqb}
use lib.ListN.{length, get_or, drop, drop_of_length-le}
use lib.Seq.{drop-cons}
use Rattle.std.specs.Prelude.{Option, Some, None, is_some}
use Rattle.flat_json.specs.Tree.{Piece}
use Rattle.pe_header.specs.declared.names.Unit.{Unit as UnitRead}
use Rattle.pe_header.specs.Find.{unit, units, same_units}
use Rattle.pe_header.specs.Names.{NameAt, UnitAt, First, print_from}

-- a unit that is read is that of the first piece, and the rest of the name follows it
unit_is : (text : List ℕ) (p : Piece) (ps : List Piece) (a : UnitRead) → UnitAt text (p ∷ ps) (Some a) → (a.unit ≡ unit p) × NameAt text a.next ps
unfolding UnitAt
unit_is text p ps a r = let e : r.0 ≡ a = cc in subst (λ (u : UnitRead). (u.unit ≡ unit p) × NameAt text u.next ps) e (r.2, r.3)

none_there : (text : List ℕ) (p : Piece) (ps : List Piece) → UnitAt text (p ∷ ps) None → ⊥
unfolding UnitAt
none_there text p ps r = let e = r.1 in cc

one_there : (text : List ℕ) (a : UnitRead) → UnitAt text [] (Some a) → ⊥
unfolding UnitAt
one_there text a r = cc

-- a flag says whether the names at two places have the same units
abbrev pub Same : List ℕ → ℕ → ℕ → Bool → Type 0
Same text i j t = (ps qs : List Piece) → NameAt text i ps → NameAt text j qs → t ≡ same_units (units ps) (units qs)

module _ (text : List ℕ) (i j : ℕ) where
  -- one of them is over
  pub same_over : First text i None → (o : Option UnitRead) → First text j o → (t : Bool) → is_some o ≡ not t → Same text i j t
  unfolding units same_units UnitAt
  same_over one None other true e [] [] x y = refl
  same_over one None other false e ps qs x y = absurd (true≢false (sym e))
  same_over one (Some b) other true e ps qs x y = absurd (true≢false e)
  same_over one (Some b) other false e [] [] x y = absurd (one_there text b (other [] y))
  same_over one (Some b) other false e [] (q ∷ qs) x y = refl
  same_over one None other true e [] (q ∷ qs) x y = absurd (none_there text q qs (other (q ∷ qs) y))
  same_over one o other t e (p ∷ ps) qs x y = absurd (none_there text p ps (one (p ∷ ps) x))

  module _ (a : UnitRead) (one : First text i (Some a)) where
    -- the other is, or another unit stands there
    pub same_short : First text j None → Same text i j false
    unfolding units same_units
    same_short other [] qs x y = absurd (one_there text a (one [] x))
    same_short other (p ∷ ps) [] x y = refl
    same_short other (p ∷ ps) (q ∷ qs) x y = absurd (none_there text q qs (other (q ∷ qs) y))

    pub same_not : (b : UnitRead) → First text j (Some b) → (a.unit ≡ b.unit → ⊥) → Same text i j false
    unfolding units same_units
    same_not b other d [] qs x y = absurd (one_there text a (one [] x))
    same_not b other d (p ∷ ps) [] x y = refl
    same_not b other d (p ∷ ps) (q ∷ qs) x y =
        let u = unit_is text p ps a (one (p ∷ ps) x) in
        let v = unit_is text q qs b (other (q ∷ qs) y) in
        rw (ne_eqb (unit p) (unit q) (λ e. d (u.0 ∙ e ∙ sym v.0)))

    pub same_on : (b : UnitRead) → First text j (Some b) → a.unit ≡ b.unit → (t : Bool) → Same text a.next b.next t → Same text i j t
    unfolding units same_units
    same_on b other e t h [] qs x y = absurd (one_there text a (one [] x))
    same_on b other e t h (p ∷ ps) [] x y = absurd (one_there text b (other [] y))
    same_on b other e t h (p ∷ ps) (q ∷ qs) x y =
        let u = unit_is text p ps a (one (p ∷ ps) x) in
        let v = unit_is text q qs b (other (q ∷ qs) y) in
        rw (eq-eqb (unit p) (unit q) (sym u.0 ∙ e ∙ v.0)) (h ps qs u.1 v.1)

-- a flag says whether the name at a place has these units
abbrev pub Named : List ℕ → ℕ → List ℕ → Bool → Type 0
Named text i us t = (ps : List Piece) → NameAt text i ps → t ≡ same_units (units ps) us

module _ (text : List ℕ) (i : ℕ) (name : List ℕ) (k : ℕ) where
  pub named_over : length name ≤ k → (o : Option UnitRead) → First text i o → (t : Bool) → is_some o ≡ not t → Named text i (drop k name) t
  unfolding units same_units
  named_over h None one true e [] x = rw (drop_of_length-le name {i = k} h)
  named_over h None one true e (p ∷ ps) x = absurd (none_there text p ps (one (p ∷ ps) x))
  named_over h None one false e ps x = absurd (true≢false (sym e))
  named_over h (Some a) one true e ps x = absurd (true≢false e)
  named_over h (Some a) one false e [] x = absurd (one_there text a (one [] x))
  named_over h (Some a) one false e (p ∷ ps) x = rw (drop_of_length-le name {i = k} h)

  pub named_short : k < length name → First text i None → Named text i (drop k name) false
  unfolding units same_units
  named_short h one [] x = rw (drop-cons name k 0 h)
  named_short h one (p ∷ ps) x = absurd (none_there text p ps (one (p ∷ ps) x))

  pub named_not : k < length name → (a : UnitRead) → First text i (Some a) → (a.unit ≡ get_or name k 0 → ⊥) → Named text i (drop k name) false
  unfolding units same_units
  named_not h a one d [] x = absurd (one_there text a (one [] x))
  named_not h a one d (p ∷ ps) x =
      let u = unit_is text p ps a (one (p ∷ ps) x) in
      rw (drop-cons name k 0 h, ne_eqb (unit p) (get_or name k 0) (λ e. d (u.0 ∙ e)))

  pub named_on : k < length name → (a : UnitRead) → First text i (Some a) → a.unit ≡ get_or name k 0 → (t : Bool)
      → Named text a.next (drop (k + 1) name) t → Named text i (drop k name) t
  unfolding units same_units
  named_on h a one e t r [] x = absurd (one_there text a (one [] x))
  named_on h a one e t r (p ∷ ps) x =
      let u = unit_is text p ps a (one (p ∷ ps) x) in
      rw (drop-cons name k 0 h, eq-eqb (unit p) (get_or name k 0) (sym u.0 ∙ e), ← add-one k) (r ps u.1)

-- a number is the fingerprint of the name at a place, where n is that of the units before
abbrev pub Printed : List ℕ → ℕ → ℕ → ℕ → Type 0
Printed text i n t = (ps : List Piece) → NameAt text i ps → t ≡ print_from n (units ps)

module _ (text : List ℕ) (i print : ℕ) where
  pub printed_over : First text i None → Printed text i print print
  unfolding units print_from
  printed_over one [] x = refl
  printed_over one (p ∷ ps) x = absurd (none_there text p ps (one (p ∷ ps) x))

  pub printed_on : (a : UnitRead) → First text i (Some a) → (t : ℕ) → Printed text a.next ((print * 40503 + a.unit) % 65536) t → Printed text i print t
  unfolding units print_from
  printed_on a one t r [] x = absurd (one_there text a (one [] x))
  printed_on a one t r (p ∷ ps) x =
      let u = unit_is text p ps a (one (p ∷ ps) x) in
      r ps u.1 ∙ ap (λ (y : ℕ). print_from ((print * 40503 + y) % 65536) (units ps)) u.0
