-- Names of entries one after the other: is a name among them?
-- Assumes nothing.
use Prim.Native.Nat.{ℕ, zero, suc, ◌+◌, ◌<◌, ◌≤◌}
use mathlib.Core.Bool.{Bool, true, false, ◌||◌, true≢false}
use mathlib.Core.List.{List, [], ◌∷◌}
use mathlib.Core.Path.{◌≡◌, refl, sym, ap, ◌∙◌}
use native.Mathlib.Numerals.{add-one}
use native.Mathlib.Omega.{arith}
use borrow.Author.Tests.{eqb-true}
use lib.Dec.{eqb}
use lib.ListN.{length, get_or}
use lib.Seq.{slice, slice-cons, slice_empty}
use Rattle.flat_json.specs.Tree.{Piece, Entry}
use Rattle.flat_json.proofs.Branches.{and_left, and_right}
use Rattle.pe_header.specs.Find.{units, same_units, is_named, any_named}
use Rattle.pe_header.specs.Names.{NameAt, NamesAt, print_of, PrintsOf, IsAmong, Lacks}
use Rattle.pe_header.proofs.NameLaws.{Same}

-- the same units have the same fingerprint
pub same_equal : (us vs : List ℕ) → same_units us vs ≡ true → us ≡ vs
unfolding same_units
same_equal [] [] e = refl
same_equal [] (v ∷ vs) e = absurd (true≢false (sym e))
same_equal (u ∷ us) [] e = absurd (true≢false (sym e))
same_equal (u ∷ us) (v ∷ vs) e =
    ap (λ (x : ℕ). x ∷ us) (eqb-true u v (and_left (eqb u v) (same_units us vs) e))
    ∙ ap (λ (l : List ℕ). v ∷ l) (same_equal us vs (and_right (eqb u v) (same_units us vs) e))

prints_differ : (us vs : List ℕ) → (print_of us ≡ print_of vs → ⊥) → same_units us vs ≡ false
prints_differ us vs d = go (same_units us vs) refl
  where
    go : (t : Bool) → same_units us vs ≡ t → same_units us vs ≡ false
    go true e = absurd (d (ap print_of (same_equal us vs e)))
    go false e = e

-- the next of the places: its name is the one that is asked for, or it is passed over
module _ (text : List ℕ) (x y : ℕ) (xs ys : List ℕ) (ps : List Piece) where
  among_here : ((e : Entry) → NameAt text x e.name → true ≡ is_named (units ps) e) → IsAmong text (x ∷ xs) (y ∷ ys) ps true
  unfolding NamesAt PrintsOf any_named
  among_here h [] n q = absurd n
  among_here h (e ∷ es) n q = ap (λ (t : Bool). t || any_named (units ps) es) (h e n.0)

  among_on : ((e : Entry) → NameAt text x e.name → y ≡ print_of (units e.name) → false ≡ is_named (units ps) e)
      → (t : Bool) → IsAmong text xs ys ps t → IsAmong text (x ∷ xs) (y ∷ ys) ps t
  unfolding NamesAt PrintsOf any_named
  among_on h t r [] n q = absurd n
  among_on h t r (e ∷ es) n q = r es n.1 q.1 ∙ ap (λ (t : Bool). t || any_named (units ps) es) (h e n.0 q.0)

-- places and fingerprints from j up to k
module _ (text names prints : List ℕ) (k j : ℕ) (below : j < k) (in_names : k ≤ length names) (in_prints : k ≤ length prints) (ps : List Piece) where
  pub seen_here : (at : ℕ) → NameAt text at ps → Same text (get_or names j 0) at true → IsAmong text (slice j k names) (slice j k prints) ps true
  unfolding is_named
  seen_here at m s =
      rw (slice-cons j k names 0 below in_names, slice-cons j k prints 0 below in_prints)
      (among_here text _ _ _ _ ps (λ e n. s e.name ps n m))

  seen_on : ((e : Entry) → NameAt text (get_or names j 0) e.name → get_or prints j 0 ≡ print_of (units e.name) → false ≡ is_named (units ps) e)
      → (t : Bool) → IsAmong text (slice (j + 1) k names) (slice (j + 1) k prints) ps t → IsAmong text (slice j k names) (slice j k prints) ps t
  seen_on h t =
      rw (slice-cons j k names 0 below in_names, slice-cons j k prints 0 below in_prints, add-one j)
      (among_on text _ _ _ _ ps h t)

  pub other_print : (print : ℕ) → print ≡ print_of (units ps) → (get_or prints j 0 ≡ print → ⊥)
      → (t : Bool) → IsAmong text (slice (j + 1) k names) (slice (j + 1) k prints) ps t → IsAmong text (slice j k names) (slice j k prints) ps t
  unfolding is_named
  other_print print e d = seen_on (λ f n q. sym (prints_differ (units f.name) (units ps) (λ z. d (q ∙ z ∙ sym e))))

  pub other_name : (at : ℕ) → NameAt text at ps → Same text (get_or names j 0) at false
      → (t : Bool) → IsAmong text (slice (j + 1) k names) (slice (j + 1) k prints) ps t → IsAmong text (slice j k names) (slice j k prints) ps t
  unfolding is_named
  other_name at m s = seen_on (λ e n q. s e.name ps n m)

-- n places from j up to m are passed, none of whose fingerprints is that of the name
pub others_passed : (text names prints : List ℕ) (k : ℕ) → k ≤ length names → k ≤ length prints → (ps : List Piece) (print : ℕ) → print ≡ print_of (units ps)
    → (n j m : ℕ) → j + n ≡ m → m ≤ k → Lacks prints print j m
    → (t : Bool) → IsAmong text (slice m k names) (slice m k prints) ps t → IsAmong text (slice j k names) (slice j k prints) ps t
others_passed text names prints k in_names in_prints ps print e zero j m m= h l t r = let same : j ≡ m = omega arith in rw same r
others_passed text names prints k in_names in_prints ps print e (suc n) j m m= h l t r =
    let below : j < k = omega arith in
    other_print text names prints k j below in_names in_prints ps print e (l j (omega arith) (omega arith)) t
    (others_passed text names prints k in_names in_prints ps print e n (j + 1) m (omega arith) h (λ i a b. l i (omega arith) b) t r)

pub seen_none : (text names prints : List ℕ) (k j : ℕ) → j ≡ k → (ps : List Piece) → IsAmong text (slice j k names) (slice j k prints) ps false
unfolding NamesAt any_named
seen_none text names prints k j e ps = rw (e, slice_empty k names, slice_empty k prints) none
  where
    none : IsAmong text [] [] ps false
    none [] n q = refl
    none (e ∷ es) n q = absurd n
