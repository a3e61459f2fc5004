-- What an answer of `find_value` tells.
-- Assumes nothing.
use Prim.Native.Nat.{ℕ, ◌+◌, ◌≤◌, ◌<◌}
use mathlib.Core.Bool.{Bool, true, false, cond, ◌&&◌, ◌||◌, true≢false}
use mathlib.Core.List.{List, [], ◌∷◌, ◌++◌}
use mathlib.Core.Logic.{◌↔◌, ◌⊎◌, inl, inr, ⊎_elim}
use mathlib.Core.Option.{Option, none, some}
use mathlib.Core.Path.{◌≡◌, refl, sym, ap, ◌∙◌, subst}
use native.Mathlib.Omega.{arith}
use borrow.Author.Tests.{leb-true, leb-false, lt-leb, eq-eqb}
use lib.Dec.{leb, eqb}
use lib.ListN.{length, take, drop}
use lib.Seq.{take_at}
use Rattle.seven_bit.specs.Reply.{Reply, granted, refused}
use Rattle.seven_bit.specs.SevenBit.{is_seven_bit}
use Rattle.flat_json.specs.Abnf.{Matches}
use Rattle.flat_json.specs.Grammar.{json_text}
use Rattle.flat_json.specs.Tree.{Value, string, number, word, Entry, Tree, string_text, value_text, lead_text, entry_text}
use Rattle.flat_json.specs.Parse.{parse}
use Rattle.flat_json.proofs.Branches.{and_both, or_told, or_first, or_second}
use Rattle.flat_json.proofs.MatchesTree.{parsed_law}
use Rattle.flat_json.proofs.ParseTold.{none_some, parse_law}
use Rattle.flat_json.proofs.TextLaws.{pieces_text_law, lead_text_law}
use Rattle.pe_header.specs.declared.Kind.{Kind}
use Rattle.pe_header.specs.Find.{units, same_units, is_named, Lookup, absent, value_of, kind_of, value_bytes, quotes, found_at, look_up, list, any_named}
use Rattle.pe_header.specs.Find.{repeated, decimal, small, all_small, find_named, find_value}
use Rattle.pe_header.specs.Entries.{TreeOf, entries_of, Stands, Large, Twice, Shown}
use Rattle.pe_header.proofs.EntryLaws.{same_equal}
use Rattle.pe_header.proofs.ValueLaws.{ahead}
use Rattle.pe_header.proofs.FindLaws.{find_long, find_not, find_told, Stand, stand_tree}

-- the first of a list, and one behind it
first_stands : (e : Entry) (es : List Entry) → Stands (e ∷ es) e
first_stands e es = record { earlier = []; later = es; listed = refl }

later_stands : (x : Entry) {es : List Entry} {e : Entry} → Stands es e → Stands (x ∷ es) e
later_stands x s = record { earlier = x ∷ s.earlier; later = s.later; listed = ap (λ (l : List Entry). x ∷ l) s.listed }

-- numbers
and-false : (a b : Bool) → (a && b) ≡ false → (a ≡ false) ⊎ (b ≡ false)
and-false true b e = inr e
and-false false b e = inl refl

false_first : (a b : Bool) → a ≡ false → (a && b) ≡ false
false_first true b e = absurd (true≢false e)
false_first false b e = refl

false_second : (a b : Bool) → b ≡ false → (a && b) ≡ false
false_second true b e = e
false_second false b e = refl

value_large : (v : Value) → small v ≡ false → (ds : List ℕ) × (v ≡ number ds) × (65535 < decimal 0 ds)
unfolding small
value_large (string ps) e = absurd (true≢false e)
value_large (number ds) e = (ds, refl, leb-false (decimal 0 ds) 65535 e)
value_large (word w) e = absurd (true≢false e)

large_told : (es : List Entry) → all_small es ≡ false → Large es
unfolding all_small
large_told [] h = absurd (true≢false h)
large_told (e ∷ es) h =
    ⊎_elim
    (λ k. let v = value_large e.value k in record { entry = e; stands = first_stands e es; digits = v.0; number_is = v.1; above = v.2 })
    (λ k. let l = large_told es k in
    record { entry = l.entry; stands = later_stands e l.stands; digits = l.digits; number_is = l.number_is; above = l.above })
    (and-false (small e.value) (all_small es) h)

large_at : (xs ys : List Entry) (e : Entry) → small e.value ≡ false → all_small (xs ++ e ∷ ys) ≡ false
unfolding all_small
large_at [] ys e h = false_first (small e.value) (all_small ys) h
large_at (x ∷ xs) ys e h = false_second (small x.value) (all_small (xs ++ e ∷ ys)) (large_at xs ys e h)

large_only : (es : List Entry) → Large es → all_small es ≡ false
unfolding small
large_only es l =
    subst (λ (k : List Entry). all_small k ≡ false) (sym l.stands.listed)
    (large_at l.stands.earlier l.stands.later l.entry
    (subst (λ (v : Value). small v ≡ false) (sym l.number_is) (lt-leb (decimal 0 l.digits) 65535 l.above)))

-- names
same_self : (us : List ℕ) → same_units us us ≡ true
unfolding same_units
same_self [] = refl
same_self (u ∷ us) = and_both (eqb u u) (same_units us us) (eq-eqb u u refl) (same_self us)

any_told : (name : List ℕ) (es : List Entry) → any_named name es ≡ true → (e : Entry) × Stands es e × (units e.name ≡ name)
unfolding any_named is_named
any_told name [] h = absurd (true≢false (sym h))
any_told name (e ∷ es) h =
    ⊎_elim
    (λ k. (e, first_stands e es, same_equal (units e.name) name k))
    (λ k. let r = any_told name es k in (r.0, later_stands e r.1, r.2))
    (or_told (is_named name e) (any_named name es) h)

any_at : (name : List ℕ) (xs ys : List Entry) (e : Entry) → units e.name ≡ name → any_named name (xs ++ e ∷ ys) ≡ true
unfolding any_named is_named
any_at name [] ys e q =
    or_first (is_named name e) (any_named name ys) (subst (λ (l : List ℕ). same_units (units e.name) l ≡ true) q (same_self (units e.name)))
any_at name (x ∷ xs) ys e q = or_second (is_named name x) (any_named name (xs ++ e ∷ ys)) (any_at name xs ys e q)

any_only : (name : List ℕ) (es : List Entry) (e : Entry) → Stands es e → units e.name ≡ name → any_named name es ≡ true
any_only name es e s q = subst (λ (l : List Entry). any_named name l ≡ true) (sym s.listed) (any_at name s.earlier s.later e q)

twice_told : (es : List Entry) → repeated es ≡ true → Twice es
unfolding repeated
twice_told [] h = absurd (true≢false (sym h))
twice_told (e ∷ es) h =
    ⊎_elim
    (λ k. let r = any_told (units e.name) es k in
    record { earlier = []; one = e; others = es; listed = refl; two = r.0; stands = r.1; same_name = r.2 })
    (λ k. let r = twice_told es k in
    record {
      earlier = e ∷ r.earlier;
      one = r.one;
      others = r.others;
      listed = ap (λ (l : List Entry). e ∷ l) r.listed;
      two = r.two;
      stands = r.stands;
      same_name = r.same_name;
    })
    (or_told (any_named (units e.name) es) (repeated es) h)

twice_at : (xs : List Entry) (e : Entry) (es : List Entry) → any_named (units e.name) es ≡ true → repeated (xs ++ e ∷ es) ≡ true
unfolding repeated
twice_at [] e es h = or_first (any_named (units e.name) es) (repeated es) h
twice_at (x ∷ xs) e es h = or_second (any_named (units x.name) (xs ++ e ∷ es)) (repeated (xs ++ e ∷ es)) (twice_at xs e es h)

twice_only : (es : List Entry) → Twice es → repeated es ≡ true
twice_only es t =
    subst (λ (l : List Entry). repeated l ≡ true) (sym t.listed)
    (twice_at t.earlier t.one t.others (any_only (units t.one.name) t.others t.two t.stands t.same_name))

-- a value's bytes stand behind its quotation mark
value_place : (v : Value) (r : List ℕ) → (q : List ℕ) × (tail : List ℕ) × (length q ≡ quotes v) × (value_text v r ≡ q ++ (value_bytes v ++ tail))
unfolding value_text value_bytes quotes string_text
value_place (string ps) r = (0x22 ∷ [], 0x22 ∷ r, refl, ap (λ (l : List ℕ). 0x22 ∷ l) (pieces_text_law ps (0x22 ∷ r)))
value_place (number ds) r = ([], r, refl, refl)
value_place (word k) r = ([], r, refl, refl)

-- look-ups
absent_not : {k : Kind} {p l : ℕ} → absent ≡ value_of k p l → ⊥
absent_not e = let z : ◌≡◌ {A = ℕ} 0 1 = cc in omega arith

shown_here : (header name : List ℕ) (from : ℕ) (e : Entry) (es : List Entry) (r : List ℕ) (k : Kind) (place len : ℕ)
    → drop from header ≡ entry_text e r → is_named name e ≡ true → found_at (from + length (lead_text e [])) e.value ≡ value_of k place len
    → Shown header name (e ∷ es) k place len
unfolding entry_text is_named found_at
shown_here header name from e es r k place len w n f =
    let v = e.value in
    let p = value_place v (e.after ++ r) in
    let q : length p.0 ≡ quotes v = p.2 in
    let h1 : k ≡ kind_of v = cc in
    let h2 : place ≡ from + length (lead_text e []) + quotes v = cc in
    let h3 : len ≡ length (value_bytes v) = cc in
    let d : drop (from + length (lead_text e [])) header ≡ p.0 ++ (value_bytes v ++ p.1) =
    ahead header from (lead_text e []) (value_text v (e.after ++ r)) (w ∙ lead_text_law e (value_text v (e.after ++ r))) ∙ p.3
    in
    let at : place ≡ from + length (lead_text e []) + length p.0 = omega arith in
    record {
      entry = e;
      stands = first_stands e es;
      named = same_equal (units e.name) name n;
      kind_right = h1;
      bytes_right = ap (λ (x : ℕ). take len (drop x header)) at
          ∙ ap (λ (l : List ℕ). take len l) (ahead header (from + length (lead_text e [])) p.0 (value_bytes v ++ p.1) d)
          ∙ take_at (value_bytes v) p.1 len (sym h3);
    }

shown_later : {header name : List ℕ} (x : Entry) {es : List Entry} {k : Kind} {place len : ℕ}
    → Shown header name es k place len → Shown header name (x ∷ es) k place len
shown_later x s = record { entry = s.entry; stands = later_stands x s.stands; named = s.named; kind_right = s.kind_right; bytes_right = s.bytes_right }

look_found : (header name : List ℕ) (from : ℕ) (es : List Entry) (k : Kind) (place len : ℕ)
    → Stand header from es → look_up name from es ≡ value_of k place len → Shown header name es k place len
unfolding Stand look_up
look_found header name from [] k place len s q = absurd (absent_not q)
look_found header name from (e ∷ es) k place len s q =
    go (is_named name e) refl q (look_found header name (from + length (entry_text e []) + 1) es k place len s.2)
  where
    later : Lookup
    later = look_up name (from + length (entry_text e []) + 1) es

    go : (t : Bool) → is_named name e ≡ t → cond t (found_at (from + length (lead_text e [])) e.value) later ≡ value_of k place len
        → (later ≡ value_of k place len → Shown header name es k place len) → Shown header name (e ∷ es) k place len
    go true h f ih = shown_here header name from e es (s.1.0 ∷ s.1.1) k place len s.1.3 h f
    go false h f ih = shown_later e (ih f)

look_absent : (name : List ℕ) (from : ℕ) (es : List Entry) → look_up name from es ≡ absent → any_named name es ≡ false
unfolding look_up any_named found_at
look_absent name from [] q = refl
look_absent name from (e ∷ es) q = go (is_named name e) q (look_absent name (from + length (entry_text e []) + 1) es)
  where
    later : Lookup
    later = look_up name (from + length (entry_text e []) + 1) es

    go : (t : Bool) → cond t (found_at (from + length (lead_text e [])) e.value) later ≡ absent
        → (later ≡ absent → any_named name es ≡ false) → (t || any_named name es) ≡ false
    go true f ih = absurd (absent_not (sym f))
    go false f ih = ih f

-- the five cases of a header, with what is answered
data Case (header name : List ℕ) : Type 0 where
  long : 4096 < length header → find_value header name ≡ refused 33 0 → Case header name
  no_tree : length header ≤ 4096 → (Matches json_text header → ⊥) → find_value header name ≡ refused 34 0 → Case header name
  large : length header ≤ 4096 → (t : TreeOf header) → Large (entries_of t) → find_value header name ≡ refused 34 0 → Case header name
  twice : length header ≤ 4096 → (t : TreeOf header) → (Large (entries_of t) → ⊥) → Twice (entries_of t) → find_value header name ≡ refused 35 0 → Case header name
  answered : (t : TreeOf header) → find_value header name ≡ granted (find_named t.tree name) → Case header name

-- the number of a refusal; a grant has none
number_of : Reply Lookup → ℕ
number_of (granted a) = 0
number_of (refused n v) = n

module _ (header name : List ℕ) where
  in_tree : (t : TreeOf header) → length header ≤ 4096 → (a b : Bool) → all_small (entries_of t) ≡ a → repeated (entries_of t) ≡ b
      → find_value header name ≡ cond a (cond b (refused 35 0) (granted (find_named t.tree name))) (refused 34 0)
  in_tree t h a b p q = find_told header name t.tree h t.good t.is_text a b p q

  the_case : Case header name
  the_case = by_length (leb (length header) 4096) refl
    where
      not_large : (t : TreeOf header) → all_small (entries_of t) ≡ true → Large (entries_of t) → ⊥
      not_large t e l = true≢false (sym e ∙ large_only (entries_of t) l)

      by_tree : (t : TreeOf header) → length header ≤ 4096 → (a b : Bool) → all_small (entries_of t) ≡ a → repeated (entries_of t) ≡ b → Case header name
      by_tree t h true true p q = twice h t (not_large t p) (twice_told (entries_of t) q) (in_tree t h true true p q)
      by_tree t h true false p q = answered t (in_tree t h true false p q)
      by_tree t h false b p q = large h t (large_told (entries_of t) p) (in_tree t h false b p q)

      tree_of : (t : Tree) → parse header ≡ some t → TreeOf header
      tree_of t e = record { tree = t; good = ((parse_law header t).0 e).0; is_text = ((parse_law header t).0 e).1 }

      by_parse : length header ≤ 4096 → (o : Option Tree) → parse header ≡ o → Case header name
      by_parse h none e =
          let n : Matches json_text header → ⊥ = λ m. none_some (sym e ∙ ((parsed_law header).0 m).1) in
          no_tree h n (find_not header name h n)
      by_parse h (some t) e = by_tree (tree_of t e) h (all_small (list t.inside)) (repeated (list t.inside)) refl refl

      by_length : (t : Bool) → leb (length header) 4096 ≡ t → Case header name
      by_length true e = by_parse (leb-true (length header) 4096 e) (parse header) refl
      by_length false e = let h = leb-false (length header) 4096 e in long h (find_long header name h)

  -- another answer than the case's
  other : {P : Type 0} (a b : Reply Lookup) → find_value header name ≡ a → find_value header name ≡ b → (number_of a ≡ number_of b → ⊥) → P
  other a b e f n = absurd (n (ap number_of (sym e ∙ f)))

  -- 33 is answered exactly where the header has more than 4,096 bytes.
  pub too_long : (find_value header name ≡ refused 33 0) ↔ (4096 < length header)
  unfolding number_of
  too_long = (from_answer the_case, find_long header name)
    where
      from_answer : Case header name → find_value header name ≡ refused 33 0 → 4096 < length header
      from_answer (long h f) e = h
      from_answer (no_tree h n f) e = other _ _ e f (λ z. omega arith)
      from_answer (large h t l f) e = other _ _ e f (λ z. omega arith)
      from_answer (twice h t l w f) e = other _ _ e f (λ z. omega arith)
      from_answer (answered t f) e = other _ _ e f (λ z. omega arith)

  -- 34 is answered exactly where the header has at most 4,096 bytes, and is no text of the grammar or has a number above 65,535.
  pub no_flat_object : (find_value header name ≡ refused 34 0)
      ↔ ((length header ≤ 4096) × ((Matches json_text header → ⊥) ⊎ ((t : TreeOf header) × Large (entries_of t))))
  unfolding number_of
  no_flat_object = (from_answer the_case, λ c. ⊎_elim (find_not header name c.0) (to_answer c.0) c.1)
    where
      from_answer : Case header name → find_value header name ≡ refused 34 0
          → (length header ≤ 4096) × ((Matches json_text header → ⊥) ⊎ ((t : TreeOf header) × Large (entries_of t)))
      from_answer (long h f) e = other _ _ e f (λ z. omega arith)
      from_answer (no_tree h n f) e = (h, inl n)
      from_answer (large h t l f) e = (h, inr (t, l))
      from_answer (twice h t l w f) e = other _ _ e f (λ z. omega arith)
      from_answer (answered t f) e = other _ _ e f (λ z. omega arith)

      to_answer : length header ≤ 4096 → (t : TreeOf header) × Large (entries_of t) → find_value header name ≡ refused 34 0
      to_answer h l = in_tree l.0 h false (repeated (entries_of l.0)) (large_only (entries_of l.0) l.1) refl

  -- 35 is answered exactly where the header has at most 4,096 bytes, and is the text of a tree with no number above 65,535 and a name that stands twice.
  pub a_name_twice : (find_value header name ≡ refused 35 0)
      ↔ ((length header ≤ 4096) × ((t : TreeOf header) × (Large (entries_of t) → ⊥) × Twice (entries_of t)))
  unfolding number_of
  a_name_twice = (from_answer the_case, λ c. to_answer c.0 c.1.0 c.1.1 c.1.2)
    where
      from_answer : Case header name → find_value header name ≡ refused 35 0
          → (length header ≤ 4096) × ((t : TreeOf header) × (Large (entries_of t) → ⊥) × Twice (entries_of t))
      from_answer (long h f) e = other _ _ e f (λ z. omega arith)
      from_answer (no_tree h n f) e = other _ _ e f (λ z. omega arith)
      from_answer (large h t l f) e = other _ _ e f (λ z. omega arith)
      from_answer (twice h t l w f) e = (h, (t, l, w))
      from_answer (answered t f) e = other _ _ e f (λ z. omega arith)

      all_small_law : (t : TreeOf header) → (Large (entries_of t) → ⊥) → (b : Bool) → all_small (entries_of t) ≡ b → b ≡ true
      all_small_law t n true e = refl
      all_small_law t n false e = absurd (n (large_told (entries_of t) e))

      to_answer : length header ≤ 4096 → (t : TreeOf header) → (Large (entries_of t) → ⊥) → Twice (entries_of t) → find_value header name ≡ refused 35 0
      to_answer h t n w = in_tree t h true true (all_small_law t n (all_small (entries_of t)) refl) (twice_only (entries_of t) w)

  -- what is granted is what a tree of the header answers
  the_tree : (a : Lookup) → find_value header name ≡ granted a → (t : TreeOf header) × (find_named t.tree name ≡ a)
  unfolding number_of
  the_tree a = from_answer the_case
    where
      same : (b : Lookup) → granted a ≡ granted b → b ≡ a
      same b e = cc

      from_answer : Case header name → find_value header name ≡ granted a → (t : TreeOf header) × (find_named t.tree name ≡ a)
      from_answer (long h f) e = other _ _ e f (λ z. omega arith)
      from_answer (no_tree h n f) e = other _ _ e f (λ z. omega arith)
      from_answer (large h t l f) e = other _ _ e f (λ z. omega arith)
      from_answer (twice h t l w f) e = other _ _ e f (λ z. omega arith)
      from_answer (answered t f) e = (t, same (find_named t.tree name) (sym e ∙ f))

  -- A value that is found is that of an entry of the name in the header's tree, and its bytes stand at the place.
  pub value_found : (kind : Kind) (place len : ℕ) → find_value header name ≡ granted (value_of kind place len)
      → (t : TreeOf header) × Shown header name (entries_of t) kind place len
  unfolding find_named
  value_found kind place len e =
      let r = the_tree (value_of kind place len) e in
      (r.0, by_name r.0 (is_seven_bit name) r.1)
    where
      by_name : (t : TreeOf header) (b : Bool) → cond b (look_up name (length t.tree.before + 1) (entries_of t)) absent ≡ value_of kind place len
          → Shown header name (entries_of t) kind place len
      by_name t true q =
          look_found header name (length t.tree.before + 1) (entries_of t) kind place len (stand_tree header t.tree t.good t.is_text) q
      by_name t false q = absurd (absent_not q)

  -- A name that is absent has a byte above 7F, or no entry of the header's tree has it.
  pub name_absent : find_value header name ≡ granted absent
      → (t : TreeOf header) × ((is_seven_bit name ≡ false) ⊎ ((e : Entry) → Stands (entries_of t) e → units e.name ≡ name → ⊥))
  unfolding find_named
  name_absent e =
      let r = the_tree absent e in
      (r.0, by_name r.0 (is_seven_bit name) refl r.1)
    where
      by_name : (t : TreeOf header) (b : Bool) → is_seven_bit name ≡ b → cond b (look_up name (length t.tree.before + 1) (entries_of t)) absent ≡ absent
          → (is_seven_bit name ≡ false) ⊎ ((e : Entry) → Stands (entries_of t) e → units e.name ≡ name → ⊥)
      by_name t true s q =
          inr (λ x st n. true≢false (sym (any_only name (entries_of t) x st n) ∙ look_absent name (length t.tree.before + 1) (entries_of t) q))
      by_name t false s q = inl s
