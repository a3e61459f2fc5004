-- From name to name: where a reading comes to from behind a value, and from the text's start.
-- Assumes nothing.
use Prim.Native.Nat.{ℕ, suc, ◌+◌, ◌-◌, ◌≤◌, ◌<◌}
use mathlib.Core.Bool.{Bool, true, false, cond, ◌&&◌, and-true, true≢false}
use mathlib.Core.List.{List, [], ◌∷◌, ◌++◌, append-nil, append_assoc}
use mathlib.Core.Logic.{◌⊎◌, inl, inr, ⊎_elim}
use mathlib.Core.Path.{◌≡◌, refl, sym, ap, ◌∙◌, subst}
use native.Mathlib.Omega.{arith}
use borrow.Author.Tests.{eqb-true, eq-eqb}
use lib.Dec.{eqb, leb}
use lib.ListN.{length, drop, take, get_or, set, length-append, length-drop}
use lib.Seq.{drop_at, take-suc, take-set-le, get_or-set_same, lt-length-set}
use Rattle.flat_json.specs.declared.Spot.{Spot}
use Rattle.flat_json.specs.Table.{RightTable, run, spot, reached_over, reached}
use Rattle.flat_json.specs.Tree.{is_ws, is_digit, all, Piece, Value, number, Entry, Inside, blank, entries, Tree, pieces_text, string_text, value_text, lead_text}
use Rattle.flat_json.specs.Tree.{entry_text, entries_text, inside_text, text as tree_text, good_value, GoodEntry, GoodEntries, GoodInside, Good}
use Rattle.flat_json.proofs.Moves.{LeadMoves, first_moves, later_moves, outside}
use Rattle.flat_json.proofs.WalkLaws.{reached_stop, reached_within, reached_run}
use Rattle.flat_json.proofs.ParseText.{number_digits}
use Rattle.flat_json.proofs.TextLaws.{pieces_text_law, value_text_law, lead_text_law, lead_length, entry_length}
use Rattle.flat_json.proofs.TreeWalk.{reach_is, reach_ws}
use Rattle.std.specs.Prelude.{Option, Some, None, is_some}
use Rattle.pe_header.specs.declared.Found.{Found}
use Rattle.pe_header.specs.declared.Kind.{Kind}
use Rattle.pe_header.specs.declared.members.Value.{Value as ValueRead}
use Rattle.pe_header.specs.declared.members.Walk.{Walk}
use Rattle.pe_header.specs.Find.{units, same_units, is_named, kind_of, value_bytes, quotes, Lookup, absent, value_of, lookup_of, found_at, look_up, list, decimal, small, all_small}
use Rattle.pe_header.specs.Names.{NameAt}
use Rattle.pe_header.specs.Members.{name_text, value_from, IsEnd, kind_at, found_of, first_of, ReadRight, Ahead, name_places, found_or, SoFar, AllRead}
use Rattle.pe_header.proofs.ValueLaws.{ahead}

-- a reading up to a name's opening quotation mark, from a state in which a name may come
module _ (table : List ℕ) (right : RightTable table) where
  to_name : (s : ℕ) → LeadMoves s → (s ≡ 2 → ⊥) → (p : ℕ) (e : Entry) (r : List ℕ) → GoodEntry e → reached_over table 2 p s (entry_text e r)
      ≡ spot (p + length e.before + 1) 2
  unfolding entry_text lead_text string_text
  to_name s m n p e r g =
      let inner = pieces_text e.name (0x22 ∷ (e.gap ++ 0x3A ∷ (e.lead ++ value_text e.value (e.after ++ r)))) in
      reach_ws table right 2 p s e.before (0x22 ∷ inner) m.before g.before n
      ∙ reach_is table right 2 (p + length e.before) s 2 0x22 inner m.open_name n
      ∙ reached_stop table 2 2 (suc (p + length e.before)) inner refl
      ∙ ap (λ (x : ℕ). spot x 2) (let z : suc (p + length e.before) ≡ p + length e.before + 1 = omega arith in z)

  -- behind the closing brace, to the end
  to_end : (p : ℕ) (xs : List ℕ) (n : ℕ) → all is_ws xs ≡ true → p + length xs ≡ n → reached_over table 2 p 28 xs ≡ spot n 28
  unfolding reached_over
  to_end p xs n h e =
      ap (reached_over table 2 p 28) (sym (append-nil xs)) ∙ reach_ws table right 2 p 28 xs [] outside.end h (λ q. omega arith)
      ∙ ap (λ (x : ℕ). spot x 28) e

  module _ (text : List ℕ) where
    -- behind a value that ends at q: the next name, or the text's end
    next_ahead : (q from : ℕ) (after : List ℕ) (es : List Entry) (tail : List ℕ) (at : Spot) → all is_ws after ≡ true → GoodEntries es → all is_ws tail ≡ true
        → drop q text ≡ after ++ entries_text es (0x7D ∷ tail) → from ≡ q + length after + 1 → at ≡ reached_over table 2 q 26 (drop q text)
        → Ahead text at from es
    unfolding Ahead entries_text GoodEntries
    next_ahead q from after [] tail at h g t w f e =
        let l = length-drop q text in
        let m = ap length w ∙ length-append after (0x7D ∷ tail) in
        e ∙ ap (reached_over table 2 q 26) w ∙ reach_ws table right 2 q 26 after (0x7D ∷ tail) outside.after h (λ x. omega arith)
        ∙ reach_is table right 2 (q + length after) 26 28 0x7D tail outside.brace (λ x. omega arith)
        ∙ to_end (suc (q + length after)) tail (length text) t (omega arith)
    next_ahead q from after (d ∷ ds) tail at h g t w f e =
        let r = entries_text ds (0x7D ∷ tail) in (
          e ∙ ap (reached_over table 2 q 26) w ∙ reach_ws table right 2 q 26 after (0x2C ∷ entry_text d r) outside.after h (λ x. omega arith)
              ∙ reach_is table right 2 (q + length after) 26 27 0x2C (entry_text d r) outside.comma (λ x. omega arith)
              ∙ to_name 27 later_moves (λ x. omega arith) (suc (q + length after)) d r g.0
              ∙ ap (λ (x : ℕ). spot (x + length d.before + 1) 2) (let z : suc (q + length after) ≡ from = omega arith in z),
          g.0,
          g.1,
          (
            tail,
            t,
            ap (λ (x : ℕ). drop x text) f ∙ ahead text (q + length after) (0x2C ∷ []) (entry_text d r) (ahead text q after (0x2C ∷ entry_text d r) w),
          ),
        )

    -- from the text's start
    first_ahead : (t : Tree) → Good t → tree_text t ≡ text → Ahead text (reached table text (spot 0 0) 2) (length t.before + 1) (list t.inside)
    unfolding reached tree_text Ahead inside_text GoodInside list
    first_ahead t g e = go t.inside g.inside (sym e)
      where
        opened : (r : List ℕ) → text ≡ t.before ++ 0x7B ∷ r → reached_over table 2 0 0 (drop 0 text) ≡ reached_over table 2 (length t.before + 1) 1 r
        opened r w =
            ap (reached_over table 2 0 0) w ∙ reach_ws table right 2 0 0 t.before (0x7B ∷ r) outside.start g.before (λ x. omega arith)
            ∙ reach_is table right 2 (0 + length t.before) 0 1 0x7B r outside.open_object (λ x. omega arith)
            ∙ ap (λ (x : ℕ). reached_over table 2 x 1 r) (let z : suc (0 + length t.before) ≡ length t.before + 1 = omega arith in z)

        go : (i : Inside) → GoodInside i → text ≡ t.before ++ 0x7B ∷ inside_text i (0x7D ∷ t.after)
            → Ahead text (reached_over table 2 0 0 (drop 0 text)) (length t.before + 1) (list i)
        go (blank xs) k w =
            let p = length t.before + 1 in
            let l1 = ap length w ∙ length-append t.before (0x7B ∷ (xs ++ 0x7D ∷ t.after)) in
            let l2 = length-append xs (0x7D ∷ t.after) in
            opened (xs ++ 0x7D ∷ t.after) w
            ∙ reach_ws table right 2 p 1 xs (0x7D ∷ t.after) first_moves.before k (λ x. omega arith)
            ∙ reach_is table right 2 (p + length xs) 1 28 0x7D t.after outside.no_member (λ x. omega arith)
            ∙ to_end (suc (p + length xs)) t.after (length text) g.after (omega arith)
        go (entries e es) k w =
            let r = entries_text es (0x7D ∷ t.after) in (
              opened (entry_text e r) w ∙ to_name 1 first_moves (λ x. omega arith) (length t.before + 1) e r k.0,
              k.0,
              k.1,
              (
                t.after,
                g.after,
                ahead text (length t.before) (0x7B ∷ []) (entry_text e r) (ap (λ (l : List ℕ). drop (length t.before) l) w
                    ∙ drop_at t.before (0x7B ∷ entry_text e r) (length t.before) refl),
              ),
            )

-- what stands from a name on, and from behind its value
pub name_there : (text : List ℕ) (from : ℕ) (e : Entry) (r : List ℕ) → drop from text ≡ entry_text e r → drop (from + length e.before + 1) text ≡ name_text e r
unfolding name_text entry_text lead_text string_text
name_there text from e r w = ahead text (from + length e.before) (0x22 ∷ []) (name_text e r) (ahead text from e.before (0x22 ∷ name_text e r) w)

pub name_within : (text : List ℕ) (p : ℕ) (e : Entry) (r : List ℕ) → drop p text ≡ name_text e r → p < length text
unfolding name_text
name_within text p e r w =
    let inner = e.gap ++ 0x3A ∷ (e.lead ++ value_text e.value (e.after ++ r)) in
    let l1 = ap length (w ∙ pieces_text_law e.name (0x22 ∷ inner)) ∙ length-append (pieces_text e.name []) (0x22 ∷ inner) in
    let l2 = length-drop p text in
    omega arith

pub a_name : (text : List ℕ) (p : ℕ) (e : Entry) (r : List ℕ) → GoodEntry e → drop p text ≡ name_text e r → NameAt text p e.name
unfolding name_text
a_name text p e r g w = (g.name, (e.gap ++ 0x3A ∷ (e.lead ++ value_text e.value (e.after ++ r)), w))

value_there : (text : List ℕ) (from : ℕ) (e : Entry) (r : List ℕ) → drop from text ≡ entry_text e r
    → drop (value_from (from + length e.before + 1) e) text ≡ value_text e.value (e.after ++ r)
unfolding value_from entry_text
value_there text from e r w =
    let l = lead_length e in
    ap (λ (x : ℕ). drop x text) (let z : from + length e.before + 1 + length (pieces_text e.name []) + 1 + (length e.gap + 1) + length e.lead
    ≡ from + length (lead_text e []) = omega arith in z)
    ∙ ahead text from (lead_text e []) (value_text e.value (e.after ++ r)) (w ∙ lead_text_law e (value_text e.value (e.after ++ r)))

behind_value : (text : List ℕ) (f : ℕ) (e : Entry) (r : List ℕ) → drop f text ≡ value_text e.value (e.after ++ r)
    → drop (f + length (value_text e.value [])) text ≡ e.after ++ r
behind_value text f e r w = ahead text f (value_text e.value []) (e.after ++ r) (w ∙ value_text_law e.value (e.after ++ r))

-- a comma or a brace follows an entry
pub what_follows : (es : List Entry) (tail : List ℕ) → (c : ℕ) × (rest : List ℕ) × IsEnd c × (entries_text es (0x7D ∷ tail) ≡ c ∷ rest)
unfolding entries_text
what_follows [] tail = (0x7D, tail, inr refl, refl)
what_follows (e ∷ es) tail = (0x2C, entry_text e (entries_text es (0x7D ∷ tail)), inl refl, refl)

-- a place noted behind those before it
noted_more : (names : List ℕ) (k p : ℕ) → k < length names → take (k + 1) (set names k p) ≡ take k names ++ (p ∷ [])
noted_more names k p h =
    ap (λ (n : ℕ). take n (set names k p)) (let z : k + 1 ≡ suc k = omega arith in z)
    ∙ take-suc (set names k p) k 0 (lt-length-set names k p h)
    ∙ ap (λ (l : List ℕ). l ++ (get_or (set names k p) k 0 ∷ [])) (take-set-le k names k p (omega arith))
    ∙ ap (λ (v : ℕ). take k names ++ (v ∷ [])) (get_or-set_same names k p 0 h)

and_again : (a b c x : Bool) → x ≡ (a && (b && c)) → x ≡ ((a && b) && c)
and_again true b c x e = e
and_again false b c x e = e

-- the entry whose name a reading stands in
pub record Member (text name : List ℕ) (walk : Walk) (from : ℕ) (es : List Entry) (names : List ℕ) : Type 0 where
  pub here : ℕ
  pub entry : Entry
  pub rest : List Entry
  pub tail : List ℕ
  pub at : walk.at ≡ spot (here + length entry.before + 1) 2
  pub good : GoodEntry entry
  pub good_rest : GoodEntries rest
  pub blank_tail : all is_ws tail ≡ true
  pub there : drop here text ≡ entry_text entry (entries_text rest (0x7D ∷ tail))
  pub count : walk.names + suc (length rest) ≡ length es
  pub numbers : all_small es ≡ (walk.small && (small entry.value && all_small rest))
  pub noted : take walk.names names ++ (here + length entry.before + 1) ∷ name_places (here + length (entry_text entry []) + 1) rest ≡ name_places from es
  pub looked : look_up name from es
      ≡ found_or walk.found (cond (is_named name entry) (found_at (here + length (lead_text entry [])) entry.value)
      (look_up name (here + length (entry_text entry []) + 1) rest))

pub in_member : (text name : List ℕ) (walk : Walk) (from : ℕ) (es : List Entry) (names : List ℕ) → walk.at.place < length text
    → SoFar text name from es names walk → Member text name walk from es names
unfolding Ahead name_places all_small look_up
in_member text name walk from es names h s = go s.rest s.ahead s.count s.numbers s.noted s.looked
  where
    go : (rest : List Entry) → Ahead text walk.at s.here rest → walk.names + length rest ≡ length es → all_small es ≡ (walk.small && all_small rest)
        → take walk.names names ++ name_places s.here rest ≡ name_places from es → look_up name from es
        ≡ found_or walk.found (look_up name s.here rest) → Member text name walk from es names
    go [] a c n w l = absurd (let z : walk.at.place ≡ length text = ap (λ (x : Spot). x.place) a in omega arith)
    go (e ∷ rest) a c n w l =
        record {
          here = s.here;
          entry = e;
          rest = rest;
          tail = a.3.0;
          at = a.0;
          good = a.1;
          good_rest = a.2;
          blank_tail = a.3.1;
          there = a.3.2;
          count = c;
          numbers = n;
          noted = w;
          looked = l;
        }

-- what is answered for a value that was read right
found_right : (table text : List ℕ) (f : ℕ) (v : Value) (r : ValueRead) → ReadRight table text f v r
    → value_of (kind_at r.state) r.place (r.end - r.place) ≡ found_at f v
unfolding found_at
found_right table text f v r a =
    let e = a.end in
    ap (λ (k : Kind). value_of k r.place (r.end - r.place)) a.kind
    ∙ ap (λ (n : ℕ). value_of (kind_of v) r.place n) (let z : r.end - r.place ≡ length (value_bytes v) = omega arith in z)
    ∙ ap (λ (n : ℕ). value_of (kind_of v) n (length (value_bytes v))) a.place

-- a flag says of a value that it is no number above 65,535
abbrev pub Fits : List ℕ → ValueRead → Bool → Type 0
Fits text v fit =
    ((v.state ≡ 16 → ⊥) → fit ≡ true)
    × (v.state ≡ 16 → (ds r : List ℕ) → all is_digit ds ≡ true → drop v.place text ≡ ds ++ r → v.end ≡ v.place + length ds → fit ≡ leb (decimal 0 ds) 65535)

-- one member more
module _ (table : List ℕ) (right : RightTable table) (text name : List ℕ) (walk : Walk) (from : ℕ) (es : List Entry) (names : List ℕ)
    (m : Member text name walk from es names) where
  abbrev value_at : ℕ
  value_at = value_from (m.here + length m.entry.before + 1) m.entry

  abbrev onward : ℕ
  onward = m.here + length (entry_text m.entry []) + 1

  -- the first value of the name so far
  found_so_far : (v : ValueRead) (found : Option Found) → ReadRight table text value_at m.entry.value v
      → found ≡ first_of walk.found (cond (is_named name m.entry) (Some (found_of v)) None)
      → look_up name from es ≡ found_or found (look_up name onward m.rest)
  unfolding found_or first_of value_from
  found_so_far v found r e =
      m.looked ∙ go walk.found (is_named name m.entry) ∙ ap (λ (o : Option Found). found_or o later) (sym e)
    where
      later : Lookup
      later = look_up name onward m.rest

      here : Lookup
      here = found_at (m.here + length (lead_text m.entry [])) m.entry.value

      right_here : here ≡ value_of (kind_at v.state) v.place (v.end - v.place)
      right_here =
          let l = lead_length m.entry in
          let y : value_at ≡ m.here + length (lead_text m.entry []) = omega arith in
          sym (found_right table text value_at m.entry.value v r ∙ ap (λ (x : ℕ). found_at x m.entry.value) y)

      go : (o : Option Found) (t : Bool) → found_or o (cond t here later) ≡ found_or (first_of o (cond t (Some (found_of v)) None)) later
      go (Some f) t = refl
      go None true = right_here
      go None false = refl

  pub next_so_far : (v : ValueRead) (found : Option Found) (at : Spot) (fit : Bool) → ReadRight table text value_at m.entry.value v
      → at ≡ reached table text v.at 2 → fit ≡ (walk.small && small m.entry.value) → (after : List ℕ)
      → (walk.names < length names → after ≡ set names walk.names walk.at.place)
      → length es ≤ length names → found ≡ first_of walk.found (cond (is_named name m.entry) (Some (found_of v)) None)
      → SoFar text name from es after (record { at = at; names = walk.names + 1; small = fit; found = found })
  unfolding reached value_from
  next_so_far v found at fit r e f after a room first =
      let follows = entries_text m.rest (0x7D ∷ m.tail) in
      let q = value_at + length (value_text m.entry.value []) in
      let w : drop q text ≡ m.entry.after ++ follows = behind_value text value_at m.entry follows
      (value_there text m.here m.entry follows m.there) in
      let count = m.count in
      let k : walk.names < length names = omega arith in
      record {
        here = onward;
        rest = m.rest;
        ahead = next_ahead table right text q onward m.entry.after m.rest m.tail at m.good.after m.good_rest m.blank_tail w
            (let l1 = entry_length m.entry in let l2 = lead_length m.entry in omega arith) (e ∙ r.onward);
        count = omega arith;
        numbers = and_again walk.small (small m.entry.value) (all_small m.rest) (all_small es) m.numbers
            ∙ ap (λ (b : Bool). b && all_small m.rest) (sym f);
        noted =
            ap (λ (l : List ℕ). take (walk.names + 1) l ++ name_places onward m.rest) (a k)
            ∙ ap (λ (l : List ℕ). l ++ name_places onward m.rest) (noted_more names walk.names walk.at.place k)
            ∙ append_assoc (take walk.names names) (walk.at.place ∷ []) (name_places onward m.rest)
            ∙ ap (λ (x : ℕ). take walk.names names ++ x ∷ name_places onward m.rest) (ap (λ (x : Spot). x.place) m.at)
            ∙ m.noted;
        looked = found_so_far v found r first;
      }

  -- whether the numbers stay small with this value
  value_fits : (v : ValueRead) (fit : Bool) → ReadRight table text value_at m.entry.value v → Fits text v fit → fit ≡ small m.entry.value
  unfolding small quotes value_bytes value_text good_value
  value_fits v fit r told = go (eqb v.state 16) refl
    where
      after : List ℕ
      after = m.entry.after ++ entries_text m.rest (0x7D ∷ m.tail)

      digits : (ds : List ℕ) → v.state ≡ 16 → m.entry.value ≡ number ds → fit ≡ small (number ds)
      digits ds q e =
          let p : v.place ≡ value_at = r.place ∙ ap (λ (x : Value). value_at + quotes x) e ∙ (let z : value_at + 0 ≡ value_at = omega arith in z) in
          let w : drop value_at text ≡ value_text m.entry.value after = value_there text m.here m.entry
          (entries_text m.rest (0x7D ∷ m.tail)) m.there in
          told.1 q ds after (number_digits ds (subst (λ (x : Value). good_value x ≡ true) e m.good.value))
          (ap (λ (x : ℕ). drop x text) p ∙ w ∙ ap (λ (x : Value). value_text x after) e)
          (r.end ∙ ap (λ (x : Value). v.place + length (value_bytes x)) e)

      go : (t : Bool) → eqb v.state 16 ≡ t → fit ≡ small m.entry.value
      go true q =
          let n = r.numeric (eqb-true v.state 16 q) in
          digits n.0 (eqb-true v.state 16 q) n.1 ∙ ap small (sym n.1)
      go false q =
          let n : v.state ≡ 16 → ⊥ = λ e. true≢false (sym (eq-eqb v.state 16 e) ∙ q) in
          told.0 n ∙ sym (r.other n)

-- what `next_member` ensures
module _ (table : List ℕ) (right : RightTable table) (text name : List ℕ) (walk : Walk) (names after : List ℕ) (v : ValueRead) (found : Option Found) (at : Spot)
    (small_so_far : Bool) where
  pub next_told : walk.at.place < length text → walk.names ≤ walk.at.place
      → ((run table walk.at.state (drop walk.at.place text) ≡ run table v.at.state (drop v.at.place text))
      × (((v.at.place ≤ length text) × (v.end ≤ v.at.place))
      × ((walk.at.place < length text → walk.at.place < v.at.place)
      × ((e : Entry) (c : ℕ) (rest : List ℕ) → GoodEntry e → IsEnd c → walk.at.state ≡ 2 → drop walk.at.place text ≡ name_text e (c ∷ rest)
      → ReadRight table text (value_from walk.at.place e) e.value v))))
      → at ≡ reached table text v.at 2
      → ((walk.small ≡ false) × (small_so_far ≡ false)) ⊎ ((walk.small ≡ true) × Fits text v small_so_far)
      → (walk.names < length names → after ≡ set names walk.names walk.at.place)
      → ((ps : List Piece) → NameAt text walk.at.place ps → found ≡ first_of walk.found (cond (same_units (units ps) name) (Some (found_of v)) None))
      → ((walk.at.place < at.place) × (at.place ≤ length text) × (walk.names + 1 ≤ at.place))
      × ((run table walk.at.state (drop walk.at.place text) ≡ run table at.state (drop at.place text))
      × ((from : ℕ) (es : List Entry) → length es ≤ length names → SoFar text name from es names walk
      → SoFar text name from es after (record { at = at; names = walk.names + 1; small = small_so_far; found = found })))
  unfolding is_named
  next_told h k o e small-told a found-told =
      let b : (v.at.place ≤ at.place) × (at.place ≤ length text) = rw e (reached_within table text v.at 2 o.1.0.0) in
      let x = b.0 in
      let y : walk.at.place < v.at.place = o.1.1.0 h in (
        (omega arith, b.1, omega arith),
        (
          o.0 ∙ reached_run table text v.at 2 ∙ ap (λ (z : Spot). run table z.state (drop z.place text)) (sym e),
          λ from es room s. step from es room (in_member text name walk from es names h s),
        ),
      )
    where
      step : (from : ℕ) (es : List Entry) → length es ≤ length names → Member text name walk from es names
          → SoFar text name from es after (record { at = at; names = walk.names + 1; small = small_so_far; found = found })
      step from es room m =
          let n = what_follows m.rest m.tail in
          let p : walk.at.place ≡ m.here + length m.entry.before + 1 = ap (λ (z : Spot). z.place) m.at in
          let w : drop walk.at.place text ≡ name_text m.entry (n.0 ∷ n.1) =
          ap (λ (z : ℕ). drop z text) p ∙ name_there text m.here m.entry (entries_text m.rest (0x7D ∷ m.tail)) m.there
          ∙ ap (name_text m.entry) n.3
          in
          let r : ReadRight table text (value_from (m.here + length m.entry.before + 1) m.entry) m.entry.value v =
          subst (λ (z : ℕ). ReadRight table text (value_from z m.entry) m.entry.value v) p
          (o.1.1.1 m.entry n.0 n.1 m.good n.2 (ap (λ (z : Spot). z.state) m.at) w)
          in
          next_so_far table right text name walk from es names m v found at small_so_far r e
          (⊎_elim
          (λ f. f.1 ∙ ap (λ (b : Bool). b && small m.entry.value) (sym f.0))
          (λ t. value_fits table right text name walk from es names m v small_so_far r t.1 ∙ ap (λ (b : Bool). b && small m.entry.value) (sym t.0))
          small-told)
          after a room
          (found-told m.entry.name (a_name text walk.at.place m.entry (n.0 ∷ n.1) m.good w))

-- what was found first
pub first_now : (o now : Option Found) → is_some o ≡ false → first_of o now ≡ now
unfolding first_of
first_now (Some f) now e = absurd (true≢false e)
first_now None now e = refl

pub first_none : (o : Option Found) → o ≡ first_of o None
unfolding first_of
first_none (Some f) = refl
first_none None = refl

pub first_before : (o now : Option Found) → is_some o ≡ true → first_of o now ≡ o
unfolding first_of
first_before (Some f) now e = refl
first_before None now e = absurd (true≢false (sym e))

-- before the first member, and behind the last
pub started : (table : List ℕ) → RightTable table → (text name names : List ℕ) (t : Tree) → Good t → tree_text t ≡ text → (at : Spot) → at
    ≡ reached table text (spot 0 0) 2
    → SoFar text name (length t.before + 1) (list t.inside) names (record { at = at; names = 0; small = true; found = None })
unfolding found_or
started table right text name names t g e at q =
    record {
      here = length t.before + 1;
      rest = list t.inside;
      ahead = subst (λ (x : Spot). Ahead text x (length t.before + 1) (list t.inside)) (sym q) (first_ahead table right text t g e);
      count = omega arith;
      numbers = refl;
      noted = refl;
      looked = refl;
    }

-- what was found, where nothing is left to be looked at
alone : (o : Option Found) → found_or o absent ≡ lookup_of o
unfolding found_or
alone (Some f) = refl
alone None = refl

pub finished : (text name : List ℕ) (from : ℕ) (es : List Entry) (names : List ℕ) (walk : Walk) → length text ≤ walk.at.place
    → SoFar text name from es names walk → AllRead name from es names walk
unfolding Ahead name_places all_small look_up
finished text name from es names walk h s = go s.rest s.ahead s.count s.numbers s.noted s.looked
  where
    go : (rest : List Entry) → Ahead text walk.at s.here rest → walk.names + length rest ≡ length es → all_small es ≡ (walk.small && all_small rest)
        → take walk.names names ++ name_places s.here rest ≡ name_places from es → look_up name from es
        ≡ found_or walk.found (look_up name s.here rest) → AllRead name from es names walk
    go [] a c n w l =
        record {
          count = omega arith;
          numbers = sym (n ∙ and-true walk.small);
          noted = sym (append-nil (take walk.names names))
              ∙ w;
          looked = l ∙ alone walk.found;
        }
    go (e ∷ rest) a c n w l =
        let p : walk.at.place ≡ s.here + length e.before + 1 = ap (λ (z : Spot). z.place) a.0 in
        let r = entries_text rest (0x7D ∷ a.3.0) in
        let k = name_within text (s.here + length e.before + 1) e r (name_there text s.here e r a.3.2) in
        absurd (omega arith)
