-- What `find` answers is `find_value`: the steps put together.
-- Assumes nothing.
use Prim.Native.Nat.{ℕ, ◌+◌, ◌*◌, ◌≤◌, ◌<◌}
use mathlib.Core.Bool.{Bool, true, false, cond, not}
use mathlib.Core.List.{List, [], ◌∷◌, ◌++◌}
use mathlib.Core.Option.{Option, none, some}
use mathlib.Core.Path.{◌≡◌, refl, sym, ap, ◌∙◌, subst}
use native.Mathlib.Omega.{arith}
use borrow.Author.Tests.{le-leb, lt-leb}
use lib.ListN.{length, drop, take, length-append}
use lib.Seq.{drop_at}
use Rattle.seven_bit.specs.Reply.{granted, refused}
use Rattle.seven_bit.specs.SevenBit.{is_seven_bit}
use Rattle.flat_json.specs.Abnf.{Matches}
use Rattle.flat_json.specs.Grammar.{json_text}
use Rattle.flat_json.specs.Table.{RightTable, run}
use Rattle.flat_json.specs.Tree.{Entry, Inside, blank, entries, Tree, entry_text, entries_text, inside_text, text as tree_text, GoodEntry, GoodEntries, GoodInside, Good}
use Rattle.flat_json.specs.Parse.{parse}
use Rattle.flat_json.proofs.RunLaws.{object_law}
use Rattle.flat_json.proofs.ParseTold.{parse_law}
use Rattle.flat_json.proofs.MatchesTree.{matches_tree, parsed_law}
use Rattle.flat_json.proofs.TextLaws.{entry_text_law, entry_long, entries_long}
use Rattle.pe_header.specs.declared.members.Walk.{Walk}
use Rattle.pe_header.specs.Find.{Lookup, absent, lookup_of, list, repeated, all_small, find_named, find_in, find_parsed, find_value}
use Rattle.pe_header.specs.Names.{NamesAt}
use Rattle.pe_header.specs.Members.{IsEnd, name_places, AllRead, TreeRead}
use Rattle.pe_header.proofs.ValueLaws.{ahead}
use Rattle.pe_header.proofs.MemberLaws.{name_there, a_name, what_follows}

-- A header of more than 4,096 bytes.
pub find_long : (header name : List ℕ) → 4096 < length header → find_value header name ≡ refused 33 0
unfolding find_value
find_long header name h = rw (lt-leb (length header) 4096 h)

-- A header that is the text of a good tree.
pub find_tree : (header name : List ℕ) (t : Tree) → length header ≤ 4096 → Good t → tree_text t ≡ header → find_value header name ≡ find_in t name
unfolding find_value find_parsed
find_tree header name t h g e = rw (le-leb (length header) 4096 h, (parse_law header t).1 (g, e))

-- A header that is no text of the grammar.
pub find_not : (header name : List ℕ) → length header ≤ 4096 → (Matches json_text header → ⊥) → find_value header name ≡ refused 34 0
unfolding find_value find_parsed
find_not header name h n = rw (le-leb (length header) 4096 h) (go (parse header) refl)
  where
    go : (o : Option Tree) → parse header ≡ o → find_parsed o name ≡ refused 34 0
    go none e = refl
    go (some t) e = absurd (n ((parsed_law header).1 (t, e)))

-- entries stand in a text from a place on, each with a comma or a brace behind it
unfoldable pub Stand : List ℕ → ℕ → List Entry → Type 0
Stand text from [] = Unit {0}
Stand text from (e ∷ es) =
    GoodEntry e × ((c : ℕ) × (rest : List ℕ) × IsEnd c × (drop from text ≡ entry_text e (c ∷ rest))) × Stand text (from + length (entry_text e []) + 1) es

stand_entries : (text : List ℕ) (from : ℕ) (e : Entry) (es : List Entry) (tail : List ℕ) → GoodEntry e → GoodEntries es → drop from text
    ≡ entry_text e (entries_text es (0x7D ∷ tail)) → Stand text from (e ∷ es)
unfolding Stand GoodEntries entries_text
stand_entries text from e [] tail g gs w =
    let n = what_follows [] tail in
    (g, (n.0, n.1, n.2, w ∙ ap (entry_text e) n.3), tt)
stand_entries text from e (d ∷ ds) tail g gs w =
    let n = what_follows (d ∷ ds) tail in
    (g, (n.0, n.1, n.2, w ∙ ap (entry_text e) n.3), stand_entries text (from + length (entry_text e []) + 1) d ds tail gs.0 gs.1 (next w))
  where
    next : drop from text ≡ entry_text e (entries_text (d ∷ ds) (0x7D ∷ tail)) → drop (from + length (entry_text e []) + 1) text
        ≡ entry_text d (entries_text ds (0x7D ∷ tail))
    next w =
        let r = entry_text d (entries_text ds (0x7D ∷ tail)) in
        ahead text (from + length (entry_text e [])) (0x2C ∷ []) r (ahead text from (entry_text e []) (0x2C ∷ r) (w ∙ entry_text_law e (0x2C ∷ r)))

pub stand_tree : (text : List ℕ) (t : Tree) → Good t → tree_text t ≡ text → Stand text (length t.before + 1) (list t.inside)
unfolding tree_text inside_text GoodInside list Stand
stand_tree text t g e = go t.inside g.inside (sym e)
  where
    go : (i : Inside) → GoodInside i → text ≡ t.before ++ 0x7B ∷ inside_text i (0x7D ∷ t.after) → Stand text (length t.before + 1) (list i)
    go (blank xs) k w = tt
    go (entries d ds) k w =
        stand_entries text (length t.before + 1) d ds t.after k.0 k.1
        (ahead text (length t.before) (0x7B ∷ []) (entry_text d (entries_text ds (0x7D ∷ t.after)))
        (ap (λ (l : List ℕ). drop (length t.before) l) w ∙ drop_at t.before (0x7B ∷ entry_text d (entries_text ds (0x7D ∷ t.after)))
        (length t.before) refl))

-- the places of their names are places of names
pub names_stand : (text : List ℕ) (from : ℕ) (es : List Entry) → Stand text from es → NamesAt text (name_places from es) es
unfolding Stand NamesAt name_places
names_stand text from [] s = tt
names_stand text from (e ∷ es) s = (
  a_name text (from + length e.before + 1) e (s.1.0 ∷ s.1.1) s.0 (name_there text from e (s.1.0 ∷ s.1.1) s.1.3),
  names_stand text (from + length (entry_text e []) + 1) es s.2,
)

-- a member takes five bytes at least, and the object two more than its members without a comma
pub few_names : (text : List ℕ) (t : Tree) → Good t → tree_text t ≡ text → 5 * length (list t.inside) ≤ length text
unfolding tree_text inside_text GoodInside list
few_names text t g e = go t.inside g.inside (sym e)
  where
    go : (i : Inside) → GoodInside i → text ≡ t.before ++ 0x7B ∷ inside_text i (0x7D ∷ t.after) → 5 * length (list i) ≤ length text
    go (blank xs) k w = omega arith
    go (entries d ds) k w =
        let l1 = ap length w ∙ length-append t.before (0x7B ∷ entry_text d (entries_text ds (0x7D ∷ t.after))) in
        let l2 = entry_long d (entries_text ds (0x7D ∷ t.after)) k.0 in
        let l3 = entries_long ds (0x7D ∷ t.after) k.1 in
        omega arith

-- the tree of a header that the table accepts, read
pub tree_read : (table : List ℕ) → RightTable table → (text name room names : List ℕ) (walk : Walk) → length text ≤ 5 * length room → length names ≡ length room
    → (walk.at.state ≡ run table 0 text)
    × ((t : Tree) → Good t → tree_text t ≡ text → length (list t.inside) ≤ length room → AllRead name (length t.before + 1) (list t.inside) names walk)
    → walk.at.state ≡ 28 → TreeRead text name names walk
tree_read table right text name room names walk h l e s =
    let m = matches_tree text ((object_law table right text).0 (sym e.0 ∙ s)) in
    let f = few_names text m.0 m.1 m.2 in
    let o = e.1 m.0 m.1 m.2 (omega arith) in
    let c = o.count in
    record { tree = m.0; good = m.1; is_text = m.2; room = omega arith; all_read = o }

pub names_read : (text name names : List ℕ) (walk : Walk) (r : TreeRead text name names walk) → NamesAt text (take walk.names names) (list r.tree.inside)
names_read text name names walk r =
    subst (λ (l : List ℕ). NamesAt text l (list r.tree.inside)) (sym r.all_read.noted)
    (names_stand text (length r.tree.before + 1) (list r.tree.inside) (stand_tree text r.tree r.good r.is_text))

-- the questions of `find_in` in their order
pub find_told : (header name : List ℕ) (t : Tree) → length header ≤ 4096 → Good t → tree_text t ≡ header → (a b : Bool) → all_small (list t.inside) ≡ a
    → repeated (list t.inside) ≡ b
    → find_value header name ≡ cond a (cond b (refused 35 0) (granted (find_named t name))) (refused 34 0)
unfolding find_in
find_told header name t h g e a b p q = find_tree header name t h g e ∙ rw (p, q) (go a b)
  where
    go : (x y : Bool) → cond x (cond (not y) (granted (find_named t name)) (refused 35 0)) (refused 34 0)
        ≡ cond x (cond y (refused 35 0) (granted (find_named t name))) (refused 34 0)
    go true true = refl
    go true false = refl
    go false y = refl

-- `find_value` of a header whose tree was read
module _ (text name names : List ℕ) (walk : Walk) (r : TreeRead text name names walk) (h : length text ≤ 4096) where
  told : (a b : Bool) → walk.small ≡ a → b ≡ repeated (list r.tree.inside) → find_value text name
      ≡ cond a (cond b (refused 35 0) (granted (find_named r.tree name))) (refused 34 0)
  told a b s q = find_told text name r.tree h r.good r.is_text a b (sym r.all_read.numbers ∙ s) (sym q)

  pub read_large : walk.small ≡ false → find_value text name ≡ refused 34 0
  read_large s = told false (repeated (list r.tree.inside)) s refl

  pub read_twice : walk.small ≡ true → true ≡ repeated (list r.tree.inside) → find_value text name ≡ refused 35 0
  read_twice s q = told true true s q

  pub read_once : walk.small ≡ true → false ≡ repeated (list r.tree.inside) → find_value text name
      ≡ granted (cond (is_seven_bit name) (lookup_of walk.found) absent)
  unfolding find_named
  read_once s q = told true false s q ∙ ap (λ (x : Lookup). granted (cond (is_seven_bit name) x absent)) r.all_read.looked
