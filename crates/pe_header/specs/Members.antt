-- What the steps of `find` answer about members, in the terms of a tree.
-- Assumes nothing.
use Rattle.std.specs.Prelude.{ℕ, ◌+◌, ◌-◌, ◌≤◌, true, cond, ◌&&◌, ◌||◌, List, [], ◌∷◌, ◌++◌, ◌⊎◌, ◌≡◌, eqb, length, drop, take, Option, Some, None}
use Rattle.flat_json.specs.declared.Spot.{Spot}
use Rattle.flat_json.specs.Table.{spot, reached_over}
use Rattle.flat_json.specs.Tree.{is_ws, all, Value, number, Entry, GoodEntry, GoodEntries, pieces_text, value_text, entry_text, entries_text, text as tree_text}
use Rattle.flat_json.specs.Tree.{Tree, Good}
use Rattle.pe_header.specs.declared.Found.{Found}
use Rattle.pe_header.specs.declared.Kind.{Kind}
use Rattle.pe_header.specs.declared.members.Value.{Value as ValueRead}
use Rattle.pe_header.specs.declared.members.Walk.{Walk}
use Rattle.pe_header.specs.Find.{kind_of, value_bytes, quotes, Lookup, lookup_of, look_up, small, all_small, list}

-- An entry from behind the opening quotation mark of its name.
unfoldable pub name_text : Entry → List ℕ → List ℕ
name_text e rest = pieces_text e.name (0x22 ∷ (e.gap ++ 0x3A ∷ (e.lead ++ value_text e.value (e.after ++ rest))))

-- Where its value begins, if its name begins at a place.
unfoldable pub value_from : ℕ → Entry → ℕ
value_from place e = place + length (pieces_text e.name []) + 1 + (length e.gap + 1) + length e.lead

-- What follows an entry: a comma or the closing brace.
abbrev pub IsEnd : ℕ → Type 0
IsEnd c = (c ≡ 0x2C) ⊎ (c ≡ 0x7D)

-- The kind of a value by the state behind its first byte.
unfoldable pub kind_at : ℕ → Kind
kind_at s =
    cond (eqb s 10) Kind.String
    (cond (eqb s 16 || eqb s 26) Kind.Number
    (cond (eqb s 17) Kind.True (cond (eqb s 20) Kind.False Kind.Null)))

-- A value whose text begins at a place was read right: kind, place and end of its bytes, which numbers are to be asked for their size, and that the
-- reading comes to the next name as from behind the value.
pub record ReadRight (table text : List ℕ) (from : ℕ) (v : Value) (r : ValueRead) : Type 0 where
  pub kind : kind_at r.state ≡ kind_of v
  pub place : r.place ≡ from + quotes v
  pub end : r.end ≡ r.place + length (value_bytes v)
  pub numeric : r.state ≡ 16 → (ds : List ℕ) × (v ≡ number ds)
  pub other : (r.state ≡ 16 → ⊥) → small v ≡ true
  pub onward : reached_over table 2 r.at.place r.at.state (drop r.at.place text)
      ≡ reached_over table 2 (from + length (value_text v [])) 26 (drop (from + length (value_text v [])) text)

-- The places of the names of entries that begin at a place.
unfoldable pub name_places : ℕ → List Entry → List ℕ
name_places from [] = []
name_places from (e ∷ es) = (from + length e.before + 1) ∷ name_places (from + length (entry_text e []) + 1) es

-- Entries that are still to be read stand in the text from a place on, and a reading stands in the name of the first of them, or at the text's end.
unfoldable pub Ahead : List ℕ → Spot → ℕ → List Entry → Type 0
Ahead text at from [] = at ≡ spot (length text) 28
Ahead text at from (e ∷ es) =
    (at ≡ spot (from + length e.before + 1) 2) × GoodEntry e × GoodEntries es
    × ((tail : List ℕ) × (all is_ws tail ≡ true) × (drop from text ≡ entry_text e (entries_text es (0x7D ∷ tail))))

-- What is answered for a value that was read.
abbrev pub found_of : ValueRead → Found
found_of v = record { kind = kind_at v.state; place = v.place; len = v.end - v.place }

-- What was found before, or else what is found now.
unfoldable pub first_of : Option Found → Option Found → Option Found
first_of (Some f) now = Some f
first_of None now = now

-- What was found, or else what a later look-up finds.
unfoldable pub found_or : Option Found → Lookup → Lookup
found_or (Some f) later = lookup_of (Some f)
found_or None later = later

-- So far the entries of a list that begin at a place were read right: the names before those still to be read were noted at the front of the column,
-- `small` tells of the numbers before them, and `found` of the first of the name before them.
pub record SoFar (text name : List ℕ) (from : ℕ) (es : List Entry) (names : List ℕ) (walk : Walk) : Type 0 where
  pub here : ℕ
  pub rest : List Entry
  pub ahead : Ahead text walk.at here rest
  pub count : walk.names + length rest ≡ length es
  pub numbers : all_small es ≡ (walk.small && all_small rest)
  pub noted : take walk.names names ++ name_places here rest ≡ name_places from es
  pub looked : look_up name from es ≡ found_or walk.found (look_up name here rest)

-- All entries of a list that begin at a place were read.
pub record AllRead (name : List ℕ) (from : ℕ) (es : List Entry) (names : List ℕ) (walk : Walk) : Type 0 where
  pub count : walk.names ≡ length es
  pub numbers : walk.small ≡ all_small es
  pub noted : take walk.names names ≡ name_places from es
  pub looked : look_up name from es ≡ lookup_of walk.found

-- The text is that of a tree, and all of it was read.
pub record TreeRead (text name names : List ℕ) (walk : Walk) : Type 0 where
  pub tree : Tree
  pub good : Good tree
  pub is_text : tree_text tree ≡ text
  pub room : walk.names ≤ length names
  pub all_read : AllRead name (length tree.before + 1) (list tree.inside) names walk
