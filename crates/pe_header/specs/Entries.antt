-- What the theorems about answers speak of (proofs/WhatIsFound): the entries of a header's tree.
-- Assumes nothing.
use Rattle.std.specs.Prelude.{ℕ, ◌<◌, List, ◌∷◌, ◌++◌, ◌≡◌, take, drop}
use Rattle.flat_json.specs.Tree.{number, Entry, Tree, text as tree_text, Good}
use Rattle.pe_header.specs.declared.Kind.{Kind}
use Rattle.pe_header.specs.Find.{units, kind_of, value_bytes, list, decimal}

-- A header is the text of a tree.
pub record TreeOf (header : List ℕ) : Type 0 where
  pub tree : Tree
  pub good : Good tree
  pub is_text : tree_text tree ≡ header

abbrev pub entries_of : {header : List ℕ} → TreeOf header → List Entry
entries_of t = list t.tree.inside

-- An entry stands in a list.
pub record Stands (es : List Entry) (entry : Entry) : Type 0 where
  pub earlier : List Entry
  pub later : List Entry
  pub listed : es ≡ earlier ++ entry ∷ later

-- A number of a list is above 65,535.
pub record Large (es : List Entry) : Type 0 where
  pub entry : Entry
  pub stands : Stands es entry
  pub digits : List ℕ
  pub number_is : entry.value ≡ number digits
  pub above : 65535 < decimal 0 digits

-- Two entries of a list, one before the other, have names with the same units.
pub record Twice (es : List Entry) : Type 0 where
  pub earlier : List Entry
  pub one : Entry
  pub others : List Entry
  pub listed : es ≡ earlier ++ one ∷ others
  pub two : Entry
  pub stands : Stands others two
  pub same_name : units two.name ≡ units one.name

-- An entry of a list has the name's units, its value is of the kind, and the bytes at the place are the value's.
pub record Shown (header name : List ℕ) (es : List Entry) (kind : Kind) (place len : ℕ) : Type 0 where
  pub entry : Entry
  pub stands : Stands es entry
  pub named : units entry.name ≡ name
  pub kind_right : kind ≡ kind_of entry.value
  pub bytes_right : take len (drop place header) ≡ value_bytes entry.value
