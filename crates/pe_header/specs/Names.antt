-- What the steps of `find` answer about names: where names stand in a text, and a fingerprint of units.
-- Assumes nothing.
use Rattle.std.specs.Prelude.{ℕ, ◌+◌, ◌*◌, ◌%◌, ◌≤◌, ◌<◌, Bool, true, List, [], ◌∷◌, ◌≡◌, drop, get_or, Option, Some, None}
use Rattle.flat_json.specs.Tree.{Piece, is_hex, good_piece, good_pieces, piece_text, pieces_text, Entry}
use Rattle.pe_header.specs.declared.names.Unit.{Unit as UnitRead}
use Rattle.pe_header.specs.Find.{hex_value, unit, units, any_named}

-- At a place stands a name, its closing quotation mark behind it.
abbrev pub NameAt : List ℕ → ℕ → List Piece → Type 0
NameAt text place name = (good_pieces name ≡ true) × ((rest : List ℕ) × (drop place text ≡ pieces_text name (0x22 ∷ rest)))

-- A number is that of two hexadecimal digits, if such stand at a place.
abbrev pub PairAt : List ℕ → ℕ → ℕ → Type 0
PairAt text place n = (a b : ℕ) (rest : List ℕ) → is_hex a ≡ true → is_hex b ≡ true → drop place text ≡ a ∷ b ∷ rest → n ≡ hex_value a * 16 + hex_value b

-- What is read is the unit of the escape whose reverse solidus stands before a place, if there is one, and what follows it.
abbrev pub EscapeAt : List ℕ → ℕ → Option UnitRead → Type 0
EscapeAt text place o =
    (p : Piece) (rest : List ℕ) → good_piece p ≡ true → 0x5C ∷ drop place text ≡ piece_text p rest
    → (u : UnitRead) × (o ≡ Some u) × (u.unit ≡ unit p) × (drop u.next text ≡ rest)

-- What is read of a name is its first unit and the place of the rest of the name, or nothing where the name has no unit.
unfoldable pub UnitAt : List ℕ → List Piece → Option UnitRead → Type 0
UnitAt text [] o = o ≡ None
UnitAt text (p ∷ ps) o = (u : UnitRead) × (o ≡ Some u) × (u.unit ≡ unit p) × NameAt text u.next ps

-- The same of whatever name stands at a place.
abbrev pub First : List ℕ → ℕ → Option UnitRead → Type 0
First text place o = (ps : List Piece) → NameAt text place ps → UnitAt text ps o

-- At each of the places stands the name of the entry in its turn.
unfoldable pub NamesAt : List ℕ → List ℕ → List Entry → Type 0
NamesAt text [] [] = Unit {0}
NamesAt text [] (e ∷ es) = ⊥
NamesAt text (p ∷ ps) [] = ⊥
NamesAt text (p ∷ ps) (e ∷ es) = NameAt text p e.name × NamesAt text ps es

-- A number of 16 bits that equal units have in common.
unfoldable pub print_from : ℕ → List ℕ → ℕ
print_from n [] = n
print_from n (u ∷ us) = print_from ((n * 40503 + u) % 65536) us

unfoldable pub print_of : List ℕ → ℕ
print_of us = print_from 0 us

unfoldable pub PrintsOf : List ℕ → List Entry → Type 0
PrintsOf [] [] = Unit {0}
PrintsOf [] (e ∷ es) = ⊥
PrintsOf (n ∷ ns) [] = ⊥
PrintsOf (n ∷ ns) (e ∷ es) = (n ≡ print_of (units e.name)) × PrintsOf ns es

-- A flag says whether a name is one of those at some places, whose fingerprints are given.
abbrev pub IsAmong : List ℕ → List ℕ → List ℕ → List Piece → Bool → Type 0
IsAmong text places prints name t = (es : List Entry) → NamesAt text places es → PrintsOf prints es → t ≡ any_named (units name) es

-- From one place up to another none of the numbers is n.
abbrev pub Lacks : List ℕ → ℕ → ℕ → ℕ → Type 0
Lacks ns n from to = (i : ℕ) → from ≤ i → i < to → get_or ns i 0 ≡ n → ⊥
