-- A flat JSON object as a tree in concrete syntax, and its text. The text of a part is written before the rest of the text.
-- Assumes nothing.
use Rattle.std.specs.Prelude.{ℕ, Bool, true, false, ◌&&◌, List, [], ◌∷◌, ◌++◌, ◌≡◌, leb}
use Rattle.flat_json.specs.Abnf.{in_set}
use Rattle.flat_json.specs.Grammar.{ws_byte, digit, hexdig, unescaped, short_escape}

-- The sets of bytes that the grammar names, as tests.
unfoldable pub is_ws : ℕ → Bool
unfolding in_set ws_byte
is_ws b = in_set ws_byte b

unfoldable pub is_digit : ℕ → Bool
unfolding in_set digit
is_digit b = in_set digit b

unfoldable pub is_hex : ℕ → Bool
unfolding in_set hexdig digit
is_hex b = in_set hexdig b

unfoldable pub is_unescaped : ℕ → Bool
unfolding in_set unescaped
is_unescaped b = in_set unescaped b

unfoldable pub is_short : ℕ → Bool
unfolding in_set short_escape
is_short b = in_set short_escape b

unfoldable pub all : (ℕ → Bool) → List ℕ → Bool
all p [] = true
all p (b ∷ bs) = p b && all p bs

-- A character of a string: a byte as it is, an escape of one letter, or four hexadecimal digits.
pub data Piece : Type 0 where
  plain short : ℕ → Piece
  unicode : ℕ → ℕ → ℕ → ℕ → Piece

pub data Word : Type 0 where
  true_word false_word null_word : Word

pub data Value : Type 0 where
  string : List Piece → Value
  number : List ℕ → Value
  word : Word → Value

-- A member with the white space before its name, on both sides of its colon, and after its value.
pub record Entry : Type 0 where
  pub before : List ℕ
  pub name : List Piece
  pub gap : List ℕ
  pub lead : List ℕ
  pub value : Value
  pub after : List ℕ

-- What stands between the braces.
pub data Inside : Type 0 where
  blank : List ℕ → Inside
  entries : Entry → List Entry → Inside

pub record Tree : Type 0 where
  pub before : List ℕ
  pub inside : Inside
  pub after : List ℕ

-- The texts.
unfoldable pub piece_text : Piece → List ℕ → List ℕ
piece_text (plain b) rest = b ∷ rest
piece_text (short c) rest = 0x5C ∷ c ∷ rest
piece_text (unicode a b c d) rest = 0x5C ∷ 0x75 ∷ a ∷ b ∷ c ∷ d ∷ rest

unfoldable pub pieces_text : List Piece → List ℕ → List ℕ
pieces_text [] rest = rest
pieces_text (p ∷ ps) rest = piece_text p (pieces_text ps rest)

unfoldable pub string_text : List Piece → List ℕ → List ℕ
string_text ps rest = 0x22 ∷ pieces_text ps (0x22 ∷ rest)

unfoldable pub word_text : Word → List ℕ
word_text true_word = 0x74 ∷ 0x72 ∷ 0x75 ∷ 0x65 ∷ []
word_text false_word = 0x66 ∷ 0x61 ∷ 0x6C ∷ 0x73 ∷ 0x65 ∷ []
word_text null_word = 0x6E ∷ 0x75 ∷ 0x6C ∷ 0x6C ∷ []

unfoldable pub value_text : Value → List ℕ → List ℕ
value_text (string ps) rest = string_text ps rest
value_text (number ds) rest = ds ++ rest
value_text (word w) rest = word_text w ++ rest

-- an entry up to its value, and whole
unfoldable pub lead_text : Entry → List ℕ → List ℕ
lead_text e rest = e.before ++ string_text e.name (e.gap ++ 0x3A ∷ (e.lead ++ rest))

unfoldable pub entry_text : Entry → List ℕ → List ℕ
entry_text e rest = lead_text e (value_text e.value (e.after ++ rest))

unfoldable pub entries_text : List Entry → List ℕ → List ℕ
entries_text [] rest = rest
entries_text (e ∷ es) rest = 0x2C ∷ entry_text e (entries_text es rest)

unfoldable pub inside_text : Inside → List ℕ → List ℕ
inside_text (blank s) rest = s ++ rest
inside_text (entries e es) rest = entry_text e (entries_text es rest)

unfoldable pub text : Tree → List ℕ
text t = t.before ++ 0x7B ∷ inside_text t.inside (0x7D ∷ t.after)

-- The bytes of a tree are those that the rules allow in their places.
unfoldable pub good_piece : Piece → Bool
good_piece (plain b) = is_unescaped b
good_piece (short c) = is_short c
good_piece (unicode a b c d) = is_hex a && (is_hex b && (is_hex c && is_hex d))

unfoldable pub good_pieces : List Piece → Bool
good_pieces [] = true
good_pieces (p ∷ ps) = good_piece p && good_pieces ps

-- 0 alone, or digits of which the first is not 0
unfoldable pub good_number : List ℕ → Bool
good_number [] = false
good_number (d ∷ []) = is_digit d
good_number (d ∷ (e ∷ ds)) = leb 0x31 d && (leb d 0x39 && all is_digit (e ∷ ds))

unfoldable pub good_value : Value → Bool
good_value (string ps) = good_pieces ps
good_value (number ds) = good_number ds
good_value (word w) = true

pub record GoodEntry (e : Entry) : Type 0 where
  pub before : all is_ws e.before ≡ true
  pub name : good_pieces e.name ≡ true
  pub gap : all is_ws e.gap ≡ true
  pub lead : all is_ws e.lead ≡ true
  pub value : good_value e.value ≡ true
  pub after : all is_ws e.after ≡ true

unfoldable pub GoodEntries : List Entry → Type 0
GoodEntries [] = Unit {0}
GoodEntries (e ∷ es) = GoodEntry e × GoodEntries es

unfoldable pub GoodInside : Inside → Type 0
GoodInside (blank s) = all is_ws s ≡ true
GoodInside (entries e es) = GoodEntry e × GoodEntries es

pub record Good (t : Tree) : Type 0 where
  pub before : all is_ws t.before ≡ true
  pub inside : GoodInside t.inside
  pub after : all is_ws t.after ≡ true
