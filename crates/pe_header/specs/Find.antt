-- Looking a name up in a header (document 02, K2).
-- Assumes nothing.
use Rattle.std.specs.Prelude.{ℕ, ◌+◌, ◌*◌, ◌-◌, Bool, true, false, cond, not, ◌&&◌, ◌||◌, List, [], ◌∷◌, leb, eqb, length, Result}
use Rattle.std.specs.Prelude.{Option as Optional, Some, None}
use Rattle.std.proofs.Math.Option.{Option, none, some}
use Rattle.seven_bit.specs.Reply.{Reply, granted, refused, ◌else◌then◌, told}
use Rattle.seven_bit.specs.SevenBit.{is_seven_bit}
use Rattle.flat_json.specs.Tree.{is_digit, Piece, plain, short, unicode, true_word, false_word, null_word, word_text, Value, string, number, word, Entry}
use Rattle.flat_json.specs.Tree.{Inside, blank, entries, Tree, pieces_text, lead_text, entry_text}
use Rattle.flat_json.specs.Parse.{parse}
use Rattle.pe_header.specs.declared.JsonError.{JsonError}
use Rattle.pe_header.specs.declared.Kind.{Kind}
use Rattle.pe_header.specs.declared.Found.{Found}

-- "Names are compared as 16-bit units with escapes resolved." What an escape of one letter stands for (RFC 8259, 7): backspace, form feed, line feed,
-- carriage return, tab; the other letters stand for themselves.
unfoldable pub short_unit : ℕ → ℕ
short_unit c =
    cond (eqb c 0x62) 0x08
    (cond (eqb c 0x66) 0x0C
    (cond (eqb c 0x6E) 0x0A
    (cond (eqb c 0x72) 0x0D
    (cond (eqb c 0x74) 0x09 c))))

-- The value of a hexadecimal digit, its letters large or small.
unfoldable pub hex_value : ℕ → ℕ
hex_value b = cond (is_digit b) (b - 0x30) (cond (leb b 0x46) (b - 0x37) (b - 0x57))

-- The 16-bit unit of a piece: each \u escape is one, so a surrogate pair is two.
unfoldable pub unit : Piece → ℕ
unit (plain b) = b
unit (short c) = short_unit c
unit (unicode a b c d) = ((hex_value a * 16 + hex_value b) * 16 + hex_value c) * 16 + hex_value d

unfoldable pub units : List Piece → List ℕ
units [] = []
units (p ∷ ps) = unit p ∷ units ps

unfoldable pub same_units : List ℕ → List ℕ → Bool
same_units [] [] = true
same_units [] (b ∷ bs) = false
same_units (a ∷ as') [] = false
same_units (a ∷ as') (b ∷ bs) = eqb a b && same_units as' bs

-- "the given name's bytes are units"
unfoldable pub is_named : List ℕ → Entry → Bool
is_named name e = same_units (units e.name) name

-- "the value's kind and its bytes as the header has them .. or that it is absent": the bytes by their place and length.
pub data Lookup : Type 0 where
  absent : Lookup
  value_of : Kind → ℕ → ℕ → Lookup

unfoldable pub kind_of : Value → Kind
kind_of (string ps) = Kind.String
kind_of (number ds) = Kind.Number
kind_of (word true_word) = Kind.True
kind_of (word false_word) = Kind.False
kind_of (word null_word) = Kind.Null

-- The bytes of a value as the header has them, a string's without the quotes; and how many quotes stand before them.
unfoldable pub value_bytes : Value → List ℕ
value_bytes (string ps) = pieces_text ps []
value_bytes (number ds) = ds
value_bytes (word w) = word_text w

unfoldable pub quotes : Value → ℕ
quotes (string ps) = 1
quotes (number ds) = 0
quotes (word w) = 0

-- A value whose text begins at a place: its kind, and the place and length of its bytes.
unfoldable pub found_at : ℕ → Value → Lookup
found_at at v = value_of (kind_of v) (at + quotes v) (length (value_bytes v))

-- The first entry of a name, where the entries begin at a place; a comma stands before each but the first.
unfoldable pub look_up : List ℕ → ℕ → List Entry → Lookup
look_up name at [] = absent
look_up name at (e ∷ es) =
    cond (is_named name e) (found_at (at + length (lead_text e [])) e.value) (look_up name (at + length (entry_text e []) + 1) es)

-- The entries between the braces.
unfoldable pub list : Inside → List Entry
list (blank s) = []
list (entries e es) = e ∷ es

-- Has an entry of the list the name? And does a name of the list stand twice, escapes resolved?
unfoldable pub any_named : List ℕ → List Entry → Bool
any_named name [] = false
any_named name (e ∷ es) = is_named name e || any_named name es

unfoldable pub repeated : List Entry → Bool
repeated [] = false
repeated (e ∷ es) = any_named (units e.name) es || repeated es

-- "whole numbers 0 to 65,535": the number of digits, read from the left, and that it is not above.
unfoldable pub decimal : ℕ → List ℕ → ℕ
decimal n [] = n
decimal n (d ∷ ds) = decimal (n * 10 + (d - 0x30)) ds

unfoldable pub small : Value → Bool
small (string ps) = true
small (number ds) = leb (decimal 0 ds) 65535
small (word w) = true

unfoldable pub all_small : List Entry → Bool
all_small [] = true
all_small (e ∷ es) = small e.value && all_small es

-- "For a given name the reader returns the value's kind and its bytes .. or that it is absent"; a name with a byte above 7F is absent.
unfoldable pub find_named : Tree → List ℕ → Lookup
find_named t name = cond (is_seven_bit name) (look_up name (length t.before + 1) (list t.inside)) absent

-- What a tree answers for a name: "34 when the text is not such an object, then 35 when a name, escapes resolved, stands twice".
unfoldable pub find_in : Tree → List ℕ → Reply Lookup
find_in t name =
    let es = list t.inside in
    all_small es else 34 then
    not (repeated es) else 35 then
    granted (find_named t name)

unfoldable pub find_parsed : Option Tree → List ℕ → Reply Lookup
find_parsed none name = refused 34 0
find_parsed (some t) name = find_in t name

-- "33 when the header exceeds 4,096 bytes", asked first.
unfoldable pub find_value : List ℕ → List ℕ → Reply Lookup
find_value header name = leb (length header) 4096 else 33 then find_parsed (parse header) name

-- The number of each refusal.
abbrev pub json_number : JsonError → ℕ
json_number JsonError.HeaderTooLong = 33
json_number JsonError.NotFlatObject = 34
json_number JsonError.NameTwice = 35

abbrev pub json_value : JsonError → ℕ
json_value e = 0

-- A result of this crate in these terms: its value by f, or the refusal.
abbrev pub json_told : {T A : Type 0} → (T → A) → Result T JsonError → Reply A
json_told f r = told f json_number json_value r

abbrev pub lookup_of : Optional Found → Lookup
lookup_of (Some f) = value_of f.kind f.place f.len
lookup_of None = absent
