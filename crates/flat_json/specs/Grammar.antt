-- RFC 8259's grammar of a JSON text that is one flat object of bytes up to 7F, with whole numbers: the rules by the RFC's names.
-- Assumes nothing.
use Rattle.std.specs.Prelude.{ℕ, List, [], ◌∷◌, get_or}
use Rattle.flat_json.specs.Abnf.{Abnf, never, range, ◌then◌, ◌or◌, many, is, optional}

-- ws = *( %x20 / %x09 / %x0A / %x0D )
unfoldable pub ws_byte : Abnf
ws_byte = is 0x20 or is 0x09 or is 0x0A or is 0x0D

unfoldable pub ws : Abnf
ws = many ws_byte

-- begin-object = ws %x7B ws    end-object = ws %x7D ws    name-separator = ws %x3A ws    value-separator = ws %x2C ws
unfoldable pub begin_object : Abnf
begin_object = ws then is 0x7B then ws

unfoldable pub end_object : Abnf
end_object = ws then is 0x7D then ws

unfoldable pub name_separator : Abnf
name_separator = ws then is 0x3A then ws

unfoldable pub value_separator : Abnf
value_separator = ws then is 0x2C then ws

-- false = %x66.61.6c.73.65    null = %x6e.75.6c.6c    true = %x74.72.75.65
unfoldable pub false_rule : Abnf
false_rule = is 0x66 then is 0x61 then is 0x6C then is 0x73 then is 0x65

unfoldable pub null_rule : Abnf
null_rule = is 0x6E then is 0x75 then is 0x6C then is 0x6C

unfoldable pub true_rule : Abnf
true_rule = is 0x74 then is 0x72 then is 0x75 then is 0x65

-- int = zero / ( digit1-9 *DIGIT ). Of the RFC's number = [ minus ] int [ frac ] [ exp ] only int is left: whole numbers.
unfoldable pub digit : Abnf
digit = range 0x30 0x39

unfoldable pub int : Abnf
int = is 0x30 or (range 0x31 0x39 then many digit)

-- HEXDIG of RFC 5234; its letters may be large or small
unfoldable pub hexdig : Abnf
hexdig = digit or range 0x41 0x46 or range 0x61 0x66

-- unescaped = %x20-21 / %x23-5B / %x5D-10FFFF, here up to 7F
unfoldable pub unescaped : Abnf
unescaped = range 0x20 0x21 or range 0x23 0x5B or range 0x5D 0x7F

-- what may follow `escape`: one of " \ / b f n r t, or u with four hexdig
unfoldable pub short_escape : Abnf
short_escape = is 0x22 or is 0x5C or is 0x2F or is 0x62 or is 0x66 or is 0x6E or is 0x72 or is 0x74

unfoldable pub escaped : Abnf
escaped = short_escape or (is 0x75 then hexdig then hexdig then hexdig then hexdig)

-- char = unescaped / escape ( .. )    escape = %x5C
unfoldable pub char : Abnf
char = unescaped or (is 0x5C then escaped)

-- string = quotation-mark *char quotation-mark    quotation-mark = %x22
unfoldable pub string : Abnf
string = is 0x22 then many char then is 0x22

-- value = false / null / true / number / string; the RFC's object and array are left out: the object is flat
unfoldable pub value : Abnf
value = false_rule or null_rule or true_rule or int or string

-- member = string name-separator value
unfoldable pub member : Abnf
member = string then name_separator then value

-- object = begin-object [ member *( value-separator member ) ] end-object
unfoldable pub object : Abnf
object = begin_object then optional (member then many (value_separator then member)) then end_object

-- JSON-text = ws value ws, where the value is an object
unfoldable pub json_text : Abnf
json_text = ws then object then ws

-- What may follow a complete value, and what may follow a complete name.
unfoldable pub after_value : Abnf
after_value = many (value_separator then member) then end_object then ws

unfoldable pub after_name : Abnf
after_name = name_separator then value then after_value

-- What may follow inside a string of which `rest` is what follows its closing quotation mark.
unfoldable pub in_string : Abnf → Abnf
in_string rest = many char then is 0x22 then rest

-- What may still follow in each of the 30 states, in the order of their numbers.
unfoldable pub residuals : List Abnf
residuals =
    -- 0: nothing was read
    json_text
    -- 1: the opening brace was read
    ∷ (ws then optional (member then many (value_separator then member)) then end_object then ws)
    -- 2: in a name; 3: after its `\`; 4 to 7: after `\u` and none to three of the digits
    ∷ in_string after_name
    ∷ (escaped then in_string after_name)
    ∷ (hexdig then hexdig then hexdig then hexdig then in_string after_name)
    ∷ (hexdig then hexdig then hexdig then in_string after_name)
    ∷ (hexdig then hexdig then in_string after_name)
    ∷ (hexdig then in_string after_name)
    -- 8: a name was read; 9: the colon was read
    ∷ after_name
    ∷ (ws then value then after_value)
    -- 10 to 15: in a value that is a string, as 2 to 7
    ∷ in_string after_value
    ∷ (escaped then in_string after_value)
    ∷ (hexdig then hexdig then hexdig then hexdig then in_string after_value)
    ∷ (hexdig then hexdig then hexdig then in_string after_value)
    ∷ (hexdig then hexdig then in_string after_value)
    ∷ (hexdig then in_string after_value)
    -- 16: in a number that is not 0
    ∷ (many digit then after_value)
    -- 17: t was read; 18: tr; 19: tru or fals; 20: f; 21: fa; 22: fal; 23: n; 24: nu; 25: nul
    ∷ (is 0x72 then is 0x75 then is 0x65 then after_value)
    ∷ (is 0x75 then is 0x65 then after_value)
    ∷ (is 0x65 then after_value)
    ∷ (is 0x61 then is 0x6C then is 0x73 then is 0x65 then after_value)
    ∷ (is 0x6C then is 0x73 then is 0x65 then after_value)
    ∷ (is 0x73 then is 0x65 then after_value)
    ∷ (is 0x75 then is 0x6C then is 0x6C then after_value)
    ∷ (is 0x6C then is 0x6C then after_value)
    ∷ (is 0x6C then after_value)
    -- 26: a value is complete, as it is after 0; 27: a comma was read
    ∷ after_value
    ∷ (ws then member then after_value)
    -- 28: the closing brace was read (the white space of end-object, then that of JSON-text); 29: no such object begins so
    ∷ (ws then ws)
    ∷ never
    ∷ []

unfoldable pub residual : ℕ → Abnf
residual s = get_or residuals s never
