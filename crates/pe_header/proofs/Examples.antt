-- Headers, names and answers: the definition computed. Above each example stand the header and the name.
-- Assumes nothing.
use Prim.Native.Nat.{ℕ}
use Prim.Native.Char.{code}
use Prim.Native.String.{String, [] as over, ◌∷◌ as ◌before◌}
use mathlib.Core.List.{List, [], ◌∷◌, map}
use mathlib.Core.Path.{◌≡◌, refl}
use Rattle.seven_bit.specs.Reply.{Reply, granted, refused}
use Rattle.seven_bit.specs.SevenBit.{is_seven_bit}
use Rattle.flat_json.specs.Tree.{is_ws, is_digit, is_hex, is_unescaped, is_short, all, piece_text, pieces_text, string_text, word_text, value_text, lead_text, entry_text}
use Rattle.flat_json.specs.Tree.{good_number}
use Rattle.flat_json.specs.Parse.{span, expect, expect_all, read_hex, read_escape, read_piece, read_pieces, read_string, read_word, read_number, read_value, read_entry}
use Rattle.flat_json.specs.Parse.{read_entries, read_inside, at_end, parse}
use Rattle.pe_header.specs.declared.Kind.{Kind}
use Rattle.pe_header.specs.Find.{short_unit, hex_value, unit, units, same_units, is_named, Lookup, absent, value_of, kind_of, value_bytes, quotes, found_at}
use Rattle.pe_header.specs.Find.{look_up, list, any_named, repeated, decimal, small, all_small, find_named, find_in, find_parsed, find_value}

-- the codes of a text's characters
bytes : String → List ℕ
bytes over = []
bytes (c before s) = code c ∷ bytes s

pub record Example : Type 0 where
  pub header : List ℕ
  pub name : List ℕ
  pub answer : Reply Lookup

example : String → String → Reply Lookup → Example
example h n a = record { header = bytes h; name = bytes n; answer = a }

pub examples : List Example
unfolding example
examples =
    -- {}    a
    example "{}" "a" (granted absent)
    --  {"a":1} and 0A    a
    ∷ example " {\"a\":1}\n" "a" (granted (value_of Kind.Number 6 1))
    -- {"resource":"DeviceInfo"}    resource
    ∷ example "{\"resource\":\"DeviceInfo\"}" "resource" (granted (value_of Kind.String 13 10))
    -- {"a" : true , "b":null}    b
    ∷ example "{\"a\" : true , \"b\":null}" "b" (granted (value_of Kind.Null 18 4))
    -- {"\u0061":"x\"y"}    a
    ∷ example "{\"\\u0061\":\"x\\\"y\"}" "a" (granted (value_of Kind.String 11 4))
    -- {"\u0041":true}    A
    ∷ example "{\"\\u0041\":true}" "A" (granted (value_of Kind.True 10 4))
    -- {"":null}    the empty name
    ∷ example "{\"\":null}" "" (granted (value_of Kind.Null 4 4))
    -- {"a":"."} with 7F for the dot    a
    ∷ example "{\"a\":\"\u{7f}\"}" "a" (granted (value_of Kind.String 6 1))
    -- {"a":65535}    a
    ∷ example "{\"a\":65535}" "a" (granted (value_of Kind.Number 5 5))
    -- {"\u00E9":1}    E9
    ∷ example "{\"\\u00E9\":1}" "é" (granted absent)
    -- {"a":1,"\u0061":2}    b
    ∷ example "{\"a\":1,\"\\u0061\":2}" "b" (refused 35 0)
    -- {"a":01}    a
    ∷ example "{\"a\":01}" "a" (refused 34 0)
    -- {"a":65536}    a
    ∷ example "{\"a\":65536}" "a" (refused 34 0)
    -- {"a":-1}    a
    ∷ example "{\"a\":-1}" "a" (refused 34 0)
    -- {"a":1.5}    a
    ∷ example "{\"a\":1.5}" "a" (refused 34 0)
    -- {"a":"."} with 1F for the dot    a
    ∷ example "{\"a\":\"\u{1f}\"}" "a" (refused 34 0)
    -- {"a":1,}    a
    ∷ example "{\"a\":1,}" "a" (refused 34 0)
    -- {"a":[]}    a
    ∷ example "{\"a\":[]}" "a" (refused 34 0)
    -- {"a":false}x    a
    ∷ example "{\"a\":false}x" "a" (refused 34 0)
    -- an empty text    a
    ∷ example "" "a" (refused 34 0)
    ∷ []

pub examples_right : map (λ (x : Example). find_value x.header x.name) examples ≡ map (λ (x : Example). x.answer) examples
unfolding bytes example examples is_seven_bit is_ws is_digit is_hex is_unescaped is_short all piece_text pieces_text string_text word_text value_text lead_text
    entry_text good_number span expect expect_all read_hex read_escape read_piece read_pieces read_string read_word read_number read_value read_entry read_entries
    read_inside at_end parse short_unit hex_value unit units same_units is_named kind_of value_bytes quotes found_at look_up list any_named repeated decimal
    small all_small find_named find_in find_parsed find_value
examples_right = refl
