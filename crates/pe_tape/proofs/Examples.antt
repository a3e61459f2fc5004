-- The request's example, and lines of each kind, computed.
-- Assumes nothing.
use Prim.Native.Nat.{ℕ}
use mathlib.Core.List.{List, [], ◌∷◌}
use mathlib.Core.Path.{◌≡◌, refl}
use Rattle.seven_bit.specs.Reply.{granted, refused}
use Rattle.pe_tape.specs.Number.{operand_of, digits, decimal}
use Rattle.pe_tape.specs.Command.{feed, poll, read_feed, read_poll, read_command}
use Rattle.pe_tape.specs.Tape.{tape_from, tape_of}
use Rattle.pe_tape.specs.Line.{bare, marked, whole, shown_text, line_text, end_text}

-- "The bytes 01 05 00 00 00 E8 03 00 00 00 00 00 00 0B 00 05 02 00 7B 7D 01 00 01 00 00 00 04 A0 0F 00 00 00 00 00 00"
abbrev pub example : List ℕ
example =
    0x01 ∷ 0x05 ∷ 0x00 ∷ 0x00 ∷ 0x00 ∷ 0xE8 ∷ 0x03 ∷ 0x00 ∷ 0x00 ∷ 0x00 ∷ 0x00 ∷ 0x00 ∷ 0x00 ∷ 0x0B ∷ 0x00
    ∷ 0x05 ∷ 0x02 ∷ 0x00 ∷ 0x7B ∷ 0x7D ∷ 0x01 ∷ 0x00 ∷ 0x01 ∷ 0x00 ∷ 0x00 ∷ 0x00
    ∷ 0x04 ∷ 0xA0 ∷ 0x0F ∷ 0x00 ∷ 0x00 ∷ 0x00 ∷ 0x00 ∷ 0x00 ∷ 0x00 ∷ []

-- two commands, and a tape that ends behind the second
pub example_read : tape_of example ≡ record {
  commands = feed 5 1000 (0x05 ∷ 0x02 ∷ 0x00 ∷ 0x7B ∷ 0x7D ∷ 0x01 ∷ 0x00 ∷ 0x01 ∷ 0x00 ∷ 0x00 ∷ 0x00 ∷ []) ∷ poll 4000 ∷ [];
  end = granted 0;
  rest = [];
}
unfolding tape_of tape_from read_command read_feed read_poll operand_of
example_read = refl

-- cut off in the second: "37 for a tape that ends inside a command"
pub example_cut : tape_of (0x04 ∷ 0xA0 ∷ 0x0F ∷ []) ≡ record { commands = []; end = refused 37 0; rest = 0x04 ∷ 0xA0 ∷ 0x0F ∷ [] }
unfolding tape_of tape_from read_command read_poll operand_of
example_cut = refl

-- "36 for an unknown command byte", though nothing is behind it
pub example_unknown : tape_of (0x05 ∷ []) ≡ record { commands = []; end = refused 36 0; rest = 0x05 ∷ [] }
unfolding tape_of tape_from read_command
example_unknown = refl

-- `1 w 2 0`, `4 0`, `1 8`, `2 r28` and `r36`, each with the line's end; 4,096 in decimal
pub line_whole : line_text 1 (whole 2 0) ≡ 49 ∷ 32 ∷ 119 ∷ 32 ∷ 50 ∷ 32 ∷ 48 ∷ 10 ∷ []
unfolding line_text shown_text decimal digits
line_whole = refl

pub line_poll : line_text 4 (bare 0) ≡ 52 ∷ 32 ∷ 48 ∷ 10 ∷ []
unfolding line_text shown_text decimal digits
line_poll = refl

pub line_feed_refused : line_text 1 (bare 8) ≡ 49 ∷ 32 ∷ 56 ∷ 10 ∷ []
unfolding line_text shown_text decimal digits
line_feed_refused = refl

pub line_cancel_refused : line_text 2 (marked 28) ≡ 50 ∷ 32 ∷ 114 ∷ 50 ∷ 56 ∷ 10 ∷ []
unfolding line_text shown_text decimal digits
line_cancel_refused = refl

pub line_end : end_text (refused 36 0) ≡ 114 ∷ 51 ∷ 54 ∷ 10 ∷ []
unfolding end_text shown_text decimal digits
line_end = refl

pub decimal_4096 : decimal 4096 ≡ 52 ∷ 48 ∷ 57 ∷ 54 ∷ []
unfolding decimal digits
decimal_4096 = refl
