-- What a line shows, and its text.
-- Assumes nothing.
use Rattle.std.specs.Prelude.{ℕ, Bool, true, false, List, [], ◌∷◌, ◌++◌}
use Rattle.seven_bit.specs.Reply.{Reply, granted, refused}
use Rattle.pe_slot.specs.Feed.{Told, still, lengths}
use Rattle.pe_tape.specs.Number.{decimal}

-- A number, a refusal's number "with r right before it", or "w with header and body length".
pub data Shown : Type 0 where
  bare : ℕ → Shown
  marked : ℕ → Shown
  whole : ℕ → ℕ → Shown

-- "a feed gives a refusal number, 0 for waiting, or w with header and body length": its refusal "stands bare"
abbrev pub feed_shown : Reply Told → Shown
feed_shown (granted still) = bare 0
feed_shown (granted (lengths header body)) = whole header body
feed_shown (refused number value) = bare number

-- "cancel 1 or 0"
abbrev pub cancel_shown : Reply Bool → Shown
cancel_shown (granted true) = bare 1
cancel_shown (granted false) = bare 0
cancel_shown (refused number value) = marked number

-- "drop and poll a count"
abbrev pub count_shown : Reply ℕ → Shown
count_shown (granted n) = bare n
count_shown (refused number value) = marked number

-- In ASCII: r is 114, w 119, a space 32, the line's end 10.
unfoldable pub shown_text : Shown → List ℕ
shown_text (bare n) = decimal n
shown_text (marked n) = 114 ∷ decimal n
shown_text (whole header body) = 119 ∷ 32 ∷ (decimal header ++ (32 ∷ decimal body))

-- "Each line is the command byte, in decimal, and its answer".
unfoldable pub line_text : ℕ → Shown → List ℕ
line_text kind shown = decimal kind ++ (32 ∷ (shown_text shown ++ (10 ∷ [])))

-- "either is printed as a last line, r36 or r37"; a tape that ends behind a command has none.
unfoldable pub end_text : Reply ℕ → List ℕ
end_text (granted n) = []
end_text (refused number value) = shown_text (marked number) ++ (10 ∷ [])

-- The most bytes of a line: `1 w `, two numbers of 64 bits with a space between them, and the line's end.
abbrev pub line_len : ℕ
line_len = 46
