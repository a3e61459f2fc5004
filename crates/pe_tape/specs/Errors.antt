-- The numbers of the refusals of a tape, and what a result tells.
-- Assumes nothing.
use Rattle.std.specs.Prelude.{ℕ, Result}
use Rattle.seven_bit.specs.Reply.{Reply, refused, told}
use Rattle.pe_wire.specs.Errors.{pe_number, pe_value}
use Rattle.pe_tape.specs.declared.error.TapeError.{TapeError}
use Rattle.pe_tape.specs.declared.error.TapeError.TheVariants.{UnknownCommand, CutOff, Pe}

-- The number of each refusal,
abbrev pub tape_number : TapeError → ℕ
tape_number UnknownCommand = 36
tape_number CutOff = 37
tape_number (Pe e) = pe_number e

-- its value,
abbrev pub tape_value : TapeError → ℕ
tape_value UnknownCommand = 0
tape_value CutOff = 0
tape_value (Pe e) = pe_value e

-- and the answer with both.
abbrev pub tape_refused : {A : Type 0} → TapeError → Reply A
tape_refused e = refused (tape_number e) (tape_value e)

-- A result in document 02's terms: its value by f, or the refusal.
abbrev pub tape_told : {T A : Type 0} → (T → A) → Result T TapeError → Reply A
tape_told f r = told f tape_number tape_value r
