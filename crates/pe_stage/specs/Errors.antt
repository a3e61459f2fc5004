-- The numbers of refusals. Document 02: "38 for a place above 15, then 39 for a place still busy"; the others are document 01's.
-- Assumes nothing.
use Rattle.std.specs.Prelude.{ℕ, Result}
use Rattle.seven_bit.specs.Reply.{Reply, refused, told}
use Rattle.pe_wire.specs.Errors.{pe_number, pe_value}
use Rattle.pe_stage.specs.declared.error.StageError.{StageError}

abbrev pub stage_number : StageError → ℕ
stage_number StageError.NoSuchPlace = 38
stage_number StageError.PlaceBusy = 39
stage_number (StageError.Pe e) = pe_number e

abbrev pub stage_value : StageError → ℕ
stage_value StageError.NoSuchPlace = 0
stage_value StageError.PlaceBusy = 0
stage_value (StageError.Pe e) = pe_value e

abbrev pub stage_refused : {A : Type 0} → StageError → Reply A
stage_refused e = refused (stage_number e) (stage_value e)

-- A result of a stage's calls in these documents' terms: its value by f, or the refusal.
abbrev pub stage_told : {T A : Type 0} → (T → A) → Result T StageError → Reply A
stage_told f r = told f stage_number stage_value r

-- The same of a number.
abbrev pub stage_count : Result ℕ StageError → Reply ℕ
stage_count r = stage_told (λ n. n) r
