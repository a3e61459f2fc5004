-- What the lookup's export answers: the place of the first record with a chunk number, or all 0 where there is none.
-- Assumes nothing.
use Rattle.std.specs.Prelude.{ℕ, true, false, Option, Some, None}
use Rattle.codec_exports.specs.declared.slot.PlaceAnswer.{PlaceAnswer}

abbrev pub place_answer_of : Option ℕ → PlaceAnswer
place_answer_of (Some i) = record { found = true; place = i }
place_answer_of None = record { found = false; place = 0 }
