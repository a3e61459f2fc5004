-- What the export for headers answers.
-- Assumes nothing.
use Rattle.std.specs.Prelude.{ℕ}
use Rattle.seven_bit.specs.Reply.{Reply, granted, refused}
use Rattle.pe_header.specs.declared.Kind.{Kind}
use Rattle.pe_header.specs.Find.{Lookup, absent, value_of}
use Rattle.hub.specs.declared.header.FoundAnswer.{FoundAnswer}

abbrev pub kind_number : Kind → ℕ
kind_number Kind.String = 1
kind_number Kind.Number = 2
kind_number Kind.True = 3
kind_number Kind.False = 4
kind_number Kind.Null = 5

abbrev pub found_answer_of : Reply Lookup → FoundAnswer
found_answer_of (granted (value_of kind place len)) = record { refusal = 0; kind = kind_number kind; place = place; length = len }
found_answer_of (granted absent) = record { refusal = 0; kind = 0; place = 0; length = 0 }
found_answer_of (refused number value) = record { refusal = number; kind = 0; place = 0; length = 0 }
