-- What the private steps of playing say.
-- Assumes nothing.
use Rattle.std.specs.Prelude.{ℕ, ◌+◌, ◌-◌, cond, Option, None, Some, Result, Ok, Err, List, leb, length}
use Rattle.seven_bit.specs.Parts.{put}
use Rattle.seven_bit.specs.Reply.{Reply, granted, refused}
use Rattle.pe_reassembler.specs.Feed.{Memory}
use Rattle.pe_tape.specs.declared.error.TapeError.{TapeError}
use Rattle.pe_tape.specs.declared.play.Line.{Line}
use Rattle.pe_tape.specs.Errors.{tape_refused}
use Rattle.pe_tape.specs.Line.{line_len}
use Rattle.pe_tape.specs.Play.{make_call, line_of}
use Rattle.pe_tape.specs.Told.{Placed}

-- Where the next command begins and the place behind the line, or why there is none.
pub data Stepped : Type 0 where
  went : ℕ → ℕ → Stepped
  halted : Reply ℕ → Stepped

abbrev pub step_told : Result (Option Line) TapeError → Stepped
step_told (Ok (Some line)) = went line.next line.end
step_told (Ok None) = halted (granted 0)
step_told (Err e) = halted (tape_refused e)

pub record StepLeft : Type 0 where
  pub answer : Stepped
  pub memory : Memory
  pub out : List ℕ

abbrev pub step_left : Stepped → Memory → List ℕ → StepLeft
step_left answer m out = record { answer = answer; memory = m; out = out }

-- A command from what reading gave, its line behind what is written.
abbrev pub play_step : Memory → Reply (Option Placed) → List ℕ → ℕ → StepLeft
play_step m (granted None) out written = step_left (halted (granted 0)) m out
play_step m (refused number value) out written = step_left (halted (refused number value)) m out
play_step m (granted (Some p)) out written =
    cond (leb line_len (length out - written))
    (step_left (went p.next (written + length (line_of m p.command))) (make_call m p.command).memory (put out written (line_of m p.command)))
    (step_left (halted (refused 3 0)) m out)
