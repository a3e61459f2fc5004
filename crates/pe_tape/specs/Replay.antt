-- "Replay equals making the same calls one by one": a tape's text, and what is said of it.
-- Assumes nothing.
use Rattle.std.specs.Prelude.{ℕ, ◌<◌, Some, List, [], ◌∷◌, ◌++◌, ◌≡◌, drop}
use Rattle.seven_bit.specs.Reply.{Reply, granted, refused}
use Rattle.pe_reassembler.specs.Feed.{Memory, memory}
use Rattle.pe_reassembler.specs.Calls.{new_call}
use Rattle.pe_tape.specs.Command.{Command, Taken, read_command}
use Rattle.pe_tape.specs.Tape.{tape_of, Ends}
use Rattle.pe_tape.specs.Line.{line_len, end_text}
use Rattle.pe_tape.specs.Play.{tape_shape, make_call, line_of, Played, play_bytes}

-- The calls one by one: the memory after them, and their lines.
unfoldable pub memory_after : Memory → List Command → Memory
memory_after m [] = m
memory_after m (c ∷ cs) = memory_after (make_call m c).memory cs

unfoldable pub lines_of : Memory → List Command → List ℕ
lines_of m [] = []
lines_of m (c ∷ cs) = line_of m c ++ lines_of (make_call m c).memory cs

-- A tape's text: the lines of its commands, up to the first that is unknown or cut off, and the last line, "and the play stops".
unfoldable pub text_of : Memory → List ℕ → List ℕ
text_of m s = lines_of m (tape_of s).commands ++ end_text (tape_of s).end

-- The memory after a tape's commands.
abbrev pub memory_of : Memory → List ℕ → Memory
memory_of m s = memory_after m (tape_of s).commands

-- What `new` leaves of memory.
abbrev pub started : Memory → Memory
started m =
    let r = new_call tape_shape m.numbers m.index m.headers m.arenas in
    memory r.numbers r.index m.headers m.arenas m.out_header m.out_body

abbrev pub replay : Memory → List ℕ → List ℕ
replay m s = text_of (started m) s

-- Why playing stops: the tape ends, or there is no room for the line of the command that is left.
pub data Stops (left : List ℕ) (room : ℕ) : Reply ℕ → Type 0 where
  ends : {stop : Reply ℕ} → Ends left stop → Stops left room stop
  full : (t : Taken) → read_command left ≡ granted (Some t) → room < line_len → Stops left room (refused 3 0)

-- All commands of a tape are played.
pub record PlaysAll (m : Memory) (s : List ℕ) (p : Played) : Type 0 where
  pub memory_is : p.memory ≡ memory_after m (tape_of s).commands
  pub text_is : p.text ≡ lines_of m (tape_of s).commands
  pub stop_is : p.stop ≡ (tape_of s).end
  pub rest_is : drop p.used s ≡ (tape_of s).rest

-- A tape that comes in blocks, each with the room that is lent for its lines: what a block leaves unplayed stands in front of the next one, and
-- the text that is still owed at the end is that of what is left.
pub record Block : Type 0 where
  pub bytes : List ℕ
  pub room : ℕ

unfoldable pub play_blocks : Memory → List ℕ → List Block → List ℕ
play_blocks m rest [] = text_of m rest
play_blocks m rest (b ∷ bs) =
    let p = play_bytes m (rest ++ b.bytes) b.room in
    p.text ++ play_blocks p.memory (drop p.used (rest ++ b.bytes)) bs

-- and the table that is left then.
unfoldable pub memory_blocks : Memory → List ℕ → List Block → Memory
memory_blocks m rest [] = memory_of m rest
memory_blocks m rest (b ∷ bs) =
    let p = play_bytes m (rest ++ b.bytes) b.room in
    memory_blocks p.memory (drop p.used (rest ++ b.bytes)) bs

unfoldable pub bytes_of : List Block → List ℕ
bytes_of [] = []
bytes_of (b ∷ bs) = b.bytes ++ bytes_of bs
