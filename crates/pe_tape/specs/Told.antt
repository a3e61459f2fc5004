-- What the answers of the calls stand for, and what writing a command asks.
-- Assumes nothing.
use Rattle.std.specs.Prelude.{ℕ, ◌+◌, ◌≤◌, ◌<◌, Bool, true, Option, None, Some, Result, option_map, List, [], ◌≡◌, leb, length}
use Rattle.seven_bit.specs.Parts.{part}
use Rattle.seven_bit.specs.Reply.{Reply, granted, refused, ◌else◌then◌}
use Rattle.pe_tape.specs.declared.command.Command.{Command as TapeCommand}
use Rattle.pe_tape.specs.declared.command.Command.TheVariants.{Feed, Cancel, Drop, Poll}
use Rattle.pe_tape.specs.declared.error.TapeError.{TapeError}
use Rattle.pe_tape.specs.declared.read.Next.{Next}
use Rattle.pe_tape.specs.declared.line.Shown.{Shown as LineShown}
use Rattle.pe_tape.specs.declared.line.Shown.TheVariants.{Bare, Marked, Whole}
use Rattle.pe_tape.specs.Command.{Command, feed, cancel, drop_peer, poll, Taken, write_command}
use Rattle.pe_tape.specs.Errors.{tape_refused, tape_told}
use Rattle.pe_tape.specs.Line.{Shown, bare, marked, whole}
use Rattle.pe_tape.specs.Play.{kind_of}

-- A command with its chunk, which lies in the bytes that go with it.
abbrev pub command_of : List ℕ → TapeCommand → Command
command_of source (Feed f) = feed f.peer f.now_ms (part f.chunk_at f.chunk_len source)
command_of source (Cancel peer request_id) = cancel peer request_id
command_of source (Drop peer) = drop_peer peer
command_of source (Poll now_ms) = poll now_ms

-- The byte of a command, whatever bytes go with it.
abbrev pub kind_told : TapeCommand → ℕ
kind_told c = kind_of (command_of [] c)

abbrev pub lies : TapeCommand → List ℕ → Bool
lies (Feed f) source = leb (f.chunk_at + f.chunk_len) (length source)
lies (Cancel peer request_id) source = true
lies (Drop peer) source = true
lies (Poll now_ms) source = true

-- A command that is read, and where the next one begins.
pub record Placed : Type 0 where
  pub command : Command
  pub next : ℕ

abbrev pub placed : ℕ → Reply (Option Taken) → Reply (Option Placed)
placed at (granted None) = granted None
placed at (granted (Some t)) = granted (Some (record { command = t.command; next = at + t.len }))
placed at (refused number value) = refused number value

abbrev pub placed_of : List ℕ → Next → Placed
placed_of tape n = record { command = command_of tape n.command; next = n.next }

abbrev pub read_told : List ℕ → Result (Option Next) TapeError → Reply (Option Placed)
read_told tape r = tape_told (option_map (placed_of tape)) r

-- A feed's chunk stands behind its byte and its operands.
abbrev pub ChunkBehind : ℕ → TapeCommand → Type 0
ChunkBehind at (Feed f) = f.chunk_at ≡ at + 15
ChunkBehind at (Cancel peer request_id) = Unit {0}
ChunkBehind at (Drop peer) = Unit {0}
ChunkBehind at (Poll now_ms) = Unit {0}

-- What is read lies in the tape, behind the place where it was read.
abbrev pub Within : List ℕ → ℕ → Next → Type 0
Within tape at n = (lies n.command tape ≡ true) × (at < n.next) × (n.next ≤ length tape) × ChunkBehind at n.command

-- The questions of writing: a chunk outside of the bytes lent for it is 30, one that two bytes can't count 1, a short output 3.
abbrev pub countable : TapeCommand → Bool
countable (Feed f) = leb f.chunk_len 65535
countable (Cancel peer request_id) = true
countable (Drop peer) = true
countable (Poll now_ms) = true

unfoldable pub write_call : TapeCommand → List ℕ → ℕ → Reply (List ℕ)
write_call c source room =
    lies c source else 30 then
    countable c else 1 then
    leb (length (write_command (command_of source c))) room else 3 then
    granted (write_command (command_of source c))

abbrev pub shown_told : LineShown → Shown
shown_told (Bare n) = bare n
shown_told (Marked n) = marked n
shown_told (Whole header body) = whole header body

abbrev pub stop_told : Option TapeError → Reply ℕ
stop_told None = granted 0
stop_told (Some e) = tape_refused e
