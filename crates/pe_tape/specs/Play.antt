-- Playing commands on a table (document 02, K4).
-- Assumes nothing.
use Rattle.std.specs.Prelude.{ℕ, zero, suc, ◌+◌, ◌-◌, cond, Option, None, Some, List, [], ◌++◌, leb, length, drop, replicate}
use Rattle.seven_bit.specs.Reply.{Reply, granted, refused}
use Rattle.pe_reassembler.specs.declared.shape.Shape.{Shape}
use Rattle.pe_reassembler.specs.Feed.{Memory, memory, feed_call}
use Rattle.pe_reassembler.specs.Calls.{cancel_call, drop_call}
use Rattle.pe_reassembler.specs.Poll.{poll_call}
use Rattle.pe_tape.specs.Command.{Command, feed, cancel, drop_peer, poll, Taken, read_command}
use Rattle.pe_tape.specs.Line.{Shown, feed_shown, cancel_shown, count_shown, line_text, line_len}

-- "a table of 2 consoles, H 256, B 4,096, R 64"
abbrev pub tape_shape : Shape
tape_shape = record { max_peers = 2; header_bytes = 256; tx_bytes = 4096; fragment_records = 64 }

-- What a call's line shows, and the memory that it leaves.
pub record Called : Type 0 where
  pub shown : Shown
  pub memory : Memory

abbrev pub called : Shown → Memory → Called
called shown m = record { shown = shown; memory = m }

abbrev pub renumbered : Memory → List ℕ → Memory
renumbered m numbers = memory numbers m.index m.headers m.arenas m.out_header m.out_body

-- A poll's column, with the 8 places that it asks for.
abbrev pub column : List ℕ
column = replicate 8 0

-- The call that a command stands for, by the definition that its contract cites.
unfoldable pub make_call : Memory → Command → Called
make_call m (feed peer now_ms chunk) =
    let r = feed_call tape_shape m peer chunk now_ms in
    called (feed_shown r.answer) r.memory
make_call m (cancel peer request_id) =
    let r = cancel_call tape_shape m.numbers peer request_id in
    called (cancel_shown r.answer) (renumbered m r.numbers)
make_call m (drop_peer peer) =
    let r = drop_call tape_shape m.numbers peer in
    called (count_shown r.answer) (renumbered m r.numbers)
make_call m (poll now_ms) =
    let r = poll_call tape_shape m.numbers now_ms column column in
    called (count_shown r.answer) (renumbered m r.numbers)

abbrev pub kind_of : Command → ℕ
kind_of (feed peer now_ms chunk) = 1
kind_of (cancel peer request_id) = 2
kind_of (drop_peer peer) = 3
kind_of (poll now_ms) = 4

-- The line of a command.
abbrev pub line_of : Memory → Command → List ℕ
line_of m c = line_text (kind_of c) (make_call m c).shown

-- What playing bytes gives: text, memory, how many bytes were played, and why it stopped; granted is that no byte was left.
pub record Played : Type 0 where
  pub text : List ℕ
  pub memory : Memory
  pub used : ℕ
  pub stop : Reply ℕ

abbrev pub stopped : Memory → Reply ℕ → Played
stopped m stop = record { text = []; memory = m; used = 0; stop = stop }

-- Text and bytes in front of what is played next.
abbrev pub before : List ℕ → ℕ → Played → Played
before text used p = record { text = text ++ p.text; memory = p.memory; used = used + p.used; stop = p.stop }

-- The next command, where there is room for a line; 3 where there is not, and the command is not played.
abbrev pub play_on : Reply (Option Taken) → Memory → ℕ → (Memory → ℕ → ℕ → Played) → Played
play_on (granted None) m room next = stopped m (granted 0)
play_on (refused number value) m room next = stopped m (refused number value)
play_on (granted (Some t)) m room next =
    cond (leb line_len room)
    (before (line_of m t.command) t.len (next (make_call m t.command).memory t.len (room - length (line_of m t.command))))
    (stopped m (refused 3 0))

-- At most k commands.
unfoldable pub play_from : ℕ → Memory → List ℕ → ℕ → Played
play_from zero m s room = stopped m (granted 0)
play_from (suc k) m s room = play_on (read_command s) m room (λ (m' : Memory) (len room' : ℕ). play_from k m' (drop len s) room')

unfoldable pub play_bytes : Memory → List ℕ → ℕ → Played
play_bytes m s room = play_from (length s) m s room

-- The answer of `play`, and all that is lent for it: the text in front of what the output held.
pub record PlayLeft : Type 0 where
  pub next : ℕ
  pub written : ℕ
  pub stop : Reply ℕ
  pub memory : Memory
  pub out : List ℕ

abbrev pub play_left : ℕ → ℕ → Reply ℕ → Memory → List ℕ → PlayLeft
play_left next written stop m out = record { next = next; written = written; stop = stop; memory = m; out = out }

abbrev pub playing : Played → List ℕ → PlayLeft
playing p out = play_left p.used (length p.text) p.stop p.memory (p.text ++ drop (length p.text) out)

unfoldable pub play_call : Memory → List ℕ → List ℕ → PlayLeft
play_call m tape out = playing (play_bytes m tape (length out)) out
