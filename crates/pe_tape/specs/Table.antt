-- The table that a tape is played on, as one value.
-- Assumes nothing.
use Rattle.std.specs.Prelude.{◌≡◌}
use Rattle.pe_reassembler.specs.Feed.{Memory, memory}
use Rattle.pe_tape.specs.declared.play.Table.{Table}

-- What its rooms hold.
abbrev pub memory_in : Table → Memory
memory_in t = memory t.numbers.now t.index.now t.headers.now t.arenas.now t.out_header.now t.out_body.now

-- They are the same rooms.
abbrev pub SameRooms : Table → Table → Type 0
SameRooms s t =
    (t.numbers.ghost_name ≡ s.numbers.ghost_name) × (t.index.ghost_name ≡ s.index.ghost_name) × (t.headers.ghost_name ≡ s.headers.ghost_name)
    × (t.arenas.ghost_name ≡ s.arenas.ghost_name) × (t.out_header.ghost_name ≡ s.out_header.ghost_name) × (t.out_body.ghost_name ≡ s.out_body.ghost_name)
