-- A sequence that meets the hypotheses of `served`, `leaves` and `complete`: a list of two chunks joins at place 3, another one in the middle at
-- place 7, and one turn is refused. Before it a turn with nobody waiting, and a join at a place that is not there; the lent numbers held other things
-- before `new`, and are longer than a stage. Fed as it left, the first list meets those of `Forwards` too.
-- Assumes nothing.
use Rattle.std.specs.Prelude.{ℕ, List, [], ◌∷◌, ◌++◌, replicate}
use Rattle.pe_stage.specs.declared.place.Outgoing.{Outgoing}
use Rattle.pe_turns.specs.Calls.{Call, join, turn}

abbrev pub lent_words : List ℕ
lent_words = replicate 115 77

-- The lent buffer: a header of 104 bytes and a body of three; and one that has a byte behind them.
abbrev pub buffer : List ℕ
buffer = replicate 104 1 ++ (10 ∷ 20 ∷ 30 ∷ [])

abbrev pub longer : List ℕ
longer = buffer ++ (99 ∷ [])

-- The first list's header leaves no room for its body in the first chunk; the second one is two bytes of the same body.
abbrev pub long : Outgoing
long = record { header_at = 0; header_len = 104; body_at = 104; body_len = 3; request_id = 5; max_sysex = 128 }

abbrev pub brief : Outgoing
brief = record { header_at = 0; header_len = 0; body_at = 105; body_len = 2; request_id = 6; max_sysex = 128 }

-- The lent outputs: one that has room for every chunk here, and one of eight bytes.
abbrev pub roomy : List ℕ
roomy = replicate 128 0

abbrev pub tight : List ℕ
tight = replicate 8 0

abbrev pub before : List Call
before = turn [] [] ∷ join buffer 16 long ∷ []

-- At the busy place a join is refused; the turn with the tight output is refused, and the next one hands out what it would have. In the last turns
-- nobody waits: there are 32 that are not refused, 16 for each chunk of the first list.
abbrev pub calls : List Call
calls =
    join buffer 3 brief
    ∷ turn longer roomy
    ∷ join longer 7 brief
    ∷ turn buffer tight
    ∷ turn buffer roomy
    ∷ turn buffer roomy
    ∷ replicate 29 (turn buffer [])
