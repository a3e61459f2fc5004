-- A run that meets every hypothesis of a delivery, and the answers that it gets: the second chunk comes first and bare, the first one last and in a
-- message, and in between another peer under the same request id, a chunk that is held already, one beyond the count, a torn one, an open list, a
-- poll just in time, a late one that is refused for its short output, a clock that goes back, a cancel of another request id and a drop of another
-- peer.
-- Assumes nothing.
use Rattle.std.specs.Prelude.{ℕ, true, List, [], ◌∷◌, ◌++◌, drop, replicate}
use Rattle.seven_bit.specs.Reply.{granted, refused}
use Rattle.midici_core.specs.Header.{bytes_of_header}
use Rattle.pe_frame.specs.Chunk.{Chunk, chunk_from}
use Rattle.pe_frame.specs.Write.{chunk_bytes, header_for}
use Rattle.pe_slot.specs.Feed.{still, lengths}
use Rattle.pe_reassembler.specs.Table.{numbers_len}
use Rattle.pe_run.specs.Calls.{Call, feed, feed_message, cancel, drop_peer, poll, memory_stats, open_list, Answer, fed, was_open, counted}
use Rattle.pe_run.specs.Calls.{timed_out, totals, listed}
use Rattle.pe_run.specs.Run.{Table, table}
use Rattle.pe_run.specs.Demand.{full_size}

-- ---- what is lent
unfoldable pub lent_memory : Table
lent_memory = table (replicate (numbers_len (full_size 2)) 0) (replicate 16384 0) (replicate 32768 0) (replicate 524288 0)

unfoldable pub lent_header : List ℕ
lent_header = replicate 4096 0

unfoldable pub lent_body : List ℕ
lent_body = replicate 65536 0

abbrev pub places : List ℕ
places = replicate 8 0

-- ---- the list, cut at a limit of 128: its header leaves no room in the first chunk
abbrev pub header : List ℕ
header = replicate 104 1

abbrev pub body : List ℕ
body = 10 ∷ 20 ∷ 30 ∷ []

abbrev pub one : Chunk
one = chunk_from 5 header 2 1 []

abbrev pub two : Chunk
two = chunk_from 5 [] 2 2 body

-- the first one from peer 9 to peer 7 in a message of kind 34, and the second one without its last byte
unfoldable pub one_in_message : List ℕ
one_in_message = bytes_of_header (header_for 0x34 9 7) ++ chunk_bytes one

abbrev pub torn : List ℕ
torn = 5 ∷ 0 ∷ 0 ∷ 2 ∷ 0 ∷ 2 ∷ 0 ∷ 3 ∷ 0 ∷ 10 ∷ 20 ∷ []

-- ---- one of three chunks under another peer or request id
abbrev pub other : ℕ → ℕ → Chunk
other request_id number = chunk_from request_id [] 3 number (9 ∷ [])

-- ---- and one of a number above that count, which it does not name
abbrev pub stray : Chunk
stray = chunk_from 6 [] 0 4 (9 ∷ [])

-- ---- the calls
abbrev pub before : List Call
before =
    feed 8 (chunk_bytes (other 5 1)) 0 lent_header lent_body
    ∷ feed 9 (chunk_bytes (other 6 1)) 10 lent_header lent_body
    ∷ cancel 9 5
    ∷ drop_peer 7
    ∷ []

abbrev pub first_call : Call
first_call = feed 9 (chunk_bytes two) 100 lent_header lent_body

abbrev pub rest : List Call
rest =
    feed 8 (chunk_bytes (other 5 2)) 150 lent_header lent_body
    ∷ feed 9 (chunk_bytes (other 6 1)) 200 lent_header lent_body
    ∷ feed 9 (chunk_bytes stray) 250 lent_header lent_body
    ∷ memory_stats
    ∷ open_list places places places
    ∷ poll 3099 places places
    ∷ poll 9000 places []
    ∷ feed 9 torn 300 lent_header lent_body
    ∷ poll 50 places places
    ∷ cancel 9 6
    ∷ drop_peer 8
    ∷ feed_message one_in_message 9000 lent_header lent_body
    ∷ []

-- ---- what `first_call` and `rest` are told
abbrev pub answers : List Answer
answers =
    fed (granted still) lent_header lent_body
    ∷ fed (granted still) lent_header lent_body
    ∷ fed (refused 8 0) lent_header lent_body
    ∷ fed (refused 8 0) lent_header lent_body
    ∷ totals (granted (record { reserved_bytes = 688128; active_bytes = 38; active_slots = 3 }))
    ∷ listed (granted 3) (9 ∷ 8 ∷ 9 ∷ drop 3 places) (5 ∷ 5 ∷ 6 ∷ drop 3 places) (1 ∷ 2 ∷ 1 ∷ drop 3 places)
    ∷ timed_out (granted 0) places places
    ∷ timed_out (refused 30 0) places []
    ∷ fed (refused 2 0) lent_header lent_body
    ∷ timed_out (granted 0) places places
    ∷ was_open (granted true)
    ∷ counted (granted 1)
    ∷ fed (granted (lengths 104 3)) (header ++ drop 104 lent_header) (body ++ drop 3 lent_body)
    ∷ []
