-- K8: one statement about every sequence of joins and turns from an empty stage.
-- Assumes nothing.
use Rattle.std.specs.Prelude.{ℕ, zero, suc, ◌*◌, ◌≤◌, ◌<◌, Bool, true, false, cond, List, [], ◌∷◌, ◌++◌, ◌≡◌, eqb, length, take, Some}
use Rattle.seven_bit.specs.Reply.{granted, refused}
use Rattle.pe_frame.specs.Write.{chunk_bytes, chunk_len}
use Rattle.pe_chunker.specs.Cut.{chunk_at}
use Rattle.pe_stage.specs.declared.place.Outgoing.{Outgoing}
use Rattle.pe_stage.specs.Stage.{is_free, place_at, header_in, body_in, is_inside, next_waiting, Written, written, Handout, nobody, hands}
use Rattle.pe_turns.specs.Calls.{Call, join, turn, Answer, joined, turned, Seen, seen_on}

abbrev pub is_refused : Answer → Bool
is_refused (joined (granted count)) = false
is_refused (joined (refused number value)) = true
is_refused (turned (granted t)) = false
is_refused (turned (refused number value)) = true

-- "refused turns do not count": what the other turns said, in their order.
abbrev pub turns_in : List Answer → List Handout
turns_in [] = []
turns_in (joined r ∷ told) = turns_in told
turns_in (turned (granted t) ∷ told) = t ∷ turns_in told
turns_in (turned (refused number value) ∷ told) = turns_in told

-- Is the place among those from which a turn hands out?
abbrev pub is_served : ℕ → List Handout → Bool
is_served p [] = false
is_served p (nobody ∷ turns) = is_served p turns
is_served p (hands q w ∷ turns) = cond (eqb p q) true (is_served p turns)

-- The chunks that left from a place, in their order.
abbrev pub sent_from : ℕ → List Handout → List Written
sent_from p [] = []
sent_from p (nobody ∷ turns) = sent_from p turns
sent_from p (hands q w ∷ turns) = cond (eqb p q) (w ∷ sent_from p turns) (sent_from p turns)

-- Those that left in answers.
abbrev pub sent : ℕ → List Answer → List Written
sent p told = sent_from p (turns_in told)

-- Chunk k of a list, as the cutter defines it.
abbrev pub chunk_of : Outgoing → List ℕ → List ℕ → ℕ → ℕ → Written
chunk_of list header body count k = written k count (chunk_bytes (chunk_at list.request_id header body list.max_sysex k))

-- So many of them, from number k on.
abbrev pub chunks_from : Outgoing → List ℕ → List ℕ → ℕ → ℕ → ℕ → List Written
chunks_from list header body count k zero = []
chunks_from list header body count k (suc more) = chunk_of list header body count k ∷ chunks_from list header body count (suc k) more

-- All of them: 1, 2, .. to the count.
abbrev pub all_of : Outgoing → List ℕ → List ℕ → ℕ → List Written
all_of list header body count = chunks_from list header body count 1 count

-- ---- a list that has joined; `since` are the calls up to that join, and `calls` follow
-- "A list's bytes are lent unchanged until its last frame has left.": where its parts lie, the buffer of each turn that hands out from its place has
-- its header and body, as long as fewer than count have left.
abbrev pub LentUnchanged : Seen → ℕ → Outgoing → List ℕ → List ℕ → ℕ → List Call → List Call → Type 0
LentUnchanged s p list header body count since calls =
    (some_calls : List Call) (buffer out : List ℕ) (more : List Call)
    → calls ≡ some_calls ++ turn buffer out ∷ more
    → length (sent p (s.told since some_calls)) < count
    → (w : Written) → s.told (since ++ some_calls) (turn buffer out ∷ []) ≡ turned (granted (hands p w)) ∷ []
    → (header_in buffer list ≡ header) × (body_in buffer list ≡ body)

-- In the calls from there on:
pub record Leaves (s : Seen) (p : ℕ) (list : Outgoing) (header body : List ℕ) (count : ℕ) (since calls : List Call) : Type 0 where
  -- the turns that name the place hand out the list's chunks, 1, 2, .. to the count, byte for byte, as far as turns have come;
  pub in_order : take count (sent p (s.told since calls)) ≡ take (length (sent p (s.told since calls))) (all_of list header body count)
  -- within 16 turns for each, refused ones not counted, all have left;
  pub complete : 16 * count ≤ length (turns_in (s.told since calls)) → count ≤ length (sent p (s.told since calls))
  -- the place is busy until the last one has left,
  pub busy : length (sent p (s.told since calls)) < count → is_free (place_at (s.held (since ++ calls)) p) ≡ false
  -- and right after it free;
  pub freed : (some_calls : List Call) (last : Call) → calls ≡ some_calls ++ last ∷ [] → length (sent p (s.told since some_calls)) < count
      → length (sent p (s.told since calls)) ≡ count → is_free (place_at (s.held (since ++ calls)) p) ≡ true
  -- and where it is the next one that waits, a turn is granted that has it in its buffer, and room in its output for the chunk that is next.
  pub progress : (buffer out : List ℕ) → next_waiting (s.held (since ++ calls)) ≡ Some p → length (sent p (s.told since calls)) < count
      → is_inside buffer list ≡ true → header_in buffer list ≡ header → body_in buffer list ≡ body
      → chunk_len (chunk_at list.request_id header body list.max_sysex (suc (length (sent p (s.told since calls))))) ≤ length out
      → s.told (since ++ calls) (turn buffer out ∷ [])
      ≡ turned (granted (hands p (chunk_of list header body count (suc (length (sent p (s.told since calls))))))) ∷ []

-- Of every sequence of joins and turns from an empty stage, with any arguments, refused ones included:
pub record TakingTurns (s : Seen) : Type 0 where
  -- a place that waits is among any next 16 turns that are not refused, whatever joins meanwhile;
  pub served : (before : List Call) (p : ℕ) (calls : List Call)
      → is_free (place_at (s.held before) p) ≡ false
      → 16 ≤ length (turns_in (s.told before calls))
      → is_served p (take 16 (turns_in (s.told before calls))) ≡ true
  -- a list that joins leaves complete and in number order, where its bytes are lent unchanged;
  pub leaves : (before : List Call) (buffer : List ℕ) (p : ℕ) (list : Outgoing) (count : ℕ) (calls : List Call)
      → s.told before (join buffer p list ∷ []) ≡ joined (granted count) ∷ []
      → LentUnchanged s p list (header_in buffer list) (body_in buffer list) count (before ++ join buffer p list ∷ []) calls
      → Leaves s p list (header_in buffer list) (body_in buffer list) count (before ++ join buffer p list ∷ []) calls
  -- none is said only where nobody waits;
  pub none : (before : List Call) (buffer out : List ℕ) (p : ℕ)
      → s.told before (turn buffer out ∷ []) ≡ turned (granted nobody) ∷ []
      → is_free (place_at (s.held before) p) ≡ true
  -- and a call that is refused changes nothing.
  pub refusals : (before : List Call) (c : Call) (a : Answer) → s.told before (c ∷ []) ≡ a ∷ [] → is_refused a ≡ true
      → s.held (before ++ c ∷ []) ≡ s.held before

-- Memory long enough is 113 numbers, whatever they hold before `new`.
abbrev pub K8 : Type 0
K8 = (words : List ℕ) → 113 ≤ length words → TakingTurns (seen_on words)
