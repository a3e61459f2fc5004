-- What the stage hands out, the reassembler delivers.
-- Assumes nothing.
use Rattle.std.specs.Prelude.{ℕ, ◌≤◌, true, List, [], ◌∷◌, ◌++◌, map, ◌≡◌, length, take}
use Rattle.seven_bit.specs.Reply.{granted}
use Rattle.pe_stage.specs.declared.place.Outgoing.{Outgoing}
use Rattle.pe_stage.specs.Stage.{header_in, body_in, Written}
use Rattle.pe_run.specs.Model.{Model}
use Rattle.pe_run.specs.Calls.{Call as TableCall, Answer as TableAnswer, Arrival, act_of, model_after}
use Rattle.pe_run.specs.Run.{Table, made, table_from, Run}
use Rattle.pe_run.specs.Demand.{full_size, LongEnough, is_ours, ours, answers_to, delivered, Room, Spared}
use Rattle.pe_turns.specs.Calls.{Call, join, joined, Seen, seen_on}
use Rattle.pe_turns.specs.Turns.{sent, LentUnchanged}

-- Chunks that left are fed as they left to a full-size table of n peers: under one peer and the list's request id just these arrive, in this order,
-- and the table has room for the list, as demand 3 asks of any other.
pub record FedAsLeft (n : ℕ) (b : Model) (peer request_id : ℕ) (body : List ℕ) (left : List Written) (first : TableCall) (rest : List TableCall) : Type 0 where
  pub fits : length body ≤ 65536
  pub first_of_them : is_ours (full_size n) peer request_id first ≡ true
  pub room : Room n peer request_id b
  pub as_they_left : map (λ (a : Arrival). a.bytes) (ours (full_size n) peer request_id (first ∷ rest)) ≡ map (λ (w : Written). w.bytes) left
  pub spared : Spared peer request_id 0 (map (act_of (full_size n)) (first ∷ rest))

-- A list that joined, and of which all has left: fed so, it is handed out with the last of its chunks, whole.
abbrev pub Forwards : Seen → Type 0
Forwards s =
    (before : List Call) (buffer : List ℕ) (p : ℕ) (list : Outgoing) (count : ℕ) (calls : List Call)
    → s.told before (join buffer p list ∷ []) ≡ joined (granted count) ∷ []
    → LentUnchanged s p list (header_in buffer list) (body_in buffer list) count (before ++ join buffer p list ∷ []) calls
    → count ≤ length (sent p (s.told (before ++ join buffer p list ∷ []) calls))
    → (n : ℕ) (t : Table) → n ≤ 16 → LongEnough n t
    → (earlier : List TableCall) (peer : ℕ) (first : TableCall) (rest : List TableCall) (told : List TableAnswer)
    → FedAsLeft n (model_after (full_size n) earlier).model peer list.request_id (body_in buffer list)
    (take count (sent p (s.told (before ++ join buffer p list ∷ []) calls))) first rest
    → Run (full_size n) (table_from (full_size n) (made (full_size n) t) earlier) (first ∷ rest) told
    → answers_to (full_size n) peer list.request_id (first ∷ rest) told
    ≡ delivered (header_in buffer list) (body_in buffer list) (ours (full_size n) peer list.request_id (first ∷ rest))

-- Of the lent numbers, as K8.
abbrev pub Forwarding : Type 0
Forwarding = (words : List ℕ) → 113 ≤ length words → Forwards (seen_on words)
