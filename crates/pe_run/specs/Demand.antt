-- Demand 3: one statement about every run of calls on a full-size table.
-- Assumes nothing.
use Rattle.std.specs.Prelude.{ℕ, suc, ◌-◌, ◌*◌, ◌≤◌, ◌<◌, Bool, true, false, cond, ◌&&◌, List, [], ◌∷◌, ◌++◌, map, ◌≡◌, eqb, length, get_or, drop}
use Rattle.std.proofs.Math.Option.{Option, none, some}
use Rattle.seven_bit.specs.Reply.{granted}
use Rattle.pe_slot.specs.Feed.{still, lengths}
use Rattle.pe_chunker.specs.Cut.{max_sysex_max, cut_count, cut_chunk}
use Rattle.pe_reassembler.specs.declared.shape.Shape.{Shape}
use Rattle.pe_reassembler.specs.Open.{Shown, open_slots}
use Rattle.pe_reassembler.specs.Table.{numbers_len}
use Rattle.pe_run.specs.Lists.{tally, Perm}
use Rattle.pe_run.specs.Model.{Model, start, find, open_of, finds_record, Act, arrive, cancel, drop as drop_all, poll, nothing}
use Rattle.pe_run.specs.Calls.{Call, Answer, fed, Arrival, arrival_of, act_of, model_after, AllRight}
use Rattle.pe_run.specs.Run.{Table, made, table_from, Run}

-- "Full size is H 4,096, B 65,536, R 2,048"
abbrev pub full_size : ℕ → Shape
full_size n = record { max_peers = n; header_bytes = 4096; tx_bytes = 65536; fragment_records = 2048 }

-- Memory long enough for a full-size table of n peers, whatever it holds.
pub record LongEnough (n : ℕ) (t : Table) : Type 0 where
  pub numbers : numbers_len (full_size n) ≤ length t.numbers
  pub index : 8192 * n ≤ length t.index
  pub headers : 16384 * n ≤ length t.headers
  pub arenas : 262144 * n ≤ length t.arenas

-- "A list's frames are those that the cutter .. writes by module 6 and **Cut**'s questions from one id, header, body and limit, for each k
-- from 1 to the count, none refused." Any buffer of 16,384 bytes is long enough for them. Document 02, K3: "a list promised to arrive whole has a
-- body of bytes up to 7F": the cutter's own questions ask that, so that no hypothesis below is needed for it.
pub record CutInto (request_id : ℕ) (header body : List ℕ) (limit : ℕ) (chunks : List (List ℕ)) : Type 0 where
  pub count : cut_count request_id header body limit ≡ granted (length chunks)
  pub each : (k : ℕ) → k < length chunks → cut_chunk request_id header body limit (suc k) max_sysex_max ≡ granted (get_or chunks k [])

-- Is it under this peer and request id? Does such a chunk arrive with the call?
abbrev pub is_under : ℕ → ℕ → Option Arrival → Bool
is_under peer request_id none = false
is_under peer request_id (some a) = eqb peer a.peer && eqb request_id a.chunk.request_id

abbrev pub is_ours : Shape → ℕ → ℕ → Call → Bool
is_ours shape peer request_id c = is_under peer request_id (arrival_of shape c)

-- What arrives under them, in the order in which it does.
abbrev pub ours_of : ℕ → ℕ → Option Arrival → List Arrival
ours_of peer request_id none = []
ours_of peer request_id (some a) = cond (is_under peer request_id (some a)) (a ∷ []) []

abbrev pub ours : Shape → ℕ → ℕ → List Call → List Arrival
ours shape peer request_id [] = []
ours shape peer request_id (c ∷ calls) = ours_of peer request_id (arrival_of shape c) ++ ours shape peer request_id calls

-- The answers to those calls.
abbrev pub answers_to : Shape → ℕ → ℕ → List Call → List Answer → List Answer
answers_to shape peer request_id (c ∷ calls) (a ∷ answers) =
    cond (is_ours shape peer request_id c) (a ∷ answers_to shape peer request_id calls answers) (answers_to shape peer request_id calls answers)
answers_to shape peer request_id [] answers = []
answers_to shape peer request_id (c ∷ calls) [] = []

-- "A list is *handed out* when the answer is whole with its two lengths and the outputs begin with exactly its header and body; an answer of
-- waiting leaves both outputs unchanged."
abbrev pub waits : Arrival → Answer
waits a = fed (granted still) a.out_header a.out_body

abbrev pub hands_out : List ℕ → List ℕ → Arrival → Answer
hands_out header body a =
    fed (granted (lengths (length header) (length body)))
    (header ++ drop (length header) a.out_header)
    (body ++ drop (length body) a.out_body)

-- Waiting, but for the last, which hands the list out.
abbrev pub delivered : List ℕ → List ℕ → List Arrival → List Answer
delivered header body [] = []
delivered header body (a ∷ []) = hands_out header body a ∷ []
delivered header body (a ∷ b ∷ more) = waits a ∷ delivered header body (b ∷ more)

-- The first chunk: its peer finds a record, its request id is not open there, and fewer than four are.
pub record Room (n peer request_id : ℕ) (b : Model) : Type 0 where
  pub record_found : finds_record n peer b ≡ true
  pub not_open : find peer request_id b ≡ none
  pub fewer : open_of peer b < 4

-- The calls from the first chunk on, whose time is `last` from then on: none cancels it, none drops its peer, none polls 3,000 or more past its
-- last chunk.
abbrev pub Spared : ℕ → ℕ → ℕ → List Act → Type 0
Spared peer request_id last [] = Unit {0}
Spared peer request_id last (arrive q c now_ms ∷ acts) = Spared peer request_id (cond (eqb peer q && eqb request_id c.request_id) now_ms last) acts
Spared peer request_id last (cancel q i ∷ acts) = (eqb peer q && eqb request_id i ≡ false) × Spared peer request_id last acts
Spared peer request_id last (drop_all q ∷ acts) = (eqb peer q ≡ false) × Spared peer request_id last acts
Spared peer request_id last (poll now_ms ∷ acts) = (now_ms - last < 3000) × Spared peer request_id last acts
Spared peer request_id last (nothing ∷ acts) = Spared peer request_id last acts

-- A list that is cut, its body of at most 65,536 bytes. Its first chunk arrives and finds room; from then on each chunk arrives once, bare or in a
-- message, in any order and by any call, and no other under that peer and request id; and no call closes it.
pub record Delivery (n : ℕ) (b : Model) (peer request_id : ℕ) (header body : List ℕ) (limit : ℕ) (first : Call) (rest : List Call) : Type 0 where
  pub chunks : List (List ℕ)
  pub cut : CutInto request_id header body limit chunks
  pub fits : length body ≤ 65536
  pub first_of_them : is_ours (full_size n) peer request_id first ≡ true
  pub room : Room n peer request_id b
  pub each_once : Perm (map (λ (a : Arrival). a.bytes) (ours (full_size n) peer request_id (first ∷ rest))) chunks
  pub spared : Spared peer request_id 0 (map (act_of (full_size n)) (first ∷ rest))

-- No two rows share peer and request id.
abbrev pub NoneTwice : List Shown → Type 0
NoneTwice [] = Unit {0}
NoneTwice (r ∷ rows) = (tally (λ (u : Shown). eqb r.peer u.peer && eqb r.request_id u.request_id) rows ≡ 0) × NoneTwice rows

-- Of every run on a full-size table of n peers that `new` has just made of memory t:
pub record Demand3 (n : ℕ) (t : Table) : Type 0 where
  -- every answer is the model's;
  pub answers : (calls : List Call) (told : List Answer) → Run (full_size n) (made (full_size n) t) calls told → AllRight (full_size n) start calls told
  -- no peer ever has more than four slots open;
  pub four : (calls : List Call) (peer : ℕ)
      → tally (λ (r : Shown). eqb peer r.peer) (open_slots (full_size n) (table_from (full_size n) (made (full_size n) t) calls).numbers) ≤ 4
  -- no two open slots share peer and request id, so that in an open list place never decides;
  pub apart : (calls : List Call) → NoneTwice (open_slots (full_size n) (table_from (full_size n) (made (full_size n) t) calls).numbers)
  -- and a list whose chunks arrive is handed out with the last of them.
  pub delivery : (before : List Call) (peer request_id : ℕ) (header body : List ℕ) (limit : ℕ) (first : Call) (rest : List Call) (told : List Answer)
      → Delivery n (model_after (full_size n) before).model peer request_id header body limit first rest
      → Run (full_size n) (table_from (full_size n) (made (full_size n) t) before) (first ∷ rest) told
      → answers_to (full_size n) peer request_id (first ∷ rest) told ≡ delivered header body (ours (full_size n) peer request_id (first ∷ rest))

abbrev pub Demand : Type 0
Demand = (n : ℕ) (t : Table) → n ≤ 16 → LongEnough n t → Demand3 n t
