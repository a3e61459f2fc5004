-- The chunks that arrive with calls, and what a call with which one arrives does and answers.
-- Assumes nothing.
use Prim.Native.Nat.{ℕ}
use mathlib.Core.Bool.{Bool, true, false, cond, ◌&&◌}
use mathlib.Core.List.{List, [], ◌∷◌, ◌++◌, map}
use mathlib.Core.Option.{Option, none, some}
use mathlib.Core.Path.{◌≡◌, refl, sym, ap, ap₂, subst, ◌∙◌}
use native.Mathlib.Omega.{arith}
use borrow.Author.Tests.{eqb-true}
use lib.Dec.{eqb}
use Rattle.seven_bit.specs.Reply.{Reply, granted, refused}
use Rattle.seven_bit.proofs.ReplyLaws.{asked, first_granted, and_told}
use Rattle.midici_core.specs.Message.{read_message}
use Rattle.pe_frame.specs.Chunk.{Chunk, read_fields, read_chunk}
use Rattle.pe_reassembler.specs.declared.shape.Shape.{Shape}
use Rattle.pe_reassembler.specs.Table.{is_muid}
use Rattle.pe_run.specs.Model.{Clocked, Act, arrive, cancel as cancelled, drop as dropped, poll as polled, nothing}
use Rattle.pe_run.specs.Calls.{fed_arrival, message_arrival, Call, feed, feed_message, cancel, drop_peer, poll, memory_stats, reserved_bytes, open_list, Answer, Arrival, arriving, has_outputs, granted_of, arrival_of, arrival_act, has_places, act_of, arrival_answer, Right}
use Rattle.pe_run.specs.Demand.{is_under, is_ours, ours_of, ours, answers_to, Spared}
use Rattle.pe_run.proofs.ListLaws.{never}
use Rattle.pe_run.proofs.Chunks.{chunk_in, chunk_in_law}
use Rattle.pe_run.proofs.Arrive.{is_arrival}

granted_of_law : {A : Type 0} (r : Reply A) (a : A) → granted_of r ≡ some a → r ≡ granted a
granted_of_law (granted x) a q = let e : x ≡ a = cc in ap granted e
granted_of_law (refused number value) a q = absurd (let z : ◌≡◌ {A = ℕ} 0 1 = cc in omega arith)

no_arrival : {A : Type 0} (a : Arrival) → none ≡ some a → A
no_arrival a q = absurd (let z : ◌≡◌ {A = ℕ} 0 1 = cc in omega arith)

-- what an arrival says of its bytes and of the outputs that are lent for it
record Arriving (out_header out_body : List ℕ) (a : Arrival) : Type 0 where
  chunk_is : chunk_in a.bytes ≡ a.chunk
  header_is : out_header ≡ a.out_header
  body_is : out_body ≡ a.out_body

module _ (out_header out_body : List ℕ) (a : Arrival) where
  arriving_told : (peer : ℕ) (bytes : List ℕ) (now_ms : ℕ) → arriving peer bytes now_ms out_header out_body ≡ granted a → Arriving out_header out_body a
  arriving_told peer bytes now_ms q =
      let k = first_granted (read_chunk bytes) _ a q in
      let r = first_granted (read_fields bytes) _ k.0 k.1 in
      let e = r.2 in
      let g = k.2 in
      let b : bytes ≡ a.bytes = cc in
      let c = chunk_in_law bytes r.0 r.1 in
      record { chunk_is = cc; header_is = cc; body_is = cc }

  fed_told : (shape : Shape) (peer : ℕ) (chunk : List ℕ) (now_ms : ℕ) → fed_arrival shape peer chunk now_ms out_header out_body ≡ granted a
      → Arriving out_header out_body a
  unfolding fed_arrival
  fed_told shape peer chunk now_ms e =
      let s = asked (has_outputs shape out_header out_body) 30 _ a e in
      let t = asked (is_muid peer) 28 _ a s.1 in
      arriving_told peer chunk now_ms t.1

  message_told : (shape : Shape) (message : List ℕ) (now_ms : ℕ) → message_arrival shape message now_ms out_header out_body ≡ granted a
      → Arriving out_header out_body a
  unfolding message_arrival
  message_told shape message now_ms e =
      let s = asked (has_outputs shape out_header out_body) 30 _ a e in
      let t = first_granted (read_message message) _ a s.1 in
      arriving_told _ _ now_ms t.2

module _ (shape : Shape) where
  -- what an arrival's bytes say is its chunk
  arrival_chunk : (c : Call) (a : Arrival) → arrival_of shape c ≡ some a → chunk_in a.bytes ≡ a.chunk
  arrival_chunk (feed peer chunk now_ms out_header out_body) a q =
      (fed_told out_header out_body a shape peer chunk now_ms (granted_of_law (fed_arrival shape peer chunk now_ms out_header out_body) a q)).chunk_is
  arrival_chunk (feed_message message now_ms out_header out_body) a q =
      (message_told out_header out_body a shape message now_ms (granted_of_law (message_arrival shape message now_ms out_header out_body) a q)).chunk_is
  arrival_chunk (cancel peer request_id) a q = no_arrival a q
  arrival_chunk (drop_peer peer) a q = no_arrival a q
  arrival_chunk (poll now_ms out_peers out_ids) a q = no_arrival a q
  arrival_chunk memory_stats a q = no_arrival a q
  arrival_chunk reserved_bytes a q = no_arrival a q
  arrival_chunk (open_list out_peers out_ids out_held) a q = no_arrival a q

  -- ---- a call with which a chunk arrives
  pub act_arrives : (c : Call) (a : Arrival) → arrival_of shape c ≡ some a → act_of shape c ≡ arrive a.peer a.chunk a.time
  act_arrives (feed peer chunk now_ms out_header out_body) a q = ap arrival_act q
  act_arrives (feed_message message now_ms out_header out_body) a q = ap arrival_act q
  act_arrives (cancel peer request_id) a q = no_arrival a q
  act_arrives (drop_peer peer) a q = no_arrival a q
  act_arrives (poll now_ms out_peers out_ids) a q = no_arrival a q
  act_arrives memory_stats a q = no_arrival a q
  act_arrives reserved_bytes a q = no_arrival a q
  act_arrives (open_list out_peers out_ids out_held) a q = no_arrival a q

  pub answer_arrives : (b : Clocked) (c : Call) (a : Arrival) (told : Answer) → arrival_of shape c ≡ some a → Right shape b c told
      → told ≡ arrival_answer shape b (granted a) a.out_header a.out_body
  answer_arrives b (feed peer chunk now_ms out_header out_body) a told q r =
      let e = granted_of_law (fed_arrival shape peer chunk now_ms out_header out_body) a q in
      let t = fed_told out_header out_body a shape peer chunk now_ms e in
      r ∙ ap (λ (x : Reply Arrival). arrival_answer shape b x out_header out_body) e
      ∙ ap₂ (λ (x y : List ℕ). arrival_answer shape b (granted a) x y) t.header_is t.body_is
  answer_arrives b (feed_message message now_ms out_header out_body) a told q r =
      let e = granted_of_law (message_arrival shape message now_ms out_header out_body) a q in
      let t = message_told out_header out_body a shape message now_ms e in
      r ∙ ap (λ (x : Reply Arrival). arrival_answer shape b x out_header out_body) e
      ∙ ap₂ (λ (x y : List ℕ). arrival_answer shape b (granted a) x y) t.header_is t.body_is
  answer_arrives b (cancel peer request_id) a told q r = no_arrival a q
  answer_arrives b (drop_peer peer) a told q r = no_arrival a q
  answer_arrives b (poll now_ms out_peers out_ids) a told q r = no_arrival a q
  answer_arrives b memory_stats a told q r = no_arrival a q
  answer_arrives b reserved_bytes a told q r = no_arrival a q
  answer_arrives b (open_list out_peers out_ids out_held) a told q r = no_arrival a q

-- the chunks of what arrives
abbrev pub carried : List Arrival → List Chunk
carried l = map (λ (a : Arrival). a.chunk) l

module _ (shape : Shape) (peer request_id : ℕ) where
  -- they are what the bytes say
  pub bytes_carried : (calls : List Call)
      → map chunk_in (map (λ (a : Arrival). a.bytes) (ours shape peer request_id calls)) ≡ carried (ours shape peer request_id calls)
  bytes_carried [] = refl
  bytes_carried (c ∷ calls) = go (arrival_of shape c) refl (bytes_carried calls)
    where
      more : List Arrival
      more = ours shape peer request_id calls

      go : (x : Option Arrival) → arrival_of shape c ≡ x → map chunk_in (map (λ (a : Arrival). a.bytes) more) ≡ carried more
          → map chunk_in (map (λ (a : Arrival). a.bytes) (ours_of peer request_id x ++ more)) ≡ carried (ours_of peer request_id x ++ more)
      go none q e = e
      go (some a) q e = taken (is_under peer request_id (some a))
        where
          taken : (t : Bool) → map chunk_in (map (λ (x : Arrival). x.bytes) (cond t (a ∷ []) [] ++ more)) ≡ carried (cond t (a ∷ []) [] ++ more)
          taken true = ap₂ (λ (d : Chunk) (ds : List Chunk). d ∷ ds) (arrival_chunk shape c a q) e
          taken false = e

  -- ---- a call that is ours, and one that is not
  pub record Carrying (c : Call) : Type 0 where
    pub arrival : Arrival
    pub arrives : arrival_of shape c ≡ some arrival
    pub under : (eqb peer arrival.peer && eqb request_id arrival.chunk.request_id) ≡ true

  pub ours_told : (c : Call) → is_ours shape peer request_id c ≡ true → Carrying c
  ours_told c q = go (arrival_of shape c) refl q
    where
      go : (x : Option Arrival) → arrival_of shape c ≡ x → is_under peer request_id x ≡ true → Carrying c
      go none e q = never (sym q)
      go (some a) e q = record { arrival = a; arrives = e; under = q }

  pub ours_other : (c : Call) (calls : List Call) → is_ours shape peer request_id c ≡ false
      → ours shape peer request_id (c ∷ calls) ≡ ours shape peer request_id calls
  ours_other c calls q = go (arrival_of shape c) q
    where
      go : (x : Option Arrival) → is_under peer request_id x ≡ false
          → ours_of peer request_id x ++ ours shape peer request_id calls ≡ ours shape peer request_id calls
      go none q = refl
      go (some a) q = rw q refl

  module _ (c : Call) (k : Carrying c) where
    pub peer_is : peer ≡ k.arrival.peer
    peer_is = eqb-true peer k.arrival.peer (and_told (eqb peer k.arrival.peer) (eqb request_id k.arrival.chunk.request_id) k.under).0

    pub id_is : request_id ≡ k.arrival.chunk.request_id
    id_is =
        eqb-true request_id k.arrival.chunk.request_id
        (and_told (eqb peer k.arrival.peer) (eqb request_id k.arrival.chunk.request_id) k.under).1

    pub ours_first : (calls : List Call) → ours shape peer request_id (c ∷ calls) ≡ k.arrival ∷ ours shape peer request_id calls
    ours_first calls = rw k.arrives (rw k.under refl)

    -- from it on the time of the last chunk is its own
    pub spared_first : (acts : List Act) (last : ℕ) → Spared peer request_id last (act_of shape c ∷ acts) → Spared peer request_id k.arrival.time acts
    spared_first acts last s =
        subst (λ (t : Bool). Spared peer request_id (cond t k.arrival.time last) acts) k.under
        (subst (λ (a : Act). Spared peer request_id last (a ∷ acts)) (act_arrives shape c k.arrival k.arrives) s)

  -- one that is not has no such act
  under_act : (x : Option Arrival) → is_under peer request_id x ≡ false → is_arrival peer request_id (arrival_act x) ≡ false
  under_act none h = h
  under_act (some a) h = h

  no_act : (t : Bool) (act : Act) → is_arrival peer request_id act ≡ false → is_arrival peer request_id (cond t act nothing) ≡ false
  no_act true act h = h
  no_act false act h = refl

  pub act_other : (c : Call) → is_ours shape peer request_id c ≡ false → is_arrival peer request_id (act_of shape c) ≡ false
  act_other (feed q chunk now_ms out_header out_body) h = under_act (granted_of (fed_arrival shape q chunk now_ms out_header out_body)) h
  act_other (feed_message message now_ms out_header out_body) h = under_act (granted_of (message_arrival shape message now_ms out_header out_body)) h
  act_other (cancel q j) h = no_act (is_muid q) (cancelled q j) refl
  act_other (drop_peer q) h = no_act (is_muid q) (dropped q) refl
  act_other (poll now_ms out_peers out_ids) h =
      no_act (has_places shape.max_peers out_peers && has_places shape.max_peers out_ids) (polled now_ms) refl
  act_other memory_stats h = refl
  act_other reserved_bytes h = refl
  act_other (open_list out_peers out_ids out_held) h = refl

  -- without one there is no answer
  pub none_ours : (calls : List Call) (told : List Answer) → ours shape peer request_id calls ≡ [] → answers_to shape peer request_id calls told ≡ []
  none_ours [] told q = refl
  none_ours (c ∷ calls) [] q = refl
  none_ours (c ∷ calls) (a ∷ told) q = go (arrival_of shape c) q (none_ours calls told)
    where
      later : List Answer
      later = answers_to shape peer request_id calls told

      more : List Arrival
      more = ours shape peer request_id calls

      go : (x : Option Arrival) → ours_of peer request_id x ++ more ≡ [] → (more ≡ [] → later ≡ [])
          → cond (is_under peer request_id x) (a ∷ later) later ≡ []
      go none w next = next w
      go (some b) w next = taken (is_under peer request_id (some b)) w
        where
          taken : (t : Bool) → cond t (b ∷ []) [] ++ more ≡ [] → cond t (a ∷ later) later ≡ []
          taken true w = absurd (let z : ◌≡◌ {A = ℕ} 0 1 = cc in omega arith)
          taken false w = next w
