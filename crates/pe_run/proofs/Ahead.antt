-- The questions that are asked ahead of **Table**'s: of memory that is long enough, those of the calls and of the run are the same.
-- Assumes nothing.
use Prim.Native.Nat.{ℕ, ◌*◌, ◌≤◌}
use mathlib.Core.Bool.{Bool, true, false, cond, ◌&&◌}
use mathlib.Core.List.{List, [], ◌++◌, map}
use mathlib.Core.Path.{◌≡◌, refl, ap, subst, ◌∙◌}
use native.Mathlib.Omega.{arith}
use borrow.Author.Tests.{le-leb, leb-true}
use lib.ListN.{length, drop}
use Rattle.seven_bit.specs.Reply.{Reply, granted, refused, and_next}
use Rattle.seven_bit.proofs.ReplyLaws.{asked, first_granted, same_grant, and_told}
use Rattle.midici_core.specs.Message.{Message, read_message}
use Rattle.pe_frame.specs.Chunk.{Chunk, Fields, read_fields, chunk_of, read_chunk}
use Rattle.pe_frame.proofs.RoundTrip.{read_in_range}
use Rattle.pe_reassembler.specs.Table.{in_range, numbers_len, has_numbers, has_rooms, is_muid}
use Rattle.pe_reassembler.specs.Feed.{FeedLeft, feed_left, at_table, chunk_read, has_all, feed_call, message_read, message_call}
use Rattle.pe_reassembler.specs.Order.{ranked}
use Rattle.pe_reassembler.specs.Poll.{Timeout, due_from, by_tick, close_due, polled, poll_call}
use Rattle.pe_reassembler.specs.Open.{open_rows, listed, listed_rows, open_call}
use Rattle.pe_reassembler.specs.declared.shape.Shape.{Shape}
use Rattle.pe_run.specs.Demand.{full_size, LongEnough}
use Rattle.pe_run.specs.Calls.{Arrival, arrival, arriving, has_outputs, fed_arrival, message_arrival, has_places}
use Rattle.pe_run.specs.Run.{Table, lent, LongFor}

-- a chunk that arrives reaches the table; a refusal changes nothing
abbrev pub reached : Shape → Table → List ℕ → List ℕ → Reply Arrival → FeedLeft
reached shape t out_header out_body (granted a) = at_table shape (lent t out_header out_body) a.peer a.chunk a.time
reached shape t out_header out_body (refused number value) = feed_left (refused number value) (lent t out_header out_body)

module _ (shape : Shape) (t : Table) (ok : LongFor shape t) where
  -- ---- question 30
  pub numbers_asked : has_numbers shape t.numbers ≡ true
  unfolding has_rooms
  numbers_asked = (and_told _ _ (and_told _ _ (and_told _ _ ok).0).0).0

  pub all_asked : (out_header out_body : List ℕ) → has_all shape (lent t out_header out_body) ≡ has_outputs shape out_header out_body
  unfolding has_all
  all_asked out_header out_body = rw ok

  -- ---- the two feeds
  module _ (out_header out_body : List ℕ) (now_ms : ℕ) where
    read_ahead : (r : Reply Fields) (peer : ℕ) (bytes : List ℕ)
        → chunk_read r shape (lent t out_header out_body) peer bytes now_ms
        ≡ reached shape t out_header out_body
        (and_next (and_next r (λ (f : Fields). granted (chunk_of bytes f))) (λ (c : Chunk). granted (arrival peer bytes c now_ms out_header out_body)))
    read_ahead (granted f) peer bytes = refl
    read_ahead (refused number value) peer bytes = refl

    pub feed_ahead : (peer : ℕ) (chunk : List ℕ)
        → feed_call shape (lent t out_header out_body) peer chunk now_ms
        ≡ reached shape t out_header out_body (fed_arrival shape peer chunk now_ms out_header out_body)
    unfolding feed_call fed_arrival
    feed_ahead peer chunk = rw (all_asked out_header out_body) (go (has_outputs shape out_header out_body) (is_muid peer))
      where
        go : (outputs muid : Bool)
            → cond outputs (cond muid (chunk_read (read_fields chunk) shape (lent t out_header out_body) peer chunk now_ms)
            (feed_left (refused 28 0) (lent t out_header out_body)))
            (feed_left (refused 30 0) (lent t out_header out_body))
            ≡ reached shape t out_header out_body (cond outputs (cond muid (arriving peer chunk now_ms out_header out_body) (refused 28 0)) (refused 30 0))
        go true true = read_ahead (read_fields chunk) peer chunk
        go true false = refl
        go false muid = refl

    pub message_ahead : (message : List ℕ)
        → message_call shape (lent t out_header out_body) message now_ms
        ≡ reached shape t out_header out_body (message_arrival shape message now_ms out_header out_body)
    unfolding message_call message_arrival
    message_ahead message = rw (all_asked out_header out_body) (go (has_outputs shape out_header out_body) (read_message message))
      where
        go : (outputs : Bool) (r : Reply Message)
            → cond outputs (message_read r shape (lent t out_header out_body) message now_ms) (feed_left (refused 30 0) (lent t out_header out_body))
            ≡ reached shape t out_header out_body
            (cond outputs (and_next r (λ (m : Message). arriving m.header.source (drop 13 message) now_ms out_header out_body)) (refused 30 0))
        go true (granted m) = read_ahead (read_fields (drop 13 message)) m.header.source (drop 13 message)
        go true (refused number value) = refl
        go false r = refl

  -- ---- the other calls
  pub poll_ahead : (now_ms : ℕ) (out_peers out_ids : List ℕ)
      → poll_call shape t.numbers now_ms out_peers out_ids
      ≡ cond (has_places shape.max_peers out_peers && has_places shape.max_peers out_ids)
      (let due : List Timeout = ranked by_tick [] (due_from t.numbers now_ms 0 0 (4 * shape.max_peers)) in
      polled (granted (length due)) (close_due now_ms 0 0 (4 * shape.max_peers) t.numbers)
      (map (λ (r : Timeout). r.peer) due ++ drop (length due) out_peers)
      (map (λ (r : Timeout). r.request_id) due ++ drop (length due) out_ids))
      (polled (refused 30 0) t.numbers out_peers out_ids)
  unfolding poll_call
  poll_ahead now_ms out_peers out_ids = rw numbers_asked

  pub list_ahead : (out_peers out_ids out_held : List ℕ)
      → open_call shape t.numbers out_peers out_ids out_held
      ≡ cond (has_places shape.max_peers out_peers && has_places shape.max_peers out_ids && has_places shape.max_peers out_held)
      (listed_rows (open_rows shape t.numbers) out_peers out_ids out_held)
      (listed (refused 30 0) out_peers out_ids out_held)
  unfolding open_call
  list_ahead out_peers out_ids out_held = rw numbers_asked

-- ---- what arrives: its numbers are small, and both outputs are long enough
pub record Small (shape : Shape) (out_header out_body : List ℕ) (a : Arrival) : Type 0 where
  pub header_room : shape.header_bytes ≤ length out_header
  pub body_room : shape.tx_bytes ≤ length out_body
  pub number : a.chunk.chunk_num ≤ 16383
  pub property : length a.chunk.property ≤ 16383

module _ (shape : Shape) (now_ms : ℕ) (out_header out_body : List ℕ) (a : Arrival) where
  arriving_small : (peer : ℕ) (bytes : List ℕ) → has_outputs shape out_header out_body ≡ true → arriving peer bytes now_ms out_header out_body ≡ granted a
      → Small shape out_header out_body a
  arriving_small peer bytes o q =
      let c = first_granted (read_chunk bytes) _ a q in
      let f = first_granted (read_fields bytes) _ c.0 c.1 in
      let r = read_in_range bytes f.0 f.1 in
      let e = and_told _ _ o in
      let g = ap (λ (k : Reply Chunk). and_next k (λ (x : Chunk). granted (arrival peer bytes x now_ms out_header out_body))) f.2 ∙ c.2 in
      subst (Small shape out_header out_body) (same_grant _ _ a refl g)
      (record { header_room = leb-true _ _ e.0; body_room = leb-true _ _ e.1; number = r.number; property = r.property_len })

  pub fed_small : (peer : ℕ) (chunk : List ℕ) → fed_arrival shape peer chunk now_ms out_header out_body ≡ granted a → Small shape out_header out_body a
  unfolding fed_arrival
  fed_small peer chunk q =
      let b = asked (has_outputs shape out_header out_body) 30 _ a q in
      let m = asked (is_muid peer) 28 _ a b.1 in
      arriving_small peer chunk b.0 m.1

  pub message_small : (message : List ℕ) → message_arrival shape message now_ms out_header out_body ≡ granted a → Small shape out_header out_body a
  unfolding message_arrival
  message_small message q =
      let b = asked (has_outputs shape out_header out_body) 30 _ a q in
      let m = first_granted (read_message message) _ a b.1 in
      arriving_small m.0.header.source (drop 13 message) b.0 m.2

-- ---- memory long enough for full size
full_range : (n : ℕ) → n ≤ 16 → in_range (full_size n) ≡ true
unfolding in_range
full_range n few = ap (λ (b : Bool). b && true && true && true) (le-leb n 16 few)

pub long_enough : (n : ℕ) (t : Table) → n ≤ 16 → LongEnough n t → LongFor (full_size n) t
unfolding has_rooms has_numbers
long_enough n t few long =
    let w : numbers_len (full_size n) ≤ length t.numbers = omega (arith, long.numbers) in
    let i : 4 * n * 2048 ≤ length t.index = omega (arith, long.index) in
    let h : 4 * n * 4096 ≤ length t.headers = omega (arith, long.headers) in
    let a : 4 * n * 65536 ≤ length t.arenas = omega (arith, long.arenas) in
    rw (full_range n few, le-leb _ _ w, le-leb _ _ i, le-leb _ _ h, le-leb _ _ a)
