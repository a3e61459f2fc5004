-- `poll` (document 01, module 8): "A poll closes each transfer with now − last time at least 3,000 (0 if the clock went back), by tick, then by place."
-- Assumes nothing.
use Rattle.std.specs.Prelude.{ℕ, zero, suc, ◌+◌, ◌-◌, ◌*◌, Bool, cond, ◌&&◌, List, [], ◌++◌, map, leb, length, get_or, drop}
use Rattle.seven_bit.specs.Reply.{Reply, granted, refused}
use Rattle.pe_slot.specs.Layout.{request_id_at, last_activity_at, lru_tick_at}
use Rattle.pe_reassembler.specs.declared.shape.Shape.{Shape}
use Rattle.pe_reassembler.specs.Calls.{close_at}
use Rattle.pe_reassembler.specs.Order.{ranked}
use Rattle.pe_reassembler.specs.Table.{has_numbers, is_active, peer_at, slot_at, rows_from}

-- An open slot whose time is up.
unfoldable pub is_due : List ℕ → ℕ → ℕ → ℕ → Bool
is_due numbers now_ms p s = is_active numbers p s && leb 3000 (now_ms - get_or numbers (slot_at p s + last_activity_at) 0)

pub record Timeout : Type 0 where
  pub tick : ℕ
  pub peer : ℕ
  pub request_id : ℕ

abbrev pub timeout_of : List ℕ → ℕ → ℕ → Timeout
timeout_of numbers p s =
    record { tick = get_or numbers (slot_at p s + lru_tick_at) 0; peer = get_or numbers (peer_at p + 1) 0; request_id = get_or numbers (slot_at p s + request_id_at) 0 }

-- Those of the k slots from slot s of record p on, by place.
abbrev pub due_from : List ℕ → ℕ → ℕ → ℕ → ℕ → List Timeout
due_from numbers now_ms p s k = rows_from (is_due numbers now_ms) (timeout_of numbers) p s k

-- "by tick, then by place": those of one tick as they stand.
abbrev pub by_tick : Timeout → Timeout → Bool
by_tick t u = leb t.tick u.tick

-- All that are due, closed.
unfoldable pub close_due : ℕ → ℕ → ℕ → ℕ → List ℕ → List ℕ
close_due now_ms p s zero numbers = numbers
close_due now_ms p s (suc k) numbers =
    let rest = cond (is_due numbers now_ms p s) (close_at p s numbers) numbers in
    cond (leb 3 s) (close_due now_ms (p + 1) 0 k rest) (close_due now_ms p (s + 1) k rest)

pub record Polled : Type 0 where
  pub answer : Reply ℕ
  pub numbers : List ℕ
  pub out_peers : List ℕ
  pub out_ids : List ℕ

abbrev pub polled : Reply ℕ → List ℕ → List ℕ → List ℕ → Polled
polled answer numbers out_peers out_ids = record { answer = answer; numbers = numbers; out_peers = out_peers; out_ids = out_ids }

-- The answer is how many there are; "a poll or an open list into at least 4n places. Bytes past the answer keep their values."
unfoldable pub poll_call : Shape → List ℕ → ℕ → List ℕ → List ℕ → Polled
poll_call shape numbers now_ms out_peers out_ids =
    cond (has_numbers shape numbers && leb (4 * shape.max_peers) (length out_peers) && leb (4 * shape.max_peers) (length out_ids))
    (let due = ranked by_tick [] (due_from numbers now_ms 0 0 (4 * shape.max_peers)) in
    polled (granted (length due))
    (close_due now_ms 0 0 (4 * shape.max_peers) numbers)
    (map (λ (t : Timeout). t.peer) due ++ drop (length due) out_peers)
    (map (λ (t : Timeout). t.request_id) due ++ drop (length due) out_ids))
    (polled (refused 30 0) numbers out_peers out_ids)
