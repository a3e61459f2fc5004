-- What a chunk that reaches its slot does to lent memory: its own place has what the slot left, and all other places are as they were.
-- Assumes nothing.
use Prim.Native.Nat.{ℕ, ◌+◌, ◌*◌, ◌≤◌, ◌<◌}
use mathlib.Core.Bool.{Bool, true, false, cond, not}
use mathlib.Core.List.{List}
use mathlib.Core.Logic.{◌⊎◌, inl, inr}
use mathlib.Core.Path.{◌≡◌, ap, ◌∙◌}
use native.Mathlib.Omega.{arith}
use borrow.Author.Tests.{leb-true, eqb-true}
use lib.Dec.{eqb}
use lib.ListN.{length, get_or, set, length-set}
use lib.Seq.{get_or-set_same}
use Rattle.seven_bit.specs.Parts.{splice}
use Rattle.seven_bit.proofs.PartLaws.{part_splice}
use Rattle.seven_bit.proofs.ReplyLaws.{both, and_told}
use Rattle.pe_slot.specs.Feed.{SlotLeft}
use Rattle.pe_slot.specs.Layout.{slot_words}
use Rattle.pe_reassembler.specs.declared.shape.Shape.{Shape}
use Rattle.pe_reassembler.specs.Feed.{Memory, next_tick, bind, words_part, room_part, lifted}
use Rattle.pe_reassembler.specs.Table.{has_rooms, numbers_len, rooms_len, peer_at, slot_at, room_at, is_bound, bound_to}
use Rattle.pe_reassembler.proofs.FeedLaws.{room_in}
use Rattle.pe_reassembler.proofs.PlaceLaws.{OnlyAt, only_get, only_wider, only_then, only_same, only_splice, only_set, less_or, other_place, words_apart, rooms_apart, peer_apart}
use Rattle.pe_reassembler.proofs.TableLaws.{numbers_long}

-- what question 30 tells of the four slices
pub record Roomy (shape : Shape) (numbers index headers arenas : List ℕ) : Type 0 where
  pub numbers_long : numbers_len shape ≤ length numbers
  pub index_long : rooms_len shape.fragment_records shape ≤ length index
  pub headers_long : rooms_len shape.header_bytes shape ≤ length headers
  pub arenas_long : rooms_len shape.tx_bytes shape ≤ length arenas

pub rooms_told : (shape : Shape) (numbers index headers arenas : List ℕ) → has_rooms shape numbers index headers arenas ≡ true → Roomy shape numbers index headers arenas
unfolding has_rooms
rooms_told shape numbers index headers arenas e =
    let a = and_told _ _ e in
    let b = and_told _ _ a.0 in
    let c = and_told _ _ b.0 in
    record {
      numbers_long = (numbers_long shape numbers c.0).1;
      index_long = leb-true _ _ c.1;
      headers_long = leb-true _ _ b.1;
      arenas_long = leb-true _ _ a.1;
    }

-- what a slot left fits in its place
pub record Sized (shape : Shape) (a : SlotLeft) : Type 0 where
  pub nine : length a.words ≡ slot_words
  pub records : length a.index ≡ shape.fragment_records
  pub header_bytes : length a.header ≡ shape.header_bytes
  pub tx_bytes : length a.arena ≡ shape.tx_bytes

-- the two stored words of a peer tell whether it is bound, and to whom
bound_by : (xs ys : List ℕ) (q : ℕ) → get_or ys (peer_at q) 0 ≡ get_or xs (peer_at q) 0 → is_bound ys q ≡ is_bound xs q
unfolding is_bound
bound_by xs ys q e = ap (λ (x : ℕ). not (eqb x 0)) e

pub peer_by : (xs ys : List ℕ) (q : ℕ) → ((i : ℕ) → i < 2 → get_or ys (peer_at q + i) 0 ≡ get_or xs (peer_at q + i) 0)
    → (is_bound ys q ≡ is_bound xs q) × (get_or ys (peer_at q + 1) 0 ≡ get_or xs (peer_at q + 1) 0)
peer_by xs ys q f =
    let z : peer_at q + 0 ≡ peer_at q = omega arith in
    let b : get_or ys (peer_at q) 0 ≡ get_or xs (peer_at q) 0 = rw z at (f 0 (omega arith)) in
    (bound_by xs ys q b, f 1 (omega arith))

-- the words of a peer that is bound
module _ (numbers : List ℕ) (peer p : ℕ) where
  bind_only : OnlyAt (peer_at p) 2 numbers (bind numbers peer p)
  unfolding bind
  bind_only = go (bound_to numbers peer p)
    where
      go : (b : Bool) → OnlyAt (peer_at p) 2 numbers (cond b numbers (set (set numbers (peer_at p) 1) (peer_at p + 1) peer))
      go true = only_same (peer_at p) 2 numbers
      go false =
          only_then (only_wider (peer_at p) 2 (only_set (peer_at p) 1 numbers) (omega arith) (omega arith))
          (only_wider (peer_at p) 2 (only_set (peer_at p + 1) peer (set numbers (peer_at p) 1)) (omega arith) (omega arith))

  newly_bound : peer_at p + 1 < length numbers → is_bound (set (set numbers (peer_at p) 1) (peer_at p + 1) peer) p ≡ true
  unfolding is_bound
  newly_bound h =
      let e : get_or (set (set numbers (peer_at p) 1) (peer_at p + 1) peer) (peer_at p) 0 ≡ 1 =
      only_get (only_set (peer_at p + 1) peer (set numbers (peer_at p) 1)) (peer_at p) (inl (omega arith)) ∙ get_or-set_same numbers (peer_at p) 1 0 (omega arith) in
      rw e

  own_told : bound_to numbers peer p ≡ true → (is_bound numbers p ≡ true) × (get_or numbers (peer_at p + 1) 0 ≡ peer)
  unfolding bound_to
  own_told e = let a = and_told _ _ e in (a.0, eqb-true _ _ a.1)

  bind_bound : peer_at p + 1 < length numbers → is_bound (bind numbers peer p) p ≡ true
  unfolding bind
  bind_bound h = go (both (bound_to numbers peer p))
    where
      go : (bound_to numbers peer p ≡ true) ⊎ (bound_to numbers peer p ≡ false)
          → is_bound (cond (bound_to numbers peer p) numbers (set (set numbers (peer_at p) 1) (peer_at p + 1) peer)) p ≡ true
      go (inl e) = rw e (own_told e).0
      go (inr e) = rw e (newly_bound h)

  bind_muid : peer_at p + 1 < length numbers → get_or (bind numbers peer p) (peer_at p + 1) 0 ≡ peer
  unfolding bind
  bind_muid h = go (both (bound_to numbers peer p))
    where
      go : (bound_to numbers peer p ≡ true) ⊎ (bound_to numbers peer p ≡ false)
          → get_or (cond (bound_to numbers peer p) numbers (set (set numbers (peer_at p) 1) (peer_at p + 1) peer)) (peer_at p + 1) 0 ≡ peer
      go (inl e) = rw e (own_told e).1
      go (inr e) = rw e (get_or-set_same (set numbers (peer_at p) 1) (peer_at p + 1) peer 0 (rw (length-set numbers (peer_at p) 1) h))

-- a room of a size in its place
module _ (size n p s : ℕ) (xs ys : List ℕ) (h : 4 * n * size ≤ length xs) (e : length ys ≡ size) (k : p < n) (l : s < 4) where
  within : room_at size p s + size ≤ length xs
  within = let r = room_in size n p s k l in omega arith

  room_own : room_part size (splice (room_at size p s) size xs ys) p s ≡ ys
  room_own = part_splice (room_at size p s) size xs ys within e

  room_other : (q t : ℕ) → t < 4 → (q ≡ p → t ≡ s → ⊥) → room_part size (splice (room_at size p s) size xs ys) q t ≡ room_part size xs q t
  room_other q t g d =
      (only_splice (room_at size p s) size xs ys within e).parts (room_at size q t) size (rooms_apart size p s q t (other_place p s q t l g d))

  room_length : length (splice (room_at size p s) size xs ys) ≡ length xs
  room_length = (only_splice (room_at size p s) size xs ys within e).long

-- the clock and the binding, then the words of a slot in their place
module _ (n p s : ℕ) (numbers words : List ℕ) (tick peer : ℕ) (h : peer_at n ≤ length numbers) (e : length words ≡ slot_words) (k : p < n) (l : s < 4) where
  abbrev clocked : List ℕ
  clocked = set numbers 0 tick

  abbrev bound : List ℕ
  bound = bind clocked peer p

  abbrev stored : List ℕ
  stored = splice (slot_at p s) slot_words bound words

  clocked_only : OnlyAt 0 1 numbers clocked
  clocked_only = only_set 0 tick numbers

  bound_only : OnlyAt (peer_at p) 2 clocked bound
  bound_only = bind_only clocked peer p

  bound_long : length bound ≡ length numbers
  bound_long = bound_only.long ∙ clocked_only.long

  words_in : slot_at p s + slot_words ≤ length bound
  words_in = let b = bound_long in omega arith

  stored_only : OnlyAt (slot_at p s) slot_words bound stored
  stored_only = only_splice (slot_at p s) slot_words bound words words_in e

  stored_long : length stored ≡ length numbers
  stored_long = stored_only.long ∙ bound_long

  stored_own : words_part stored p s ≡ words
  stored_own = part_splice (slot_at p s) slot_words bound words words_in e

  stored_other : (q t : ℕ) → t < 4 → (q ≡ p → t ≡ s → ⊥) → words_part stored q t ≡ words_part numbers q t
  stored_other q t g d =
      stored_only.parts (slot_at q t) slot_words (words_apart p s q t l g (other_place p s q t l g d))
      ∙ bound_only.parts (slot_at q t) slot_words (peer_apart p q t g)
      ∙ clocked_only.parts (slot_at q t) slot_words (inr (omega arith))

  peer_in : peer_at p + 1 < length clocked
  peer_in = let b = clocked_only.long in omega arith

  stored_bound : is_bound stored p ≡ true
  stored_bound = bound_by bound stored p (only_get stored_only (peer_at p) (inl (omega arith))) ∙ bind_bound clocked peer p peer_in

  stored_muid : get_or stored (peer_at p + 1) 0 ≡ peer
  stored_muid = only_get stored_only (peer_at p + 1) (inl (omega arith)) ∙ bind_muid clocked peer p peer_in

  stored_clock : get_or stored 0 0 ≡ tick
  stored_clock =
      only_get stored_only 0 (inl (omega arith)) ∙ only_get bound_only 0 (inl (omega arith)) ∙ get_or-set_same numbers 0 tick 0 (omega arith)

  -- a word of another peer
  head_other : (q : ℕ) → (q ≡ p → ⊥) → (i : ℕ) → i < 2 → get_or stored (peer_at q + i) 0 ≡ get_or numbers (peer_at q + i) 0
  head_other q d i g = go (less_or q p) (less_or p q)
    where
      go : (q < p) ⊎ (p ≤ q) → (p < q) ⊎ (q ≤ p) → get_or stored (peer_at q + i) 0 ≡ get_or numbers (peer_at q + i) 0
      go (inl a) b =
          only_get stored_only (peer_at q + i) (inl (omega arith)) ∙ only_get bound_only (peer_at q + i) (inl (omega arith))
          ∙ only_get clocked_only (peer_at q + i) (inr (omega arith))
      go (inr a) (inl b) =
          only_get stored_only (peer_at q + i) (inr (omega arith)) ∙ only_get bound_only (peer_at q + i) (inr (omega arith))
          ∙ only_get clocked_only (peer_at q + i) (inr (omega arith))
      go (inr a) (inr b) = absurd (d (omega arith))

  stored_peer_other : (q : ℕ) → (q ≡ p → ⊥) → (is_bound stored q ≡ is_bound numbers q) × (get_or stored (peer_at q + 1) 0 ≡ get_or numbers (peer_at q + 1) 0)
  stored_peer_other q d = peer_by numbers stored q (head_other q d)

-- all that is lent, after slot s of record p
module _ (shape : Shape) (m : Memory) (peer p s : ℕ) (a : SlotLeft) (h : has_rooms shape m.numbers m.index m.headers m.arenas ≡ true) (f : Sized shape a)
    (k : p < shape.max_peers) (l : s < 4) where
  abbrev left : Memory
  left = (lifted shape m peer p s a).memory

  room : Roomy shape m.numbers m.index m.headers m.arenas
  room = rooms_told shape m.numbers m.index m.headers m.arenas h

  abbrev tick : ℕ
  tick = next_tick (get_or m.numbers 0 0)

  pub lifted_words : words_part left.numbers p s ≡ a.words
  unfolding lifted
  lifted_words = stored_own shape.max_peers p s m.numbers a.words tick peer room.numbers_long f.nine k l

  pub lifted_words_other : (q t : ℕ) → q < shape.max_peers → t < 4 → (q ≡ p → t ≡ s → ⊥) → words_part left.numbers q t ≡ words_part m.numbers q t
  unfolding lifted
  lifted_words_other q t b = stored_other shape.max_peers p s m.numbers a.words tick peer room.numbers_long f.nine k l q t

  pub lifted_bound : is_bound left.numbers p ≡ true
  unfolding lifted
  lifted_bound = stored_bound shape.max_peers p s m.numbers a.words tick peer room.numbers_long f.nine k l

  pub lifted_muid : get_or left.numbers (peer_at p + 1) 0 ≡ peer
  unfolding lifted
  lifted_muid = stored_muid shape.max_peers p s m.numbers a.words tick peer room.numbers_long f.nine k l

  pub lifted_peer_other : (q : ℕ) → q < shape.max_peers → (q ≡ p → ⊥)
      → (is_bound left.numbers q ≡ is_bound m.numbers q) × (get_or left.numbers (peer_at q + 1) 0 ≡ get_or m.numbers (peer_at q + 1) 0)
  unfolding lifted
  lifted_peer_other q b = stored_peer_other shape.max_peers p s m.numbers a.words tick peer room.numbers_long f.nine k l q

  pub lifted_clock : get_or left.numbers 0 0 ≡ next_tick (get_or m.numbers 0 0)
  unfolding lifted
  lifted_clock = stored_clock shape.max_peers p s m.numbers a.words tick peer room.numbers_long f.nine k l

  pub lifted_index : room_part shape.fragment_records left.index p s ≡ a.index
  unfolding lifted
  lifted_index = room_own shape.fragment_records shape.max_peers p s m.index a.index room.index_long f.records k l

  pub lifted_index_other : (q t : ℕ) → q < shape.max_peers → t < 4 → (q ≡ p → t ≡ s → ⊥)
      → room_part shape.fragment_records left.index q t ≡ room_part shape.fragment_records m.index q t
  unfolding lifted
  lifted_index_other q t b = room_other shape.fragment_records shape.max_peers p s m.index a.index room.index_long f.records k l q t

  pub lifted_header : room_part shape.header_bytes left.headers p s ≡ a.header
  unfolding lifted
  lifted_header = room_own shape.header_bytes shape.max_peers p s m.headers a.header room.headers_long f.header_bytes k l

  pub lifted_header_other : (q t : ℕ) → q < shape.max_peers → t < 4 → (q ≡ p → t ≡ s → ⊥)
      → room_part shape.header_bytes left.headers q t ≡ room_part shape.header_bytes m.headers q t
  unfolding lifted
  lifted_header_other q t b = room_other shape.header_bytes shape.max_peers p s m.headers a.header room.headers_long f.header_bytes k l q t

  pub lifted_arena : room_part shape.tx_bytes left.arenas p s ≡ a.arena
  unfolding lifted
  lifted_arena = room_own shape.tx_bytes shape.max_peers p s m.arenas a.arena room.arenas_long f.tx_bytes k l

  pub lifted_arena_other : (q t : ℕ) → q < shape.max_peers → t < 4 → (q ≡ p → t ≡ s → ⊥)
      → room_part shape.tx_bytes left.arenas q t ≡ room_part shape.tx_bytes m.arenas q t
  unfolding lifted
  lifted_arena_other q t b = room_other shape.tx_bytes shape.max_peers p s m.arenas a.arena room.arenas_long f.tx_bytes k l q t

  pub lifted_lengths : (length left.numbers ≡ length m.numbers) × (length left.index ≡ length m.index)
      × (length left.headers ≡ length m.headers) × (length left.arenas ≡ length m.arenas)
  unfolding lifted
  lifted_lengths = (
    stored_long shape.max_peers p s m.numbers a.words tick peer room.numbers_long f.nine k l,
    room_length shape.fragment_records shape.max_peers p s m.index a.index room.index_long f.records k l,
    room_length shape.header_bytes shape.max_peers p s m.headers a.header room.headers_long f.header_bytes k l,
    room_length shape.tx_bytes shape.max_peers p s m.arenas a.arena room.arenas_long f.tx_bytes k l,
  )
