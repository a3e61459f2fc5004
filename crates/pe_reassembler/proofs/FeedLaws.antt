-- The laws of a feed: what question 30 tells, where a slot's parts lie, and what a slot's answer leaves in the whole memory.
-- Assumes nothing.
use Prim.Native.Nat.{ℕ, suc, ◌+◌, ◌-◌, ◌*◌, ◌≤◌, ◌<◌}
use mathlib.Core.Bool.{Bool, true, false, cond, not}
use mathlib.Core.List.{List, ◌++◌}
use Rattle.std.specs.Prelude.{Some}
use mathlib.Core.Path.{◌≡◌, refl, ap, ◌∙◌}
use mathlib.Core.Logic.{◌⊎◌, inl, inr}
use native.Mathlib.Nat.{mul-le-mul}
use native.Mathlib.Omega.{arith}
use borrow.Author.Tests.{leb-true, le-leb, eq-eqb}
use lib.Dec.{leb, ltb, eqb}
use lib.ListN.{length, get_or, set, take, drop, take-append-drop, length-set, get_or-append}
use lib.Seq.{set-append_left, take-set-lt, drop-set-lt, get_or-take, length-take-le}
use Rattle.seven_bit.specs.Parts.{part, splice}
use Rattle.seven_bit.specs.Reply.{Reply, granted, refused}
use Rattle.seven_bit.proofs.PartLaws.{length_part}
use Rattle.seven_bit.proofs.ReplyLaws.{both, asked_with, first_granted, and_told}
use Rattle.midici_core.specs.Header.{read_header}
use Rattle.midici_core.specs.Message.{Message, read_message}
use Rattle.midici_core.specs.Kinds.{carries_chunk}
use Rattle.midici_core.proofs.HeaderLaws.{read_long}
use Rattle.midici_core.proofs.RoundTrip.{within_both, header_unchanged}
use Rattle.pe_frame.specs.Chunk.{Chunk, Fields, read_fields}
use Rattle.pe_frame.proofs.RoundTrip.{read_told}
use Rattle.pe_wire.proofs.RoundTrip.{read_small}
use Rattle.pe_slot.specs.Slot.{Slot, Verdict, stays, closing, ◌otherwise◌then◌, storing, taking, held, body_length, header_fits, header_agrees, new_header, count_agrees, new_count, after_chunk, passed, judge}
use Rattle.pe_slot.specs.Memory.{slot_of, is_sound}
use Rattle.pe_slot.specs.Feed.{Told, told_answer, SlotLeft, slot_left, placed, is_shaped, reached_slot, feed_slot}
use Rattle.pe_slot.specs.Layout.{slot_words}
use Rattle.pe_reassembler.specs.declared.shape.Shape.{Shape}
use Rattle.pe_reassembler.specs.Table.{has_numbers, has_rooms, is_bound, bound_to, peer_at, slot_at, room_at, rooms_len, record_for, peer_words, HasPeer}
use Rattle.pe_reassembler.specs.Feed.{Memory, memory, FeedLeft, feed_left, next_tick, bind, has_all, lifted, slot_reached, reach, words_part, room_part, feed_call, message_call}
use Rattle.pe_reassembler.specs.Steps.{is_damaged, noted, in_place, slot_fed}
use Rattle.pe_reassembler.proofs.TableClose.{part_lent, part_back}
use Rattle.pe_reassembler.proofs.TableLaws.{Ranges, in_range_law, numbers_long, record_for_below, slot_for_below}

-- what question 30 tells
pub record Lent (shape : Shape) (m : Memory) : Type 0 where
  pub numbers : has_numbers shape m.numbers ≡ true
  pub index : rooms_len shape.fragment_records shape ≤ length m.index
  pub headers : rooms_len shape.header_bytes shape ≤ length m.headers
  pub arenas : rooms_len shape.tx_bytes shape ≤ length m.arenas
  pub out_header : shape.header_bytes ≤ length m.out_header
  pub out_body : shape.tx_bytes ≤ length m.out_body

pub lent_told : (shape : Shape) (m : Memory) → has_all shape m ≡ true → Lent shape m
unfolding has_all has_rooms
lent_told shape m e =
    let a = and_told _ _ e in
    let b = and_told _ _ a.0 in
    let c = and_told _ _ b.0 in
    let d = and_told _ _ c.0 in
    let f = and_told _ _ d.0 in
    record {
      numbers = f.0;
      index = leb-true _ _ f.1;
      headers = leb-true _ _ d.1;
      arenas = leb-true _ _ c.1;
      out_header = leb-true _ _ b.1;
      out_body = leb-true _ _ a.1;
    }

-- a slot's room lies within the rooms of a table
pub room_in : (size n p s : ℕ) → p < n → s < 4 → room_at size p s + size ≤ 4 * n * size
room_in size n p s h k =
    let m : suc (4 * p + s) ≤ 4 * n = omega arith in
    let l : size ≤ size = omega arith in
    let w : suc (4 * p + s) * size ≤ 4 * n * size = mul-le-mul m l in
    let e : suc (4 * p + s) * size ≡ (4 * p + s) * size + size = omega arith in
    omega arith

pub room_below : (size p s : ℕ) → p < 16 → s < 4 → size ≤ 65536 → (4 * p + s) * size ≤ 4194304
room_below size p s h k l =
    let m : 4 * p + s ≤ 64 = omega arith in
    mul-le-mul m l

-- a part in its own place; stores and reads before a part
splice_own : {A : Type 0} (a k : ℕ) (xs : List A) → splice a k xs (part a k xs) ≡ xs
splice_own a k xs = rw (take-append-drop k (drop a xs)) (take-append-drop a xs)

module _ (a k i : ℕ) (xs ys : List ℕ) (l : i < a) (h : a ≤ length xs) where
  front : i < length (take a xs)
  front = let e = length-take-le a xs h in omega arith

  splice_set : (v : ℕ) → set (splice a k xs ys) i v ≡ splice a k (set xs i v) ys
  splice_set v = set-append_left (take a xs) (ys ++ drop k (drop a xs)) i v front ∙ rw (take-set-lt a xs i v l, drop-set-lt a xs i v l)

  splice_get : get_or (splice a k xs ys) i 0 ≡ get_or xs i 0
  splice_get = get_or-append (take a xs) (ys ++ drop k (drop a xs)) 0 i front ∙ get_or-take a xs i 0 l

-- the clock and the binding stand before every slot of their record
module _ (words : List ℕ) (peer p s : ℕ) where
  bind_splice : (numbers : List ℕ) → peer_at p + peer_words ≤ length numbers → s < 4
      → bind (splice (slot_at p s) slot_words numbers words) peer p ≡ splice (slot_at p s) slot_words (bind numbers peer p) words
  unfolding bind bound_to is_bound
  bind_splice numbers h k =
      let l : peer_at p < slot_at p s = omega arith in
      let n : peer_at p + 1 < slot_at p s = omega arith in
      let m : slot_at p s ≤ length numbers = omega arith in
      let m' : slot_at p s ≤ length (set numbers (peer_at p) 1) = rw (length-set numbers (peer_at p) 1) m in
      rw (splice_get (slot_at p s) slot_words (peer_at p) numbers words l m, splice_get (slot_at p s) slot_words (peer_at p + 1) numbers words n m)
      (go (bound_to numbers peer p) _ _
      (ap (λ (x : List ℕ). set x (peer_at p + 1) peer) (splice_set (slot_at p s) slot_words (peer_at p) numbers words l m 1)
      ∙ splice_set (slot_at p s) slot_words (peer_at p + 1) (set numbers (peer_at p) 1) words n m' peer))
    where
      go : (b : Bool) (x y : List ℕ) → x ≡ splice (slot_at p s) slot_words y words
          → cond b (splice (slot_at p s) slot_words numbers words) x ≡ splice (slot_at p s) slot_words (cond b numbers y) words
      go true x y e = refl
      go false x y e = e

  noted_splice : (numbers : List ℕ) (tick : ℕ) → peer_at p + peer_words ≤ length numbers → s < 4
      → bind (set (splice (slot_at p s) slot_words numbers words) 0 tick) peer p ≡ splice (slot_at p s) slot_words (bind (set numbers 0 tick) peer p) words
  noted_splice numbers tick h k =
      let l : 0 < slot_at p s = omega arith in
      let m : slot_at p s ≤ length numbers = omega arith in
      ap (λ (x : List ℕ). bind x peer p) (splice_set (slot_at p s) slot_words 0 numbers words l m tick)
      ∙ bind_splice (set numbers 0 tick) (rw (length-set numbers 0 tick) h) k

-- no question of a slot's own is answered 31
abbrev Clear : Verdict → Type 0
Clear v = is_damaged (told_answer v.answer) ≡ false

answered : (a b d e f g i stores takes : Bool) (t : Slot)
    → Clear (a otherwise stays 4 then b otherwise stays 8 then storing stores (d otherwise stays 8 then taking takes
    (e otherwise closing 8 then f otherwise stays 8 then g otherwise stays 5 then i otherwise closing 5 then passed t)))
unfolding passed
answered false b d e f g i stores takes t = refl
answered true false d e f g i stores takes t = refl
answered true true false e f g i stores takes t = refl
answered true true true false f g i stores takes t = refl
answered true true true true false g i stores takes t = refl
answered true true true true true false i stores takes t = refl
answered true true true true true true false stores takes t = refl
answered true true true true true true true stores takes t = refl

judge_clear : (H B R : ℕ) (s : Slot) (c : Chunk) → Clear (judge H B R s c)
unfolding judge
judge_clear H B R s c =
    answered (header_fits H c) (header_agrees s c) (count_agrees s c) (not (eqb c.chunk_num 0)) (not (held c.chunk_num s.pieces))
    (ltb (length s.pieces) R) (leb (body_length s.pieces + length c.property) B) (new_header s c) (new_count s c)
    (after_chunk s c (new_header s c) (new_count s c) true)

-- a whole memory after a slot's answer, then the clock and the binding
abbrev noting : ℕ → ℕ → ℕ → FeedLeft → FeedLeft
noting tick peer p f =
    feed_left f.answer
    (memory (noted f.answer f.memory.numbers tick peer p) f.memory.index f.memory.headers f.memory.arenas f.memory.out_header f.memory.out_body)

module _ (words index header arena : List ℕ) (c : Chunk) (now_ms tick : ℕ) (out_header out_body : List ℕ)
    (h : is_shaped words index header arena out_header out_body ≡ true) where
  damaged : is_sound (length header) (length arena) (length index) (slot_of words) index ≡ false
      → feed_slot words index header arena c now_ms tick out_header out_body ≡ slot_left (refused 31 0) words index header arena out_header out_body
  unfolding feed_slot
  damaged n = rw (h, n)

  fed_reached : is_sound (length header) (length arena) (length index) (slot_of words) index ≡ true → length c.property ≤ 16383
      → feed_slot words index header arena c now_ms tick out_header out_body ≡ reached_slot words index header arena c now_ms tick out_header out_body
  unfolding feed_slot
  fed_reached y l = rw (h, y, le-leb _ _ l)

shaped : (words index header arena out_header out_body : List ℕ) → length words ≡ slot_words → length index ≤ 2048 → length header ≤ 4096 → length arena ≤ 65536
    → length header ≤ length out_header → length arena ≤ length out_body → is_shaped words index header arena out_header out_body ≡ true
unfolding is_shaped
shaped words index header arena out_header out_body a b c d e f = rw (eq-eqb _ _ a, le-leb _ _ b, le-leb _ _ c, le-leb _ _ d, le-leb _ _ e, le-leb _ _ f)

module _ (shape : Shape) (m : Memory) (peer : ℕ) (c : Chunk) (now_ms p s : ℕ) (e : has_all shape m ≡ true) (k : p < shape.max_peers) (l : s < 4) where
  all : Lent shape m
  all = lent_told shape m e

  range : Ranges shape
  range = in_range_law shape m.numbers all.numbers

  pub record_long : HasPeer m.numbers p
  record_long = let n = numbers_long shape m.numbers all.numbers in omega arith

  pub index_in : room_at shape.fragment_records p s + shape.fragment_records ≤ length m.index
  index_in = let r = room_in shape.fragment_records shape.max_peers p s k l in let i = all.index in omega arith

  pub headers_in : room_at shape.header_bytes p s + shape.header_bytes ≤ length m.headers
  headers_in = let r = room_in shape.header_bytes shape.max_peers p s k l in let i = all.headers in omega arith

  pub arenas_in : room_at shape.tx_bytes p s + shape.tx_bytes ≤ length m.arenas
  arenas_in = let r = room_in shape.tx_bytes shape.max_peers p s k l in let i = all.arenas in omega arith

  abbrev words : List ℕ
  words = words_part m.numbers p s

  abbrev records : List ℕ
  records = room_part shape.fragment_records m.index p s

  abbrev header : List ℕ
  header = room_part shape.header_bytes m.headers p s

  abbrev arena : List ℕ
  arena = room_part shape.tx_bytes m.arenas p s

  words_len : length words ≡ slot_words
  words_len = let r = record_long in length_part (slot_at p s) slot_words m.numbers (omega arith)

  records_len : length records ≡ shape.fragment_records
  records_len = length_part _ _ m.index index_in

  header_len : length header ≡ shape.header_bytes
  header_len = length_part _ _ m.headers headers_in

  arena_len : length arena ≡ shape.tx_bytes
  arena_len = length_part _ _ m.arenas arenas_in

  pub is_shaped_law : is_shaped words records header arena m.out_header m.out_body ≡ true
  is_shaped_law =
      shaped words records header arena m.out_header m.out_body words_len (rw records_len range.records) (rw header_len range.header)
      (rw arena_len range.body) (rw header_len all.out_header) (rw arena_len all.out_body)

  abbrev tick : ℕ
  tick = next_tick (get_or m.numbers 0 0)

  abbrev slot_reached_here : SlotLeft
  slot_reached_here = slot_reached shape m c now_ms p s

  undamaged : is_damaged slot_reached_here.answer ≡ false
  unfolding placed
  undamaged = judge_clear _ _ _ _ c

  abbrev soundness : Bool
  soundness = is_sound shape.header_bytes shape.tx_bytes shape.fragment_records (slot_of words) records

  same_sound : is_sound (length header) (length arena) (length records) (slot_of words) records ≡ soundness
  same_sound = rw (header_len, arena_len, records_len)

  pub slot_fed_law : soundness ≡ true → length c.property ≤ 16383
      → feed_slot words records header arena c now_ms tick m.out_header m.out_body ≡ slot_reached_here
  slot_fed_law y h = fed_reached words records header arena c now_ms tick m.out_header m.out_body is_shaped_law (same_sound ∙ y) h

  reached_damaged : soundness ≡ false → noting tick peer p (slot_fed shape m p s c now_ms tick) ≡ reach shape m peer c now_ms p s
  unfolding reach
  reached_damaged n =
      ap (λ (a : SlotLeft). noting tick peer p (in_place shape m p s a)) (damaged words records header arena c now_ms tick m.out_header m.out_body is_shaped_law (same_sound ∙ n))
      ∙ rw (
        n,
        splice_own (slot_at p s) slot_words m.numbers,
        splice_own (room_at shape.fragment_records p s) shape.fragment_records m.index,
        splice_own (room_at shape.header_bytes p s) shape.header_bytes m.headers,
        splice_own (room_at shape.tx_bytes p s) shape.tx_bytes m.arenas,
      )

  reached_sound : soundness ≡ true → length c.property ≤ 16383 → noting tick peer p (slot_fed shape m p s c now_ms tick) ≡ reach shape m peer c now_ms p s
  unfolding reach lifted
  reached_sound y h =
      let r = record_long in
      ap (λ (a : SlotLeft). noting tick peer p (in_place shape m p s a)) (slot_fed_law y h)
      ∙ rw (y, undamaged, noted_splice slot_reached_here.words peer p s m.numbers tick r.1 l)

  pub reached : length c.property ≤ 16383 → noting tick peer p (slot_fed shape m p s c now_ms tick) ≡ reach shape m peer c now_ms p s
  reached h = go (both soundness)
    where
      go : (soundness ≡ true) ⊎ (soundness ≡ false) → noting tick peer p (slot_fed shape m p s c now_ms tick) ≡ reach shape m peer c now_ms p s
      go (inl y) = reached_sound y h
      go (inr n) = reached_damaged n

  -- the same with the words that were noted
  pub reached_from : (tick' : ℕ) (f : FeedLeft) (numbers : List ℕ) → length c.property ≤ 16383 → tick' ≡ tick → f ≡ slot_fed shape m p s c now_ms tick'
      → numbers ≡ noted f.answer f.memory.numbers tick' peer p
      → feed_left f.answer (memory numbers f.memory.index f.memory.headers f.memory.arenas f.memory.out_header f.memory.out_body)
      ≡ reach shape m peer c now_ms p s
  reached_from tick' f numbers h et ef en =
      ap (λ (x : List ℕ). feed_left f.answer (memory x f.memory.index f.memory.headers f.memory.arenas f.memory.out_header f.memory.out_body)) en
      ∙ ap (noting tick' peer p) ef ∙ rw et (reached h)

-- the parts that a slot was lent, back in their places
pub feed_back : (shape : Shape) (m : Memory) (p s : ℕ) (c : Chunk) (now_ms tick at index_at header_at arena_at : ℕ)
    (answer : Reply Told) (words index header arena out_header out_body : List ℕ)
    → at ≡ slot_at p s → index_at ≡ room_at shape.fragment_records p s → header_at ≡ room_at shape.header_bytes p s → arena_at ≡ room_at shape.tx_bytes p s
    → slot_left answer words index header arena out_header out_body
    ≡ feed_slot (take (at + slot_words - at) (drop at m.numbers)) (take (index_at + shape.fragment_records - index_at) (drop index_at m.index))
    (take (header_at + shape.header_bytes - header_at) (drop header_at m.headers))
    (take (arena_at + shape.tx_bytes - arena_at) (drop arena_at m.arenas)) c now_ms tick m.out_header m.out_body
    → feed_left answer
    (memory
    (take at m.numbers ++ (words ++ drop (at + slot_words - at) (drop at m.numbers)))
    (take index_at m.index ++ (index ++ drop (index_at + shape.fragment_records - index_at) (drop index_at m.index)))
    (take header_at m.headers ++ (header ++ drop (header_at + shape.header_bytes - header_at) (drop header_at m.headers)))
    (take arena_at m.arenas ++ (arena ++ drop (arena_at + shape.tx_bytes - arena_at) (drop arena_at m.arenas)))
    out_header out_body)
    ≡ slot_fed shape m p s c now_ms tick
feed_back shape m p s c now_ms tick at index_at header_at arena_at answer words index header arena out_header out_body ea ei eh er e =
    rw (
      part_back at slot_words m.numbers words,
      part_back index_at shape.fragment_records m.index index,
      part_back header_at shape.header_bytes m.headers header,
      part_back arena_at shape.tx_bytes m.arenas arena,
      ea,
      ei,
      eh,
      er,
    )
    (ap (λ (a : SlotLeft). in_place shape m p s a)
    (rw (
      part_lent at slot_words m.numbers,
      part_lent index_at shape.fragment_records m.index,
      part_lent header_at shape.header_bytes m.headers,
      part_lent arena_at shape.tx_bytes m.arenas,
      ea,
      ei,
      eh,
      er,
    ) at e))

-- the record that a peer takes lies within the numbers
pub record_for_in : (shape : Shape) (numbers : List ℕ) (peer p : ℕ) → has_numbers shape numbers ≡ true → record_for shape numbers peer ≡ Some p
    → HasPeer numbers p
record_for_in shape numbers peer p e f =
    let l = numbers_long shape numbers e in
    let b = record_for_below shape numbers peer p f in
    omega arith

-- the numbers of a chunk that was read are small
pub read_bounds : (data' : List ℕ) (f : Fields) → read_fields data' ≡ granted f → (f.header_len ≤ 16383) × (f.property_at + f.property_len ≤ 32775)
read_bounds data' f q =
    let t = read_told data' f q in
    let h = read_small _ _ t.size in
    let d = read_small _ _ t.len in
    let a = t.at in
    (h, omega arith)

-- where the parts of a slot lie, far below 2^64
pub record Lies (shape : Shape) (m : Memory) (p s : ℕ) : Type 0 where
  pub peer : HasPeer m.numbers p
  pub index : room_at shape.fragment_records p s + shape.fragment_records ≤ length m.index
  pub headers : room_at shape.header_bytes p s + shape.header_bytes ≤ length m.headers
  pub arenas : room_at shape.tx_bytes p s + shape.tx_bytes ≤ length m.arenas
  pub index_small : room_at shape.fragment_records p s ≤ 4194304
  pub headers_small : room_at shape.header_bytes p s ≤ 4194304
  pub arenas_small : room_at shape.tx_bytes p s ≤ 4194304
  pub ranges : Ranges shape

pub lies : (shape : Shape) (m : Memory) (p s : ℕ) → has_all shape m ≡ true → p < shape.max_peers → s < 4 → Lies shape m p s
lies shape m p s e k l =
    let a = lent_told shape m e in
    let r = in_range_law shape m.numbers a.numbers in
    let n = numbers_long shape m.numbers a.numbers in
    let i = room_in shape.fragment_records shape.max_peers p s k l in
    let h = room_in shape.header_bytes shape.max_peers p s k l in
    let b = room_in shape.tx_bytes shape.max_peers p s k l in
    record {
      peer = omega arith;
      index = omega (arith, i, a.index);
      headers = omega (arith, h, a.headers);
      arenas = omega (arith, b, a.arenas);
      index_small = room_below shape.fragment_records p s (omega arith) l (omega arith);
      headers_small = room_below shape.header_bytes p s (omega arith) l (omega arith);
      arenas_small = room_below shape.tx_bytes p s (omega arith) l (omega arith);
      ranges = r;
    }

-- where a record and a slot were found, named on functions
pub ruleset found = (lent_told, record_for_in, record_for_below, slot_for_below)

-- a message that was read has its 13 bytes
pub message_long : (body : List ℕ) (h : Message) → read_message body ≡ granted h → 13 ≤ length body
unfolding read_message
message_long body h q = let a = first_granted (read_header body) _ h q in read_long body a.0 a.1

-- and a source of 28 bits
pub message_source : (body : List ℕ) (h : Message) → read_message body ≡ granted h → h.header.source ≤ 0x0FFFFFFF
unfolding read_message
message_source body h q =
    let a = first_granted (read_header body) _ h q in
    let b = asked_with (carries_chunk a.0.kind) 24 a.0.kind _ h a.2 in
    let e : a.0.source ≡ h.header.source = cc in
    let w = (within_both a.0 (header_unchanged body a.0 a.1).0).0 in
    omega arith

-- so it is a feed of what stands behind them, under its source
pub message_fed : (shape : Shape) (m : Memory) (body : List ℕ) (now_ms : ℕ) (h : Message) → has_all shape m ≡ true → read_message body ≡ granted h
    → feed_call shape m h.header.source (drop 13 body) now_ms ≡ message_call shape m body now_ms
unfolding feed_call message_call
message_fed shape m body now_ms h a q = rw (a, le-leb h.header.source 0x0FFFFFFF (message_source body h q), q)
