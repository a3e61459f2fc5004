-- What a chunk leaves of its slot's parts: each is as long as it was; a slot that is not open knows no header and no count; a header that is
-- not set has no length.
-- Assumes nothing.
use Prim.Native.Nat.{ℕ, ◌+◌, ◌*◌, ◌<◌, ◌≤◌}
use mathlib.Core.Bool.{Bool, true, false, cond}
use mathlib.Core.List.{List}
use mathlib.Core.Path.{◌≡◌, refl, sym, ◌∙◌}
use native.Mathlib.Omega.{arith}
use borrow.Author.Tests.{eq-eqb}
use lib.Dec.{eqb}
use lib.ListN.{length, get_or, length-set}
use Rattle.seven_bit.proofs.PartLaws.{length_part, length_splice}
use Rattle.pe_frame.specs.Chunk.{Chunk}
use Rattle.pe_slot.specs.declared.layout.TxSlot.{TxSlot}
use Rattle.pe_slot.specs.Slot.{Verdict, judge}
use Rattle.pe_slot.specs.Memory.{slot_of, words_of, packed, contents, is_sound}
use Rattle.pe_slot.specs.Feed.{SlotLeft, touched, grown, closed_slot, placed, reached_slot}
use Rattle.pe_slot.proofs.FeedLaws.{new_index, new_arena, length_kept}
use Rattle.pe_slot.proofs.FeedTheorems.{Sound, sound_told, opened}
use Rattle.pe_slot.proofs.JudgeLaws.{Fitting, judge_fitting}
use Rattle.pe_slot.specs.Layout.{slot_words}
use Rattle.pe_reassembler.specs.declared.shape.Shape.{Shape}
use Rattle.pe_reassembler.specs.Feed.{Memory, next_tick, words_part, room_part, slot_reached}
use Rattle.pe_reassembler.specs.Table.{has_rooms, slot_at, room_at}
use Rattle.pe_reassembler.specs.Sound.{Blank, Headed}
use Rattle.pe_reassembler.proofs.Effects.{Sized, Roomy, rooms_told}
use Rattle.pe_reassembler.proofs.FeedLaws.{room_in}

-- a slot's parts as long as they were
pub record SameLengths (index header arena : List ℕ) (a : SlotLeft) : Type 0 where
  pub nine : length a.words ≡ slot_words
  pub records : length a.index ≡ length index
  pub header_bytes : length a.header ≡ length header
  pub tx_bytes : length a.arena ≡ length arena

module _ (t : TxSlot) (index header arena : List ℕ) (c : Chunk) (out_header out_body : List ℕ) where
  placed_as : (v : Verdict) → Fitting t index header arena c v → SameLengths index header arena (placed t index header arena c v out_header out_body)
  unfolding placed
  placed_as v f =
      record {
        nine = refl;
        records = index_kept v.adds;
        header_bytes = length_kept t index header arena c v.stores f.fits;
        tx_bytes = arena_kept v.adds f.room;
      }
    where
      index_kept : (b : Bool) → length (new_index t index header arena c b) ≡ length index
      index_kept true = length-set index t.index_len (packed c.chunk_num (length c.property) t.property_bytes)
      index_kept false = refl

      arena_kept : (b : Bool) → (b ≡ true → t.property_bytes + length c.property ≤ length arena) → length (new_arena t index header arena c b) ≡ length arena
      arena_kept true room = length_splice t.property_bytes (length c.property) arena c.property (room refl) refl
      arena_kept false room = refl

  placed_lengths : Sound (length header) (length arena) (length index) t index
      → SameLengths index header arena (placed t index header arena c (judge (length header) (length arena) (length index) (contents t index header arena) c) out_header out_body)
  placed_lengths s = placed_as (judge (length header) (length arena) (length index) (contents t index header arena) c) (judge_fitting t index header arena c s.held s.ends s.body)

  -- an open slot stays open, or it closes and is blank
  placed_blank : eqb t.active 0 ≡ false → (v : Verdict) → Blank (slot_of (placed t index header arena c v out_header out_body).words)
  unfolding placed
  placed_blank o v = go v.closes (grown t c v) o
    where
      go : (b : Bool) (g : TxSlot) → eqb g.active 0 ≡ false → Blank (slot_of (words_of (cond b (closed_slot g) g)))
      go true g e = λ (z : _). (refl, refl)
      go false g e = λ (z : g.active ≡ 0). absurd (let y : ◌≡◌ {A = Bool} true false = sym (eq-eqb _ _ z) ∙ e in let x : ◌≡◌ {A = ℕ} 0 1 = cc in omega arith)

  placed_headed : Headed t → (v : Verdict) → Headed (slot_of (placed t index header arena c v out_header out_body).words)
  unfolding placed
  placed_headed h v = closing v.closes (grown t c v) (storing v.stores)
    where
      storing : (b : Bool) → cond b 1 t.header_set ≡ 0 → cond b (length c.header) t.header_len ≡ 0
      storing true e = absurd (let z : ◌≡◌ {A = ℕ} 1 0 = e in omega arith)
      storing false e = h e

      closing : (b : Bool) (g : TxSlot) → Headed g → Headed (slot_of (words_of (cond b (closed_slot g) g)))
      closing true g e = λ (z : _). refl
      closing false g e = e

-- a chunk that reaches its slot
module _ (words index header arena : List ℕ) (c : Chunk) (now_ms tick : ℕ) (out_header out_body : List ℕ) where
  abbrev verdict : Verdict
  verdict = judge (length header) (length arena) (length index) (contents (slot_of words) index header arena) c

  pub reached_lengths : is_sound (length header) (length arena) (length index) (slot_of words) index ≡ true
      → SameLengths index header arena (reached_slot words index header arena c now_ms tick out_header out_body)
  unfolding contents
  reached_lengths q =
      let s = sound_told _ _ _ (slot_of words) index q in
      placed_lengths (touched (slot_of words) c.request_id now_ms tick) index header arena c out_header out_body
      (record { head = s.head; held = s.held; body = s.body; ends = s.ends })

  pub reached_blank : Blank (slot_of (reached_slot words index header arena c now_ms tick out_header out_body).words)
  reached_blank =
      placed_blank (touched (slot_of words) c.request_id now_ms tick) index header arena c out_header out_body (opened (slot_of words).active) verdict

  pub reached_headed : Headed (slot_of words) → Headed (slot_of (reached_slot words index header arena c now_ms tick out_header out_body).words)
  reached_headed n = placed_headed (touched (slot_of words) c.request_id now_ms tick) index header arena c out_header out_body n verdict

-- the parts of slot s of record p
module _ (shape : Shape) (m : Memory) (p s : ℕ) (h : has_rooms shape m.numbers m.index m.headers m.arenas ≡ true) (k : p < shape.max_peers) (l : s < 4) where
  room : Roomy shape m.numbers m.index m.headers m.arenas
  room = rooms_told shape m.numbers m.index m.headers m.arenas h

  room_length : (size : ℕ) (rooms : List ℕ) → 4 * shape.max_peers * size ≤ length rooms → length (room_part size rooms p s) ≡ size
  room_length size rooms g = length_part (room_at size p s) size rooms (let r = room_in size shape.max_peers p s k l in omega arith)

  pub words_length : length (words_part m.numbers p s) ≡ slot_words
  words_length = length_part (slot_at p s) slot_words m.numbers (omega (arith, room.numbers_long))

  pub records_length : length (room_part shape.fragment_records m.index p s) ≡ shape.fragment_records
  records_length = room_length shape.fragment_records m.index room.index_long

  pub header_length : length (room_part shape.header_bytes m.headers p s) ≡ shape.header_bytes
  header_length = room_length shape.header_bytes m.headers room.headers_long

  pub arena_length : length (room_part shape.tx_bytes m.arenas p s) ≡ shape.tx_bytes
  arena_length = room_length shape.tx_bytes m.arenas room.arenas_long

  -- question 31 of the shape's rooms is the question of the slot's own
  pub sound_rooms : (t : TxSlot) (records : List ℕ)
      → is_sound (length (room_part shape.header_bytes m.headers p s)) (length (room_part shape.tx_bytes m.arenas p s))
      (length (room_part shape.fragment_records m.index p s)) t records
      ≡ is_sound shape.header_bytes shape.tx_bytes shape.fragment_records t records
  sound_rooms t records = rw (header_length, arena_length, records_length)

  -- what a chunk left fits in its place
  pub reached_sized : (c : Chunk) (now_ms : ℕ)
      → is_sound shape.header_bytes shape.tx_bytes shape.fragment_records (slot_of (words_part m.numbers p s)) (room_part shape.fragment_records m.index p s) ≡ true
      → Sized shape (slot_reached shape m c now_ms p s)
  reached_sized c now_ms q =
      let f = reached_lengths (words_part m.numbers p s) (room_part shape.fragment_records m.index p s) (room_part shape.header_bytes m.headers p s)
      (room_part shape.tx_bytes m.arenas p s) c now_ms (next_tick (get_or m.numbers 0 0)) m.out_header m.out_body (sound_rooms (slot_of (words_part m.numbers p s)) (room_part shape.fragment_records m.index p s) ∙ q) in
      record { nine = f.nine; records = f.records ∙ records_length; header_bytes = f.header_bytes ∙ header_length; tx_bytes = f.tx_bytes ∙ arena_length }
