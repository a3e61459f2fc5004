-- The laws of questions 30 and 31: what the tests before a slot's own questions tell, and what each of their answers leaves.
-- Assumes nothing.
use Rattle.std.proofs.Common.{◌≡◌, ℕ, ◌<◌, ◌≤◌, Bool, true, false, cond, not, ◌&&◌, ◌||◌, eqb, leb, List, length, take, sym, refl, ap, ◌∙◌, arith, eqb-true, le-leb, leb-true}
use mathlib.Core.Bool.{and-true, and-false}
use Rattle.std.specs.Prelude.{Option, Some, None}
use Rattle.std.specs.Option.{option_eq}
use borrow.Author.Tests.{lt-leb}
use Rattle.seven_bit.proofs.ReplyLaws.{and_told}
use Rattle.seven_bit.specs.Reply.{granted, refused}
use Rattle.pe_frame.specs.Chunk.{Chunk, chunk_from}
use Rattle.pe_slot.specs.declared.records.Pass.{Pass}
use Rattle.pe_slot.specs.declared.layout.TxSlot.{TxSlot}
use Rattle.pe_slot.specs.Layout.{slot_words}
use Rattle.pe_slot.specs.Slot.{judge}
use Rattle.pe_slot.specs.Memory.{slot_of, words_of, contents, ends_at, is_end, is_sound}
use Rattle.pe_slot.specs.Records.{Scanned, holds}
use Rattle.pe_slot.specs.Feed.{SlotLeft, slot_left, touched, placed, is_shaped, feed_slot}
use Rattle.pe_slot.specs.Steps.{is_bounded, ask_sound, Ready}
use Rattle.pe_slot.proofs.FeedTheorems.{sound_told}

-- the lengths of a slot's parts are in range
pub record Shaped (words index header arena out_header out_body : List ℕ) : Type 0 where
  pub nine : length words ≡ slot_words
  pub records : length index ≤ 2048
  pub bytes : length arena ≤ 65536
  pub header_room : length header ≤ length out_header
  pub body_room : length arena ≤ length out_body

pub shaped_told : (words index header arena out_header out_body : List ℕ) → is_shaped words index header arena out_header out_body ≡ true → Shaped words index header arena out_header out_body
unfolding is_shaped
shaped_told words index header arena out_header out_body e =
    let p₁ = and_told _ (leb (length arena) (length out_body)) e in
    let p₂ = and_told _ (leb (length header) (length out_header)) p₁.0 in
    let p₃ = and_told _ (leb (length arena) 65536) p₂.0 in
    let p₄ = and_told _ (leb (length header) 4096) p₃.0 in
    let p₅ = and_told (eqb (length words) slot_words) (leb (length index) 2048) p₄.0 in
    record {
      nine = eqb-true _ _ p₅.0;
      records = leb-true _ _ p₅.1;
      bytes = leb-true _ _ p₃.1;
      header_room = leb-true _ _ p₂.1;
      body_room = leb-true _ _ p₁.1;
    }

-- question 31 is the test of the lengths, and that of the records
swap : (x e d : Bool) → (x && e && d) ≡ (x && d && e)
swap true true d = sym (and-true d)
swap true false d = sym (and-false d)
swap false e d = refl

sound_split : (H B R : ℕ) (t : TxSlot) (index : List ℕ) → is_sound H B R t index ≡ (is_bounded H B R t && is_end (ends_at 0 (take t.index_len index)) t.property_bytes)
unfolding is_sound
sound_split H B R t index =
    swap (leb t.header_len H && leb t.index_len R && leb t.property_bytes B) (is_end (ends_at 0 (take t.index_len index)) t.property_bytes)
    (not (eqb t.active 0) || (eqb t.header_len 0 && eqb t.index_len 0))

-- the code's test of the records' end
end_is : (o : Option ℕ) (n : ℕ) → option_eq eqb o (Some n) ≡ is_end o n
end_is None n = refl
end_is (Some m) n = refl

module _ (words index header arena : List ℕ) (number : ℕ) where
  abbrev bounded : Bool
  bounded = is_bounded (length header) (length arena) (length index) (slot_of words)

  abbrev is_yes : Bool
  is_yes = is_sound (length header) (length arena) (length index) (slot_of words) index

  abbrev split : is_yes ≡ (bounded && is_end (ends_at 0 (take (slot_of words).index_len index)) (slot_of words).property_bytes)
  split = sound_split (length header) (length arena) (length index) (slot_of words) index

  pub unbounded : bounded ≡ false → refused 31 0 ≡ ask_sound words index header arena number
  unfolding ask_sound
  unbounded b = rw (split, b)

  module _ {pass : Pass} (p : Scanned pass (take (slot_of words).index_len index) number) where
    met : option_eq eqb pass.end (Some (slot_of words).property_bytes) ≡ is_end (ends_at 0 (take (slot_of words).index_len index)) (slot_of words).property_bytes
    met = end_is pass.end (slot_of words).property_bytes ∙ ap (λ (o : Option ℕ). is_end o (slot_of words).property_bytes) p.ends

    pub unlaid : bounded ≡ true → option_eq eqb pass.end (Some (slot_of words).property_bytes) ≡ false → refused 31 0 ≡ ask_sound words index header arena number
    unfolding ask_sound
    unlaid b e = rw (split, b, sym met ∙ e)

    pub sound_held : bounded ≡ true → option_eq eqb pass.end (Some (slot_of words).property_bytes) ≡ true → granted pass.held ≡ ask_sound words index header arena number
    unfolding ask_sound
    sound_held b e = rw (split, b, sym met ∙ e, p.held)

  -- what its answer tells
  pub damaged_asked : {n v : ℕ} → refused n v ≡ ask_sound words index header arena number → (is_yes ≡ false) × (n ≡ 31) × (v ≡ 0)
  unfolding ask_sound
  damaged_asked {n} {v} e = go is_yes e
    where
      go : (b : Bool) → refused n v ≡ cond b (granted (holds number (take (slot_of words).index_len index))) (refused 31 0) → (b ≡ false) × (n ≡ 31) × (v ≡ 0)
      go true e = absurd (let z : ◌≡◌ {A = ℕ} 0 1 = cc in omega arith)
      go false e = (refl, cc, cc)

  pub sound_asked : {held : Bool} → granted held ≡ ask_sound words index header arena number
      → (is_yes ≡ true) × (held ≡ holds number (take (slot_of words).index_len index))
  unfolding ask_sound
  sound_asked {held} e = go is_yes e
    where
      go : (b : Bool) → granted held ≡ cond b (granted (holds number (take (slot_of words).index_len index))) (refused 31 0)
          → (b ≡ true) × (held ≡ holds number (take (slot_of words).index_len index))
      go true e = (refl, cc)
      go false e = absurd (let z : ◌≡◌ {A = ℕ} 0 1 = cc in omega arith)

-- a sound slot that was touched is ready; w: its words
pub ready : (words index header arena out_header out_body : List ℕ) {w : List ℕ} (request_id now_ms tick : ℕ) → Shaped words index header arena out_header out_body
    → is_sound (length header) (length arena) (length index) (slot_of words) index ≡ true → w ≡ words_of (touched (slot_of words) request_id now_ms tick)
    → Ready w index header arena out_header out_body
ready words index header arena out_header out_body request_id now_ms tick s e t =
    let m = sound_told _ _ _ (slot_of words) index e in
    rw t (record {
      nine = refl;
      head = m.head;
      held = m.held;
      records = s.records;
      ends = m.ends;
      body = m.body;
      bytes = s.bytes;
      header_room = s.header_room;
      body_room = s.body_room;
    })

-- what each answer leaves
module _ (words index header arena : List ℕ) (c : Chunk) (now_ms tick : ℕ) (out_header out_body : List ℕ) where
  pub fed_unshaped : is_shaped words index header arena out_header out_body ≡ false
      → slot_left (refused 30 0) words index header arena out_header out_body ≡ feed_slot words index header arena c now_ms tick out_header out_body
  unfolding feed_slot
  fed_unshaped s = rw s

  module _ (s : is_shaped words index header arena out_header out_body ≡ true) where
    pub fed_damaged : {n v : ℕ} → (is_sound (length header) (length arena) (length index) (slot_of words) index ≡ false) × (n ≡ 31) × (v ≡ 0)
        → slot_left (refused n v) words index header arena out_header out_body ≡ feed_slot words index header arena c now_ms tick out_header out_body
    unfolding feed_slot
    fed_damaged q = rw (s, q.0, q.1, q.2)

    pub fed_long : is_sound (length header) (length arena) (length index) (slot_of words) index ≡ true → 16383 < length c.property
        → slot_left (refused 1 0) words index header arena out_header out_body ≡ feed_slot words index header arena c now_ms tick out_header out_body
    unfolding feed_slot
    fed_long y l = rw (s, y, lt-leb _ _ l)

    -- w: the words of the slot that was touched
    pub fed_sound : {w : List ℕ} {a : SlotLeft} → is_sound (length header) (length arena) (length index) (slot_of words) index ≡ true → length c.property ≤ 16383
        → w ≡ words_of (touched (slot_of words) c.request_id now_ms tick)
        → a ≡ placed (slot_of w) index header arena (chunk_from (slot_of w).request_id c.header c.num_chunks c.chunk_num c.property)
        (judge (length header) (length arena) (length index) (contents (slot_of w) index header arena)
        (chunk_from (slot_of w).request_id c.header c.num_chunks c.chunk_num c.property)) out_header out_body
        → a ≡ feed_slot words index header arena c now_ms tick out_header out_body
    unfolding feed_slot contents
    fed_sound y l e q = q ∙ rw (e, s, y, le-leb _ _ l)
