-- What a feed leaves, for all chunks: memory follows the slot that is free of memory, and question 31 has a yes again.
-- Assumes nothing.
use Rattle.std.proofs.Common.{◌≡◌, ℕ, ◌+◌, ◌<◌, ◌≤◌, Bool, true, false, cond, not, ◌&&◌, ◌||◌, eqb, leb, List, length, take, refl, ap, ◌∙◌, arith, length-set, eq-eqb, eqb-true, le-leb, leb-true}
use Rattle.std.specs.Prelude.{Option, None, Some}
use Rattle.seven_bit.proofs.ReplyLaws.{and_told}
use Rattle.seven_bit.specs.Reply.{refused}
use Rattle.seven_bit.proofs.PartLaws.{length_splice}
use Rattle.pe_frame.specs.Chunk.{Chunk}
use Rattle.pe_slot.specs.declared.layout.TxSlot.{TxSlot}
use Rattle.pe_slot.specs.Slot.{Verdict, empty_slot, slot_after, judge}
use Rattle.pe_slot.specs.Memory.{slot_of, words_of, pieces_of, contents, ends_at, is_end, is_sound}
use Rattle.pe_slot.specs.Feed.{SlotLeft, slot_left, touched, grown, closed_slot, placed, is_shaped, feed_slot}
use Rattle.pe_slot.proofs.SlotMemory.{ends_grown}
use Rattle.pe_slot.proofs.JudgeLaws.{Fitting, judge_fitting}
use Rattle.pe_slot.proofs.FeedLaws.{new_index, new_arena, contents_grown, length_kept}

-- what a sound slot's memory is known to hold
pub record Sound (H B R : ℕ) (t : TxSlot) (index : List ℕ) : Type 0 where
  pub head : t.header_len ≤ H
  pub held : t.index_len ≤ R
  pub body : t.property_bytes ≤ B
  pub ends : ends_at 0 (take t.index_len index) ≡ Some t.property_bytes

end_told : (o : Option ℕ) (n : ℕ) → is_end o n ≡ true → o ≡ Some n
end_told None n e = absurd (let z : ◌≡◌ {A = ℕ} 0 1 = cc in omega arith)
end_told (Some m) n e = ap (λ (x : ℕ). Some x) (eqb-true _ _ e)

pub sound_told : (H B R : ℕ) (t : TxSlot) (index : List ℕ) → is_sound H B R t index ≡ true → Sound H B R t index
unfolding is_sound
sound_told H B R t index e =
    let p₁ = and_told _ (not (eqb t.active 0) || (eqb t.header_len 0 && eqb t.index_len 0)) e in
    let p₂ = and_told _ (is_end (ends_at 0 (take t.index_len index)) t.property_bytes) p₁.0 in
    let p₃ = and_told _ (leb t.property_bytes B) p₂.0 in
    let p₄ = and_told (leb t.header_len H) (leb t.index_len R) p₃.0 in
    record { head = leb-true _ _ p₄.0; held = leb-true _ _ p₄.1; body = leb-true _ _ p₃.1; ends = end_told _ _ p₂.1 }

-- and of an open slot that is all
sound_open : (H B R : ℕ) (t : TxSlot) (index : List ℕ) → Sound H B R t index → eqb t.active 0 ≡ false → is_sound H B R t index ≡ true
unfolding is_sound
sound_open H B R t index s a = rw (le-leb _ _ s.head, le-leb _ _ s.held, le-leb _ _ s.body, s.ends, eq-eqb t.property_bytes t.property_bytes refl, a)

sound_closed : (H B R : ℕ) (t : TxSlot) (index : List ℕ) → is_sound H B R (closed_slot t) index ≡ true
unfolding is_sound ends_at
sound_closed H B R t index = rw (le-leb 0 H (omega arith), le-leb 0 R (omega arith), le-leb 0 B (omega arith))

pub opened : (a : ℕ) → eqb (cond (eqb a 0) 1 a) 0 ≡ false
opened a = go (eqb a 0) refl
  where
    go : (b : Bool) → eqb a 0 ≡ b → eqb (cond b 1 a) 0 ≡ false
    go true e = refl
    go false e = e

-- memory follows a verdict that fits, and is sound then
module _ (t : TxSlot) (index header arena : List ℕ) (c : Chunk) (out_header out_body : List ℕ) (s : Sound (length header) (length arena) (length index) t index)
    (short : length c.property ≤ 16383) (named : c.chunk_num < 65536) where
  module _ (v : Verdict) (f : Fitting t index header arena c v) where
    follows :
        (let a : SlotLeft = placed t index header arena c v out_header out_body in
        contents (grown t c v) a.index a.header a.arena ≡ slot_after (contents t index header arena) c v)
    unfolding placed
    follows = contents_grown t index header arena c v.stores v.takes v.adds f.fits f.few f.room s.ends named (omega arith)

    module _ (active : eqb t.active 0 ≡ false) where
      either : (H B R : ℕ) (i : List ℕ) (b : Bool) (g : TxSlot) → is_sound H B R g i ≡ true → is_sound H B R (slot_of (words_of (cond b (closed_slot g) g))) i ≡ true
      either H B R i true g e = sound_closed H B R g i
      either H B R i false g e = e

      head_within : (b : Bool) → (b ≡ true → length c.header ≤ length header) → cond b (length c.header) t.header_len ≤ length header
      head_within true g = g refl
      head_within false g = s.head

      -- the records with the piece, where one is added
      record Adding (b : Bool) (i d : List ℕ) : Type 0 where
        same_index : length i ≡ length index
        same_arena : length d ≡ length arena
        held : cond b (t.index_len + 1) t.index_len ≤ length index
        body : cond b (t.property_bytes + length c.property) t.property_bytes ≤ length arena
        ends : ends_at 0 (take (cond b (t.index_len + 1) t.index_len) i) ≡ Some (cond b (t.property_bytes + length c.property) t.property_bytes)

      adding : (b : Bool) → (b ≡ true → t.index_len < length index) → (b ≡ true → t.property_bytes + length c.property ≤ length arena)
          → Adding b (new_index t index header arena c b) (new_arena t index header arena c b)
      adding true g h =
          let few = g refl in
          let room = h refl in
          record {
            same_index = simp length-set;
            same_arena = length_splice t.property_bytes (length c.property) arena c.property room refl;
            held = omega arith;
            body = room;
            ends = ends_grown index arena t.index_len t.property_bytes c.chunk_num c.property few s.ends room named (omega arith);
          }
      adding false g h = record { same_index = refl; same_arena = refl; held = s.held; body = s.body; ends = s.ends }

      again :
          (let a : SlotLeft = placed t index header arena c v out_header out_body in
          is_sound (length a.header) (length a.arena) (length a.index) (slot_of a.words) a.index ≡ true)
      unfolding placed
      again =
          let p = adding v.adds f.few f.room in
          rw (length_kept t index header arena c v.stores f.fits, p.same_arena, p.same_index)
          (either (length header) (length arena) (length index) (new_index t index header arena c v.adds) v.closes (grown t c v)
          (sound_open (length header) (length arena) (length index) (grown t c v) (new_index t index header arena c v.adds)
          (record { head = head_within v.stores f.fits; held = p.held; body = p.body; ends = p.ends }) active))

-- such as the one that the questions have
module _ (t : TxSlot) (index header arena : List ℕ) (c : Chunk) (out_header out_body : List ℕ) (s : Sound (length header) (length arena) (length index) t index)
    (short : length c.property ≤ 16383) (named : c.chunk_num < 65536) where
  abbrev said : Verdict
  said = judge (length header) (length arena) (length index) (contents t index header arena) c

  fitting : Fitting t index header arena c said
  fitting = judge_fitting t index header arena c s.held s.ends s.body

  said-follows :
      (let a : SlotLeft = placed t index header arena c said out_header out_body in
      contents (grown t c said) a.index a.header a.arena ≡ slot_after (contents t index header arena) c said)
  said-follows = follows t index header arena c out_header out_body s short named said fitting

  said_sound : eqb t.active 0 ≡ false →
      (let a : SlotLeft = placed t index header arena c said out_header out_body in
      is_sound (length a.header) (length a.arena) (length a.index) (slot_of a.words) a.index ≡ true)
  said_sound active = again t index header arena c out_header out_body s short named said fitting active

words_as : (b : Bool) (g : TxSlot) → b ≡ false → slot_of (words_of (cond b (closed_slot g) g)) ≡ g
words_as b g o = ap (λ (x : Bool). slot_of (words_of (cond x (closed_slot g) g))) o

-- memory holds what the slot without memory holds, whatever the answer is, where the slot stays open
module _ (t : TxSlot) (index header arena : List ℕ) (c : Chunk) (out_header out_body : List ℕ) where
  pub memory_follows : is_sound (length header) (length arena) (length index) t index ≡ true → length c.property ≤ 16383 → c.chunk_num < 65536 →
      (let v : Verdict = judge (length header) (length arena) (length index) (contents t index header arena) c in
      let a : SlotLeft = placed t index header arena c v out_header out_body in
      v.closes ≡ false → contents (slot_of a.words) a.index a.header a.arena ≡ slot_after (contents t index header arena) c v)
  unfolding placed
  memory_follows e short named o =
      let v : Verdict = judge (length header) (length arena) (length index) (contents t index header arena) c in
      let a : SlotLeft = placed t index header arena c v out_header out_body in
      ap (λ (x : TxSlot). contents x a.index a.header a.arena) (words_open v o)
      ∙ said-follows t index header arena c out_header out_body (sound_told _ _ _ t index e) short named
    where
      words_open : (v : Verdict) → v.closes ≡ false → slot_of (placed t index header arena c v out_header out_body).words ≡ grown t c v
      words_open v o = words_as v.closes (grown t c v) o

  -- and nothing where it closes
  pub memory_closed : (v : Verdict) → v.closes ≡ true →
      (let a : SlotLeft = placed t index header arena c v out_header out_body in
      contents (slot_of a.words) a.index a.header a.arena ≡ empty_slot)
  unfolding placed contents pieces_of
  memory_closed v o = rw o

-- a sound slot is sound after every feed, also when it closes
pub sound_again : (words index header arena : List ℕ) (c : Chunk) (now_ms tick : ℕ) (out_header out_body : List ℕ) → c.chunk_num < 65536
    → is_sound (length header) (length arena) (length index) (slot_of words) index ≡ true
    → (let a : SlotLeft = feed_slot words index header arena c now_ms tick out_header out_body in
    is_sound (length a.header) (length a.arena) (length a.index) (slot_of a.words) a.index ≡ true)
unfolding feed_slot contents
sound_again words index header arena c now_ms tick out_header out_body named e =
    rw e (go (is_shaped words index header arena out_header out_body) (leb (length c.property) 16383) refl)
  where
    go : (shaped short : Bool) → leb (length c.property) 16383 ≡ short
        → (let a : SlotLeft =
        cond shaped
        (cond short
        (placed (touched (slot_of words) c.request_id now_ms tick) index header arena c
        (judge (length header) (length arena) (length index) (contents (slot_of words) index header arena) c) out_header out_body)
        (slot_left (refused 1 0) words index header arena out_header out_body))
        (slot_left (refused 30 0) words index header arena out_header out_body) in
        is_sound (length a.header) (length a.arena) (length a.index) (slot_of a.words) a.index ≡ true)
    go false short q = e
    go true false q = e
    go true true q =
        let s = sound_told _ _ _ (slot_of words) index e in
        said_sound (touched (slot_of words) c.request_id now_ms tick) index header arena c out_header out_body
        (record { head = s.head; held = s.held; body = s.body; ends = s.ends }) (leb-true _ _ q) named (opened (slot_of words).active)
