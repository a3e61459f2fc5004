-- One slot: what a feed or a closing leaves of its memory stands for what is left of its cell, and the answer with the outputs is the model's.
-- Assumes nothing.
use Prim.Native.Nat.{ℕ, ◌<◌, ◌≤◌}
use mathlib.Core.Bool.{Bool, true, false, cond, not, ◌&&◌, ◌||◌}
use mathlib.Core.List.{List, []}
use mathlib.Core.Logic.{◌⊎◌, inl, inr}
use mathlib.Core.Option.{none, some}
use mathlib.Core.Path.{◌≡◌, refl, sym, ap, ◌∙◌}
use borrow.Author.Tests.{eqb-true}
use lib.Dec.{leb, eqb}
use lib.ListN.{length, get_or, take}
use Rattle.seven_bit.proofs.ReplyLaws.{both, and_told}
use Rattle.pe_frame.specs.Chunk.{Chunk}
use Rattle.pe_slot.specs.declared.layout.TxSlot.{TxSlot}
use Rattle.pe_slot.specs.Layout.{slot_words, active_at, last_activity_at, lru_tick_at, header_len_at, index_len_at}
use Rattle.pe_slot.specs.Slot.{Slot, Verdict, judge, slot_after}
use Rattle.pe_slot.specs.Memory.{slot_of, words_of, pieces_of, contents, ends_at, is_end, is_sound}
use Rattle.pe_slot.specs.Feed.{SlotLeft, touched, grown, closed_slot, told_answer, header_out, body_out, placed, reached_slot}
use Rattle.pe_slot.proofs.FeedTheorems.{memory_follows, opened}
use Rattle.pe_reassembler.proofs.TableLaws.{Ranges}
use Rattle.pe_reassembler.proofs.SoundLaws.{SlotSound}
use Rattle.pe_reassembler.specs.declared.shape.Shape.{Shape}
use Rattle.pe_run.specs.Model.{Open, touched_at, Judged, judged}
use Rattle.pe_run.proofs.Value.{cell_of, cell_with, shut}

-- a closed slot is a shut cell
pub closed_cell : (words index header arena : List ℕ) → cell_of (words_of (closed_slot (slot_of words))) index header arena ≡ shut (cell_of words index header arena)
unfolding cell_of
closed_cell words index header arena = refl

-- the two halves of question 31: lengths and records, and a free slot's
abbrev laid : ℕ → ℕ → ℕ → TxSlot → List ℕ → Bool
laid H B R t index =
    leb t.header_len H
    && leb t.index_len R
    && leb t.property_bytes B
    && is_end (ends_at 0 (take t.index_len index)) t.property_bytes

abbrev unheld : TxSlot → Bool
unheld t = not (eqb t.active 0) || (eqb t.header_len 0 && eqb t.index_len 0)

halves : (H B R : ℕ) (t : TxSlot) (index : List ℕ) → is_sound H B R t index ≡ true → (laid H B R t index ≡ true) × (unheld t ≡ true)
unfolding is_sound
halves H B R t index e = and_told (laid H B R t index) (unheld t) e

-- a sound slot is sound when it is touched
touched_sound : (H B R : ℕ) (t : TxSlot) (index : List ℕ) (request_id now_ms tick : ℕ) → is_sound H B R t index ≡ true
    → is_sound H B R (touched t request_id now_ms tick) index ≡ true
unfolding is_sound
touched_sound H B R t index request_id now_ms tick e =
    let p : laid H B R t index ≡ true = (halves H B R t index e).0 in
    rw (p, opened t.active)

-- the lengths of a slot's parts
pub record Sized (shape : Shape) (words index header arena : List ℕ) : Type 0 where
  pub words_size : length words ≡ slot_words
  pub index_size : length index ≡ shape.fragment_records
  pub header_size : length header ≡ shape.header_bytes
  pub arena_size : length arena ≡ shape.tx_bytes

module _ (shape : Shape) (words index header arena : List ℕ)
    (neat : SlotSound shape.header_bytes shape.tx_bytes shape.fragment_records words index) where
  no_records : eqb (get_or words active_at 0) 0 ≡ true → get_or words index_len_at 0 ≡ 0
  no_records e =
      let p : unheld (slot_of words) ≡ true =
      (halves shape.header_bytes shape.tx_bytes shape.fragment_records (slot_of words) index neat.sound).1 in
      let q : (eqb (get_or words header_len_at 0) 0 && eqb (get_or words index_len_at 0) 0) ≡ true = rw e at p in
      eqb-true _ _ (and_told (eqb (get_or words header_len_at 0) 0) (eqb (get_or words index_len_at 0) 0) q).1

  empty : eqb (get_or words active_at 0) 0 ≡ true → contents (slot_of words) index header arena ≡ record { header = none; count = 0; pieces = [] }
  unfolding contents pieces_of
  empty e =
      let b = neat.blank (eqb-true _ _ e) in
      rw (b.1, b.0, no_records e)

  -- what a slot holds is what its cell is opened with
  held_slot : (now_ms tick : ℕ)
      → touched_at (cell_of words index header arena).state now_ms tick
      ≡ record { time = now_ms; tick = tick; slot = contents (slot_of words) index header arena }
  unfolding cell_of
  held_slot now_ms tick = go (both (eqb (get_or words active_at 0) 0))
    where
      s : Slot
      s = contents (slot_of words) index header arena

      o : Open
      o = record { time = get_or words last_activity_at 0; tick = get_or words lru_tick_at 0; slot = s }

      go : (eqb (get_or words active_at 0) 0 ≡ true) ⊎ (eqb (get_or words active_at 0) 0 ≡ false)
          → touched_at (cond (eqb (get_or words active_at 0) 0) none (some o)) now_ms tick ≡ record { time = now_ms; tick = tick; slot = s }
      go (inl e) =
          ap (λ (b : Bool). touched_at (cond b none (some o)) now_ms tick) e
          ∙ ap (λ (x : Slot). record { time = now_ms; tick = tick; slot = x }) (sym (empty e))
      go (inr e) = ap (λ (b : Bool). touched_at (cond b none (some o)) now_ms tick) e

-- what a verdict leaves of the words, as a cell
cell_left : (closes : Bool) (t : TxSlot) (c : Chunk) (v : Verdict) (request_id now_ms tick : ℕ) (index header arena : List ℕ) (s : Slot)
    → (let g : TxSlot = grown (touched t request_id now_ms tick) c v in
    (closes ≡ false → contents (slot_of (words_of (cond closes (closed_slot g) g))) index header arena ≡ s)
    → cell_of (words_of (cond closes (closed_slot g) g)) index header arena
    ≡ cell_with request_id (cond closes none (some (record { time = now_ms; tick = tick; slot = s }))))
unfolding cell_of
cell_left true t c v request_id now_ms tick index header arena s e = refl
cell_left false t c v request_id now_ms tick index header arena s e = rw (opened t.active, e refl)

-- what a feed leaves
module _ (shape : Shape) (words index header arena : List ℕ) (c : Chunk) (now_ms tick : ℕ) (out_header out_body : List ℕ)
    (range : Ranges shape) (size : Sized shape words index header arena)
    (neat : SlotSound shape.header_bytes shape.tx_bytes shape.fragment_records words index)
    (header_room : shape.header_bytes ≤ length out_header) (body_room : shape.tx_bytes ≤ length out_body) (short : length c.property ≤ 16383)
    (named : c.chunk_num < 65536) where
  abbrev held : Slot
  held = contents (slot_of words) index header arena

  abbrev verdict : Verdict
  verdict = judge shape.header_bytes shape.tx_bytes shape.fragment_records held c

  abbrev fed : SlotLeft
  fed = reached_slot words index header arena c now_ms tick out_header out_body

  abbrev left : SlotLeft
  left = placed (touched (slot_of words) c.request_id now_ms tick) index header arena c verdict out_header out_body

  fed_is : fed ≡ left
  fed_is = rw (size.index_size, size.header_size, size.arena_size)

  follows : verdict.closes ≡ false → contents (slot_of left.words) left.index left.header left.arena ≡ slot_after held c verdict
  unfolding contents
  follows q =
      let e : is_sound (length header) (length arena) (length index) (touched (slot_of words) c.request_id now_ms tick) index ≡ true =
      rw (size.index_size, size.header_size, size.arena_size)
      (touched_sound shape.header_bytes shape.tx_bytes shape.fragment_records (slot_of words) index c.request_id now_ms tick neat.sound) in
      let f = memory_follows (touched (slot_of words) c.request_id now_ms tick) index header arena c out_header out_body e short named in
      let g = rw (size.index_size, size.header_size, size.arena_size) at f in
      g q

  left_cell : cell_of left.words left.index left.header left.arena ≡ cell_with c.request_id
      (judged shape (record { time = now_ms; tick = tick; slot = held }) c).left
  unfolding judged placed
  left_cell =
      cell_left verdict.closes (slot_of words) c verdict c.request_id now_ms tick left.index left.header left.arena
      (slot_after held c verdict) follows

  -- the cell after it, the answer and the outputs
  abbrev told : Judged
  told = judged shape (touched_at (cell_of words index header arena).state now_ms tick) c

  told_is : told ≡ judged shape (record { time = now_ms; tick = tick; slot = held }) c
  told_is = ap (λ (o : Open). judged shape o c) (held_slot shape words index header arena neat now_ms tick)

  pub fed_cell : cell_of fed.words fed.index fed.header fed.arena ≡ cell_with c.request_id told.left
  fed_cell =
      ap (λ (x : SlotLeft). cell_of x.words x.index x.header x.arena) fed_is
      ∙ left_cell
      ∙ ap (λ (j : Judged). cell_with c.request_id j.left) (sym told_is)

  pub fed_told : (fed.answer ≡ told_answer told.answer) × (fed.out_header ≡ header_out told.answer out_header) ×
      (fed.out_body ≡ body_out told.answer out_body)
  unfolding judged placed
  fed_told = (
    ap (λ (x : SlotLeft). x.answer) fed_is ∙ ap (λ (j : Judged). told_answer j.answer) (sym told_is),
    ap (λ (x : SlotLeft). x.out_header) fed_is ∙ ap (λ (j : Judged). header_out j.answer out_header) (sym told_is),
    ap (λ (x : SlotLeft). x.out_body) fed_is ∙ ap (λ (j : Judged). body_out j.answer out_body) (sym told_is),
  )
