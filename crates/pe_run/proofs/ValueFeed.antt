-- A chunk that reaches the table: what it leaves stands for what the value's call leaves, and the answer with the outputs is the value's.
-- Assumes nothing.
use Prim.Native.Nat.{ℕ, ◌<◌, ◌≤◌}
use mathlib.Core.Bool.{Bool, true, cond}
use mathlib.Core.List.{List}
use Rattle.std.specs.Prelude.{Option, None, Some}
use mathlib.Core.Path.{◌≡◌, refl, sym, ap, ap₂, ◌∙◌, subst}
use lib.ListN.{length, get_or, set}
use Rattle.seven_bit.specs.Reply.{refused}
use Rattle.pe_frame.specs.Chunk.{Chunk}
use Rattle.pe_slot.specs.Feed.{SlotLeft, told_answer, header_out, body_out}
use Rattle.pe_reassembler.specs.Table.{has_numbers, has_rooms, record_for, slot_for}
use Rattle.pe_reassembler.specs.Feed.{Memory, FeedLeft, feed_left, next_tick, words_part, room_part, slot_reached, lifted, reach, in_slot, in_record, at_table}
use Rattle.pe_reassembler.proofs.TableLaws.{in_range_law, record_for_below, slot_for_below}
use Rattle.pe_reassembler.proofs.SlotLengths.{words_length, records_length, header_length, arena_length, reached_sized}
use Rattle.pe_reassembler.proofs.SoundLaws.{SlotsSound}
use Rattle.pe_reassembler.proofs.Effects.{Sized as AfterSized, lifted_words, lifted_index, lifted_header, lifted_arena, lifted_words_other, lifted_index_other, lifted_header_other, lifted_arena_other, lifted_bound, lifted_muid, lifted_peer_other, lifted_clock, lifted_lengths}
use Rattle.pe_reassembler.specs.declared.shape.Shape.{Shape}
use Rattle.pe_run.specs.Model.{touched_at, Judged, judged}
use Rattle.pe_run.specs.Run.{Table, lent, kept, LongFor}
use Rattle.pe_run.proofs.Ahead.{numbers_asked}
use Rattle.pe_run.proofs.Value.{Cell, Rec, Value, Taken, cell_of, no_cell, choose_cell, cell_with, cell_at, rec_at, recs_from, value_of, take_cell, take_rec, take_at, takes}
use Rattle.pe_run.proofs.ValueAsks.{record_for_is, slot_for_is}
use Rattle.pe_run.proofs.ValueSlot.{Sized, fed_cell, fed_told}
use Rattle.pe_run.proofs.ValuePlaces.{rec_at_law, cell_at_law, rec_is, cell_same, cell_kept, rec_kept, cells_set, recs_set}

-- what a slot left in its place
module _ (shape : Shape) (t : Table) (out_header out_body : List ℕ) (peer p s : ℕ) (a : SlotLeft) (ok : LongFor shape t)
    (size : AfterSized shape a) (hp : p < shape.max_peers) (hs : s < 4) where
  abbrev m : Memory
  m = lent t out_header out_body

  abbrev t' : Table
  t' = kept (lifted shape m peer p s a)

  own_cell : cell_at shape t' p s ≡ cell_of a.words a.index a.header a.arena
  unfolding cell_at
  own_cell =
      cell_same (lifted_words shape m peer p s a ok size hp hs) (lifted_index shape m peer p s a ok size hp hs)
      (lifted_header shape m peer p s a ok size hp hs) (lifted_arena shape m peer p s a ok size hp hs)

  other_cell : (q u : ℕ) → q < shape.max_peers → u < 4 → (q ≡ p → u ≡ s → ⊥) → cell_at shape t' q u ≡ cell_at shape t q u
  other_cell q u hq hu d =
      cell_kept shape t t' q u (lifted_words_other shape m peer p s a ok size hp hs q u hq hu d)
      (lifted_index_other shape m peer p s a ok size hp hs q u hq hu d)
      (lifted_header_other shape m peer p s a ok size hp hs q u hq hu d) (lifted_arena_other shape m peer p s a ok size hp hs q u hq hu d)

  other_rec : (q : ℕ) → q < shape.max_peers → (q ≡ p → ⊥) → rec_at shape t' q ≡ rec_at shape t q
  other_rec q hq d =
      let e = lifted_peer_other shape m peer p s a ok size hp hs q hq d in
      rec_kept shape t t' q e.0 e.1 (λ u hu. other_cell q u hq hu (λ f g. d f))

  own_rec : rec_at shape t' p
      ≡ record { bound = true; muid = peer; cells = set (rec_at shape t p).cells s (cell_of a.words a.index a.header a.arena) }
  own_rec =
      rec_is shape t' p (lifted_bound shape m peer p s a ok size hp hs) (lifted_muid shape m peer p s a ok size hp hs)
      (cells_set shape t t' p s hs (λ u hu d. other_cell p u hp hu (λ f g. d g)) ∙ ap (λ (c : Cell). set (rec_at shape t p).cells s c) own_cell)

  lifted_value : value_of shape t'
      ≡ record {
        clock = next_tick (get_or t.numbers 0 0);
        recs =
            set (recs_from shape t 0 shape.max_peers) p
            (record { bound = true; muid = peer; cells = set (rec_at shape t p).cells s (cell_of a.words a.index a.header a.arena) });
      }
  unfolding value_of
  lifted_value =
      ap₂ (λ (clock : ℕ) (recs : List Rec). record { clock = clock; recs = recs })
      (lifted_clock shape m peer p s a ok size hp hs)
      (recs_set shape t t' shape.max_peers p hp other_rec ∙ ap (λ (r : Rec). set (recs_from shape t 0 shape.max_peers) p r) own_rec)

  lifted_long : LongFor shape t'
  unfolding has_rooms has_numbers
  lifted_long =
      let e = lifted_lengths shape m peer p s a ok size hp hs in
      rw (e.0, e.1, e.2, e.3) ok

-- the call on memory is the value's call
pub record FeedValue (shape : Shape) (out_header out_body : List ℕ) (taken : Taken) (r : FeedLeft) : Type 0 where
  pub value_is : value_of shape (kept r) ≡ taken.value
  pub answer_is : r.answer ≡ told_answer taken.answer
  pub out_header_is : r.memory.out_header ≡ header_out taken.answer out_header
  pub out_body_is : r.memory.out_body ≡ body_out taken.answer out_body
  pub long : LongFor shape (kept r)

module _ (shape : Shape) (t : Table) (out_header out_body : List ℕ) (peer : ℕ) (c : Chunk) (now_ms : ℕ) (ok : LongFor shape t)
    (sound : SlotsSound shape t.numbers t.index)
    (header_room : shape.header_bytes ≤ length out_header) (body_room : shape.tx_bytes ≤ length out_body) (short : length c.property ≤ 16383)
    (named : c.chunk_num < 65536) where
  abbrev m₀ : Memory
  m₀ = lent t out_header out_body

  abbrev v : Value
  v = value_of shape t

  module _ (p s : ℕ) (hp : p < shape.max_peers) (hs : s < 4) where
    abbrev a : SlotLeft
    a = slot_reached shape m₀ c now_ms p s

    abbrev cell : Cell
    cell =
        cell_of (words_part t.numbers p s) (room_part shape.fragment_records t.index p s) (room_part shape.header_bytes t.headers p s)
        (room_part shape.tx_bytes t.arenas p s)

    abbrev told : Judged
    told = judged shape (touched_at cell.state now_ms (next_tick (get_or t.numbers 0 0))) c

    cell_is : get_or (rec_at shape t p).cells s no_cell ≡ cell
    unfolding cell_at
    cell_is = cell_at_law shape t p s hs

    told_is : told ≡ judged shape (touched_at (get_or (rec_at shape t p).cells s no_cell).state now_ms (next_tick (get_or t.numbers 0 0))) c
    told_is = ap (λ (x : Cell). judged shape (touched_at x.state now_ms (next_tick (get_or t.numbers 0 0))) c) (sym cell_is)

    sized : Sized shape (words_part t.numbers p s) (room_part shape.fragment_records t.index p s) (room_part shape.header_bytes t.headers p s)
        (room_part shape.tx_bytes t.arenas p s)
    sized =
        record {
          words_size = words_length shape m₀ p s ok hp hs;
          index_size = records_length shape m₀ p s ok hp hs;
          header_size = header_length shape m₀ p s ok hp hs;
          arena_size = arena_length shape m₀ p s ok hp hs;
        }

    reach_is : reach shape m₀ peer c now_ms p s ≡ lifted shape m₀ peer p s a
    unfolding reach
    reach_is = ap (λ (b : Bool). cond b (lifted shape m₀ peer p s a) (feed_left (refused 31 0) m₀)) (sound.each p s hp hs).sound

    there : FeedValue shape out_header out_body (take_cell shape v peer c now_ms p (rec_at shape t p) s) (lifted shape m₀ peer p s a)
    unfolding lifted take_cell value_of
    there =
        let size : AfterSized shape a = reached_sized shape m₀ p s ok hp hs c now_ms (sound.each p s hp hs).sound in
        let o = fed_told shape _ _ _ _ c now_ms (next_tick (get_or t.numbers 0 0)) out_header out_body
        (in_range_law shape t.numbers (numbers_asked shape t ok)) sized (sound.each p s hp hs) header_room body_room short named in
        let q = fed_cell shape _ _ _ _ c now_ms (next_tick (get_or t.numbers 0 0)) out_header out_body
        (in_range_law shape t.numbers (numbers_asked shape t ok)) sized (sound.each p s hp hs) header_room body_room short named in
        record {
          value_is =
              lifted_value shape t out_header out_body peer p s a ok size hp hs
              ∙ ap (λ (x : Cell). record {
                clock = next_tick (get_or t.numbers 0 0);
                recs = set (recs_from shape t 0 shape.max_peers) p (record { bound = true; muid = peer; cells = set (rec_at shape t p).cells s x });
              })
              (q ∙ ap (λ (j : Judged). cell_with c.request_id j.left) told_is);
          answer_is = o.0 ∙ ap (λ (j : Judged). told_answer j.answer) told_is;
          out_header_is = o.1 ∙ ap (λ (j : Judged). header_out j.answer out_header) told_is;
          out_body_is = o.2 ∙ ap (λ (j : Judged). body_out j.answer out_body) told_is;
          long = lifted_long shape t out_header out_body peer p s a ok size hp hs;
        }

    reach_value : FeedValue shape out_header out_body (take_cell shape v peer c now_ms p (rec_at shape t p) s) (reach shape m₀ peer c now_ms p s)
    reach_value = subst (FeedValue shape out_header out_body (take_cell shape v peer c now_ms p (rec_at shape t p) s)) (sym reach_is) there

  in_slot_law : (p : ℕ) → p < shape.max_peers → (o : Option ℕ) → slot_for t.numbers p c.request_id ≡ o
      → FeedValue shape out_header out_body (take_rec shape v peer c now_ms p (rec_at shape t p) o) (in_slot o shape m₀ peer c now_ms p)
  unfolding take_rec
  in_slot_law p hp None e = record { value_is = refl; answer_is = refl; out_header_is = refl; out_body_is = refl; long = ok }
  in_slot_law p hp (Some s) e = let hs = slot_for_below t.numbers p c.request_id s e in reach_value p s hp hs

  in_record_law : (o : Option ℕ) → record_for shape t.numbers peer ≡ o
      → FeedValue shape out_header out_body (take_at shape v peer c now_ms o) (in_record o shape m₀ peer c now_ms)
  unfolding take_at value_of
  in_record_law None e = record { value_is = refl; answer_is = refl; out_header_is = refl; out_body_is = refl; long = ok }
  in_record_law (Some p) e =
      let hp = record_for_below shape t.numbers peer p e in
      let r : FeedLeft = in_slot (slot_for t.numbers p c.request_id) shape m₀ peer c now_ms p in
      subst (λ (x : Rec). FeedValue shape out_header out_body (take_rec shape v peer c now_ms p x (choose_cell c.request_id x.cells)) r)
      (sym (rec_at_law shape t shape.max_peers p hp))
      (subst (λ (o : Option ℕ). FeedValue shape out_header out_body (take_rec shape v peer c now_ms p (rec_at shape t p) o) r)
      (slot_for_is shape t p c.request_id)
      (in_slot_law p hp (slot_for t.numbers p c.request_id) refl))

  pub feed_value : FeedValue shape out_header out_body (takes shape v peer c now_ms) (at_table shape m₀ peer c now_ms)
  unfolding takes at_table value_of
  feed_value =
      subst (λ (o : Option ℕ). FeedValue shape out_header out_body (take_at shape v peer c now_ms o)
      (in_record (record_for shape t.numbers peer) shape m₀ peer c now_ms))
      (record_for_is shape t peer) (in_record_law (record_for shape t.numbers peer) refl)
