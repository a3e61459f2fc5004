-- What memory holds of one slot: the entry that is open in it, and the lengths of what it holds.
-- Assumes nothing.
use Prim.Native.Nat.{ℕ, ◌+◌, ◌*◌, ◌≤◌, ◌<◌}
use mathlib.Core.Bool.{Bool, true, false, cond, not}
use mathlib.Core.List.{List, [], ◌∷◌}
use mathlib.Core.Option.{none, some}
use mathlib.Core.Path.{◌≡◌, refl, sym, ap, ap₂, ◌∙◌}
use native.Mathlib.Omega.{arith}
use borrow.Author.Tests.{eqb-true}
use lib.Dec.{eqb}
use lib.ListN.{length, get_or, take, drop}
use lib.Seq.{length-take-le, get_or-take, get_or-drop}
use Rattle.pe_slot.specs.Layout.{slot_words, active_at, request_id_at, last_activity_at, lru_tick_at, header_set_at, header_len_at, index_len_at, property_bytes_at}
use Rattle.pe_slot.specs.Slot.{Slot, body_length}
use Rattle.pe_slot.specs.Memory.{slot_of, contents, is_sound}
use Rattle.pe_slot.proofs.FeedTheorems.{sound_told}
use Rattle.pe_slot.proofs.RecordLaws.{body_ends}
use Rattle.pe_slot.proofs.SlotMemory.{pieces_length}
use Rattle.pe_reassembler.specs.declared.shape.Shape.{Shape}
use Rattle.pe_reassembler.specs.Table.{peer_at, slot_at, is_active}
use Rattle.pe_reassembler.specs.Feed.{words_part, room_part}
use Rattle.pe_reassembler.proofs.SlotLengths.{records_length, header_length, arena_length}
use Rattle.pe_reassembler.proofs.SoundLaws.{SlotSound}
use Rattle.pe_run.specs.Model.{Open, Entry, Model, entry_of}
use Rattle.pe_run.specs.Calls.{header_len, entry_bytes}
use Rattle.pe_run.specs.Run.{Table, lent, LongFor}
use Rattle.pe_run.proofs.Value.{cell_of, cell_at, cell_open}

-- ---- the open entry
word_at : (numbers : List ℕ) (p s i : ℕ) → i < slot_words → get_or (words_part numbers p s) i 0 ≡ get_or numbers (slot_at p s + i) 0
word_at numbers p s i h = get_or-take slot_words (drop (slot_at p s) numbers) i 0 h ∙ get_or-drop (slot_at p s) numbers i 0

abbrev pub peer_in : Table → ℕ → ℕ
peer_in t p = get_or t.numbers (peer_at p + 1) 0

abbrev pub entry_at : Shape → Table → ℕ → ℕ → Entry
entry_at shape t p s =
    record {
      peer = peer_in t p;
      request_id = get_or t.numbers (slot_at p s + request_id_at) 0;
      state = record {
        time = get_or t.numbers (slot_at p s + last_activity_at) 0;
        tick = get_or t.numbers (slot_at p s + lru_tick_at) 0;
        slot =
            contents (slot_of (words_part t.numbers p s)) (room_part shape.fragment_records t.index p s)
            (room_part shape.header_bytes t.headers p s) (room_part shape.tx_bytes t.arenas p s);
      };
    }

abbrev entry_for : ℕ → ℕ → ℕ → Open → Model
entry_for peer active request_id o = cond (not (eqb active 0)) (record { peer = peer; request_id = request_id; state = o } ∷ []) []

open_cell : (peer : ℕ) (words index header arena : List ℕ)
    → cell_open peer (cell_of words index header arena)
    ≡ entry_for peer (get_or words active_at 0) (get_or words request_id_at 0)
    (record { time = get_or words last_activity_at 0; tick = get_or words lru_tick_at 0; slot = contents (slot_of words) index header arena })
unfolding cell_of
open_cell peer words index header arena = go (eqb (get_or words active_at 0) 0) (get_or words request_id_at 0) _
  where
    go : (b : Bool) (request_id : ℕ) (o : Open)
        → entry_of peer request_id (cond b none (some o)) ≡ cond (not b) (record { peer = peer; request_id = request_id; state = o } ∷ []) []
    go true request_id o = refl
    go false request_id o = refl

pub cell_open_law : (shape : Shape) (t : Table) (p s : ℕ)
    → cell_open (peer_in t p) (cell_at shape t p s) ≡ cond (is_active t.numbers p s) (entry_at shape t p s ∷ []) []
unfolding cell_at is_active
cell_open_law shape t p s =
    let w : List ℕ = words_part t.numbers p s in
    let x : Slot = (entry_at shape t p s).state.slot in
    let z : slot_at p s + 0 ≡ slot_at p s = omega arith in
    let a : get_or w active_at 0 ≡ get_or t.numbers (slot_at p s) 0 = word_at t.numbers p s 0 (omega arith) ∙ ap (λ (i : ℕ). get_or t.numbers i 0) z in
    open_cell (peer_in t p) w (room_part shape.fragment_records t.index p s) (room_part shape.header_bytes t.headers p s)
    (room_part shape.tx_bytes t.arenas p s)
    ∙ rw (
      a,
      word_at t.numbers p s request_id_at (omega arith),
      word_at t.numbers p s last_activity_at (omega arith),
      word_at t.numbers p s lru_tick_at (omega arith),
    )

-- ---- what a sound slot's words say of it
held_length : (H B R : ℕ) (words index header arena : List ℕ) → length index ≡ R → is_sound H B R (slot_of words) index ≡ true
    → length (contents (slot_of words) index header arena).pieces ≡ get_or words index_len_at 0
unfolding contents
held_length H B R words index header arena l e =
    let s = sound_told _ _ _ (slot_of words) index e in
    let h : get_or words index_len_at 0 ≤ length index = rw l s.held in
    pieces_length (take (get_or words index_len_at 0) index) arena ∙ length-take-le (get_or words index_len_at 0) index h

body_held : (H B R : ℕ) (words index header arena : List ℕ) → length arena ≡ B → is_sound H B R (slot_of words) index ≡ true
    → body_length (contents (slot_of words) index header arena).pieces ≡ get_or words property_bytes_at 0
unfolding contents
body_held H B R words index header arena l e =
    let s = sound_told _ _ _ (slot_of words) index e in
    body_ends (take (get_or words index_len_at 0) index) arena (get_or words property_bytes_at 0) s.ends (rw l s.body)

header_held : (H B R : ℕ) (words index header arena : List ℕ) → length header ≡ H → is_sound H B R (slot_of words) index ≡ true
    → (get_or words header_set_at 0 ≡ 0 → get_or words header_len_at 0 ≡ 0)
    → header_len (contents (slot_of words) index header arena).header ≡ get_or words header_len_at 0
unfolding contents
header_held H B R words index header arena l e blank =
    let s = sound_told _ _ _ (slot_of words) index e in
    let h : get_or words header_len_at 0 ≤ length header = rw l s.head in
    go (eqb (get_or words header_set_at 0) 0) refl (length-take-le (get_or words header_len_at 0) header h)
  where
    go : (b : Bool) → eqb (get_or words header_set_at 0) 0 ≡ b → length (take (get_or words header_len_at 0) header) ≡ get_or words header_len_at 0
        → header_len (cond b none (some (take (get_or words header_len_at 0) header))) ≡ get_or words header_len_at 0
    go true q h = sym (blank (eqb-true _ _ q))
    go false q h = h

-- ---- of a table whose memory is long enough
abbrev SoundAt : Shape → Table → ℕ → ℕ → Type 0
SoundAt shape t p s =
    SlotSound shape.header_bytes shape.tx_bytes shape.fragment_records (words_part t.numbers p s)
    (room_part shape.fragment_records t.index p s)

module _ (shape : Shape) (t : Table) (long : LongFor shape t) (p s : ℕ) (h : p < shape.max_peers) (k : s < 4) where
  pub entry_held : SoundAt shape t p s → length (entry_at shape t p s).state.slot.pieces ≡ get_or t.numbers (slot_at p s + index_len_at) 0
  entry_held e =
      held_length _ _ _ (words_part t.numbers p s) (room_part shape.fragment_records t.index p s) _ _
      (records_length shape (lent t [] []) p s long h k) e.sound
      ∙ word_at t.numbers p s index_len_at (omega arith)

  pub entry_bytes_law : SoundAt shape t p s
      → entry_bytes (entry_at shape t p s)
      ≡ get_or t.numbers (slot_at p s + header_len_at) 0 + get_or t.numbers (slot_at p s + property_bytes_at) 0 + 8 * get_or t.numbers (slot_at p s + index_len_at) 0
  entry_bytes_law e =
      let w : List ℕ = words_part t.numbers p s in
      let i : List ℕ = room_part shape.fragment_records t.index p s in
      let head : List ℕ = room_part shape.header_bytes t.headers p s in
      let body : List ℕ = room_part shape.tx_bytes t.arenas p s in
      ap₂ (λ (x y : ℕ). x + y)
      (ap₂ (λ (x y : ℕ). x + y)
      (header_held _ _ _ w i head body (header_length shape (lent t [] []) p s long h k) e.sound e.headed ∙ word_at t.numbers p s header_len_at (omega arith))
      (body_held _ _ _ w i head body (arena_length shape (lent t [] []) p s long h k) e.sound ∙ word_at t.numbers p s property_bytes_at (omega arith)))
      (ap (λ (x : ℕ). 8 * x) (entry_held e))
