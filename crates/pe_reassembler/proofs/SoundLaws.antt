-- Question 31 has a yes of every slot that `new` and the calls leave, refused or not; a slot that is not open knows no header and no count; a
-- header that is not set has no length.
-- Assumes nothing.
use Prim.Native.Nat.{ℕ, ◌*◌, ◌≤◌, ◌<◌}
use mathlib.Core.Bool.{Bool, true, false, cond, ◌&&◌}
use mathlib.Core.List.{List}
use mathlib.Core.Logic.{◌⊎◌, inl, inr}
use Rattle.std.specs.Prelude.{Option, None, Some}
use mathlib.Core.Path.{◌≡◌, refl, ◌∙◌, subst}
use native.Mathlib.Omega.{arith}
use borrow.Author.Tests.{le-leb, eqb-true, eqb-false}
use lib.Dec.{leb, eqb}
use lib.ListN.{length, drop, replicate}
use Rattle.seven_bit.specs.Reply.{Reply, granted, refused}
use Rattle.seven_bit.proofs.ReplyLaws.{both, and_told}
use Rattle.midici_core.specs.Message.{Message, read_message}
use Rattle.pe_frame.specs.Chunk.{Chunk, Fields, read_fields, chunk_of}
use Rattle.pe_frame.proofs.RoundTrip.{read_told, read_in_range}
use Rattle.pe_wire.proofs.RoundTrip.{read_small}
use Rattle.pe_slot.specs.Memory.{slot_of, words_of, ends_at, is_sound}
use Rattle.pe_slot.specs.Feed.{SlotLeft, closed_slot}
use Rattle.pe_slot.proofs.FeedTheorems.{sound_again}
use Rattle.pe_slot.specs.Layout.{slot_words}
use Rattle.pe_reassembler.specs.declared.shape.Shape.{Shape}
use Rattle.pe_reassembler.specs.Calls.{on_record, new_call, close_at, cancel_in, cancel_at, cancel_call, drop_at, drop_call}
use Rattle.pe_reassembler.specs.Feed.{Memory, words_part, room_part, slot_reached, lifted, reach, in_slot, in_record, at_table, chunk_read, has_all, feed_call, message_read, message_call}
use Rattle.pe_reassembler.specs.Poll.{is_due, close_due, poll_call}
use Rattle.pe_reassembler.specs.Table.{numbers_len, has_numbers, has_rooms, is_active, is_muid, record_of, record_for, slot_open, slot_for}
pub use Rattle.pe_reassembler.specs.Sound.{Blank, Headed, SlotSound, SlotsSound}
use Rattle.pe_reassembler.proofs.Effects.{Sized, lifted_words, lifted_words_other, lifted_index, lifted_index_other}
use Rattle.pe_reassembler.proofs.EffectsClose.{close_words, close_words_other, due_words_law, drop_words, drop_words_other}
use Rattle.pe_reassembler.proofs.EffectsNew.{new_words}
use Rattle.pe_reassembler.proofs.FeedLaws.{slot_fed_law}
use Rattle.pe_reassembler.proofs.SlotLengths.{reached_blank, reached_headed, reached_sized, sound_rooms}
use Rattle.pe_reassembler.proofs.TableLaws.{numbers_long, record_of_below, record_for_below, slot_open_below, slot_for_below}

-- a slot that is closed
closed_sound : (H B R : ℕ) (words records : List ℕ) → SlotSound H B R (words_of (closed_slot (slot_of words))) records
unfolding is_sound ends_at
closed_sound H B R words records =
    record {
      sound = rw (le-leb 0 H (omega arith), le-leb 0 R (omega arith), le-leb 0 B (omega arith));
      blank = λ (z : _). (refl, refl);
      headed = λ (z : _). refl;
    }

closed_if : (H B R : ℕ) (words records : List ℕ) (b : Bool) → SlotSound H B R words records → SlotSound H B R (cond b (words_of (closed_slot (slot_of words))) words) records
closed_if H B R words records true s = closed_sound H B R words records
closed_if H B R words records false s = s

-- numbers are the same, or not; and places
equal_or : (a b : ℕ) → (a ≡ b) ⊎ (a ≡ b → ⊥)
equal_or a b = go (both (eqb a b))
  where
    go : (eqb a b ≡ true) ⊎ (eqb a b ≡ false) → (a ≡ b) ⊎ (a ≡ b → ⊥)
    go (inl e) = inl (eqb-true _ _ e)
    go (inr e) = inr (eqb-false _ _ e)

same_or : (p s q t : ℕ) → ((q ≡ p) × (t ≡ s)) ⊎ (q ≡ p → t ≡ s → ⊥)
same_or p s q t = go (equal_or q p) (equal_or t s)
  where
    go : (q ≡ p) ⊎ (q ≡ p → ⊥) → (t ≡ s) ⊎ (t ≡ s → ⊥) → ((q ≡ p) × (t ≡ s)) ⊎ (q ≡ p → t ≡ s → ⊥)
    go (inl a) (inl b) = inl (a, b)
    go (inl a) (inr b) = inr (λ (x : q ≡ p) (y : t ≡ s). b y)
    go (inr a) b = inr (λ (x : q ≡ p) (y : t ≡ s). a x)

-- `new` makes it
pub sound_new : (shape : Shape) (numbers index headers arenas : List ℕ) → has_rooms shape numbers index headers arenas ≡ true
    → SlotsSound shape (new_call shape numbers index headers arenas).numbers (new_call shape numbers index headers arenas).index
sound_new shape numbers index headers arenas h =
    record {
      each = λ (p s : ℕ) (k : p < shape.max_peers) (l : s < 4).
          rw (new_words shape numbers index headers arenas h p s k l) (closed_sound _ _ _ (replicate slot_words 0) _);
    }

-- the calls that close keep it
module _ (shape : Shape) (numbers index : List ℕ) (a : SlotsSound shape numbers index) where
  sound_closing : (p s : ℕ) → numbers_len shape ≤ length numbers → p < shape.max_peers → s < 4 → SlotsSound shape (close_at p s numbers) index
  sound_closing p s h k l = record { each = λ (q t : ℕ) (b : q < shape.max_peers) (g : t < 4). go q t b g (same_or p s q t) }
    where
      go : (q t : ℕ) → q < shape.max_peers → t < 4 → ((q ≡ p) × (t ≡ s)) ⊎ (q ≡ p → t ≡ s → ⊥)
          → SlotSound shape.header_bytes shape.tx_bytes shape.fragment_records (words_part (close_at p s numbers) q t) (room_part shape.fragment_records index q t)
      go q t b g (inl e) = rw (e.0, e.1, close_words shape numbers h p s k l) (closed_sound _ _ _ (words_part numbers p s) _)
      go q t b g (inr d) = rw (close_words_other shape numbers h p s k l q t b g d) (a.each q t b g)

  pub sound_cancel : (peer request_id : ℕ) → SlotsSound shape (cancel_call shape numbers peer request_id).numbers index
  unfolding cancel_call
  sound_cancel peer request_id = go (has_numbers shape numbers) refl (is_muid peer) (record_of shape numbers peer) refl
    where
      in_record_law : (p : ℕ) → has_numbers shape numbers ≡ true → record_of shape numbers peer ≡ Some p
          → (o : Option ℕ) → slot_open numbers p request_id ≡ o → SlotsSound shape (cancel_in o p numbers).numbers index
      in_record_law p h f None g = a
      in_record_law p h f (Some s) g =
          sound_closing p s (numbers_long shape numbers h).1 (record_of_below shape numbers peer p f) (slot_open_below numbers p request_id s g)

      go : (b : Bool) → has_numbers shape numbers ≡ b → (d : Bool) (o : Option ℕ) → record_of shape numbers peer ≡ o
          → SlotsSound shape
          (on_record (cond b (cond d (granted o) (refused 28 0)) (refused 30 0)) (λ (x : Option ℕ). cancel_at x request_id numbers) numbers).numbers index
      go false h d o f = a
      go true h false o f = a
      go true h true None f = a
      go true h true (Some p) f = in_record_law p h f (slot_open numbers p request_id) refl

  pub sound_drop : (peer : ℕ) → SlotsSound shape (drop_call shape numbers peer).numbers index
  unfolding drop_call
  sound_drop peer = go (has_numbers shape numbers) refl (is_muid peer) (record_of shape numbers peer) refl
    where
      slot : (p : ℕ) → numbers_len shape ≤ length numbers → p < shape.max_peers → (q t : ℕ) → q < shape.max_peers → t < 4 → (q ≡ p) ⊎ (q ≡ p → ⊥)
          → SlotSound shape.header_bytes shape.tx_bytes shape.fragment_records (words_part (drop_at (Some p) numbers).numbers q t)
          (room_part shape.fragment_records index q t)
      slot p h k q t b g (inl e) =
          rw (e, drop_words shape numbers h p k t g) (closed_if _ _ _ (words_part numbers p t) _ (is_active numbers p t) (a.each p t k g))
      slot p h k q t b g (inr d) = rw (drop_words_other shape numbers h p k q t b g d) (a.each q t b g)

      dropped : (p : ℕ) → has_numbers shape numbers ≡ true → record_of shape numbers peer ≡ Some p → SlotsSound shape (drop_at (Some p) numbers).numbers index
      dropped p h f =
          record {
            each = λ (q t : ℕ) (b : q < shape.max_peers) (g : t < 4).
                slot p (numbers_long shape numbers h).1 (record_of_below shape numbers peer p f) q t b g (equal_or q p);
          }

      go : (b : Bool) → has_numbers shape numbers ≡ b → (d : Bool) (o : Option ℕ) → record_of shape numbers peer ≡ o
          → SlotsSound shape (on_record (cond b (cond d (granted o) (refused 28 0)) (refused 30 0)) (λ (x : Option ℕ). drop_at x numbers) numbers).numbers index
      go false h d o f = a
      go true h false o f = a
      go true h true None f = a
      go true h true (Some p) f = dropped p h f

  pub sound_poll : (now_ms : ℕ) (out_peers out_ids : List ℕ) → SlotsSound shape (poll_call shape numbers now_ms out_peers out_ids).numbers index
  unfolding poll_call
  sound_poll now_ms out_peers out_ids =
      go (both (has_numbers shape numbers && leb (4 * shape.max_peers) (length out_peers) && leb (4 * shape.max_peers) (length out_ids)))
    where
      due : has_numbers shape numbers ≡ true → SlotsSound shape (close_due now_ms 0 0 (4 * shape.max_peers) numbers) index
      due h =
          record {
            each = λ (q t : ℕ) (b : q < shape.max_peers) (g : t < 4).
                rw (due_words_law shape numbers (numbers_long shape numbers h).1 now_ms q t b g)
                (closed_if _ _ _ (words_part numbers q t) _ (is_due numbers now_ms q t) (a.each q t b g));
          }

      go : ((has_numbers shape numbers && leb (4 * shape.max_peers) (length out_peers) && leb (4 * shape.max_peers) (length out_ids)) ≡ true)
          ⊎ ((has_numbers shape numbers && leb (4 * shape.max_peers) (length out_peers) && leb (4 * shape.max_peers) (length out_ids)) ≡ false)
          → SlotsSound shape (poll_call shape numbers now_ms out_peers out_ids).numbers index
      go (inl e) = rw e (due (and_told _ _ (and_told _ _ e).0).0)
      go (inr e) = rw e a

-- a feed keeps it
rooms_of : (shape : Shape) (m : Memory) → has_all shape m ≡ true → has_rooms shape m.numbers m.index m.headers m.arenas ≡ true
unfolding has_all
rooms_of shape m e = (and_told _ _ (and_told _ _ e).0).0

module _ (shape : Shape) (m : Memory) (peer now_ms : ℕ) (e : has_all shape m ≡ true) (a : SlotsSound shape m.numbers m.index) where
  h : has_rooms shape m.numbers m.index m.headers m.arenas ≡ true
  h = rooms_of shape m e

  -- the slot that a chunk reaches
  module _ (c : Chunk) (short : length c.property ≤ 16383) (named : c.chunk_num < 65536) (p s : ℕ) (k : p < shape.max_peers) (l : s < 4) where
    abbrev words : List ℕ
    words = words_part m.numbers p s

    abbrev records : List ℕ
    records = room_part shape.fragment_records m.index p s

    abbrev slot_reached_here : SlotLeft
    slot_reached_here = slot_reached shape m c now_ms p s

    sized : Sized shape slot_reached_here
    sized = reached_sized shape m p s h k l c now_ms (a.each p s k l).sound

    sound_after : is_sound (length slot_reached_here.header) (length slot_reached_here.arena) (length slot_reached_here.index) (slot_of slot_reached_here.words) slot_reached_here.index ≡ true
    sound_after =
        subst (λ (x : SlotLeft). is_sound (length x.header) (length x.arena) (length x.index) (slot_of x.words) x.index ≡ true)
        (slot_fed_law shape m peer c now_ms p s e k l (a.each p s k l).sound short)
        (sound_again words records _ _ c now_ms _ m.out_header m.out_body named
        (sound_rooms shape m p s h k l (slot_of words) records ∙ (a.each p s k l).sound))

    sound_reached : SlotSound shape.header_bytes shape.tx_bytes shape.fragment_records slot_reached_here.words slot_reached_here.index
    sound_reached =
        record {
          sound = rw (sized.header_bytes, sized.tx_bytes, sized.records) at sound_after;
          blank = reached_blank words records _ _ c now_ms _ m.out_header m.out_body;
          headed = reached_headed words records _ _ c now_ms _ m.out_header m.out_body (a.each p s k l).headed;
        }

    sound_lifted : SlotsSound shape (lifted shape m peer p s slot_reached_here).memory.numbers (lifted shape m peer p s slot_reached_here).memory.index
    sound_lifted = record { each = λ (q t : ℕ) (b : q < shape.max_peers) (g : t < 4). go q t b g (same_or p s q t) }
      where
        go : (q t : ℕ) → q < shape.max_peers → t < 4 → ((q ≡ p) × (t ≡ s)) ⊎ (q ≡ p → t ≡ s → ⊥)
            → SlotSound shape.header_bytes shape.tx_bytes shape.fragment_records (words_part (lifted shape m peer p s slot_reached_here).memory.numbers q t)
            (room_part shape.fragment_records (lifted shape m peer p s slot_reached_here).memory.index q t)
        go q t b g (inl e) = rw (e.0, e.1, lifted_words shape m peer p s slot_reached_here h sized k l, lifted_index shape m peer p s slot_reached_here h sized k l) sound_reached
        go q t b g (inr d) =
            rw (lifted_words_other shape m peer p s slot_reached_here h sized k l q t b g d, lifted_index_other shape m peer p s slot_reached_here h sized k l q t b g d) (a.each q t b g)

    sound_reach : SlotsSound shape (reach shape m peer c now_ms p s).memory.numbers (reach shape m peer c now_ms p s).memory.index
    unfolding reach
    sound_reach = rw (a.each p s k l).sound sound_lifted

  sound_table : (c : Chunk) → length c.property ≤ 16383 → c.chunk_num < 65536 → SlotsSound shape (at_table shape m peer c now_ms).memory.numbers (at_table shape m peer c now_ms).memory.index
  unfolding at_table
  sound_table c short named = go (record_for shape m.numbers peer) refl
    where
      in_record_law : (p : ℕ) → p < shape.max_peers → (o : Option ℕ) → slot_for m.numbers p c.request_id ≡ o
          → SlotsSound shape (in_slot o shape m peer c now_ms p).memory.numbers (in_slot o shape m peer c now_ms p).memory.index
      in_record_law p k None g = a
      in_record_law p k (Some s) g = sound_reach c short named p s k (slot_for_below m.numbers p c.request_id s g)

      go : (o : Option ℕ) → record_for shape m.numbers peer ≡ o
          → SlotsSound shape (in_record o shape m peer c now_ms).memory.numbers (in_record o shape m peer c now_ms).memory.index
      go None f = a
      go (Some p) f = in_record_law p (record_for_below shape m.numbers peer p f) (slot_for m.numbers p c.request_id) refl

  -- a chunk that is read has a number of 14 bits
  sound_chunk : (data' : List ℕ) → SlotsSound shape (chunk_read (read_fields data') shape m peer data' now_ms).memory.numbers
      (chunk_read (read_fields data') shape m peer data' now_ms).memory.index
  sound_chunk data' = go (read_fields data') refl
    where
      go : (r : Reply Fields) → read_fields data' ≡ r → SlotsSound shape (chunk_read r shape m peer data' now_ms).memory.numbers (chunk_read r shape m peer data' now_ms).memory.index
      go (granted f) q =
          sound_table (chunk_of data' f) (read_in_range data' f q).property_len (let n = read_small _ _ (read_told data' f q).number in omega arith)
      go (refused number value) q = a

module _ (shape : Shape) (m : Memory) (a : SlotsSound shape m.numbers m.index) where
  pub sound_feed : (peer : ℕ) (data' : List ℕ) (now_ms : ℕ)
      → SlotsSound shape (feed_call shape m peer data' now_ms).memory.numbers (feed_call shape m peer data' now_ms).memory.index
  unfolding feed_call
  sound_feed peer data' now_ms = go (both (has_all shape m)) (both (is_muid peer))
    where
      go : (has_all shape m ≡ true) ⊎ (has_all shape m ≡ false) → (is_muid peer ≡ true) ⊎ (is_muid peer ≡ false)
          → SlotsSound shape (feed_call shape m peer data' now_ms).memory.numbers (feed_call shape m peer data' now_ms).memory.index
      go (inl e) (inl f) = rw (e, f) (sound_chunk shape m peer now_ms e a data')
      go (inl e) (inr f) = rw (e, f) a
      go (inr e) f = rw e a

  pub sound_message : (body : List ℕ) (now_ms : ℕ) → SlotsSound shape (message_call shape m body now_ms).memory.numbers (message_call shape m body now_ms).memory.index
  unfolding message_call
  sound_message body now_ms = go (both (has_all shape m))
    where
      read : has_all shape m ≡ true → (r : Reply Message) → SlotsSound shape (message_read r shape m body now_ms).memory.numbers (message_read r shape m body now_ms).memory.index
      read e (granted x) = sound_chunk shape m x.header.source now_ms e a (drop 13 body)
      read e (refused number value) = a

      go : (has_all shape m ≡ true) ⊎ (has_all shape m ≡ false)
          → SlotsSound shape (message_call shape m body now_ms).memory.numbers (message_call shape m body now_ms).memory.index
      go (inl e) = rw e (read e (read_message body))
      go (inr e) = rw e a
