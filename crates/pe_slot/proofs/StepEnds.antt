-- The laws of a feed's ends: memory is sound after each step, and what a step leaves at a no, or the last one, is what the slot's questions say.
-- Assumes nothing.
use Rattle.std.proofs.Common.{◌≡◌, ℕ, ◌+◌, ◌<◌, ◌≤◌, Bool, true, false, cond, ◌&&◌, ◌||◌, eqb, ltb, leb, List, length, take, set, sym, refl, ap, ◌∙◌, subst, arith, length-set, ltb-true, leb-true}
use Rattle.seven_bit.specs.Parts.{splice}
use Rattle.seven_bit.specs.Reply.{Reply, granted, refused, ◌else◌then◌}
use Rattle.seven_bit.proofs.PartLaws.{length_splice}
use Rattle.pe_frame.specs.Chunk.{Chunk}
use Rattle.pe_slot.specs.declared.layout.TxSlot.{TxSlot}
use Rattle.pe_slot.specs.Layout.{num_chunks_at, header_set_at, header_len_at, index_len_at, property_bytes_at}
use Rattle.pe_slot.specs.Slot.{Verdict, eq_list, judge}
use Rattle.pe_slot.specs.Memory.{slot_of, words_of, packed, contents}
use Rattle.pe_slot.specs.Records.{holds, up_to}
use Rattle.pe_slot.specs.Feed.{cleared, Told, still, SlotLeft, slot_left, placed}
use Rattle.pe_slot.specs.Steps.{Ready, HeaderTaken, header_taken, take_header, CountTaken, count_taken, take_count, PieceAdded, piece_added, add_piece, Finished, finished, finish_of}
use Rattle.pe_slot.proofs.SlotMemory.{ends_grown}
use Rattle.pe_slot.proofs.SlotWords.{words_slot}
use Rattle.pe_slot.proofs.JudgeLaws.{asked_as, judge_is}
use Rattle.pe_slot.proofs.StepLaws.{after_piece, after_count, after_header, as_header}

-- memory stays sound from step to step
module _ (t : TxSlot) {index header arena out_header out_body : List ℕ} (ready : Ready (words_of t) index header arena out_header out_body) where
  header_ready : (number : ℕ) (new : List ℕ) → (let k = take_header (words_of t) header number new in Ready k.words index k.header arena out_header out_body)
  unfolding take_header
  header_ready number new = go (eqb number 1) (leb (length new) (length header)) refl (eqb t.header_set 0) (eq_list (take t.header_len header) new)
    where
      go : (o f : Bool) → leb (length new) (length header) ≡ f → (u s : Bool)
          → (let k : HeaderTaken =
          cond o
          (cond f
          (cond u (header_taken (granted still) (set (set (words_of t) header_set_at 1) header_len_at (length new)) (splice 0 (length new) header new))
          (cond s (header_taken (granted still) (words_of t) header) (header_taken (refused 8 0) (words_of t) header)))
          (header_taken (refused 4 0) (words_of t) header))
          (header_taken (granted still) (words_of t) header) in
          Ready k.words index k.header arena out_header out_body)
      go false f ef u s = ready
      go true false ef u s = ready
      go true true ef false true = ready
      go true true ef false false = ready
      go true true ef true s =
          let l : length new ≤ length header = leb-true (length new) (length header) ef in
          let n : length (splice 0 (length new) header new) ≡ length header = length_splice 0 (length new) header new (omega arith) refl in
          record {
            nine = refl;
            head = rw n l;
            held = ready.held;
            records = ready.records;
            ends = ready.ends;
            body = ready.body;
            bytes = ready.bytes;
            header_room = rw n ready.header_room;
            body_room = ready.body_room;
          }

  count_ready : (count number : ℕ) → Ready (take_count (words_of t) index count number).words index header arena out_header out_body
  unfolding take_count
  count_ready count number = go (eqb t.num_chunks 0) (eqb count 0) (up_to count (take t.index_len index))
    where
      go : (k n u : Bool)
          → (let x : CountTaken =
          cond k
          (cond n (count_taken (granted still) (words_of t))
          (cond u (count_taken (granted still) (set (words_of t) num_chunks_at count)) (count_taken (refused 8 0) (words_of t))))
          (count_taken ((eqb count 0 || eqb t.num_chunks count) && leb number t.num_chunks else 8 then granted still) (words_of t)) in
          Ready x.words index header arena out_header out_body)
      go false n u = ready
      go true true u = ready
      go true false false = ready
      go true false true =
          record {
            nine = refl;
            head = ready.head;
            held = ready.held;
            records = ready.records;
            ends = ready.ends;
            body = ready.body;
            bytes = ready.bytes;
            header_room = ready.header_room;
            body_room = ready.body_room;
          }

  piece_ready : (number : ℕ) (property : List ℕ) (held : Bool) → number < 65536 → length property < 65536
      → (let k = add_piece (words_of t) index arena number property held in k.answer ≡ granted still → Ready k.words k.index header k.arena out_header out_body)
  unfolding add_piece
  piece_ready number property held named short =
      go (eqb number 0) held (ltb t.index_len (length index)) refl (leb (t.property_bytes + length property) (length arena)) refl
    where
      not_yes : {A : Type 0} (number : ℕ) → ◌≡◌ {A = Reply Told} (refused number 0) (granted still) → A
      not_yes number q = absurd (let z : ◌≡◌ {A = ℕ} 0 1 = cc in omega arith)

      go : (z h f : Bool) → ltb t.index_len (length index) ≡ f → (r : Bool) → leb (t.property_bytes + length property) (length arena) ≡ r
          → (let k : PieceAdded =
          cond z (piece_added (refused 8 0) (cleared (words_of t)) index arena)
          (cond h (piece_added (refused 8 0) (words_of t) index arena)
          (cond f
          (cond r
          (piece_added (granted still) (set (set (words_of t) index_len_at (t.index_len + 1)) property_bytes_at (t.property_bytes + length property))
          (set index t.index_len (packed number (length property) t.property_bytes)) (splice t.property_bytes (length property) arena property))
          (piece_added (refused 5 0) (cleared (words_of t)) index arena))
          (piece_added (refused 5 0) (words_of t) index arena))) in
          k.answer ≡ granted still → Ready k.words k.index header k.arena out_header out_body)
      go true h f ef r er q = not_yes 8 q
      go false true f ef r er q = not_yes 8 q
      go false false false ef r er q = not_yes 5 q
      go false false true ef false er q = not_yes 5 q
      go false false true ef true er q =
          let few : t.index_len < length index = ltb-true t.index_len (length index) ef in
          let room : t.property_bytes + length property ≤ length arena = leb-true (t.property_bytes + length property) (length arena) er in
          let li : length (set index t.index_len (packed number (length property) t.property_bytes)) ≡ length index = simp length-set in
          let lb : length (splice t.property_bytes (length property) arena property) ≡ length arena = length_splice t.property_bytes (length property) arena property room refl in
          record {
            nine = refl;
            head = ready.head;
            held = rw li (omega arith);
            records = rw li ready.records;
            ends = ends_grown index arena t.index_len t.property_bytes number property few ready.ends room named short;
            body = rw lb room;
            bytes = rw lb ready.bytes;
            header_room = ready.header_room;
            body_room = rw lb ready.body_room;
          }

-- a chunk that reaches a sound slot
pub record Reaching (words index header arena : List ℕ) (c : Chunk) (held : Bool) (out_header out_body : List ℕ) : Type 0 where
  pub ready : Ready words index header arena out_header out_body
  pub named : c.chunk_num < 65536
  pub short : length c.property ≤ 16383
  pub holding : held ≡ holds c.chunk_num (take (slot_of words).index_len index)

-- what the steps leave, at each of their ends, is what the slot's questions say
module _ {words index header arena : List ℕ} {c : Chunk} {held : Bool} {out_header out_body : List ℕ} (r : Reaching words index header arena c held out_header out_body) where
  short_piece : length c.property < 65536
  short_piece = let s = r.short in omega arith

  abbrev said : SlotLeft
  said = placed (slot_of words) index header arena c (judge (length header) (length arena) (length index) (contents (slot_of words) index header arena) c) out_header out_body

  fed_steps : after_header index header arena c held out_header out_body (take_header words header c.chunk_num c.header) ≡ said
  fed_steps =
      ap (λ (w : List ℕ). after_header index header arena c held out_header out_body (take_header w header c.chunk_num c.header)) (words_slot words r.ready.nine)
      ∙ as_header index header arena c held out_header out_body (slot_of words) r.ready.ends r.named short_piece
      ∙ ap (λ (b : Bool). placed (slot_of words) index header arena c (asked_as (slot_of words) index header arena c b) out_header out_body) r.holding
      ∙ ap (λ (v : Verdict). placed (slot_of words) index header arena c v out_header out_body)
      (sym (judge_is (slot_of words) index header arena c r.ready.held r.ready.ends r.ready.body))

  pub header_no : {number value : ℕ} {w h : List ℕ} → header_taken (refused number value) w h ≡ take_header words header c.chunk_num c.header
      → slot_left (refused number value) w index h arena out_header out_body ≡ said
  header_no k = ap (after_header index header arena c held out_header out_body) k ∙ fed_steps

  -- a header that was taken
  module _ {w h : List ℕ} (k : header_taken (granted still) w h ≡ take_header words header c.chunk_num c.header) where
    after_taken : after_count index header arena c held out_header out_body (take_count w index c.num_chunks c.chunk_num) h ≡ said
    after_taken = ap (after_header index header arena c held out_header out_body) k ∙ fed_steps

    pub ready_header : Ready w index h arena out_header out_body
    ready_header =
        subst (λ (x : HeaderTaken). Ready x.words index x.header arena out_header out_body) (sym k)
        (subst (λ (v : List ℕ). let x = take_header v header c.chunk_num c.header in Ready x.words index x.header arena out_header out_body) (sym (words_slot words r.ready.nine))
        (header_ready (slot_of words) (subst (λ (v : List ℕ). Ready v index header arena out_header out_body) (words_slot words r.ready.nine) r.ready) c.chunk_num c.header))

    pub count_no : {number value : ℕ} {v : List ℕ} → count_taken (refused number value) v ≡ take_count w index c.num_chunks c.chunk_num
        → slot_left (refused number value) v index h arena out_header out_body ≡ said
    count_no l = ap (λ (x : CountTaken). after_count index header arena c held out_header out_body x h) l ∙ after_taken

    -- and a count
    module _ {v : List ℕ} (l : count_taken (granted still) v ≡ take_count w index c.num_chunks c.chunk_num) where
      after_counted : after_piece index header arena c held out_header out_body (add_piece v index arena c.chunk_num c.property held) h ≡ said
      after_counted = ap (λ (x : CountTaken). after_count index header arena c held out_header out_body x h) l ∙ after_taken

      pub ready_count : Ready v index h arena out_header out_body
      ready_count =
          let e = words_slot w ready_header.nine in
          subst (λ (x : CountTaken). Ready x.words index h arena out_header out_body) (sym l)
          (subst (λ (x : List ℕ). Ready (take_count x index c.num_chunks c.chunk_num).words index h arena out_header out_body) (sym e)
          (count_ready (slot_of w) (subst (λ (x : List ℕ). Ready x index h arena out_header out_body) e ready_header) c.num_chunks c.chunk_num))

      pub piece_no : {number value : ℕ} {x i m : List ℕ} → piece_added (refused number value) x i m ≡ add_piece v index arena c.chunk_num c.property held
          → slot_left (refused number value) x i h m out_header out_body ≡ said
      piece_no n = ap (λ (z : PieceAdded). after_piece index header arena c held out_header out_body z h) n ∙ after_counted

      -- and a piece
      module _ {x i m : List ℕ} (n : piece_added (granted still) x i m ≡ add_piece v index arena c.chunk_num c.property held) where
        pub ready_piece : Ready x i h m out_header out_body
        ready_piece =
            let w = words_slot v ready_count.nine in
            subst (λ (z : PieceAdded). z.answer ≡ granted still → Ready z.words z.index h z.arena out_header out_body) (sym n)
            (subst (λ (u : List ℕ). let z = add_piece u index arena c.chunk_num c.property held in z.answer ≡ granted still → Ready z.words z.index h z.arena out_header out_body) (sym w)
            (piece_ready (slot_of v) (subst (λ (u : List ℕ). Ready u index h arena out_header out_body) w ready_count) c.chunk_num c.property held r.named short_piece))
            refl

        pub all_passed : {q : Reply Told} {y oh ob : List ℕ} → finished q y oh ob ≡ finish_of x (contents (slot_of x) i h m) out_header out_body → slot_left q y i h m oh ob ≡ said
        all_passed e =
            ap (λ (f : Finished). slot_left f.answer f.words i h m f.out_header f.out_body) e
            ∙ ap (λ (z : PieceAdded). after_piece index header arena c held out_header out_body z h) n
            ∙ after_counted
