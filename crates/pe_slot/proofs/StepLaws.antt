-- The laws of the steps one after the other: they ask a slot's questions in their order.
-- Assumes nothing.
use Rattle.std.proofs.Common.{◌≡◌, ℕ, ◌+◌, ◌<◌, ◌≤◌, Bool, true, false, cond, eqb, ltb, leb, List, length, take, refl, ltb-true, leb-true}
use Rattle.std.specs.Prelude.{Some}
use Rattle.seven_bit.specs.Reply.{Reply, granted, refused}
use Rattle.pe_frame.specs.Chunk.{Chunk, within_count}
use Rattle.pe_slot.specs.declared.layout.TxSlot.{TxSlot}
use Rattle.pe_slot.specs.Slot.{Slot, Verdict, storing, taking, is_whole, eq_list, after_chunk, passed}
use Rattle.pe_slot.specs.Memory.{slot_of, words_of, contents, ends_at}
use Rattle.pe_slot.specs.Records.{up_to}
use Rattle.pe_slot.specs.Feed.{Told, SlotLeft, slot_left, grown, closed_slot, placed}
use Rattle.pe_slot.specs.Steps.{HeaderTaken, take_header, CountTaken, take_count, PieceAdded, add_piece, finish_of}
use Rattle.pe_slot.proofs.JudgeLaws.{piece_by, count_by, takes, counts, asked_as, never}
use Rattle.pe_slot.proofs.FeedLaws.{leaving, new_header, new_index, new_arena, contents_grown}

-- a no ends the feed, with memory as it is then
abbrev or_no : Reply Told → (Reply Told → SlotLeft) → SlotLeft → SlotLeft
or_no (granted told) ended more = more
or_no (refused number value) ended more = ended (refused number value)

module _ (index header arena : List ℕ) (c : Chunk) (held : Bool) (out_header out_body : List ℕ) where
  abbrev pub after_finish : List ℕ → List ℕ → List ℕ → List ℕ → SlotLeft
  after_finish w i h b =
      let f = finish_of w (contents (slot_of w) i h b) out_header out_body in
      slot_left f.answer f.words i h b f.out_header f.out_body

  abbrev pub after_piece : PieceAdded → List ℕ → SlotLeft
  after_piece a h =
      or_no a.answer (λ no!. slot_left no! a.words a.index h a.arena out_header out_body) (after_finish a.words a.index h a.arena)

  abbrev pub after_count : CountTaken → List ℕ → SlotLeft
  after_count k h =
      or_no k.answer (λ no!. slot_left no! k.words index h arena out_header out_body)
      (after_piece (add_piece k.words index arena c.chunk_num c.property held) h)

  abbrev pub after_header : HeaderTaken → SlotLeft
  after_header k =
      or_no k.answer (λ no!. slot_left no! k.words index k.header arena out_header out_body)
      (after_count (take_count k.words index c.num_chunks c.chunk_num) k.header)

  -- from the last step to the first; stores: whether the header was stored
  module _ (t : TxSlot) (laid : ends_at 0 (take t.index_len index) ≡ Some t.property_bytes) (named : c.chunk_num < 65536) (short : length c.property < 65536)
      (stores : Bool) (fits : stores ≡ true → length c.header ≤ length header) where
    either : (b : Bool) (g : TxSlot) → cond b (words_of (closed_slot g)) (words_of g) ≡ words_of (cond b (closed_slot g) g)
    either true g = refl
    either false g = refl

    -- what is told of a slot with its piece
    told_as : (takes : Bool) (s : Slot)
        → (let f = finish_of (words_of (grown t c (leaving stores takes true))) s out_header out_body in
        slot_left f.answer f.words (new_index t index header arena c true) (new_header t index header arena c stores) (new_arena t index header arena c true) f.out_header f.out_body)
        ≡ placed t index header arena c (storing stores (taking takes (passed s))) out_header out_body
    unfolding placed finish_of passed
    told_as takes s = rw (either (is_whole s.header s.count s.pieces) (grown t c (leaving stores takes true)))

    -- the last step, from a slot with its piece
    whole_or_waits : (takes : Bool) → t.index_len < length index → t.property_bytes + length c.property ≤ length arena
        → after_finish (words_of (grown t c (leaving stores takes true))) (new_index t index header arena c true) (new_header t index header arena c stores) (new_arena t index header arena c true)
        ≡ placed t index header arena c (storing stores (taking takes (passed (after_chunk (contents t index header arena) c stores takes true)))) out_header out_body
    whole_or_waits takes few room =
        rw (contents_grown t index header arena c stores takes true fits (λ e. few) (λ e. room) laid named short)
        (told_as takes (after_chunk (contents t index header arena) c stores takes true))

    -- the piece's questions
    abbrev piece : Bool → Verdict
    piece takes =
        piece_by (eqb c.chunk_num 0) held (ltb t.index_len (length index)) (leb (t.property_bytes + length c.property) (length arena))
        (after_chunk (contents t index header arena) c stores takes true)

    abbrev AsPiece : Bool → Type 0
    AsPiece takes =
        after_piece (add_piece (words_of (grown t c (leaving stores takes false))) index arena c.chunk_num c.property held) (new_header t index header arena c stores)
        ≡ placed t index header arena c (storing stores (taking takes (piece takes))) out_header out_body

    as_piece : (takes : Bool) → AsPiece takes
    unfolding add_piece placed
    as_piece takes =
        go (eqb c.chunk_num 0) refl held refl (ltb t.index_len (length index)) refl (leb (t.property_bytes + length c.property) (length arena)) refl
      where
        go : (z : Bool) → eqb c.chunk_num 0 ≡ z → (h : Bool) → held ≡ h → (f : Bool) → ltb t.index_len (length index) ≡ f
            → (r : Bool) → leb (t.property_bytes + length c.property) (length arena) ≡ r → AsPiece takes
        go true z h eh f ef r er = rw z
        go false z true eh f ef r er = rw (z, eh)
        go false z false eh false ef r er = rw (z, eh, ef)
        go false z false eh true ef false er = rw (z, eh, ef, er)
        go false z false eh true ef true er = rw (z, eh, ef, er) (unfold placed in (whole_or_waits takes (ltb-true _ _ ef) (leb-true _ _ er)))

    -- the count's before them
    abbrev count : Verdict
    count = count_by (counts t index header arena c) (takes t index header arena c) (piece (takes t index header arena c))

    abbrev AsCount : Type 0
    AsCount =
        after_count (take_count (words_of (grown t c (leaving stores false false))) index c.num_chunks c.chunk_num) (new_header t index header arena c stores)
        ≡ placed t index header arena c (storing stores count) out_header out_body

    as_count : AsCount
    unfolding take_count placed within_count
    as_count =
        go (eqb t.num_chunks 0) refl (eqb c.num_chunks 0) refl (up_to c.num_chunks (take t.index_len index)) refl
        (eqb t.num_chunks c.num_chunks) refl (leb c.chunk_num t.num_chunks) refl
      where
        go : (k : Bool) → eqb t.num_chunks 0 ≡ k → (n : Bool) → eqb c.num_chunks 0 ≡ n
            → (u : Bool) → up_to c.num_chunks (take t.index_len index) ≡ u
            → (s : Bool) → eqb t.num_chunks c.num_chunks ≡ s → (w : Bool) → leb c.chunk_num t.num_chunks ≡ w → AsCount
        go true k true n u eu s es w ew = rw (k, n) (unfold placed in (as_piece false))
        go true k false n true eu s es w ew = rw (k, n, eu) (unfold placed in (as_piece true))
        go true k false n false eu s es w ew = rw (k, n, eu)
        go false k true n u eu s es true ew = rw (k, n, ew) (unfold placed in (as_piece false))
        go false k true n u eu s es false ew = rw (k, n, ew)
        go false k false n u eu true es true ew = rw (k, n, es, ew) (unfold placed in (as_piece false))
        go false k false n u eu true es false ew = rw (k, n, es, ew)
        go false k false n u eu false es w ew = rw (k, n, es)

  -- the header's before those: all are the slot's questions, in their order
  module _ (t : TxSlot) (laid : ends_at 0 (take t.index_len index) ≡ Some t.property_bytes) (named : c.chunk_num < 65536) (short : length c.property < 65536) where
    abbrev AsHeader : Type 0
    AsHeader =
        after_header (take_header (words_of t) header c.chunk_num c.header) ≡ placed t index header arena c (asked_as t index header arena c held) out_header out_body

    pub as_header : AsHeader
    unfolding take_header placed
    as_header = go (eqb c.chunk_num 1) refl (leb (length c.header) (length header)) refl (eqb t.header_set 0) refl (eq_list (take t.header_len header) c.header) refl
      where
        go : (o : Bool) → eqb c.chunk_num 1 ≡ o → (f : Bool) → leb (length c.header) (length header) ≡ f → (u : Bool) → eqb t.header_set 0 ≡ u
            → (s : Bool) → eq_list (take t.header_len header) c.header ≡ s → AsHeader
        go false o f ef u eu s es = rw o (unfold placed in (as_count t laid named short false never))
        go true o false ef u eu s es = rw (o, ef)
        go true o true ef true eu s es = rw (o, ef, eu) (unfold placed in (as_count t laid named short true (λ e. leb-true _ _ ef)))
        go true o true ef false eu true es = rw (o, ef, eu, es) (unfold placed in (as_count t laid named short false never))
        go true o true ef false eu false es = rw (o, ef, eu, es)
