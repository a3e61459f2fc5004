-- The laws of the questions of a chunk, put to what memory holds.
-- Assumes nothing.
use Rattle.std.proofs.Common.{◌≡◌, ℕ, ◌+◌, ◌<◌, ◌≤◌, Bool, true, false, cond, not, ◌&&◌, ◌||◌, eqb, ltb, leb, List, length, take, sym, refl, ◌∙◌, subst, arith, length-take-le, ltb-true, leb-true}
use mathlib.Core.Option.{none, some}
use Rattle.std.specs.Prelude.{Some}
use Rattle.pe_frame.specs.Chunk.{Chunk, within_count}
use Rattle.pe_slot.specs.declared.layout.TxSlot.{TxSlot}
use Rattle.pe_slot.specs.Slot.{Slot, Verdict, stays, closing, ◌otherwise◌then◌, storing, taking, body_length, eq_list, none_known, same_header, header_fits, header_agrees, new_header, count_agrees, new_count, after_chunk, passed, judge}
use Rattle.pe_slot.specs.Memory.{pieces_of, contents, ends_at}
use Rattle.pe_slot.specs.Records.{holds, up_to}
use Rattle.pe_slot.proofs.RecordLaws.{body_ends}
use Rattle.pe_slot.proofs.SlotMemory.{holds_held, up_to_within, pieces_length}

-- the questions of the piece, and of the count before them; next is the slot with the piece
abbrev pub piece_by : Bool → Bool → Bool → Bool → Slot → Verdict
piece_by zero holding few roomy next =
    not zero otherwise closing 8 then
    not holding otherwise stays 8 then
    few otherwise stays 5 then
    roomy otherwise closing 5 then
    passed next

abbrev pub count_by : Bool → Bool → Verdict → Verdict
count_by counts takes v = counts otherwise stays 8 then taking takes v

abbrev pub header_by : Bool → Bool → Bool → Verdict → Verdict
header_by fits agrees stores v = fits otherwise stays 4 then agrees otherwise stays 8 then storing stores v

-- the header that memory holds
none_known_law : (b : Bool) (h : List ℕ) → none_known (cond b none (some h)) ≡ b
unfolding none_known
none_known_law true h = refl
none_known_law false h = refl

same_known : (b : Bool) (h new : List ℕ) → same_header (cond b none (some h)) new ≡ (b || eq_list h new)
unfolding same_header
same_known true h new = refl
same_known false h new = refl

pub never : {A : Type 0} → false ≡ true → A
never e = absurd (let z : ◌≡◌ {A = ℕ} 0 1 = cc in omega arith)

-- a header is stored only where it fits, and a piece added where it has room
stored_fits : (fits agrees stores : Bool) (v : Verdict) → (header_by fits agrees stores v).stores ≡ true → (fits ≡ true) × (stores ≡ true)
stored_fits false a s v e = never e
stored_fits true false s v e = never e
stored_fits true true s v e = (refl, e)

first_fits : (one unset fits : Bool) → (not one || fits) ≡ true → (one && unset) ≡ true → fits ≡ true
first_fits true unset fits e g = e
first_fits false unset fits e g = never g

added_fits : (fits agrees stores counts takes zero holding few roomy : Bool) (next : Slot)
    → (header_by fits agrees stores (count_by counts takes (piece_by zero holding few roomy next))).adds ≡ true → (few ≡ true) × (roomy ≡ true)
unfolding passed
added_fits false a s c k z h f r t e = never e
added_fits true false s c k z h f r t e = never e
added_fits true true s false k z h f r t e = never e
added_fits true true s true k true h f r t e = never e
added_fits true true s true k false true f r t e = never e
added_fits true true s true k false false false r t e = never e
added_fits true true s true k false false true false t e = never e
added_fits true true s true k false false true true t e = (refl, refl)

-- the verdict, asked of a slot's words, header room and records
module _ (t : TxSlot) (index header arena : List ℕ) (c : Chunk) where
  abbrev one : Bool
  one = eqb c.chunk_num 1

  abbrev fits : Bool
  fits = leb (length c.header) (length header)

  abbrev unset : Bool
  unset = eqb t.header_set 0

  abbrev same : Bool
  same = eq_list (take t.header_len header) c.header

  abbrev pub takes : Bool
  takes = not (eqb c.num_chunks 0) && eqb t.num_chunks 0

  abbrev pub counts : Bool
  counts =
      (eqb c.num_chunks 0 || eqb t.num_chunks 0 || eqb t.num_chunks c.num_chunks)
      && within_count c.chunk_num t.num_chunks
      && (not takes || up_to c.num_chunks (take t.index_len index))

  abbrev holding : Bool
  holding = holds c.chunk_num (take t.index_len index)

  abbrev few : Bool
  few = ltb t.index_len (length index)

  abbrev roomy : Bool
  roomy = leb (t.property_bytes + length c.property) (length arena)

  abbrev next : Slot
  next = after_chunk (contents t index header arena) c (one && unset) takes true

  -- held: whether its number is
  abbrev pub asked_as : Bool → Verdict
  asked_as held =
      header_by (not one || fits) (not one || (unset || same)) (one && unset)
      (count_by counts takes (piece_by (eqb c.chunk_num 0) held few roomy next))

  abbrev pub asked : Verdict
  asked = asked_as holding

  pub judge_is : t.index_len ≤ length index → ends_at 0 (take t.index_len index) ≡ Some t.property_bytes → t.property_bytes ≤ length arena
      → judge (length header) (length arena) (length index) (contents t index header arena) c ≡ asked
  unfolding judge header_fits header_agrees new_header count_agrees new_count contents
  judge_is l e b =
      let records = take t.index_len index in
      let n : length (pieces_of records arena) ≡ t.index_len = pieces_length records arena ∙ length-take-le t.index_len index l in
      let m : body_length (pieces_of records arena) ≡ t.property_bytes = body_ends records arena t.property_bytes e b in
      rw (
        none_known_law (eqb t.header_set 0) (take t.header_len header),
        same_known (eqb t.header_set 0) (take t.header_len header) c.header,
        holds_held c.chunk_num records arena,
        up_to_within c.num_chunks records arena,
        n,
        m,
      )

  -- what is stored and what is added fits
  pub record Fitting (v : Verdict) : Type 0 where
    pub fits : v.stores ≡ true → length c.header ≤ length header
    pub few : v.adds ≡ true → t.index_len < length index
    pub room : v.adds ≡ true → t.property_bytes + length c.property ≤ length arena

  stored : asked.stores ≡ true → length c.header ≤ length header
  stored e =
      let p = stored_fits (not one || fits) (not one || (unset || same)) (one && unset)
      (count_by counts takes (piece_by (eqb c.chunk_num 0) holding few roomy next)) e in
      leb-true _ _ (first_fits one unset fits p.0 p.1)

  added : asked.adds ≡ true → (few ≡ true) × (roomy ≡ true)
  added e =
      added_fits (not one || fits) (not one || (unset || same)) (one && unset) counts takes (eqb c.chunk_num 0) holding few roomy next e

  asked_fitting : Fitting asked
  asked_fitting = record { fits = stored; few = λ e. ltb-true _ _ (added e).0; room = λ e. leb-true _ _ (added e).1 }

  pub judge_fitting : t.index_len ≤ length index → ends_at 0 (take t.index_len index) ≡ Some t.property_bytes → t.property_bytes ≤ length arena
      → Fitting (judge (length header) (length arena) (length index) (contents t index header arena) c)
  judge_fitting l e b = subst Fitting (sym (judge_is l e b)) asked_fitting
