-- The laws of what a feed leaves: the last step, and the memory with what was stored, taken and added.
-- Assumes nothing.
use Rattle.std.proofs.Common.{◌≡◌, ℕ, ◌+◌, ◌<◌, ◌≤◌, Bool, true, false, cond, eqb, List, ◌++◌, length, take, drop, set, refl, ap, ◌∙◌, append_assoc, arith, length-take-le, drop-drop, eq-eqb, ne_eqb}
use mathlib.Core.Option.{none, some}
use Rattle.std.specs.Prelude.{Some, None}
use Rattle.seven_bit.specs.Parts.{splice, put_fit}
use Rattle.seven_bit.specs.Reply.{granted, refused}
use Rattle.seven_bit.proofs.PartLaws.{part_splice, length_splice, fit_yes, fit_front, put_is}
use Rattle.pe_frame.specs.Chunk.{Chunk}
use Rattle.pe_slot.specs.declared.layout.TxSlot.{TxSlot}
use Rattle.pe_slot.specs.Slot.{Piece, Verdict, all_held, body_of, is_whole, event_of, after_chunk}
use Rattle.pe_slot.specs.Memory.{slot_of, packed, pieces_of, contents, ends_at}
use Rattle.pe_slot.specs.Records.{joined_into, JoinedInto, join_pieces}
use Rattle.pe_slot.specs.Feed.{grown, cleared, still, lengths}
use Rattle.pe_slot.specs.Steps.{finished, finish_of}
use Rattle.pe_slot.proofs.SlotMemory.{pieces_grown}

-- what joining answers
join_missing : (count : ℕ) (ps : List Piece) (out new : List ℕ) → joined_into None new ≡ join_pieces count ps out → (all_held count ps ≡ false) × (new ≡ out)
unfolding join_pieces
join_missing count ps out new e = go (all_held count ps) refl e
  where
    go : (b : Bool) → all_held count ps ≡ b
        → joined_into None new ≡ cond b (joined_into (Some (length (body_of ps))) (body_of ps ++ drop (length (body_of ps)) out)) (joined_into None out)
        → (all_held count ps ≡ false) × (new ≡ out)
    go true q e = absurd (let f = ap (λ (x : JoinedInto). x.len) e in let z : ◌≡◌ {A = ℕ} 0 1 = cc in omega arith)
    go false q e = (q, ap (λ (x : JoinedInto). x.out) e)

join_body : (count : ℕ) (ps : List Piece) (out new : List ℕ) (n : ℕ) → joined_into (Some n) new ≡ join_pieces count ps out
    → (all_held count ps ≡ true) × (n ≡ length (body_of ps)) × (new ≡ body_of ps ++ drop (length (body_of ps)) out)
unfolding join_pieces
join_body count ps out new n e = go (all_held count ps) refl e
  where
    go : (b : Bool) → all_held count ps ≡ b
        → joined_into (Some n) new ≡ cond b (joined_into (Some (length (body_of ps))) (body_of ps ++ drop (length (body_of ps)) out)) (joined_into None out)
        → (all_held count ps ≡ true) × (n ≡ length (body_of ps)) × (new ≡ body_of ps ++ drop (length (body_of ps)) out)
    go true q e = let f = ap (λ (x : JoinedInto). x.len) e in (q, cc, ap (λ (x : JoinedInto). x.out) e)
    go false q e = absurd (let f = ap (λ (x : JoinedInto). x.len) e in let z : ◌≡◌ {A = ℕ} 0 1 = cc in omega arith)

-- the last step, one law for each of its ways
module _ (words index header arena out_header out_body : List ℕ) where
  pub finish_headless : (slot_of words).header_set ≡ 0 → finished (granted still) words out_header out_body ≡ finish_of words (contents (slot_of words) index header arena) out_header out_body
  unfolding finish_of contents event_of is_whole
  finish_headless h = rw (eq-eqb _ _ h)

  module _ (known : (slot_of words).header_set ≡ 0 → ⊥) where
    pub finish_countless : (slot_of words).num_chunks ≡ 0
        → finished (granted still) words out_header out_body ≡ finish_of words (contents (slot_of words) index header arena) out_header out_body
    unfolding finish_of contents event_of is_whole
    finish_countless n = rw (ne_eqb _ _ known, eq-eqb _ _ n)

    module _ (counted : (slot_of words).num_chunks ≡ 0 → ⊥) {b : List ℕ} where
      pub finish_missing : joined_into None b ≡ join_pieces (slot_of words).num_chunks (pieces_of (take (slot_of words).index_len index) arena) out_body
          → finished (granted still) words out_header b ≡ finish_of words (contents (slot_of words) index header arena) out_header out_body
      unfolding finish_of contents event_of is_whole
      finish_missing j = let p = join_missing _ _ _ _ j in rw (ne_eqb _ _ known, ne_eqb _ _ counted, p.0, p.1)

      pub finish_whole : {w o : List ℕ} {n : ℕ}
          → joined_into (Some n) b ≡ join_pieces (slot_of words).num_chunks (pieces_of (take (slot_of words).index_len index) arena) out_body
          → w ≡ cleared words → o ≡ put_fit out_header 0 (take (slot_of words).header_len header)
          → (slot_of words).header_len ≤ length header → length header ≤ length out_header
          → finished (granted (lengths (slot_of words).header_len n)) w o b ≡ finish_of words (contents (slot_of words) index header arena) out_header out_body
      unfolding finish_of contents event_of is_whole
      finish_whole {w} {o} {n} j e q h l =
          let p = join_body _ _ _ _ n j in
          let k : length (take (slot_of words).header_len header) ≡ (slot_of words).header_len = length-take-le _ _ h in
          let f = fit_front out_header (take (slot_of words).header_len header) (omega arith) in
          rw (e, ne_eqb _ _ known, ne_eqb _ _ counted, p.0, p.1, p.2, q ∙ f, k)

-- what was stored, taken and added; of this verdict no more is read
abbrev pub leaving : Bool → Bool → Bool → Verdict
leaving stores takes adds = record { answer = refused 0 0; stores = stores; takes = takes; adds = adds; closes = false }

-- the memory then
module _ (t : TxSlot) (index header arena : List ℕ) (c : Chunk) where
  abbrev pub new_header : Bool → List ℕ
  new_header stores = cond stores (splice 0 (length c.header) header c.header) header

  abbrev pub new_index : Bool → List ℕ
  new_index adds = cond adds (set index t.index_len (packed c.chunk_num (length c.property) t.property_bytes)) index

  abbrev pub new_arena : Bool → List ℕ
  new_arena adds = cond adds (splice t.property_bytes (length c.property) arena c.property) arena

  header_grown : (b : Bool) → (b ≡ true → length c.header ≤ length header)
      → cond (eqb (cond b 1 t.header_set) 0) none (some (take (cond b (length c.header) t.header_len) (new_header b)))
      ≡ cond b (some c.header) (cond (eqb t.header_set 0) none (some (take t.header_len header)))
  header_grown true f = ap (λ (h : List ℕ). some h) (part_splice 0 (length c.header) header c.header (let g = f refl in omega arith) refl)
  header_grown false f = refl

  pub length_kept : (b : Bool) → (b ≡ true → length c.header ≤ length header) → length (new_header b) ≡ length header
  length_kept true f = length_splice 0 (length c.header) header c.header (let g = f refl in omega arith) refl
  length_kept false f = refl

  module _ (stores takes adds : Bool) (fits : stores ≡ true → length c.header ≤ length header)
      (few : adds ≡ true → t.index_len < length index) (room : adds ≡ true → t.property_bytes + length c.property ≤ length arena)
      (laid : ends_at 0 (take t.index_len index) ≡ Some t.property_bytes) (named : c.chunk_num < 65536) (short : length c.property < 65536) where
    pub contents_grown : contents (grown t c (leaving stores takes adds)) (new_index adds) (new_header stores) (new_arena adds)
        ≡ after_chunk (contents t index header arena) c stores takes adds
    unfolding contents after_chunk
    contents_grown = rw (header_grown stores fits) (go adds few room)
      where
        go : (b : Bool) → (b ≡ true → t.index_len < length index) → (b ≡ true → t.property_bytes + length c.property ≤ length arena)
            → record {
              header = cond stores (some c.header) (cond (eqb t.header_set 0) none (some (take t.header_len header)));
              count = cond takes c.num_chunks t.num_chunks;
              pieces = pieces_of (take (cond b (t.index_len + 1) t.index_len) (new_index b)) (new_arena b);
            }
            ≡ after_chunk (contents t index header arena) c stores takes b
        go true f r = rw (pieces_grown index arena t.index_len t.property_bytes c.chunk_num c.property (f refl) laid (r refl) named short)
        go false f r = refl

-- a part that is put in where it fits
pub fit_splice : (xs : List ℕ) (a : ℕ) (ys : List ℕ) → a + length ys ≤ length xs → put_fit xs a ys ≡ splice a (length ys) xs ys
fit_splice xs a ys l = fit_yes xs a ys l ∙ put_is xs a ys l ∙ rw (drop-drop, append_assoc)
