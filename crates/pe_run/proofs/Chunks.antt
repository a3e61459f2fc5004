-- The chunks of a cut, in whatever order they come.
-- Assumes nothing.
use Prim.Native.Nat.{ℕ, zero, suc, ◌+◌, ◌-◌, ◌*◌, ◌/◌, ◌<◌, ◌≤◌}
use mathlib.Core.Bool.{true, false, cond}
use mathlib.Core.List.{List, [], ◌∷◌, ◌++◌, map, append-nil}
use mathlib.Core.Logic.{◌⊎◌, inl, inr}
use mathlib.Core.Path.{◌≡◌, refl, sym, ap, subst, ◌∙◌}
use native.Mathlib.Nat.{mul-le-mul_left, div-mul-le_self}
use native.Mathlib.Omega.{arith}
use borrow.Author.Tests.{eqb-false, ne_eqb}
use lib.Dec.{eqb}
use lib.ListN.{length, get_or, length-append, length-map, get_or-map}
use lib.Seq.{append_snoc, ext_get_or}
use Rattle.seven_bit.specs.Parts.{joined}
use Rattle.seven_bit.specs.Reply.{Reply, granted, refused}
use Rattle.seven_bit.proofs.ReplyLaws.{both}
use Rattle.pe_frame.specs.Chunk.{Chunk, chunk_from, Fields, read_fields, chunk_of}
use Rattle.pe_frame.proofs.RoundTrip.{fields}
use Rattle.pe_slot.specs.Slot.{Piece, body_length, in_order, body_of}
use Rattle.pe_chunker.specs.Cut.{later_capacity, body_pieces, chunk_at}
use Rattle.pe_chunker.proofs.CutLaws.{later_between}
use Rattle.pe_chunker.proofs.PieceLaws.{pieces_count}
use Rattle.pe_chunker.proofs.ChunkLaws.{count_told}
use Rattle.pe_chunker.proofs.Theorems.{pieces_are_the_body, header_receivable, chunk_reads_back}
use Rattle.pe_run.specs.Lists.{memb, Perm}
use Rattle.pe_run.specs.Demand.{CutInto}
use Rattle.pe_run.proofs.ListLaws.{All, Distinct}
use Rattle.pe_run.proofs.PermLaws.{perm_map, perm_all, perm_length, perm_memb, perm_distinct}
use Rattle.pe_run.proofs.Pieces.{num_of, perm_in_order, insert_end, perm_body_len}

-- ---- a chunk's piece, and the numbers of chunks
abbrev pub piece_in : Chunk → Piece
piece_in c = record { number = c.chunk_num; bytes = c.property }

abbrev pub pieces_in : List Chunk → List Piece
pieces_in cs = map piece_in cs

abbrev pub numbers : List Chunk → List ℕ
numbers cs = map num_of (pieces_in cs)

-- ---- the chunks of a list
-- one of them
pub record Of (header : List ℕ) (n : ℕ) (c : Chunk) : Type 0 where
  pub count_is : c.num_chunks ≡ n
  pub low : 1 ≤ c.chunk_num
  pub high : c.chunk_num ≤ n
  pub header_is : eqb c.chunk_num 1 ≡ true → c.header ≡ header

-- all of them, each once
pub record Good (header body : List ℕ) (n : ℕ) (cs : List Chunk) : Type 0 where
  pub members : All (Of header n) cs
  pub distinct : Distinct (numbers cs)
  pub held : (k : ℕ) → 1 ≤ k → k ≤ n → memb k (numbers cs) ≡ true
  pub size : body_length (pieces_in cs) ≡ length body
  pub body_is : body_of (pieces_in cs) ≡ body
  pub some_chunks : 1 ≤ n
  pub few : n ≤ 2048
  pub long : length cs ≡ n
  pub body_fits : length body ≤ 65536
  pub header_within : length header ≤ 4096

pub perm_good : {n : ℕ} {header body : List ℕ} {cs ds : List Chunk} → Perm cs ds → Good header body n cs → Good header body n ds
unfolding body_of
perm_good {n} {header} {body} {cs} {ds} p g =
    let pieces : Perm (pieces_in cs) (pieces_in ds) = perm_map piece_in p in
    let nums : Perm (numbers cs) (numbers ds) = perm_map num_of pieces in
    record {
      members = perm_all (Of header n) p g.members;
      distinct = perm_distinct nums g.distinct;
      held = λ k a b. sym (perm_memb k nums) ∙ g.held k a b;
      size = sym (perm_body_len pieces) ∙ g.size;
      body_is = ap (λ (l : List Piece). joined (map (λ (q : Piece). q.bytes) l)) (sym (perm_in_order [] pieces g.distinct)) ∙ g.body_is;
      some_chunks = g.some_chunks;
      few = g.few;
      long = sym (perm_length p) ∙ g.long;
      body_fits = g.body_fits;
      header_within = g.header_within;
    }

-- ---- chunks by number, from k on
abbrev numbered : ℕ → List ℕ → ℕ → ℕ → List ℕ → Chunk
numbered id header n k property = chunk_from id (cond (eqb k 1) header []) n k property

module _ (id : ℕ) (header : List ℕ) (n : ℕ) where
  unfoldable chunks_from : ℕ → List (List ℕ) → List Chunk
  chunks_from k [] = []
  chunks_from k (s ∷ ss) = numbered id header n k s ∷ chunks_from (suc k) ss

  from_absent : (k j : ℕ) (ss : List (List ℕ)) → j < k → memb j (numbers (chunks_from k ss)) ≡ false
  unfolding chunks_from
  from_absent k j [] h = refl
  from_absent k j (s ∷ ss) h = rw (ne_eqb j k (omega arith)) (from_absent (suc k) j ss (omega arith))

  from_distinct : (k : ℕ) (ss : List (List ℕ)) → Distinct (numbers (chunks_from k ss))
  unfolding chunks_from
  from_distinct k [] = tt
  from_distinct k (s ∷ ss) = (from_absent (suc k) k ss (omega arith), from_distinct (suc k) ss)

  from_held : (k j : ℕ) (ss : List (List ℕ)) → k ≤ j → j < k + length ss → memb j (numbers (chunks_from k ss)) ≡ true
  unfolding chunks_from
  from_held k j [] a b = absurd (omega arith)
  from_held k j (s ∷ ss) a b = go (both (eqb j k)) (λ (l : suc k ≤ j). from_held (suc k) j ss l (omega arith))
    where
      go : (eqb j k ≡ true) ⊎ (eqb j k ≡ false) → (suc k ≤ j → memb j (numbers (chunks_from (suc k) ss)) ≡ true)
          → cond (eqb j k) true (memb j (numbers (chunks_from (suc k) ss))) ≡ true
      go (inl e) r = rw e
      go (inr e) r = rw e (r (omega (arith, eqb-false j k e)))

  from_members : (k : ℕ) (ss : List (List ℕ)) → 1 ≤ k → k + length ss ≤ suc n → All (Of header n) (chunks_from k ss)
  unfolding chunks_from
  from_members k [] a b = tt
  from_members k (s ∷ ss) a b = (
    record { count_is = refl; low = a; high = omega arith; header_is = λ e. rw e },
    from_members (suc k) ss (omega arith) (omega arith),
  )

  from_size : (k : ℕ) (ss : List (List ℕ)) → body_length (pieces_in (chunks_from k ss)) ≡ length (joined ss)
  unfolding chunks_from body_length joined
  from_size k [] = refl
  from_size k (s ∷ ss) = omega (arith, length-append s (joined ss), from_size (suc k) ss)

  from_length : (k : ℕ) (ss : List (List ℕ)) → length (chunks_from k ss) ≡ length ss
  unfolding chunks_from
  from_length k [] = refl
  from_length k (s ∷ ss) = ap suc (from_length (suc k) ss)

  from_joined : (k : ℕ) (ss : List (List ℕ)) → joined (map (λ (p : Piece). p.bytes) (pieces_in (chunks_from k ss))) ≡ joined ss
  unfolding chunks_from joined
  from_joined k [] = refl
  from_joined k (s ∷ ss) = ap (λ (l : List ℕ). s ++ l) (from_joined (suc k) ss)

  -- they stand in order already, behind pieces with lower numbers
  grow : (k : ℕ) (p : Piece) (ps : List Piece) → p.number ≡ k → All (λ (q : Piece). q.number ≤ k) ps → All (λ (q : Piece). q.number ≤ suc k) (ps ++ (p ∷ []))
  grow k p [] e a = (omega arith, tt)
  grow k p (q ∷ ps) e a = let l : q.number ≤ k = a.0 in (omega arith, grow k p ps e a.1)

  from_order : (k : ℕ) (ps : List Piece) (ss : List (List ℕ)) → All (λ (q : Piece). q.number ≤ k) ps
      → in_order ps (pieces_in (chunks_from k ss)) ≡ ps ++ pieces_in (chunks_from k ss)
  unfolding chunks_from in_order
  from_order k ps [] a = sym (append-nil ps)
  from_order k ps (s ∷ ss) a =
      let p : Piece = record { number = k; bytes = s } in
      ap (λ (l : List Piece). in_order l (pieces_in (chunks_from (suc k) ss))) (insert_end p ps a)
      ∙ from_order (suc k) (ps ++ (p ∷ [])) ss (grow k p ps refl a)
      ∙ append_snoc ps p (pieces_in (chunks_from (suc k) ss))

  -- the chunk at a place
  from_at : (k i : ℕ) (ss : List (List ℕ)) (d : Chunk) → i < length ss → get_or (chunks_from k ss) i d ≡ numbered id header n (k + i) (get_or ss i [])
  unfolding chunks_from
  from_at k i [] d l = absurd (omega arith)
  from_at k zero (s ∷ ss) d l = let e : k ≡ k + 0 = omega arith in ap (λ (j : ℕ). numbered id header n j s) e
  from_at k (suc i) (s ∷ ss) d l =
      let e : suc k + i ≡ k + suc i = omega arith in
      from_at (suc k) i ss d (omega arith) ∙ ap (λ (j : ℕ). numbered id header n j (get_or ss i [])) e

chunks_good : (id : ℕ) (header : List ℕ) (ss : List (List ℕ)) → length header ≤ 4096 → length (joined ss) ≤ 65536 → 1 ≤ length ss → length ss ≤ 2048
    → Good header (joined ss) (length ss) (chunks_from id header (length ss) 1 ss)
unfolding body_of
chunks_good id header ss h b o r =
    let n = length ss in
    record {
      members = from_members id header n 1 ss (omega arith) (omega arith);
      distinct = from_distinct id header n 1 ss;
      held = λ k p q. from_held id header n 1 k ss p (omega arith);
      size = from_size id header n 1 ss;
      body_is = ap (λ (l : List Piece). joined (map (λ (q : Piece). q.bytes) l)) (from_order id header n 1 [] ss tt) ∙ from_joined id header n 1 ss;
      some_chunks = o;
      few = r;
      long = from_length id header n 1 ss;
      body_fits = b;
      header_within = h;
    }

-- ---- the chunk that stands in bytes
abbrev chunk_read : List ℕ → Reply Fields → Chunk
chunk_read bytes (granted f) = chunk_of bytes f
chunk_read bytes (refused number value) = chunk_from 0 [] 0 0 []

unfoldable pub chunk_in : List ℕ → Chunk
chunk_in bytes = chunk_read bytes (read_fields bytes)

pub chunk_in_law : (bytes : List ℕ) (f : Fields) → read_fields bytes ≡ granted f → chunk_in bytes ≡ chunk_of bytes f
unfolding chunk_in
chunk_in_law bytes f q = rw q

-- ---- the cutter's chunks are such a list
-- a later chunk carries at least 104 bytes, so there are few
pub pieces_few : (limit header_len : ℕ) (body : List ℕ) → length body ≤ 65536 → length (body_pieces limit header_len body) ≤ 2048
pieces_few limit header_len body h =
    let m = later_capacity limit in
    let r = length body - (m - header_len) + (m - 1) in
    let b = later_between limit in
    let p : r / m * m ≤ r = div-mul-le_self r m in
    let q : r / m * 104 ≤ r / m * m = mul-le-mul_left (r / m) b.0 in
    omega (arith, pieces_count limit header_len body)

cut_chunks : (id : ℕ) (header body : List ℕ) (limit : ℕ) (chunks : List (List ℕ)) → CutInto id header body limit chunks
    → map chunk_in chunks ≡ chunks_from id header (length (body_pieces limit (length header) body)) 1 (body_pieces limit (length header) body)
cut_chunks id header body limit chunks c =
    let ss = body_pieces limit (length header) body in
    let n : length ss ≡ length chunks = (count_told id header body limit (length chunks) c.count).1 in
    ext_get_or (chunk_in []) (map chunk_in chunks) (chunks_from id header (length ss) 1 ss)
    (length-map chunks chunk_in ∙ sym (from_length id header (length ss) 1 ss ∙ n))
    (λ i l. same i (rw (length-map chunks chunk_in) at l) n)
  where
    same : (i : ℕ) → i < length chunks → length (body_pieces limit (length header) body) ≡ length chunks
        → get_or (map chunk_in chunks) i (chunk_in [])
        ≡ get_or (chunks_from id header (length (body_pieces limit (length header) body)) 1 (body_pieces limit (length header) body)) i (chunk_in [])
    same i l n =
        let ss = body_pieces limit (length header) body in
        let r = chunk_reads_back id header body limit (suc i) _ (get_or chunks i []) (c.each i l) in
        let shape : chunk_at id header body limit (suc i) ≡ numbered id header (length ss) (suc i) (get_or ss (suc i - 1) []) = unfold chunk_at in refl in
        let back : suc i - 1 ≡ i = omega arith in
        let on : suc i ≡ 1 + i = omega arith in
        get_or-map chunk_in chunks i []
        ∙ chunk_in_law (get_or chunks i []) (fields (chunk_at id header body limit (suc i))) r.0
        ∙ r.1
        ∙ shape
        ∙ ap (λ (j : ℕ). numbered id header (length ss) (suc i) (get_or ss j [])) back
        ∙ ap (λ (j : ℕ). numbered id header (length ss) j (get_or ss i [])) on
        ∙ sym (from_at id header (length ss) 1 i ss (chunk_in []) (omega arith))

pub cut_good : (id : ℕ) (header body : List ℕ) (limit : ℕ) (chunks : List (List ℕ)) → CutInto id header body limit chunks → length body ≤ 65536
    → Good header body (length (body_pieces limit (length header) body)) (map chunk_in chunks)
cut_good id header body limit chunks c b =
    let ss = body_pieces limit (length header) body in
    let whole : joined ss ≡ body = pieces_are_the_body limit (length header) body in
    let r = header_receivable id header body limit (length chunks) c.count in
    rw (cut_chunks id header body limit chunks c)
    (subst (λ (l : List ℕ). Good header l (length ss) (chunks_from id header (length ss) 1 ss)) whole
    (chunks_good id header ss r (rw whole b) (omega (arith, pieces_count limit (length header) body)) (pieces_few limit (length header) body b)))
