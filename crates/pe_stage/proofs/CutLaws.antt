-- The laws of a list in the lent buffer, and of the numbers that are too large for the cutter.
-- Assumes nothing.
use Prim.Native.Nat.{ℕ, ◌+◌, min, ◌<◌, ◌≤◌}
use mathlib.Core.Bool.{Bool, true, false}
use mathlib.Core.List.{List}
use mathlib.Core.Logic.{⊎_elim}
use mathlib.Core.Path.{◌≡◌, refl, sym, ap, ◌∙◌}
use native.Mathlib.Omega.{arith}
use borrow.Author.Tests.{leb-true, leb-false}
use lib.Dec.{leb}
use lib.ListN.{length}
use Rattle.seven_bit.specs.Reply.{Reply, granted, refused, ◌else◌then◌}
use Rattle.seven_bit.proofs.ReplyLaws.{both, asked, refused_not}
use Rattle.pe_chunker.specs.Cut.{clamped, budget, later_capacity, first_capacity, ask_first, body_pieces, chunk_at, ask_cut, cut_count, cut_chunk, counted, counting}
use Rattle.pe_chunker.proofs.AskLaws.{Cut, cut_id}
use Rattle.pe_chunker.proofs.CutLaws.{clamped_high, clamped_same}
use Rattle.pe_chunker.proofs.ChunkLaws.{count_told, chunk_refused, chunk_past, chunk_told}
use Rattle.pe_stage.specs.declared.place.Outgoing.{Outgoing}
use Rattle.pe_stage.specs.Stage.{header_in, body_in, is_inside, Lent, lent, lent_in, count_in, chunk_in, chunks_in}

-- ---- a list in the lent buffer
-- a test whose no is 30, by its answer
refused_30 : {A : Type 0} (b : Bool) (a : A) (number value : ℕ) → refused number value ≡ (b else 30 then granted a)
    → (b ≡ false) × (number ≡ 30) × (value ≡ 0)
refused_30 true a number value q = absurd (refused_not number value a q)
refused_30 false a number value q = (refl, cc, cc)

granted_30 : {A : Type 0} (b : Bool) (a x : A) → granted x ≡ (b else 30 then granted a) → (b ≡ true) × (x ≡ a)
granted_30 true a x q = (refl, cc)
granted_30 false a x q = absurd (refused_not 30 0 x (sym q))

-- a list that is outside by its header, or by its body, or inside
module _ (buffer : List ℕ) (list : Outgoing) where
  abbrev header_fits : Bool
  header_fits = leb (list.header_at + list.header_len) (length buffer)

  abbrev body_fits : Bool
  body_fits = leb (list.body_at + list.body_len) (length buffer)

  pub header_outside : {A : Type 0} (number value : ℕ) (next : Reply A) → refused number value ≡ (header_fits else 30 then granted (header_in buffer list))
      → refused number value ≡ (is_inside buffer list else 30 then next)
  unfolding is_inside
  header_outside number value next q = let t = refused_30 _ _ number value q in rw (t.0, t.1, t.2)

  pub body_outside : {A : Type 0} (header : List ℕ) (number value : ℕ) (next : Reply A) → granted header ≡ (header_fits else 30 then granted (header_in buffer list))
      → refused number value ≡ (body_fits else 30 then granted (body_in buffer list)) → refused number value ≡ (is_inside buffer list else 30 then next)
  unfolding is_inside
  body_outside header number value next g q =
      let t = refused_30 _ _ number value q in
      rw ((granted_30 _ _ header g).0, t.0, t.1, t.2)

  pub both_inside : (header body : List ℕ) (id limit : ℕ) → granted header ≡ (header_fits else 30 then granted (header_in buffer list))
      → granted body ≡ (body_fits else 30 then granted (body_in buffer list))
      → granted (lent id header body limit) ≡ (is_inside buffer list else 30 then granted (lent id (header_in buffer list) (body_in buffer list) limit))
  unfolding is_inside
  both_inside header body id limit g h =
      let s = granted_30 _ _ header g in
      let t = granted_30 _ _ body h in
      rw (s.0, s.1, t.0, t.1)

-- ---- numbers that are too large for the cutter
-- a number that is kept, and one that is brought down to the most
min_low : (n most : ℕ) → n ≤ most → min n most ≡ n
min_low n most h = omega arith

min_high : (n most : ℕ) → most < n → min n most ≡ most
min_high n most h = omega arith

-- a limit above the clamp is clamped like the clamp
clamped_most : (limit : ℕ) → clamped (min limit 16384) ≡ clamped limit
clamped_most limit =
    ⊎_elim
    (λ t. let h : limit ≤ 16384 = leb-true limit 16384 t in rw (min_low limit 16384 h))
    (λ f.
    let h : 16384 < limit = leb-false limit 16384 f in
    rw (min_high limit 16384 h) (clamped_same 16384 (omega arith) (omega arith) ∙ sym (clamped_high limit (omega arith) h)))
    (both (leb limit 16384))

budget_most : (limit : ℕ) → budget (min limit 16384) ≡ budget limit
unfolding budget
budget_most limit = rw (clamped_most limit)

-- all that is cut follows from the budget
pieces_most : (limit header_len : ℕ) (body : List ℕ) → body_pieces (min limit 16384) header_len body ≡ body_pieces limit header_len body
unfolding body_pieces first_capacity later_capacity
pieces_most limit header_len body = rw (budget_most limit)

count_limit : (id : ℕ) (header body : List ℕ) (limit : ℕ) → cut_count id header body (min limit 16384) ≡ cut_count id header body limit
unfolding cut_count ask_cut ask_first first_capacity
count_limit id header body limit = rw (budget_most limit, pieces_most limit (length header) body)

chunk_limit : (id : ℕ) (header body : List ℕ) (limit k room : ℕ) → cut_chunk id header body (min limit 16384) k room ≡ cut_chunk id header body limit k room
unfolding cut_chunk ask_cut ask_first first_capacity chunk_at
chunk_limit id header body limit k room = rw (budget_most limit, pieces_most limit (length header) body)

-- a request id above 255 is refused like 255
count_id : (id : ℕ) (header body : List ℕ) (limit : ℕ) → cut_count (min id 255) header body limit ≡ cut_count id header body limit
unfolding cut_count
count_id id header body limit =
    ⊎_elim
    (λ t. let h : id ≤ 255 = leb-true id 255 t in rw (min_low id 255 h))
    (λ f.
    let h : 255 < id = leb-false id 255 f in
    cut_id (min id 255) header body limit _ (omega arith) ∙ sym (cut_id id header body limit _ (omega arith)))
    (both (leb id 255))

chunk_id : (id : ℕ) (header body : List ℕ) (limit k room : ℕ) → cut_chunk (min id 255) header body limit k room ≡ cut_chunk id header body limit k room
unfolding cut_chunk
chunk_id id header body limit k room =
    ⊎_elim
    (λ t. let h : id ≤ 255 = leb-true id 255 t in rw (min_low id 255 h))
    (λ f.
    let h : 255 < id = leb-false id 255 f in
    cut_id (min id 255) header body limit _ (omega arith) ∙ sym (cut_id id header body limit _ (omega arith)))
    (both (leb id 255))

-- a number above every count is refused like any other one
chunk_above : (id : ℕ) (header body : List ℕ) (limit k j room : ℕ) → 16383 < k → 16383 < j
    → cut_chunk id header body limit k room ≡ cut_chunk id header body limit j room
chunk_above id header body limit k j room g h = go (cut_count id header body limit) refl
  where
    go : (r : Reply ℕ) → cut_count id header body limit ≡ r → cut_chunk id header body limit k room ≡ cut_chunk id header body limit j room
    go (granted count) e =
        let c : Cut id header body limit = (count_told id header body limit count e).0 in
        let f : length (body_pieces limit (length header) body) ≤ 16383 = c.few in
        chunk_past id header body limit k room c (omega arith) (omega arith) ∙ sym (chunk_past id header body limit j room c (omega arith) (omega arith))
    go (refused number value) e =
        chunk_refused id header body limit k room number value e ∙ sym (chunk_refused id header body limit j room number value e)

chunk_number : (id : ℕ) (header body : List ℕ) (limit k room : ℕ) → cut_chunk id header body limit (min k 65535) room ≡ cut_chunk id header body limit k room
chunk_number id header body limit k room =
    ⊎_elim
    (λ t. let h : k ≤ 65535 = leb-true k 65535 t in rw (min_low k 65535 h))
    (λ f. let h : 65535 < k = leb-false k 65535 f in chunk_above id header body limit (min k 65535) k room (omega arith) (omega arith))
    (both (leb k 65535))

-- ---- what the cutter is lent
-- the buffer's refusal
pub count_outside : (buffer : List ℕ) (list : Outgoing) (number value : ℕ)
    → refused number value ≡ (is_inside buffer list else 30 then granted (lent_in buffer list)) → refused number value ≡ count_in buffer list
unfolding count_in
count_outside buffer list number value q = let t = refused_30 _ _ number value q in rw (t.0, t.1, t.2)

pub counting_outside : (buffer : List ℕ) (list : Outgoing) (k number value : ℕ) (out : List ℕ)
    → refused number value ≡ (is_inside buffer list else 30 then granted (lent_in buffer list))
    → counted (refused number value) out ≡ counting (chunks_in buffer list) (chunk_in buffer list k (length out)) out
unfolding chunk_in
counting_outside buffer list k number value out q = let t = refused_30 _ _ number value q in rw (t.0, t.1, t.2)

module _ (buffer : List ℕ) (list : Outgoing) {id limit : ℕ} {header body : List ℕ}
    (g : granted (lent id header body limit) ≡ (is_inside buffer list else 30 then granted (lent_in buffer list))) where
  i : is_inside buffer list ≡ true
  i = (granted_30 _ _ _ g).0

  e : lent id header body limit ≡ lent_in buffer list
  e = (granted_30 _ _ _ g).1

  -- the count
  pub count_lent : cut_count id header body limit ≡ count_in buffer list
  unfolding count_in
  count_lent =
      let h = header_in buffer list in
      let b = body_in buffer list in
      rw (i, ap (λ (l : Lent). cut_count l.request_id l.header l.body l.max_sysex) e, count_id list.request_id h b (min list.max_sysex 16384))
      (count_limit list.request_id h b list.max_sysex)

  -- chunk k, and the count beside it
  chunk_lent : (k room : ℕ) → cut_chunk id header body limit (min k 65535) room ≡ chunk_in buffer list k room
  unfolding chunk_in
  chunk_lent k room =
      let h = header_in buffer list in
      let b = body_in buffer list in
      rw (
        i,
        ap (λ (l : Lent). cut_chunk l.request_id l.header l.body l.max_sysex (min k 65535) room) e,
        chunk_id list.request_id h b (min list.max_sysex 16384) (min k 65535) room,
        chunk_limit list.request_id h b list.max_sysex (min k 65535) room,
      )
      (chunk_number list.request_id h b list.max_sysex k room)

  chunks_lent : length (body_pieces limit (length header) body) ≡ chunks_in buffer list
  chunks_lent =
      rw (
        ap (λ (l : Lent). length (body_pieces l.max_sysex (length l.header) l.body)) e,
        pieces_most list.max_sysex (length (header_in buffer list)) (body_in buffer list),
      )

  -- and what both leave
  pub counting_lent : (k room number : ℕ) (out : List ℕ) → number ≡ min k 65535
      → counting (length (body_pieces limit (length header) body)) (cut_chunk id header body limit number room) out
      ≡ counting (chunks_in buffer list) (chunk_in buffer list k room) out
  counting_lent k room number out n = rw (n, chunk_lent k room, chunks_lent)

-- what a grant tells of the chunk's number
pub number_told : (buffer : List ℕ) (list : Outgoing) (k room : ℕ) (bytes : List ℕ) → chunk_in buffer list k room ≡ granted bytes → k ≤ 16383
unfolding chunk_in
number_told buffer list k room bytes q =
    let t = chunk_told _ _ _ _ k room bytes (asked (is_inside buffer list) 30 _ bytes q).1 in
    let f = t.0.few in
    omega (arith, t.2)
