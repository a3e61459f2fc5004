-- What a turn hands out, and how a place is after it.
-- Assumes nothing.
use Prim.Native.Nat.{ℕ, suc, ◌+◌, ◌<◌, ◌≤◌}
use mathlib.Core.Bool.{true, false, cond, ◌&&◌}
use mathlib.Core.List.{List}
use Rattle.std.specs.Prelude.{Some}
use mathlib.Core.Path.{◌≡◌, refl, sym, ap, ap₂, subst₂, ◌∙◌}
use native.Mathlib.Omega.{arith}
use borrow.Author.Tests.{ne_eqb}
use lib.Dec.{leb, ltb}
use lib.ListN.{length}
use lib.Seq.{get_or-set_same}
use Rattle.seven_bit.specs.Reply.{Reply, granted, and_next}
use Rattle.seven_bit.proofs.ReplyLaws.{asked, first_granted}
use Rattle.pe_frame.specs.Write.{chunk_bytes, chunk_len}
use Rattle.pe_chunker.specs.Cut.{body_pieces, chunk_at, cut_chunk, cut_count}
use Rattle.pe_chunker.proofs.AskLaws.{cut_told}
use Rattle.pe_chunker.proofs.ChunkLaws.{count_told, chunk_written, chunk_in_range}
use Rattle.pe_frame.proofs.ChunkLaws.{write_granted}
use Rattle.pe_turns.specs.Turns.{chunk_of}
use Rattle.pe_stage.specs.declared.place.Outgoing.{Outgoing}
use Rattle.pe_stage.specs.Stage.{holding, chunk_in, chunks_in, following, Place, Stage, free_place, is_free, place_at, header_in, body_in, is_inside, Written}
use Rattle.pe_stage.specs.Stage.{written}
use Rattle.pe_stage.specs.Stage.{hands, next_waiting, ask_chunk, ask_at, ask_turn, after_turn}

pub holding_busy : (n : Outgoing) (k : ℕ) → is_free (holding n (suc k)) ≡ false
holding_busy n k = ne_eqb (suc k) 0 (λ h. omega arith)

pub cut_bytes : (id : ℕ) (header body : List ℕ) (limit k room : ℕ) (bs : List ℕ) → cut_chunk id header body limit k room ≡ granted bs
    → chunk_bytes (chunk_at id header body limit k) ≡ bs
unfolding cut_chunk
cut_bytes id header body limit k room bs q =
    let t = cut_told id header body limit _ bs q in
    let a = asked (leb 1 k && leb k (length (body_pieces limit (length header) body))) 29 _ bs t.1 in
    let b = asked (leb (chunk_len (chunk_at id header body limit k)) room) 3 _ bs a.1 in
    let e = b.1 in
    cc

-- a list has a first chunk
pub count_some : (id : ℕ) (header body : List ℕ) (limit : ℕ) → cut_count id header body limit ≡ granted 0 → ⊥
unfolding body_pieces
count_some id header body limit q = let e = (count_told id header body limit 0 q).1 in omega arith

chunk_in_law : (buffer : List ℕ) (room : ℕ) (n : Outgoing) (k : ℕ) (f : Written) → ask_chunk buffer room (holding n k) ≡ granted f
    → f ≡ chunk_of n (header_in buffer n) (body_in buffer n) (chunks_in buffer n) k
unfolding ask_chunk chunk_in
chunk_in_law buffer room n k f q =
    let t = first_granted (chunk_in buffer n k room) _ f q in
    let a = asked (is_inside buffer n) 30 _ t.0 t.1 in
    let b = cut_bytes n.request_id (header_in buffer n) (body_in buffer n) n.max_sysex k room t.0 a.1 in
    let e = t.2 in
    let g : f ≡ written k (chunks_in buffer n) t.0 = cc in
    g ∙ ap (written k (chunks_in buffer n)) (sym b)

-- the chunk of number k, where the buffer has the list's header and body
pub chunk_sent : (buffer : List ℕ) (room : ℕ) (n : Outgoing) (k count : ℕ) (header body : List ℕ) (f : Written) → ask_chunk buffer room (holding n k) ≡ granted f
    → header_in buffer n ≡ header → body_in buffer n ≡ body → length (body_pieces n.max_sysex (length header) body) ≡ count
    → f ≡ chunk_of n header body count k
chunk_sent buffer room n k count header body f q h b c =
    chunk_in_law buffer room n k f q
    ∙ ap₂ (λ (x y : List ℕ). chunk_of n x y (length (body_pieces n.max_sysex (length x) y)) k) h b
    ∙ ap (λ (x : ℕ). chunk_of n header body x k) c

-- the place that was handed a turn
pub place_after : (s : Stage) (p : ℕ) (n : Outgoing) (k count : ℕ) (bytes : List ℕ) (f : Written) → p < length s.places → place_at s p ≡ holding n k
    → f ≡ written k count bytes → place_at (after_turn s (granted (hands p f))) p ≡ holding n (cond (ltb k count) (k + 1) 0)
place_after s p n k count bytes f l e h =
    get_or-set_same s.places p (holding (place_at s p).list (following f)) free_place l
    ∙ ap (λ (x : Outgoing). holding x (following f)) (ap (λ (x : Place). x.list) e)
    ∙ ap (λ (x : Written). holding n (following x)) h

-- a chunk is granted where there is room for it
chunk_granted : (buffer : List ℕ) (room : ℕ) (n : Outgoing) (k count : ℕ) → is_inside buffer n ≡ true
    → cut_count n.request_id (header_in buffer n) (body_in buffer n) n.max_sysex ≡ granted count → 1 ≤ k → k ≤ count
    → chunk_len (chunk_at n.request_id (header_in buffer n) (body_in buffer n) n.max_sysex k) ≤ room
    → ask_chunk buffer room (holding n k)
    ≡ granted (chunk_of n (header_in buffer n) (body_in buffer n) count k)
unfolding ask_chunk chunk_in
chunk_granted buffer room n k count i c one l r =
    let t = count_told n.request_id (header_in buffer n) (body_in buffer n) n.max_sysex count c in
    let e = t.1 in
    let h : k ≤ length (body_pieces n.max_sysex (length (header_in buffer n)) (body_in buffer n)) = omega arith in
    let b = chunk_written n.request_id (header_in buffer n) (body_in buffer n) n.max_sysex k room t.0 one h in
    let w = write_granted (chunk_at n.request_id (header_in buffer n) (body_in buffer n) n.max_sysex k) room
    (chunk_in_range n.request_id (header_in buffer n) (body_in buffer n) n.max_sysex k t.0 one h) (unfold chunk_len in r) in
    rw (i, b, w, e) refl

-- a turn is granted where the next place holds a list that lies in the buffer as it was cut, its next chunk is one of the count, and the output has
-- room for that
pub turn_granted : (s : Stage) (buffer : List ℕ) (room p : ℕ) (n : Outgoing) (header body : List ℕ) (k count : ℕ) → next_waiting s ≡ Some p
    → place_at s p ≡ holding n k → is_inside buffer n ≡ true → header_in buffer n ≡ header → body_in buffer n ≡ body
    → cut_count n.request_id header body n.max_sysex ≡ granted count → 1 ≤ k → k ≤ count
    → chunk_len (chunk_at n.request_id header body n.max_sysex k) ≤ room
    → ask_turn s buffer room ≡ granted (hands p (chunk_of n header body count k))
unfolding ask_turn
turn_granted s buffer room p n header body k count w e i hd bd c one l r =
    ap (ask_at s buffer room) w
    ∙ ap (λ (x : Place). and_next (ask_chunk buffer room x) (λ f. granted (hands p f))) e
    ∙ ap (λ (x : Reply Written). and_next x (λ f. granted (hands p f)))
    (chunk_granted buffer room n k count i (ap₂ (λ (x y : List ℕ). cut_count n.request_id x y n.max_sysex) hd bd ∙ c) one l
    (subst₂ (λ (x y : List ℕ). chunk_len (chunk_at n.request_id x y n.max_sysex k) ≤ room) (sym hd) (sym bd) r))
    ∙ ap₂ (λ (x y : List ℕ). granted (hands p (chunk_of n x y count k))) hd bd
