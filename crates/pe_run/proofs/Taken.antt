-- What a slot that holds some chunks of a list does with the next one.
-- Assumes nothing.
use Prim.Native.Nat.{ℕ, ◌+◌, ◌≤◌}
use mathlib.Core.Bool.{Bool, true, false, cond, not, ◌&&◌, ◌||◌, or-true}
use mathlib.Core.List.{List, [], ◌∷◌, ◌++◌, map, map-append}
use mathlib.Core.Logic.{◌⊎◌, inl, inr}
use mathlib.Core.Option.{Option, none, some}
use mathlib.Core.Path.{◌≡◌, refl, ap, ◌∙◌}
use native.Mathlib.Omega.{arith}
use borrow.Author.Tests.{eqb-true, ne_eqb, le-leb, lt-ltb}
use lib.Dec.{leb, ltb, eqb}
use lib.ListN.{length, length-append, length-map}
use Rattle.seven_bit.specs.Reply.{granted}
use Rattle.seven_bit.proofs.ReplyLaws.{both}
use Rattle.pe_frame.specs.Chunk.{Chunk, within_count}
use Rattle.pe_slot.specs.Slot.{Slot, Verdict, slot_after, held, all_held, body_length, is_whole, Event, waiting, whole, event_of, header_fits, same_header}
use Rattle.pe_slot.specs.Slot.{header_agrees, none_known, new_header, held_within, count_agrees, new_count, after_chunk, passed, judge}
use Rattle.pe_slot.proofs.OrderHeldLaws.{all_yes, all_no}
use Rattle.pe_run.specs.Lists.{memb}
use Rattle.pe_run.specs.Model.{Open, Judged, judged}
use Rattle.pe_run.specs.Demand.{full_size}
use Rattle.pe_run.proofs.ListLaws.{All, eqb_sym, all_first, all_middle, memb_append, distinct_middle}
use Rattle.pe_run.proofs.Pieces.{num_of, held_memb, body_len_append}
use Rattle.pe_run.proofs.Chunks.{piece_in, pieces_in, numbers, Of, Good}

-- ---- a chunk that passes every question
record Passes (s : Slot) (c : Chunk) : Type 0 where
  fits : header_fits 4096 c ≡ true
  agrees : header_agrees s c ≡ true
  counts : count_agrees s c ≡ true
  named : eqb c.chunk_num 0 ≡ false
  fresh : held c.chunk_num s.pieces ≡ false
  few : ltb (length s.pieces) 2048 ≡ true
  roomy : leb (body_length s.pieces + length c.property) 65536 ≡ true

abbrev pub open_at : ℕ → ℕ → Slot → Open
open_at time tick s = record { time = time; tick = tick; slot = s }

abbrev pub judged_to : Option Open → Event → Judged
judged_to left event = record { left = left; answer = granted event }

-- whole and closed, or waiting
abbrev pub settled : ℕ → ℕ → Slot → Judged
settled time tick s =
    judged_to (cond (is_whole s.header s.count s.pieces) none (some (open_at time tick s))) (event_of s.header s.count s.pieces)

-- the verdict of a chunk that leaves the slot s'
abbrev passing : Slot → Chunk → Slot → Verdict
passing s c s' =
    record {
      answer = granted (event_of s'.header s'.count s'.pieces);
      stores = new_header s c;
      takes = new_count s c;
      adds = true;
      closes = is_whole s'.header s'.count s'.pieces;
    }

judge_passed : (s : Slot) (c : Chunk) → Passes s c → judge 4096 65536 2048 s c ≡ passing s c (after_chunk s c (new_header s c) (new_count s c) true)
unfolding judge passed
judge_passed s c k = rw (k.fits, k.agrees, k.counts, k.named, k.fresh, k.few, k.roomy) refl

judged_passed : (n time tick : ℕ) (s : Slot) (c : Chunk) → Passes s c
    → judged (full_size n) (open_at time tick s) c ≡ settled time tick (after_chunk s c (new_header s c) (new_count s c) true)
unfolding judged
judged_passed n time tick s c k =
    ap (λ (v : Verdict). record { left = cond v.closes none (some (open_at time tick (slot_after s c v))); answer = v.answer }) (judge_passed s c k)

-- ---- a slot that holds chunks of a list: its header is there if number 1 is
abbrev header_with : List ℕ → List Chunk → Option (List ℕ)
header_with header cs = cond (memb 1 (numbers cs)) (some header) none

abbrev pub slot_with : List ℕ → ℕ → List Chunk → Slot
slot_with header n cs = record { header = header_with header cs; count = n; pieces = pieces_in cs }

numbers_append : (cs ds : List Chunk) → numbers (cs ++ ds) ≡ numbers cs ++ numbers ds
numbers_append cs ds = ap (map num_of) (map-append piece_in cs ds) ∙ map-append num_of (pieces_in cs) (pieces_in ds)

-- a number of the list is within the count, where that is known, and so are those that are held
within : (k n count : ℕ) → k ≤ n → (eqb count 0 || eqb count n) ≡ true → within_count k count ≡ true
unfolding within_count
within k n count h q = go (both (eqb count 0))
  where
    go : (eqb count 0 ≡ true) ⊎ (eqb count 0 ≡ false) → (eqb count 0 || leb k count) ≡ true
    go (inl e) = rw e
    go (inr e) = let m : eqb count n ≡ true = rw e at q in rw (e, le-leb k count (omega (arith, eqb-true count n m)))

held_within_law : (n : ℕ) (header : List ℕ) (count : ℕ) (cs : List Chunk) → count ≡ n → All (Of header n) cs → held_within count (pieces_in cs) ≡ true
unfolding held_within
held_within_law n header count [] e a = refl
held_within_law n header count (c ∷ cs) e a = rw (le-leb c.chunk_num count (omega (arith, a.0.high))) (held_within_law n header count cs e a.1)

module _ {n : ℕ} {header body : List ℕ} (held_now : List Chunk) (c : Chunk) (rest : List Chunk) (g : Good header body n (held_now ++ c ∷ rest)) where
  of : Of header n c
  of = all_middle (Of header n) held_now c rest g.members

  fresh_number : memb c.chunk_num (numbers held_now) ≡ false
  fresh_number = distinct_middle (numbers held_now) c.chunk_num (numbers rest) (rw (numbers_append held_now (c ∷ rest)) at g.distinct)

  not_held : held c.chunk_num (pieces_in held_now) ≡ false
  not_held = held_memb c.chunk_num (pieces_in held_now) ∙ fresh_number

  -- where number 1 is new, no header is known
  headless : eqb c.chunk_num 1 ≡ true → header_with header held_now ≡ none
  headless e = rw (rw (eqb-true c.chunk_num 1 e) at fresh_number)

  passes : (count : ℕ) → (eqb count 0 || eqb count n) ≡ true → Passes (slot_with header count held_now) c
  unfolding header_fits header_agrees count_agrees
  passes count k =
      record {
        fits = fits (both (eqb c.chunk_num 1));
        agrees = agrees (both (eqb c.chunk_num 1));
        counts =
            rw (
              same,
              within c.chunk_num n count of.high k,
              held_within_law n header c.num_chunks held_now of.count_is (all_first (Of header n) held_now (c ∷ rest) g.members),
            )
            (or-true (not (new_count (slot_with header count held_now) c)));
        named = ne_eqb c.chunk_num 0 (omega (arith, of.low));
        fresh = not_held;
        few = lt-ltb (length (pieces_in held_now)) 2048 (omega (arith, length-map held_now piece_in, length-append held_now (c ∷ rest), g.long, g.few));
        roomy = le-leb (body_length (pieces_in held_now) + length c.property) 65536 room;
      }
    where
      same : (eqb c.num_chunks 0 || eqb count 0 || eqb count c.num_chunks) ≡ true
      same = rw (of.count_is, ne_eqb n 0 (omega (arith, g.some_chunks))) k

      room : body_length (pieces_in held_now) + length c.property ≤ 65536
      room =
          unfold body_length in
          omega (arith, body_len_append (pieces_in held_now) (pieces_in (c ∷ rest)), ap body_length (map-append piece_in held_now (c ∷ rest)), g.size, g.body_fits)

      fits : (eqb c.chunk_num 1 ≡ true) ⊎ (eqb c.chunk_num 1 ≡ false) → (not (eqb c.chunk_num 1) || leb (length c.header) 4096) ≡ true
      fits (inl e) = rw e (le-leb (length c.header) 4096 (omega (arith, ap length (of.header_is e), g.header_within)))
      fits (inr e) = rw e

      agrees : (eqb c.chunk_num 1 ≡ true) ⊎ (eqb c.chunk_num 1 ≡ false)
          → (not (eqb c.chunk_num 1) || same_header (header_with header held_now) c.header) ≡ true
      agrees (inl e) = rw (e, headless e) (unfold same_header in refl)
      agrees (inr e) = rw e

  -- the slot then holds it too
  after_header : cond (eqb c.chunk_num 1 && none_known (header_with header held_now)) (some c.header) (header_with header held_now)
      ≡ header_with header (held_now ++ (c ∷ []))
  unfolding none_known
  after_header = go (both (eqb c.chunk_num 1))
    where
      one_more : memb 1 (numbers (held_now ++ (c ∷ []))) ≡ cond (memb 1 (numbers held_now)) true (cond (eqb 1 c.chunk_num) true false)
      one_more = ap (memb 1) (numbers_append held_now (c ∷ [])) ∙ memb_append 1 (numbers held_now) (c.chunk_num ∷ [])

      same : (b t : Bool) → t ≡ cond b true false → cond b (some header) none ≡ cond t (some header) none
      same true t q = rw q
      same false t q = rw q

      either : (b : Bool) → cond b true true ≡ true
      either true = refl
      either false = refl

      go : (eqb c.chunk_num 1 ≡ true) ⊎ (eqb c.chunk_num 1 ≡ false)
          → cond (eqb c.chunk_num 1 && none_known (header_with header held_now)) (some c.header) (header_with header held_now)
          ≡ header_with header (held_now ++ (c ∷ []))
      go (inl e) =
          let now : memb 1 (numbers (held_now ++ (c ∷ []))) ≡ true = one_more ∙ rw (eqb_sym 1 c.chunk_num, e) (either (memb 1 (numbers held_now))) in
          rw (e, headless e, now) (ap {B = Option (List ℕ)} some (of.header_is e))
      go (inr e) =
          rw e (same (memb 1 (numbers held_now)) (memb 1 (numbers (held_now ++ (c ∷ [])))) (one_more ∙ rw (eqb_sym 1 c.chunk_num, e)))

  after_count : (count : ℕ) → (eqb count 0 || eqb count n) ≡ true → cond (not (eqb c.num_chunks 0) && eqb count 0) c.num_chunks count ≡ n
  after_count count k =
      rw (of.count_is, ne_eqb n 0 (omega (arith, g.some_chunks))) (go (eqb count 0) k)
    where
      go : (t : Bool) → (t || eqb count n) ≡ true → cond t n count ≡ n
      go true q = refl
      go false q = eqb-true count n q

  after_held : (count : ℕ) → (eqb count 0 || eqb count n) ≡ true
      → after_chunk (slot_with header count held_now) c (new_header (slot_with header count held_now) c) (new_count (slot_with header count held_now) c) true
      ≡ slot_with header n (held_now ++ (c ∷ []))
  unfolding after_chunk new_header new_count
  after_held count k = rw (after_header, after_count count k, map-append piece_in held_now (c ∷ [])) refl

  -- A chunk of the list is taken: nothing refuses it.
  pub judged_good : (peers time tick count : ℕ) → (eqb count 0 || eqb count n) ≡ true
      → judged (full_size peers) (open_at time tick (slot_with header count held_now)) c ≡ settled time tick (slot_with header n (held_now ++ (c ∷ [])))
  judged_good peers time tick count k =
      judged_passed peers time tick (slot_with header count held_now) c (passes count k) ∙ ap (settled time tick) (after_held count k)

  -- While one is missing the slot waits.
  pub settled_wait : (time tick : ℕ)
      → settled time tick (slot_with header n held_now) ≡ judged_to (some (open_at time tick (slot_with header n held_now))) waiting
  unfolding is_whole event_of
  settled_wait time tick = go (header_with header held_now)
    where
      missing : all_held n (pieces_in held_now) ≡ false
      missing = all_no c.chunk_num n (pieces_in held_now) of.low of.high not_held

      go : (h : Option (List ℕ))
          → judged_to (cond (is_whole h n (pieces_in held_now)) none (some (open_at time tick (slot_with header n held_now)))) (event_of h n (pieces_in held_now))
          ≡ judged_to (some (open_at time tick (slot_with header n held_now))) waiting
      go none = refl
      go (some h) = rw (ne_eqb n 0 (omega (arith, g.some_chunks)), missing) refl

-- With all of them the list is whole, and the slot closes.
pub settled_last : {n : ℕ} {header body : List ℕ} {cs : List Chunk} (time tick : ℕ) → Good header body n cs
    → settled time tick (slot_with header n cs) ≡ judged_to none (whole header body)
unfolding is_whole event_of
settled_last {n} {header} {body} {cs} time tick g =
    let all : all_held n (pieces_in cs) ≡ true = all_yes n (pieces_in cs) (λ k a b. held_memb k (pieces_in cs) ∙ g.held k a b) in
    rw (g.held 1 (omega arith) g.some_chunks, ne_eqb n 0 (omega (arith, g.some_chunks)), all, g.body_is) refl
