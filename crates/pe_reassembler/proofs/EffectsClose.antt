-- What the calls that close do to the numbers: closed slots have their words zeroed but for the tick, and all else is as it was.
-- Assumes nothing.
use Prim.Native.Nat.{ℕ, zero, suc, ◌+◌, ◌-◌, ◌*◌, ◌≤◌, ◌<◌}
use mathlib.Core.Bool.{Bool, true, false, cond, not, ◌&&◌}
use mathlib.Core.List.{List}
use mathlib.Core.Logic.{◌⊎◌, inl, inr}
use Rattle.std.specs.Prelude.{Some}
use mathlib.Core.Path.{◌≡◌, refl, sym, ap, ◌∙◌}
use native.Mathlib.Nat.{add-zero}
use native.Mathlib.Omega.{arith}
use borrow.Author.Tests.{leb-true, leb-false}
use lib.Dec.{leb, eqb}
use lib.ListN.{length, get_or, set}
use lib.Seq.{get_or-set_same}
use Rattle.seven_bit.proofs.PartLaws.{part_splice}
use Rattle.seven_bit.proofs.ReplyLaws.{both}
use Rattle.pe_slot.specs.Feed.{closed_slot}
use Rattle.pe_slot.specs.Memory.{slot_of, words_of}
use Rattle.pe_slot.specs.Layout.{slot_words}
use Rattle.pe_reassembler.specs.declared.shape.Shape.{Shape}
use Rattle.pe_reassembler.specs.Calls.{close_at, close_open, drop_at}
use Rattle.pe_reassembler.specs.Feed.{words_part}
use Rattle.pe_reassembler.specs.Poll.{is_due, close_due}
use Rattle.pe_reassembler.specs.Table.{numbers_len, peer_at, slot_at, is_bound, is_active}
use Rattle.pe_reassembler.proofs.Effects.{peer_by}
use Rattle.pe_reassembler.proofs.PlaceLaws.{Apart, OnlyAt, only_get, only_wider, only_splice, only_set, less_or, get_part, other_place, words_apart, peer_apart}

-- ---- the clock and the peers' own words are as they were
pub record PeersKept (xs ys : List ℕ) : Type 0 where
  pub long : length ys ≡ length xs
  pub clock : get_or ys 0 0 ≡ get_or xs 0 0
  pub heads : (q i : ℕ) → i < 2 → get_or ys (peer_at q + i) 0 ≡ get_or xs (peer_at q + i) 0

peers_same : (xs : List ℕ) → PeersKept xs xs
peers_same xs = record { long = refl; clock = refl; heads = λ (q i : ℕ) (h : i < 2). refl }

peers_then : {xs ys zs : List ℕ} → PeersKept xs ys → PeersKept ys zs → PeersKept xs zs
peers_then a b = record { long = b.long ∙ a.long; clock = b.clock ∙ a.clock; heads = λ (q i : ℕ) (h : i < 2). b.heads q i h ∙ a.heads q i h }

peers_of_only : (p s : ℕ) {xs ys : List ℕ} → s < 4 → OnlyAt (slot_at p s) slot_words xs ys → PeersKept xs ys
peers_of_only p s {xs} {ys} l o = record { long = o.long; clock = only_get o 0 (inl (omega arith)); heads = λ (q i : ℕ) (h : i < 2). only_get o (peer_at q + i) (go q i h) }
  where
    go : (q i : ℕ) → i < 2 → Apart (slot_at p s) slot_words (peer_at q + i) 1
    go q i h = side (less_or p q)
      where
        side : (p < q) ⊎ (q ≤ p) → Apart (slot_at p s) slot_words (peer_at q + i) 1
        side (inl a) = inr (omega arith)
        side (inr a) = inl (omega arith)

pub peers_told : (xs ys : List ℕ) → PeersKept xs ys → (q : ℕ) → (is_bound ys q ≡ is_bound xs q) × (get_or ys (peer_at q + 1) 0 ≡ get_or xs (peer_at q + 1) 0)
peers_told xs ys k q = peer_by xs ys q (k.heads q)

-- ---- a slot closed in its place
abbrev shut_words : List ℕ → List ℕ
shut_words w = words_of (closed_slot (slot_of w))

module _ (p s : ℕ) (numbers : List ℕ) (h : slot_at p s + slot_words ≤ length numbers) where
  close_only : OnlyAt (slot_at p s) slot_words numbers (close_at p s numbers)
  unfolding close_at
  close_only = only_splice (slot_at p s) slot_words numbers (shut_words (words_part numbers p s)) h refl

  close_own : words_part (close_at p s numbers) p s ≡ shut_words (words_part numbers p s)
  unfolding close_at
  close_own = part_splice (slot_at p s) slot_words numbers (shut_words (words_part numbers p s)) h refl

-- ---- those of the k slots from place i on whose words a test takes are closed
record Shut (test : List ℕ → Bool) (i k : ℕ) (xs ys : List ℕ) : Type 0 where
  peers : PeersKept xs ys
  own : (q t : ℕ) → t < 4 → i ≤ 4 * q + t → 4 * q + t < i + k → words_part ys q t ≡ cond (test (words_part xs q t)) (shut_words (words_part xs q t)) (words_part xs q t)
  other : (q t : ℕ) → t < 4 → (4 * q + t < i) ⊎ (i + k ≤ 4 * q + t) → words_part ys q t ≡ words_part xs q t

module _ (test : List ℕ → Bool) where
  shut_none : (i : ℕ) (xs : List ℕ) → Shut test i 0 xs xs
  shut_none i xs =
      record {
        peers = peers_same xs;
        own = λ (q t : ℕ) (h : t < 4) (a : i ≤ 4 * q + t) (b : 4 * q + t < i + 0). absurd (omega arith);
        other = λ (q t : ℕ) (h : t < 4) (a : (4 * q + t < i) ⊎ (i + 0 ≤ 4 * q + t)). refl;
      }

  shut_one : (p s : ℕ) (xs : List ℕ) → s < 4 → slot_at p s + slot_words ≤ length xs → (b : Bool) → test (words_part xs p s) ≡ b → Shut test (4 * p + s) 1 xs (cond b (close_at p s xs) xs)
  shut_one p s xs l h true e =
      record { peers = peers_of_only p s l (close_only p s xs h); own = own; other = other }
    where
      own : (q t : ℕ) → t < 4 → 4 * p + s ≤ 4 * q + t → 4 * q + t < 4 * p + s + 1
          → words_part (close_at p s xs) q t ≡ cond (test (words_part xs q t)) (shut_words (words_part xs q t)) (words_part xs q t)
      own q t g a b =
          let eq : q ≡ p = omega arith in
          let et : t ≡ s = omega arith in
          rw (eq, et, e) (close_own p s xs h)

      other : (q t : ℕ) → t < 4 → (4 * q + t < 4 * p + s) ⊎ (4 * p + s + 1 ≤ 4 * q + t) → words_part (close_at p s xs) q t ≡ words_part xs q t
      other q t g (inl a) = (close_only p s xs h).parts (slot_at q t) slot_words (words_apart p s q t l g (inl a))
      other q t g (inr a) = (close_only p s xs h).parts (slot_at q t) slot_words (words_apart p s q t l g (inr (omega arith)))
  shut_one p s xs l h false e = record { peers = peers_same xs; own = own; other = λ (q t : ℕ) (g : t < 4) (a : _). refl }
    where
      own : (q t : ℕ) → t < 4 → 4 * p + s ≤ 4 * q + t → 4 * q + t < 4 * p + s + 1
          → words_part xs q t ≡ cond (test (words_part xs q t)) (shut_words (words_part xs q t)) (words_part xs q t)
      own q t g a b =
          let eq : q ≡ p = omega arith in
          let et : t ≡ s = omega arith in
          rw (eq, et, e)

  shut_then : (i k i' j n : ℕ) {xs ys zs : List ℕ} → Shut test i k xs ys → Shut test i' j ys zs → i' ≡ i + k → n ≡ k + j → Shut test i n xs zs
  shut_then i k i' j n {xs} {ys} {zs} a b e f =
      record { peers = peers_then a.peers b.peers; own = own; other = other }
    where
      own : (q t : ℕ) → t < 4 → i ≤ 4 * q + t → 4 * q + t < i + n → words_part zs q t ≡ cond (test (words_part xs q t)) (shut_words (words_part xs q t)) (words_part xs q t)
      own q t g c d = side (less_or (4 * q + t) (i + k))
        where
          side : (4 * q + t < i + k) ⊎ (i + k ≤ 4 * q + t) → words_part zs q t ≡ cond (test (words_part xs q t)) (shut_words (words_part xs q t)) (words_part xs q t)
          side (inl m) = b.other q t g (inl (omega arith)) ∙ a.own q t g c m
          side (inr m) =
              b.own q t g (omega arith) (omega arith)
              ∙ ap (λ (w : List ℕ). cond (test w) (shut_words w) w) (a.other q t g (inr m))

      other : (q t : ℕ) → t < 4 → (4 * q + t < i) ⊎ (i + n ≤ 4 * q + t) → words_part zs q t ≡ words_part xs q t
      other q t g (inl c) = b.other q t g (inl (omega arith)) ∙ a.other q t g (inl c)
      other q t g (inr c) = b.other q t g (inr (omega arith)) ∙ a.other q t g (inr (omega arith))

-- ---- the tests, of a slot's words
word_of : (numbers : List ℕ) (p s i : ℕ) → i < slot_words → get_or numbers (slot_at p s + i) 0 ≡ get_or (words_part numbers p s) i 0
word_of numbers p s i h = sym (get_part (slot_at p s) slot_words i numbers h)

abbrev open_words : List ℕ → Bool
open_words w = not (eqb (get_or w 0 0) 0)

abbrev due_words : ℕ → List ℕ → Bool
due_words now_ms w = open_words w && leb 3000 (now_ms - get_or w 2 0)

pub active_of : (numbers : List ℕ) (p s : ℕ) → is_active numbers p s ≡ not (eqb (get_or (words_part numbers p s) 0 0) 0)
unfolding is_active
active_of numbers p s =
    ap (λ (x : ℕ). not (eqb x 0)) (ap (λ (i : ℕ). get_or numbers i 0) (sym (add-zero (slot_at p s))) ∙ word_of numbers p s 0 (omega arith))

due_of : (numbers : List ℕ) (now_ms p s : ℕ) → is_due numbers now_ms p s ≡ due_words now_ms (words_part numbers p s)
unfolding is_due
due_of numbers now_ms p s = rw (active_of numbers p s, word_of numbers p s 2 (omega arith))

-- ---- all that are due
shut_due : (now_ms n k p s : ℕ) (xs : List ℕ) → s < 4 → 4 * p + s + k ≤ 4 * n → peer_at n ≤ length xs → Shut (due_words now_ms) (4 * p + s) k xs (close_due now_ms p s k xs)
unfolding close_due
shut_due now_ms n zero p s xs l g h = shut_none (due_words now_ms) (4 * p + s) xs
shut_due now_ms n (suc k) p s xs l g h = go (both (leb 3 s)) (shut_due now_ms n k)
  where
    rest : List ℕ
    rest = cond (is_due xs now_ms p s) (close_at p s xs) xs

    one : Shut (due_words now_ms) (4 * p + s) 1 xs (cond (is_due xs now_ms p s) (close_at p s xs) xs)
    one = shut_one (due_words now_ms) p s xs l (omega arith) (is_due xs now_ms p s) (sym (due_of xs now_ms p s))

    go : (leb 3 s ≡ true) ⊎ (leb 3 s ≡ false)
        → ((q t : ℕ) (ys : List ℕ) → t < 4 → 4 * q + t + k ≤ 4 * n → peer_at n ≤ length ys → Shut (due_words now_ms) (4 * q + t) k ys (close_due now_ms q t k ys))
        → Shut (due_words now_ms) (4 * p + s) (suc k) xs
        (cond (leb 3 s) (close_due now_ms (p + 1) 0 k (cond (is_due xs now_ms p s) (close_at p s xs) xs)) (close_due now_ms p (s + 1) k (cond (is_due xs now_ms p s) (close_at p s xs) xs)))
    go (inl e) next =
        let m : 3 ≤ s = leb-true 3 s e in
        rw e
        (shut_then (due_words now_ms) (4 * p + s) 1 (4 * (p + 1) + 0) k (suc k) one
        (next (p + 1) 0 rest (omega arith) (omega arith) (omega (arith, one.peers.long))) (omega arith) (omega arith))
    go (inr e) next =
        let m : s < 3 = leb-false 3 s e in
        rw e
        (shut_then (due_words now_ms) (4 * p + s) 1 (4 * p + (s + 1)) k (suc k) one
        (next p (s + 1) rest (omega arith) (omega arith) (omega (arith, one.peers.long))) (omega arith) (omega arith))

-- ---- the laws of the calls: the numbers are long enough for the shape
module _ (shape : Shape) (numbers : List ℕ) (h : numbers_len shape ≤ length numbers) where
  -- slot s of record p closed
  module _ (p s : ℕ) (k : p < shape.max_peers) (l : s < 4) where
    slot_in : slot_at p s + slot_words ≤ length numbers
    slot_in = omega arith

    pub close_words : words_part (close_at p s numbers) p s ≡ words_of (closed_slot (slot_of (words_part numbers p s)))
    close_words = close_own p s numbers slot_in

    pub close_words_other : (q t : ℕ) → q < shape.max_peers → t < 4 → (q ≡ p → t ≡ s → ⊥) → words_part (close_at p s numbers) q t ≡ words_part numbers q t
    close_words_other q t b g d = (close_only p s numbers slot_in).parts (slot_at q t) slot_words (words_apart p s q t l g (other_place p s q t l g d))

    close_peers : PeersKept numbers (close_at p s numbers)
    close_peers = peers_of_only p s l (close_only p s numbers slot_in)

    pub close_peer : (q : ℕ) → (is_bound (close_at p s numbers) q ≡ is_bound numbers q) × (get_or (close_at p s numbers) (peer_at q + 1) 0 ≡ get_or numbers (peer_at q + 1) 0)
    close_peer q = peers_told numbers (close_at p s numbers) close_peers q

    pub close_clock : get_or (close_at p s numbers) 0 0 ≡ get_or numbers 0 0
    close_clock = close_peers.clock

    pub close_length : length (close_at p s numbers) ≡ length numbers
    close_length = close_peers.long

  -- record p unbound
  module _ (p : ℕ) (k : p < shape.max_peers) where
    unbind_only : OnlyAt (peer_at p) 1 numbers (set numbers (peer_at p) 0)
    unbind_only = only_set (peer_at p) 0 numbers

    pub unbind_words : (q t : ℕ) → q < shape.max_peers → t < 4 → words_part (set numbers (peer_at p) 0) q t ≡ words_part numbers q t
    unbind_words q t b g = (only_wider (peer_at p) 2 unbind_only (omega arith) (omega arith)).parts (slot_at q t) slot_words (peer_apart p q t g)

    pub unbind_bound : is_bound (set numbers (peer_at p) 0) p ≡ false
    unfolding is_bound
    unbind_bound = rw (get_or-set_same numbers (peer_at p) 0 0 (omega arith))

    pub unbind_muid_kept : get_or (set numbers (peer_at p) 0) (peer_at p + 1) 0 ≡ get_or numbers (peer_at p + 1) 0
    unbind_muid_kept = only_get unbind_only (peer_at p + 1) (inr (omega arith))

    pub unbind_peer_other : (q : ℕ) → q < shape.max_peers → (q ≡ p → ⊥)
        → (is_bound (set numbers (peer_at p) 0) q ≡ is_bound numbers q) × (get_or (set numbers (peer_at p) 0) (peer_at q + 1) 0 ≡ get_or numbers (peer_at q + 1) 0)
    unbind_peer_other q b d = peer_by numbers (set numbers (peer_at p) 0) q (λ (i : ℕ) (g : i < 2). only_get unbind_only (peer_at q + i) (go i g (less_or q p) (less_or p q)))
      where
        go : (i : ℕ) → i < 2 → (q < p) ⊎ (p ≤ q) → (p < q) ⊎ (q ≤ p) → Apart (peer_at p) 1 (peer_at q + i) 1
        go i g (inl a) c = inl (omega arith)
        go i g (inr a) (inl c) = inr (omega arith)
        go i g (inr a) (inr c) = absurd (d (omega arith))

    pub unbind_clock : get_or (set numbers (peer_at p) 0) 0 0 ≡ get_or numbers 0 0
    unbind_clock = only_get unbind_only 0 (inl (omega arith))

    pub unbind_length : length (set numbers (peer_at p) 0) ≡ length numbers
    unbind_length = unbind_only.long

  -- all that are due closed
  module _ (now_ms : ℕ) where
    abbrev polled : List ℕ
    polled = close_due now_ms 0 0 (4 * shape.max_peers) numbers

    due_shut : Shut (due_words now_ms) (4 * 0 + 0) (4 * shape.max_peers) numbers polled
    due_shut = shut_due now_ms shape.max_peers (4 * shape.max_peers) 0 0 numbers (omega arith) (omega arith) h

    pub due_words_law : (q t : ℕ) → q < shape.max_peers → t < 4
        → words_part polled q t ≡ cond (is_due numbers now_ms q t) (words_of (closed_slot (slot_of (words_part numbers q t)))) (words_part numbers q t)
    due_words_law q t b g = rw (due_of numbers now_ms q t) (due_shut.own q t g (omega arith) (omega arith))

    pub due_peer : (q : ℕ) → (is_bound polled q ≡ is_bound numbers q) × (get_or polled (peer_at q + 1) 0 ≡ get_or numbers (peer_at q + 1) 0)
    due_peer q = peers_told numbers polled due_shut.peers q

    pub due_clock : get_or polled 0 0 ≡ get_or numbers 0 0
    due_clock = due_shut.peers.clock

    pub due_length : length polled ≡ length numbers
    due_length = due_shut.peers.long

-- record p dropped: its open slots are closed, and it is unbound
module _ (shape : Shape) (numbers : List ℕ) (h : numbers_len shape ≤ length numbers) (p : ℕ) (k : p < shape.max_peers) where
  step : (s : ℕ) (xs : List ℕ) → s < 4 → length xs ≡ length numbers → Shut open_words (4 * p + s) 1 xs (close_open p s xs)
  step s xs l e = shut_one open_words p s xs l (omega arith) (is_active xs p s) (sym (active_of xs p s))

  abbrev n₁ : List ℕ
  n₁ = close_open p 0 numbers

  abbrev n₂ : List ℕ
  n₂ = close_open p 1 n₁

  abbrev n₃ : List ℕ
  n₃ = close_open p 2 n₂

  abbrev n₄ : List ℕ
  n₄ = close_open p 3 n₃

  abbrev dropped : List ℕ
  dropped = (drop_at (Some p) numbers).numbers

  one : Shut open_words (4 * p + 0) 1 numbers n₁
  one = step 0 numbers (omega arith) refl

  two : Shut open_words (4 * p + 0) 2 numbers n₂
  two = shut_then open_words (4 * p + 0) 1 (4 * p + 1) 1 2 one (step 1 n₁ (omega arith) one.peers.long) (omega arith) refl

  three : Shut open_words (4 * p + 0) 3 numbers n₃
  three = shut_then open_words (4 * p + 0) 2 (4 * p + 2) 1 3 two (step 2 n₂ (omega arith) two.peers.long) (omega arith) refl

  four : Shut open_words (4 * p + 0) 4 numbers n₄
  four = shut_then open_words (4 * p + 0) 3 (4 * p + 3) 1 4 three (step 3 n₃ (omega arith) three.peers.long) (omega arith) refl

  four_long : numbers_len shape ≤ length n₄
  four_long = let e = four.peers.long in omega arith

  pub drop_words : (t : ℕ) → t < 4
      → words_part dropped p t ≡ cond (is_active numbers p t) (words_of (closed_slot (slot_of (words_part numbers p t)))) (words_part numbers p t)
  drop_words t g = unbind_words shape n₄ four_long p k p t k g ∙ rw (active_of numbers p t) (four.own p t g (omega arith) (omega arith))

  pub drop_words_other : (q t : ℕ) → q < shape.max_peers → t < 4 → (q ≡ p → ⊥) → words_part dropped q t ≡ words_part numbers q t
  drop_words_other q t b g d = unbind_words shape n₄ four_long p k q t b g ∙ four.other q t g (go (less_or q p) (less_or p q))
    where
      go : (q < p) ⊎ (p ≤ q) → (p < q) ⊎ (q ≤ p) → (4 * q + t < 4 * p + 0) ⊎ (4 * p + 0 + 4 ≤ 4 * q + t)
      go (inl a) c = inl (omega arith)
      go (inr a) (inl c) = inr (omega arith)
      go (inr a) (inr c) = absurd (d (omega arith))

  pub drop_bound : is_bound dropped p ≡ false
  drop_bound = unbind_bound shape n₄ four_long p k

  pub drop_muid_kept : get_or dropped (peer_at p + 1) 0 ≡ get_or numbers (peer_at p + 1) 0
  drop_muid_kept = unbind_muid_kept shape n₄ four_long p k ∙ four.peers.heads p 1 (omega arith)

  pub drop_peer_other : (q : ℕ) → q < shape.max_peers → (q ≡ p → ⊥)
      → (is_bound dropped q ≡ is_bound numbers q) × (get_or dropped (peer_at q + 1) 0 ≡ get_or numbers (peer_at q + 1) 0)
  drop_peer_other q b d =
      let u = unbind_peer_other shape n₄ four_long p k q b d in
      let f = peers_told numbers n₄ four.peers q in
      (u.0 ∙ f.0, u.1 ∙ f.1)

  pub drop_clock : get_or dropped 0 0 ≡ get_or numbers 0 0
  drop_clock = unbind_clock shape n₄ four_long p k ∙ four.peers.clock

  pub drop-length : length dropped ≡ length numbers
  drop-length = unbind_length shape n₄ four_long p k ∙ four.peers.long
