-- The laws of the questions that every call asks, and of the searches for a record and a slot.
-- Assumes nothing.
use Prim.Native.Nat.{ℕ, zero, suc, ◌+◌, ◌*◌, ◌≤◌, ◌<◌}
use mathlib.Core.Bool.{Bool, true, false, cond, not}
use mathlib.Core.List.{List}
use Rattle.std.specs.Prelude.{Option, None, Some, MatchOption}
use mathlib.Core.Path.{◌≡◌, refl}
use Rattle.std.proofs.Common.{add-zero, sym}
use native.Mathlib.Nat.{mul-le-mul}
use native.Mathlib.Omega.{arith}
use borrow.Author.Tests.{leb-true}
use lib.ListN.{length}
use denote.Param.Members.{Mut}
use denote.Ref.{Bor}
use Rattle.std.specs.Fn.{CalledAt}
use Rattle.std.specs.Iterator.{FindsItem}
use Rattle.std.specs.declared.ops.Range.{Range}
use Rattle.std.proofs.iter.Yields.{nat_range_steps}
use Rattle.std.proofs.lemmas.Iterator.{first_from_Range}
use Rattle.seven_bit.proofs.ReplyLaws.{and_told}
use Rattle.pe_reassembler.specs.declared.shape.Shape.{Shape}
use Rattle.pe_reassembler.specs.Table.{in_range, has_numbers, has_rooms, rooms_len, is_bound, is_idle, first_from, first, or_else, record_of, record_for, slot_open, slot_for, HasPeers, HasPeer}

-- what the questions tell
pub record Ranges (shape : Shape) : Type 0 where
  pub peers : shape.max_peers ≤ 16
  pub header : shape.header_bytes ≤ 4096
  pub body : shape.tx_bytes ≤ 65536
  pub records : shape.fragment_records ≤ 2048

pub ranges : (shape : Shape) → in_range shape ≡ true → Ranges shape
unfolding in_range
ranges shape e =
    let a = and_told _ _ e in
    let b = and_told _ _ a.0 in
    let c = and_told _ _ b.0 in
    record { peers = leb-true _ _ c.0; header = leb-true _ _ c.1; body = leb-true _ _ b.1; records = leb-true _ _ a.1 }

pub asked_range : (shape : Shape) (numbers : List ℕ) → has_numbers shape numbers ≡ true → in_range shape ≡ true
unfolding has_numbers
asked_range shape numbers e = (and_told _ _ e).0

pub in_range_law : (shape : Shape) (numbers : List ℕ) → has_numbers shape numbers ≡ true → Ranges shape
in_range_law shape numbers e = ranges shape (asked_range shape numbers e)

pub numbers_long : (shape : Shape) (numbers : List ℕ) → has_numbers shape numbers ≡ true → HasPeers numbers shape.max_peers
unfolding has_numbers
numbers_long shape numbers e = let a = and_told _ _ e in ((ranges shape a.0).peers, leb-true _ _ a.1)

pub index_long : (shape : Shape) (numbers index headers arenas : List ℕ) → has_rooms shape numbers index headers arenas ≡ true
    → (has_numbers shape numbers ≡ true) × (rooms_len shape.fragment_records shape ≤ length index)
unfolding has_rooms
index_long shape numbers index headers arenas e =
    let a = and_told _ _ (and_told _ _ (and_told _ _ e).0).0 in
    (a.0, leb-true _ _ a.1)

-- rooms of at most 65,536 elements for at most 16 peers
pub rooms_below : (n size : ℕ) → n ≤ 16 → size ≤ 65536 → 4 * n * size ≤ 4194304
rooms_below n size h k =
    let m : 4 * n ≤ 64 = omega arith in
    mul-le-mul m k

-- all of it, named on functions
pub ruleset lent = (index_long, numbers_long, rooms_below)

-- a search whose first k tests are answered no, and the next one yes
first_hit : (test : ℕ → Bool) (i k n : ℕ) → k < n → test (i + k) ≡ true → ((j : ℕ) → i ≤ j → j < i + k → test j ≡ false) → Some (i + k) ≡ first_from test i n
unfolding first_from
first_hit test i k zero l y b = absurd (omega arith)
first_hit test i zero (suc n) l y b = let e : test i ≡ true = rw add-zero at y in rw (e, add-zero)
first_hit test i (suc k) (suc n) l y b =
    let e : test i ≡ false = b i (omega arith) (omega arith) in
    let q : suc i + k ≡ i + suc k = omega arith in
    rw (e, ← q) (first_hit test (suc i) k n (omega arith) (rw q y) (λ j h h'. b j (omega arith) (omega arith)))

-- and one whose tests are all answered no
first_miss : (test : ℕ → Bool) (i n : ℕ) → ((j : ℕ) → i ≤ j → j < i + n → test j ≡ false) → None ≡ first_from test i n
unfolding first_from
first_miss test i zero b = refl
first_miss test i (suc n) b =
    let e : test i ≡ false = b i (omega arith) (omega arith) in
    rw e (first_miss test (suc i) n (λ j h h'. b j (omega arith) (omega arith)))

-- what `find` tells of the first n numbers
is_first : (test : ℕ → Bool) (n : ℕ) (r : Option ℕ)
    → MatchOption r ((j : ℕ) → 0 ≤ j → j < n → test j ≡ false) (λ k. (0 ≤ k) × (k < n) × (test k ≡ true) × ((j : ℕ) → 0 ≤ j → j < k → test j ≡ false))
    → r ≡ first test n
is_first test n None m = first_miss test 0 n (λ j h l. m j h (omega arith))
is_first test n (Some k) m =
    let z : 0 + k ≡ k = omega arith in
    rw z at (first_hit test 0 k n m.1 (rw z m.2) (λ j h l. m.3 j h (omega arith)))

pub first_found : {F : Type 0} {g : Mut F (Bor ℕ × Unit {0}) Bool} (test : ℕ → Bool) (n : ℕ) (u : Range ℕ) (f : F) (r : Option ℕ)
    → FindsItem nat_range_steps g (record { start = 0; end = n }) f r u
    → ((x : ℕ) (b : Bool) (q : F) → CalledAt g f x b q → (q ≡ f) × (b ≡ test x)) → r ≡ first test n
first_found test n u f r ran answers =
    is_first test n r
    (first_from_Range _ u f r (λ i. test i ≡ true) (λ i. test i ≡ false) ran
    (λ x q k. sym (answers x true q k).1) (λ x q k. ((answers x false q k).0, sym (answers x false q k).1)))

-- a place that is found is below the count
first_below : (test : ℕ → Bool) (i k j : ℕ) → first_from test i k ≡ Some j → j < i + k
unfolding first_from
first_below test i zero j e = absurd (let z : ◌≡◌ {A = ℕ} 0 1 = cc in omega arith)
first_below test i (suc k) j e = go (test i) e (first_below test (suc i) k j)
  where
    go : (t : Bool) → cond t (Some i) (first_from test (suc i) k) ≡ Some j → (first_from test (suc i) k ≡ Some j → j < suc i + k) → j < i + suc k
    go true e h = let q : i ≡ j = cc in omega arith
    go false e h = let l = h e in omega arith

found : (test : ℕ → Bool) (n j : ℕ) → first test n ≡ Some j → j < n
found test n j e = let l = first_below test 0 n j e in omega arith

or_below : (a b : Option ℕ) (n j : ℕ) → (a ≡ Some j → j < n) → (b ≡ Some j → j < n) → or_else a b ≡ Some j → j < n
or_below (Some i) b n j f g e = f e
or_below None b n j f g e = g e

pub record_of_below : (shape : Shape) (numbers : List ℕ) (peer p : ℕ) → record_of shape numbers peer ≡ Some p → p < shape.max_peers
unfolding record_of
record_of_below shape numbers peer p e = found _ _ p e

pub record_for_below : (shape : Shape) (numbers : List ℕ) (peer p : ℕ) → record_for shape numbers peer ≡ Some p → p < shape.max_peers
unfolding record_for
record_for_below shape numbers peer p e =
    let unbound : ℕ → Bool = λ i. not (is_bound numbers i) in
    or_below (record_of shape numbers peer) _ _ p (record_of_below shape numbers peer p)
    (or_below (first unbound shape.max_peers) (first (is_idle numbers) shape.max_peers) _ p (found unbound _ p) (found (is_idle numbers) _ p)) e

pub slot_open_below : (numbers : List ℕ) (p request_id s : ℕ) → slot_open numbers p request_id ≡ Some s → s < 4
unfolding slot_open
slot_open_below numbers p request_id s e = found _ _ s e

pub slot_for_below : (numbers : List ℕ) (p request_id s : ℕ) → slot_for numbers p request_id ≡ Some s → s < 4
unfolding slot_for
slot_for_below numbers p request_id s e = or_below (slot_open numbers p request_id) _ 4 s (slot_open_below numbers p request_id s) (found _ 4 s) e

-- the words of a record that is found
pub record_in : (shape : Shape) (numbers : List ℕ) (peer p : ℕ) → has_numbers shape numbers ≡ true → record_of shape numbers peer ≡ Some p
    → HasPeer numbers p
record_in shape numbers peer p e f =
    let l = numbers_long shape numbers e in
    let b = record_of_below shape numbers peer p f in
    omega arith
