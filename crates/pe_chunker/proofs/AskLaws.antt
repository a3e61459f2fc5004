-- The questions of a cut: their answers by the code's tests, and what a grant tells.
-- Assumes nothing.
use Prim.Native.Nat.{ℕ, ◌<◌, ◌≤◌}
use mathlib.Core.Bool.{true, false}
use mathlib.Core.List.{List}
use mathlib.Core.Path.{◌≡◌, refl, ◌∙◌}
use borrow.Author.Tests.{le-leb, lt-leb, leb-true}
use lib.Dec.{leb}
use lib.ListN.{length}
use Rattle.seven_bit.specs.Reply.{Reply, granted, refused, and_next}
use Rattle.seven_bit.specs.SevenBit.{is_seven_bit}
use Rattle.seven_bit.proofs.ReplyLaws.{asked, first_granted as granted-first, then_else}
use Rattle.pe_chunker.specs.Cut.{later_capacity, body_pieces, ask_first, ask_cut}
pub use Rattle.pe_chunker.specs.Cut.{Cut}
use Rattle.pe_chunker.proofs.CutLaws.{first_granted, first_refused, first_told}

-- the refusals, each past the questions before it
pub cut_id : {A : Type 0} (id : ℕ) (header body : List ℕ) (limit : ℕ) (next : Reply A) → 127 < id → ask_cut id header body limit next ≡ refused 1 0
unfolding ask_cut
cut_id id header body limit next h = rw (lt-leb _ _ h)

pub cut_high : {A : Type 0} (id : ℕ) (header body : List ℕ) (limit : ℕ) (next : Reply A) → id ≤ 127 → is_seven_bit header ≡ false
    → ask_cut id header body limit next ≡ refused 1 0
unfolding ask_cut
cut_high id header body limit next i s = rw (le-leb _ _ i, s)

pub cut_high_body : {A : Type 0} (id : ℕ) (header body : List ℕ) (limit : ℕ) (next : Reply A) → id ≤ 127 → is_seven_bit header ≡ true → is_seven_bit body ≡ false
    → ask_cut id header body limit next ≡ refused 1 0
unfolding ask_cut
cut_high_body id header body limit next i s b = rw (le-leb _ _ i, s, b)

pub cut_many : {A : Type 0} (id : ℕ) (header body : List ℕ) (limit : ℕ) (next : Reply A) → id ≤ 127 → is_seven_bit header ≡ true → is_seven_bit body ≡ true
    → length header ≤ 4096 → length header ≤ later_capacity limit → 16383 < length (body_pieces limit (length header) body)
    → ask_cut id header body limit next ≡ refused 5 0
unfolding ask_cut
cut_many id header body limit next i s b h w m =
    rw (le-leb _ _ i, s, b, le-leb _ _ h, first_granted limit (length header) w, lt-leb _ _ m)

pub cut_long : {A : Type 0} (id : ℕ) (header body : List ℕ) (limit : ℕ) (next : Reply A) → id ≤ 127 → is_seven_bit header ≡ true → is_seven_bit body ≡ true
    → 4096 < length header → ask_cut id header body limit next ≡ refused 4 0
unfolding ask_cut
cut_long id header body limit next i s b h = rw (le-leb _ _ i, s, b, lt-leb _ _ h)

pub cut_wide : {A : Type 0} (id : ℕ) (header body : List ℕ) (limit : ℕ) (next : Reply A) → id ≤ 127 → is_seven_bit header ≡ true → is_seven_bit body ≡ true
    → length header ≤ 4096 → later_capacity limit < length header → ask_cut id header body limit next ≡ refused 4 0
unfolding ask_cut
cut_wide id header body limit next i s b h w = rw (le-leb _ _ i, s, b, le-leb _ _ h, first_refused limit (length header) w)

pub cut_asked : {A : Type 0} (id : ℕ) (header body : List ℕ) (limit : ℕ) (next : Reply A) → Cut id header body limit → ask_cut id header body limit next ≡ next
unfolding ask_cut
cut_asked id header body limit next c =
    rw (
      le-leb _ _ c.low,
      c.header_bytes,
      c.body_bytes,
      le-leb _ _ c.receivable,
      first_granted limit (length header) c.fits,
      le-leb _ _ c.few,
    )

-- what a grant tells
pub cut_told : {A : Type 0} (id : ℕ) (header body : List ℕ) (limit : ℕ) (next : Reply A) (a : A) → ask_cut id header body limit next ≡ granted a
    → Cut id header body limit × (next ≡ granted a)
unfolding ask_cut
cut_told id header body limit next a q =
    let p1 = asked (leb id 127) 1 _ a q in
    let p2 = asked (is_seven_bit header) 1 _ a p1.1 in
    let p3 = asked (is_seven_bit body) 1 _ a p2.1 in
    let p4 = asked (leb (length header) 4096) 4 _ a p3.1 in
    let p5 = granted-first (ask_first limit (length header)) _ a p4.1 in
    let p6 = asked (leb (length (body_pieces limit (length header) body)) 16383) 5 next a p5.2 in (
      record {
        low = leb-true _ _ p1.0;
        header_bytes = p2.0;
        body_bytes = p3.0;
        receivable = leb-true _ _ p4.0;
        fits = first_told limit (length header) p5.0 p5.1;
        few = leb-true _ _ p6.0;
      },
      p6.1,
    )

-- what follows an answer may be put after it
then_first : {A B C : Type 0} (q : Reply C) (g : C → Reply A) (g' : C → Reply B) (f : A → Reply B) → ((c : C) → g' c ≡ and_next (g c) f)
    → and_next q g' ≡ and_next (and_next q g) f
then_first (granted c) g g' f e = e c
then_first (refused number value) g g' f e = refl

-- what follows the questions may be put after them
then_cut : {A B : Type 0} (id : ℕ) (header body : List ℕ) (limit : ℕ) (r : Reply A) (r' : Reply B) (f : A → Reply B) → r' ≡ and_next r f
    → ask_cut id header body limit r' ≡ and_next (ask_cut id header body limit r) f
unfolding ask_cut
then_cut id header body limit r r' f e =
    then_else (leb id 127) 1 _ _ f
    (then_else (is_seven_bit header) 1 _ _ f
    (then_else (is_seven_bit body) 1 _ _ f
    (then_else (leb (length header) 4096) 4 _ _ f
    (then_first (ask_first limit (length header)) _ _ f
    (λ _. then_else (leb (length (body_pieces limit (length header) body)) 16383) 5 r r' f e)))))

-- a refusal by the questions is the same whatever follows them
pub cut_refused : {A B : Type 0} (id : ℕ) (header body : List ℕ) (limit : ℕ) (a : A) (next : Reply B) (number value : ℕ)
    → ask_cut id header body limit (granted a) ≡ refused number value → ask_cut id header body limit next ≡ refused number value
cut_refused id header body limit a next number value q = then_cut id header body limit (granted a) next (λ _. next) refl ∙ rw q
