-- The laws of the loops' stores: what is stored and what is left to store make the whole.
-- Assumes nothing.
use Prim.Native.Nat.{ℕ, suc, ◌+◌, ◌*◌, ◌/◌, ◌%◌, ◌<◌, ◌≤◌}
use mathlib.Core.List.{List, [], ◌∷◌, map}
use mathlib.Core.Path.{◌≡◌, refl, sym, ap, ◌∙◌}
use native.Mathlib.Numerals.{add-one}
use native.Mathlib.Omega.{arith}
use lib.ListN.{length, get_or, drop, set, length-drop}
use lib.Seq.{drop-cons, set_comm}
use Rattle.seven_bit.specs.Parts.{put}
use Rattle.seven_bit.specs.Reply.{Reply, granted, outcome, writing}
use Rattle.seven_bit.proofs.PartLaws.{put_put, put_none, put_front}
use Rattle.pe_mcoded7.specs.Mcoded7.{flags, group_bytes, restored, group_data}
use Rattle.pe_mcoded7.proofs.FlagLaws.{flags_next, restored_next}
use Rattle.pe_mcoded7.proofs.TextLaws.{nothing, Chunk, chunk_next, InGroups}

-- a store before others goes first
set_put : (xs ys : List ℕ) (a b y : ℕ) → a < b → set (put xs b ys) a y ≡ put (set xs a y) b ys
unfolding put
set_put xs [] a b y h = refl
set_put xs (z ∷ ys) a b y h =
    let n : b ≡ a → ⊥ = λ e. omega arith in
    unfold put in (set_put (set xs b z) ys a (suc b) y (omega arith) ∙ rw (set_comm xs b a z y n))

-- a store right before what is put, and right after the start of it
pub put_before : (xs ys : List ℕ) (a b y : ℕ) → b ≡ suc a → set (put xs b ys) a y ≡ put xs a (y ∷ ys)
unfolding put
put_before xs ys a b y e = rw e (set_put xs ys a (suc a) y (omega arith))

pub put_first : (xs ys : List ℕ) (a y : ℕ) → put (set xs a y) (a + 1) ys ≡ put xs a (y ∷ ys)
unfolding put
put_first xs ys a y = rw (add-one a)

-- the byte before those whose low bits are stored, and before those whose flags are gathered
pub low_before : (out g : List ℕ) (a b i j : ℕ) → b ≡ suc a → i ≡ suc j → j < length g
    → set (put out b (map (λ (d : ℕ). d % 128) (drop i g))) a (get_or g j 0 % 128) ≡ put out a (map (λ (d : ℕ). d % 128) (drop j g))
low_before out g a b i j e e' h = rw (e', drop-cons g j 0 h) (put_before out _ a b (get_or g j 0 % 128) e)

pub flags_before : (g : List ℕ) (i j : ℕ) → i ≡ suc j → j < length g → length g ≤ 7 → flags 6 (drop i g) / 2 + get_or g j 0 / 128 * 64 ≡ flags 6 (drop j g)
flags_before g i j e h l =
    let n : length (drop (suc j) g) ≤ 6 = omega (arith, length-drop (suc j) g) in
    rw (e, drop-cons g j 0 h) (sym (flags_next (get_or g j 0) (drop (suc j) g) n))

-- the flag byte before them all
pub group_stored : (out g : List ℕ) (a b i : ℕ) → b ≡ suc a → i ≡ 0
    → set (put out b (map (λ (d : ℕ). d % 128) (drop i g))) a (flags 6 (drop i g)) ≡ put out a (group_bytes g)
unfolding group_bytes
group_stored out g a b i e z = rw z (put_before out (map (λ (d : ℕ). d % 128) g) a b (flags 6 g) e)

-- what is made of a chunk is stored, and of what follows it is left to store
pub chunk_stored : {k : ℕ} {one whole : List ℕ → List ℕ} {s g rest : List ℕ} (w : InGroups k one whole) → Chunk k s g rest
    → (out : List ℕ) (at size : ℕ) → length (one g) ≡ size → put (put out at (one g)) (at + size) (whole rest) ≡ put out at (whole s)
chunk_stored {k} {one} {whole} {s} {g} {rest} w c out at size n =
    put_put out at (one g) (whole rest) (at + size) (ap (λ (m : ℕ). at + m) (sym n)) ∙ ap (put out at) (sym (chunk_next w c))

-- nothing is left to store
pub group_none : {k : ℕ} {one whole : List ℕ → List ℕ} → InGroups k one whole → (out rest : List ℕ) (at : ℕ) → length rest ≡ 0 → put out at (whole rest) ≡ out
group_none {k} {one} {whole} w out rest at e = rw (nothing rest e, w.none) (put_none out at)

-- a byte of a group, and those after it with the flags moved up
pub restore_next : (out ds : List ℕ) (at f i : ℕ) → f ≤ 127 → i < length ds → length ds ≤ 7
    → put (set out (at + i) (get_or ds i 0 + f / 64 * 128)) (at + (i + 1)) (restored (f % 64 * 2) 6 (drop (i + 1) ds)) ≡ put out (at + i) (restored f 6 (drop i ds))
restore_next out ds at f i k h l =
    let n : length (drop (suc i) ds) ≤ 6 = omega (arith, length-drop (suc i) ds) in
    let e : at + (i + 1) ≡ at + i + 1 = omega arith in
    rw (e, add-one i, drop-cons ds i 0 h, restored_next f (get_or ds i 0) (drop (suc i) ds) k n)
    (put_first out (restored (f % 64 * 2) 6 (drop (suc i) ds)) (at + i) (get_or ds i 0 + f / 64 * 128))

pub restore_start : (g : List ℕ) → 0 < length g → restored (get_or g 0 0) 6 (drop 1 g) ≡ group_data g
unfolding group_data
restore_start [] h = absurd (omega arith)
restore_start (f ∷ ds) h = refl

pub restore_end : (out ds : List ℕ) (a f : ℕ) → ds ≡ [] → put out a (restored f 6 ds) ≡ out
unfolding restored
restore_end out ds a f e = rw e (put_none out a)

-- what was put at the front is what a writer leaves
pub put_written : (r : Reply (List ℕ)) (bs out after : List ℕ) (n : ℕ) → r ≡ granted bs → length bs ≡ n → n ≤ length out → after ≡ put out 0 bs
    → outcome (granted n) after ≡ writing r out
put_written r bs out after n q e h p = rw (q, p, ← e) (ap (outcome (granted (length bs))) (put_front out bs (omega arith)))
