-- How the rest of a block is moved to its front.
-- Assumes nothing.
use Prim.Native.Nat.{ℕ, ◌+◌, ◌-◌, ◌≤◌, ◌<◌}
use native.Mathlib.Omega.{arith}
use mathlib.Core.List.{List, ◌++◌}
use mathlib.Core.Path.{◌≡◌, sym, ap, ◌∙◌}
use lib.ListN.{length, get_or, set, drop}
use lib.Seq.{get_or-append-add, get_or-drop}
use Rattle.seven_bit.specs.Parts.{part, put}
use Rattle.seven_bit.proofs.PartLaws.{length_part, part_none, put_none, put_front}
use Rattle.seven_bit.proofs.CopyLaws.{next_copied}

-- nothing is moved yet
pub none_moved : (block : List ℕ) (from : ℕ) → block ≡ put block 0 (part from (from - from) block)
none_moved block from =
    let n : from - from ≡ 0 = omega arith in
    sym (ap (λ (k : ℕ). put block 0 (part from k block)) n ∙ ap (put block 0) (part_none from block) ∙ put_none block 0)

-- what is still to be moved is as it was
not_yet : (block : List ℕ) (from i : ℕ) → from ≤ i → i < length block → get_or (put block 0 (part from (i - from) block)) i 0 ≡ get_or block i 0
not_yet block from i h l =
    let k : length (part from (i - from) block) ≡ i - from = length_part from (i - from) block (omega (arith, h, l)) in
    let e : put block 0 (part from (i - from) block) ≡ part from (i - from) block ++ drop (length (part from (i - from) block)) block =
    put_front block (part from (i - from) block) (omega (arith, k, l)) in
    let at : i ≡ length (part from (i - from) block) + from = omega (arith, k, h) in
    let back : length (part from (i - from) block) + from ≡ i = omega (arith, k, h) in
    ap (λ (xs : List ℕ). get_or xs i 0) e
    ∙ ap (λ (n : ℕ). get_or (part from (i - from) block ++ drop (length (part from (i - from) block)) block) n 0) at
    ∙ get_or-append-add (part from (i - from) block) (drop (length (part from (i - from) block)) block) from 0
    ∙ get_or-drop (length (part from (i - from) block)) block from 0
    ∙ ap (λ (n : ℕ). get_or block n 0) back

-- one byte more is moved
pub next_moved : (block moved : List ℕ) (from i : ℕ) → from ≤ i → i < length block → moved ≡ put block 0 (part from (i - from) block)
    → set moved (i - from) (get_or moved i 0) ≡ put block 0 (part from (i + 1 - from) block)
next_moved block moved from i h l e =
    ap (λ (xs : List ℕ). set xs (i - from) (get_or xs i 0)) e
    ∙ ap (set (put block 0 (part from (i - from) block)) (i - from)) (not_yet block from i h l)
    ∙ next_copied block 0 block from (i - from) 0 (i - from) i (i + 1 - from) (omega arith) (omega (arith, h)) (omega (arith, h)) l
