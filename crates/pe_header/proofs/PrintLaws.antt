-- Numbers that are passed because none of them is the one that is looked for.
-- Assumes nothing.
use Prim.Native.Nat.{ℕ, ◌+◌, ◌-◌, ◌≤◌, ◌<◌}
use mathlib.Core.Bool.{Bool, true, false}
use mathlib.Core.List.{List}
use mathlib.Core.Path.{◌≡◌, refl, ap, ◌∙◌}
use native.Mathlib.Omega.{arith}
use borrow.Author.Tests.{ltb-true, ltb-false}
use lib.Dec.{ltb}
use lib.ListN.{length, get_or, take, drop, length-take, length-drop}
use lib.Seq.{get_or-take, get_or-drop}
use Rattle.pe_header.specs.Names.{Lacks}

pub lacks_none : (ns : List ℕ) (n a : ℕ) → Lacks ns n a a
lacks_none ns n a i h l = absurd (omega arith)

pub lacks_on : (ns : List ℕ) (n a b c : ℕ) → Lacks ns n a b → Lacks ns n b c → Lacks ns n a c
lacks_on ns n a b c first then i h l = go (ltb i b) refl
  where
    go : (t : Bool) → ltb i b ≡ t → get_or ns i 0 ≡ n → ⊥
    go true e = first i h (ltb-true i b e)
    go false e = then i (ltb-false i b e) l

-- a block from a place on
pub lacks_block : (ns : List ℕ) (n i block m : ℕ) → m ≡ block → i + block ≤ length ns
    → Lacks (take m (drop i ns)) n 0 (length (take m (drop i ns))) → Lacks ns n i (i + block)
lacks_block ns n i block m m= room none j h l q =
    let at : i + (j - i) ≡ j = omega arith in
    let inside : j - i < m = omega arith in
    let long : j - i < length (take m (drop i ns)) = simp (length-take, length-drop) (omega arith) in
    none (j - i) (omega arith) long
    (get_or-take m (drop i ns) (j - i) 0 inside ∙ get_or-drop i ns (j - i) 0 ∙ ap (λ (k : ℕ). get_or ns k 0) at ∙ q)
