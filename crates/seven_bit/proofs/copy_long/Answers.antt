use mathlib.Core.Path.{refl, ap, ◌∙◌}
use Prim.Native.Nat.{ℕ, ◌+◌, ◌-◌, ◌*◌, ◌/◌, ◌%◌}
use lib.ListN.{length}
use native.Mathlib.Omega.{arith}
use borrow.Author.Rules.{rules}
use mathlib.Core.List.{List}
use Rattle.seven_bit.specs.Parts.{part, put}
use Rattle.seven_bit.proofs.CopyLaws.{copied_long}
use Rattle.seven_bit.proofs.copy_long.Goals as goal

pub returns : goal.returns
returns c =
    let a = c.args in
    let n = length a.src.now in
    let start = 16 - a.at % 16 in
    let end = start + (n - start) / 32 * 32 in
    let copy : ℕ → ℕ → List ℕ → List ℕ = λ from k l. put l (a.at + from) (part from k a.src.now) in
    c.copy_block-3.ensures
    ∙ ap (copy (n - 16) 16) c.copy_block-2.ensures
    ∙ ap (λ l. copy (n - 16) 16 (copy (n - 32) 16 l)) c.copy_range.ensures
    ∙ ap (λ l. copy (n - 16) 16 (copy (n - 32) 16 (copy start (end - start) l))) c.copy_block.ensures
    ∙ copied_long a.dst.now a.at a.src.now (search rules) start end n refl (search rules) (omega arith) (omega arith) (omega arith) (omega arith)
