use mathlib.Core.Bool.{Bool, true}
use mathlib.Core.List.{List}
use mathlib.Core.Path.{◌≡◌, refl, sym, ap, ◌∙◌}
use Prim.Native.Nat.{ℕ, ◌+◌, ◌-◌}
use native.Mathlib.Omega.{arith}
use borrow.Author.Tests.{lt-leb}
use lib.ListN.{take}
use Rattle.seven_bit.specs.Parts.{part}
use Rattle.seven_bit.specs.SevenBit.{is_seven_bit, number_of}
use Rattle.pe_frame.specs.Chunk.{read_end, read_fields}
use Rattle.pe_frame.proofs.ChunkLaws.{low_short, low_fields, high_size, high_counts, high_end}
use Rattle.pe_frame.proofs.LowLaws.{from_start}
use Rattle.pe_frame.proofs.frame.high_byte.Goals as goal
use Rattle.pe_frame.proofs.frame.high_byte.Goals.{After-u14_at, After-u14_at-2}

-- what is asked of the bytes from the start to n
asked : (s : List ℕ) (n : ℕ) (b : Bool) → b ≡ is_seven_bit (part 0 (n - 0) s) → b ≡ is_seven_bit (take n s)
asked s n b h = let e : n - 0 ≡ n = omega arith in h ∙ ap (λ (k : ℕ). is_seven_bit (part 0 k s)) e ∙ ap is_seven_bit (from_start n s)

size_low : (c : After-u14_at) → is_seven_bit (take 3 c.args.«data».now) ≡ true
size_low c = sym (asked c.args.«data».now 3 _ c.each_low.ensures) ∙ c.if-not-each_low.false

counts_low : (c : After-u14_at-2) → is_seven_bit (take (9 + c.u14_at.result) c.args.«data».now) ≡ true
counts_low c = sym (asked c.args.«data».now (9 + c.u14_at.result) _ c.each_low-2.ensures) ∙ c.if-not-each_low-2.false

behind : (c : After-u14_at-2) → let s = c.args.«data».now in let nh = c.u14_at.result in
    read_fields s ≡ read_end s nh (number_of (part (3 + nh) 2 s)) (number_of (part (3 + nh + 2) 2 s)) c.u14_at-2.result
behind c =
    let nh = c.u14_at.result in
    let e : 9 + nh - 2 ≡ 3 + nh + 4 = omega arith in
    let low : is_seven_bit (take (9 + nh) c.args.«data».now) ≡ true = sym (asked c.args.«data».now (9 + nh) _ c.each_low-2.ensures) ∙ c.if-not-each_low-2.false in
    low_fields c.args.«data».now c.requires.0 (9 + nh) low nh _ _ _ (omega arith) c.u14_at.ensures c.if-data-property_at.false refl refl
    (c.u14_at-2.ensures ∙ ap (λ (k : ℕ). number_of (part k 2 c.args.«data».now)) e)

pub returns-then-not-each_low : goal.returns-then-not-each_low
returns-then-not-each_low c =
    sym (high_size c.args.«data».now c.requires.0 (sym (asked c.args.«data».now 3 _ c.each_low.ensures) ∙ c.if-not-each_low.true))

pub returns-then-data-property_at : goal.returns-then-data-property_at
returns-then-data-property_at c =
    sym (low_short c.args.«data».now c.requires.0 3 (size_low (goal.at.returns-then-data-property_at c).After-u14_at) _ (omega arith) c.u14_at.ensures c.if-data-property_at.true)

pub returns-then-not-each_low-2 : goal.returns-then-not-each_low-2
returns-then-not-each_low-2 c =
    sym (high_counts c.args.«data».now _ (size_low (goal.at.returns-then-not-each_low-2 c).After-u14_at) c.u14_at.ensures c.if-data-property_at.false (sym (asked c.args.«data».now (9 + c.u14_at.result) _ c.each_low-2.ensures) ∙ c.if-not-each_low-2.true))

pub returns-then-data-property_at-2 : goal.returns-then-data-property_at-2
unfolding read_end
returns-then-data-property_at-2 c = rw (behind (goal.at.returns-then-data-property_at-2 c).After-u14_at-2, lt-leb _ _ c.if-data-property_at-2.true)

pub returns : goal.returns
returns c =
    sym (behind (goal.at.returns c).After-u14_at-2 ∙ high_end c.args.«data».now _ _ _ _ (counts_low (goal.at.returns c).After-u14_at-2) c.requires.1 c.if-data-property_at-2.false)
