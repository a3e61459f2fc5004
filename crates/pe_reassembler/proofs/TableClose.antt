-- The laws of a part that is lent and comes back, and of a slot that is closed in its place.
-- Assumes nothing.
use Prim.Native.Nat.{ℕ, ◌+◌, ◌-◌, ◌≤◌}
use mathlib.Core.List.{List, ◌++◌}
use mathlib.Core.Path.{◌≡◌, ap, ◌∙◌}
use native.Mathlib.Omega.{arith}
use lib.ListN.{length, take, drop}
use Rattle.seven_bit.specs.Parts.{part, splice}
use Rattle.seven_bit.proofs.PartLaws.{length_part}
use Rattle.pe_slot.specs.Layout.{slot_words}
use Rattle.pe_slot.specs.Feed.{close_words}
use Rattle.pe_slot.proofs.SlotWords.{close_nine}
use Rattle.pe_reassembler.specs.Calls.{close_at}
use Rattle.pe_reassembler.specs.Table.{slot_at}

-- `&xs[a..a + k]` is lent as this part, and what it then holds goes into its place
count : (a k : ℕ) → a + k - a ≡ k
count a k = omega arith

pub part_lent : {A : Type 0} (a k : ℕ) (xs : List A) → take (a + k - a) (drop a xs) ≡ part a k xs
part_lent a k xs = rw (count a k)

pub part_back : {A : Type 0} (a k : ℕ) (xs ys : List A) → take a xs ++ (ys ++ drop (a + k - a) (drop a xs)) ≡ splice a k xs ys
part_back a k xs ys = rw (count a k)

pub close_back : (numbers words : List ℕ) (p s at : ℕ) → at ≡ slot_at p s → slot_at p s + slot_words ≤ length numbers
    → words ≡ close_words (take (at + slot_words - at) (drop at numbers))
    → take at numbers ++ (words ++ drop (at + slot_words - at) (drop at numbers)) ≡ close_at p s numbers
unfolding close_at
close_back numbers words p s at e h f =
    let g : words ≡ close_words (part at slot_words numbers) = f ∙ ap close_words (part_lent at slot_words numbers) in
    part_back at slot_words numbers words ∙ rw (g, e, close_nine (part (slot_at p s) slot_words numbers) (length_part (slot_at p s) slot_words numbers h))
