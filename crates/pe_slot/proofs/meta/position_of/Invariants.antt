use Rattle.std.proofs.Common.{◌≡◌, map, length, take}
use Rattle.pe_slot.specs.Meta.{word_of}
use Rattle.pe_slot.proofs.meta.position_of.Given as goal

abbrev pub invariant-loop-i : goal.invariant-loop-i
invariant-loop-i l = (length l.table ≡ 2048) × (take l.i (map word_of l.table) ≡ take l.i l.index)
