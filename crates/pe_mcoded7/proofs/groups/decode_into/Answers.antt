use Rattle.std.specs.Prelude.{true, ◌+◌, ◌-◌, ◌≡◌}
use mathlib.Core.Path.{sym, ap, ◌∙◌}
use native.Mathlib.Omega.{arith}
use lib.ListN.{length, length-append}
use Rattle.std.specs.Slice.Iter.{chunks_rest}
use Rattle.seven_bit.specs.SevenBit.{is_seven_bit}
use Rattle.pe_mcoded7.specs.Mcoded7.{group_data, decoded}
use Rattle.pe_mcoded7.proofs.TextLaws.{Chunk, chunk_front, chunk_behind, chunk_next, decoded_groups, length_group_data}
use Rattle.pe_mcoded7.proofs.AskLaws.{seven_bit_take, seven_bit_drop}
use Rattle.pe_mcoded7.proofs.StoreLaws.{chunk_stored, group_none}
use Rattle.pe_mcoded7.proofs.groups.decode_into.Goals as goal
use Rattle.pe_mcoded7.proofs.groups.decode_into.Goals.{In-Some}

chunk : (c : In-Some) → Chunk 8 (chunks_rest c.loop-group.group-iterator) c.in-Some.group.now (chunks_rest c.next.new.self)
chunk c =
    let s = c.in-Some.ensures.steps in
    record { whole = s.1.0; size = rw c.loop-group.invariant.size at s.1.1; some = s.1.2 }

-- the room that the group and what follows it take
lengths : (c : In-Some)
    → length (decoded (chunks_rest c.loop-group.group-iterator)) ≡ length (group_data c.in-Some.group.now) + length (decoded (chunks_rest c.next.new.self))
lengths c = ap length (chunk_next decoded_groups (chunk c)) ∙ length-append (group_data c.in-Some.group.now) (decoded (chunks_rest c.next.new.self))

-- bytes up to 7F
low : (c : In-Some) → (is_seven_bit c.in-Some.group.now ≡ true) × (is_seven_bit (chunks_rest c.next.new.self) ≡ true)
low c =
    let s = chunks_rest c.loop-group.group-iterator in
    let h = c.loop-group.invariant.low in
    (rw (chunk_front (chunk c)) at (seven_bit_take 8 s h), rw (chunk_behind (chunk c)) at (seven_bit_drop 8 s h))

pub decode_group-requires : goal.decode_group-requires
decode_group-requires c =
    let at = (goal.at.decode_group-requires c).In-Some in
    let k = chunk at in
    (omega (arith, k.size, k.some), omega (arith, k.size), (low at).0, omega (arith, k.size, k.some, lengths at, length_group_data c.in-Some.group.now))

pub loop-group-preserved : goal.loop-group-preserved
loop-group-preserved c =
    let at = (goal.at.loop-group-preserved c).In-Some in
    let l = c.loop-group in
    let g = c.in-Some.group.now in
    let n : length (group_data g) ≡ length g - 1 = length_group_data g in
    let stored = chunk_stored decoded_groups (chunk at) l.out l.at (length g - 1) n in
    record {
      next = omega (arith, c.in-Some.ensures.steps.0);
      finite = tt;
      size = c.in-Some.ensures.steps.0 ∙ l.invariant.size;
      low = (low at).1;
      room = omega (arith, lengths at);
      left = rw c.decode_group.ensures (stored ∙ l.invariant.left);
    }

pub returns : goal.returns
returns c = sym (group_none decoded_groups c.loop-group.out _ c.loop-group.at c.in-None.ensures.steps.1.0) ∙ c.loop-group.invariant.left
