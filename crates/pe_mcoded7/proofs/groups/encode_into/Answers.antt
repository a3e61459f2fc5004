use Rattle.std.specs.Prelude.{◌+◌, ◌≡◌}
use mathlib.Core.Path.{sym, ap, ◌∙◌}
use native.Mathlib.Omega.{arith}
use lib.ListN.{length, length-append}
use Rattle.std.specs.Slice.Iter.{chunks_rest}
use Rattle.pe_mcoded7.specs.Mcoded7.{group_bytes, encoded}
use Rattle.pe_mcoded7.proofs.TextLaws.{Chunk, chunk_next, encoded_groups, length_group_bytes}
use Rattle.pe_mcoded7.proofs.StoreLaws.{chunk_stored, group_none}
use Rattle.pe_mcoded7.proofs.groups.encode_into.Goals as goal
use Rattle.pe_mcoded7.proofs.groups.encode_into.Goals.{In-Some}

chunk : (c : In-Some) → Chunk 7 (chunks_rest c.loop-group.group-iterator) c.in-Some.group.now (chunks_rest c.next.new.self)
chunk c =
    let s = c.in-Some.ensures.steps in
    record { whole = s.1.0; size = rw c.loop-group.invariant.size at s.1.1; some = s.1.2 }

-- the room that the group and what follows it take
lengths : (c : In-Some)
    → length (encoded (chunks_rest c.loop-group.group-iterator)) ≡ length (group_bytes c.in-Some.group.now) + length (encoded (chunks_rest c.next.new.self))
lengths c = ap length (chunk_next encoded_groups (chunk c)) ∙ length-append (group_bytes c.in-Some.group.now) (encoded (chunks_rest c.next.new.self))

pub encode_group-requires : goal.encode_group-requires
encode_group-requires c =
    let at = (goal.at.encode_group-requires c).In-Some in
    let k = chunk at in
    (omega (arith, k.size), omega (arith, lengths at, length_group_bytes c.in-Some.group.now))

pub loop-group-preserved : goal.loop-group-preserved
loop-group-preserved c =
    let at = (goal.at.loop-group-preserved c).In-Some in
    let l = c.loop-group in
    let g = c.in-Some.group.now in
    let n : length (group_bytes g) ≡ 1 + length g = length_group_bytes g in
    let stored = chunk_stored encoded_groups (chunk at) l.out l.at (1 + length g) n in
    record {
      next = omega (arith, c.in-Some.ensures.steps.0);
      finite = tt;
      size = c.in-Some.ensures.steps.0 ∙ l.invariant.size;
      room = omega (arith, lengths at);
      left = rw c.encode_group.ensures (stored ∙ l.invariant.left);
    }

pub returns : goal.returns
returns c = sym (group_none encoded_groups c.loop-group.out _ c.loop-group.at c.in-None.ensures.steps.1.0) ∙ c.loop-group.invariant.left
