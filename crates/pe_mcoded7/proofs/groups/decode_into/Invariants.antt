use Rattle.std.specs.Prelude.{true, ◌≡◌, ◌+◌, ◌≤◌, length}
use Rattle.std.specs.Slice.Iter.{chunks_rest, chunks_size}
use Rattle.seven_bit.specs.Parts.{put}
use Rattle.seven_bit.specs.SevenBit.{is_seven_bit}
use Rattle.pe_mcoded7.specs.Mcoded7.{decoded}
use Rattle.pe_mcoded7.proofs.groups.decode_into.Given as goal

abbrev pub invariant-loop-group : goal.invariant-loop-group
invariant-loop-group l = record {
  next : (goal.iterator-loop-group).can_next l.group-iterator;
  finite : (goal.iterator-loop-group).is_finite l.group-iterator;
  size : chunks_size l.group-iterator ≡ 8;
  low : is_seven_bit (chunks_rest l.group-iterator) ≡ true;
  room : l.at + length (decoded (chunks_rest l.group-iterator)) ≤ length l.initial.out;
  left : put l.out l.at (decoded (chunks_rest l.group-iterator)) ≡ put l.initial.out 0 (decoded l.input);
}
