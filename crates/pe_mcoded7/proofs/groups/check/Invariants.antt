use Rattle.std.specs.Prelude.{◌≡◌}
use Rattle.std.specs.Slice.Iter.{chunks_rest, chunks_size}
use Rattle.pe_mcoded7.proofs.AskLaws.{ask_text}
use Rattle.pe_mcoded7.proofs.groups.check.Given as goal

abbrev pub invariant-loop-group : goal.invariant-loop-group
invariant-loop-group l = record {
  next : (goal.iterator-loop-group).can_next l.group-iterator;
  finite : (goal.iterator-loop-group).is_finite l.group-iterator;
  size : chunks_size l.group-iterator ≡ 8;
  left : ask_text l.input ≡ ask_text (chunks_rest l.group-iterator);
}
