use Rattle.std.specs.Prelude.{ℕ, ◌≡◌, ◌+◌, ◌≤◌, ◌%◌, drop, map}
use Rattle.seven_bit.specs.Parts.{put}
use Rattle.pe_mcoded7.specs.Mcoded7.{flags}
use Rattle.pe_mcoded7.proofs.groups.encode_group.Given as goal

abbrev pub invariant-loop-i : goal.invariant-loop-i
invariant-loop-i l = record {
  lows : l.out ≡ put l.initial.out (l.at + 1 + l.i) (map (λ (d : ℕ). d % 128) (drop l.i l.group));
  gathered : l.flags ≡ flags 6 (drop l.i l.group);
  low : l.flags ≤ 127;
}
