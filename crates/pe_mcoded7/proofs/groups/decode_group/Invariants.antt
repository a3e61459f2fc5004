use Rattle.std.specs.Prelude.{◌≡◌, ◌+◌, ◌≤◌, drop}
use Rattle.seven_bit.specs.Parts.{put}
use Rattle.pe_mcoded7.specs.Mcoded7.{restored, group_data}
use Rattle.pe_mcoded7.proofs.groups.decode_group.Given as goal

abbrev pub invariant-loop-i : goal.invariant-loop-i
invariant-loop-i l = record {
  low : l.flags ≤ 127;
  left : put l.out (l.at + l.i) (restored l.flags 6 (drop l.i l.byte-items)) ≡ put l.initial.out l.at (group_data l.group);
}
