use Prim.Native.Nat.{◌-◌}
use lib.ListN.{length}
use Rattle.pe_tape.specs.Table.{memory_in, SameRooms}
use Rattle.pe_tape.proofs.StepLaws.{Going}
use Rattle.pe_tape.proofs.play.play_on.Given as goal

abbrev pub invariant-loop-line : goal.invariant-loop-line
invariant-loop-line l = record {
  going : Going (memory_in l.initial.table) l.tape l.initial.out (memory_in l.table) l.out l.at l.written;
  same : SameRooms l.initial.table l.table;
}

abbrev pub decreases-loop-line : goal.decreases-loop-line
decreases-loop-line l = length l.tape - l.at
