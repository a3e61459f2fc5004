use mathlib.Core.List.{map}
use mathlib.Core.Path.{◌≡◌}
use lib.ListN.{length}
use Rattle.seven_bit.specs.Parts.{put, joined}
use Rattle.pe_chunker.specs.Split.{first_chunks}
use Rattle.pe_chunker.proofs.split.put_all.Given as goal

abbrev pub invariant-loop-k : goal.invariant-loop-k
invariant-loop-k l =
    (l.at ≡ length (joined (first_chunks l.list.request_id l.list.header.now l.list.body.now l.list.max_sysex l.k)))
    × (l.out ≡ put l.initial.out 0 (joined (first_chunks l.list.request_id l.list.header.now l.list.body.now l.list.max_sysex l.k)))
    × (l.lengths ≡ put l.initial.lengths 0 (map length (first_chunks l.list.request_id l.list.header.now l.list.body.now l.list.max_sysex l.k)))
