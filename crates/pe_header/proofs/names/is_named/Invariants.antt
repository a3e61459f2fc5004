use mathlib.Core.Bool.{Bool}
use lib.ListN.{drop}
use Rattle.pe_header.proofs.NameLaws.{Named}
use Rattle.pe_header.proofs.names.is_named.Given as goal

abbrev pub invariant-loop-b : goal.invariant-loop-b
invariant-loop-b l = (t : Bool) → Named l.text l.i (drop l.b-index l.name) t → Named l.text l.at l.name t
