use mathlib.Core.Bool.{false}
use mathlib.Core.Path.{◌≡◌}
use Rattle.pe_header.specs.Names.{Lacks}
use Rattle.pe_header.proofs.names.has_print.Given as goal

abbrev pub invariant-loop-p : goal.invariant-loop-p
invariant-loop-p l = l.found ≡ false → Lacks l.prints l.print 0 l.p-index
