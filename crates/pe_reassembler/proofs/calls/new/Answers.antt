use Rattle.std.proofs.Common.{sym, rules, tests}
use lib.Seq.{length-take-le}
use Rattle.pe_reassembler.proofs.TableLaws.{index_long}
use Rattle.pe_reassembler.proofs.CallsFresh.{made}
use Rattle.pe_reassembler.proofs.calls.new.Goals as goal

pub slice_bounds-fill-end-2 : goal.slice_bounds-fill-end-2
slice_bounds-fill-end-2 c = sym (length-take-le _ _ (index_long _ _ _ _ _ (sym c.if-not-has_rooms.ensures)).1)

pub returns : goal.returns
returns c = made _ _ _ _ _ (sym c.if-not-has_rooms.ensures) c.fresh_numbers.ensures (c.fill.ensures.after (λ y k. search (rules, tests)))
