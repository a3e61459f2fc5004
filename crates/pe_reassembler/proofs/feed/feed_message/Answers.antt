use Rattle.std.proofs.Common.{sym, ap, ◌∙◌, arith}
use Rattle.midici_core.specs.Errors.{ci_told}
use Rattle.midici_core.specs.Message.{message_of}
use Rattle.seven_bit.proofs.PartLaws.{rest}
use Rattle.pe_reassembler.proofs.FeedLaws.{message_long, message_fed}
use Rattle.pe_reassembler.proofs.feed.feed_message.Goals as goal

pub slice_bounds-feed-count : goal.slice_bounds-feed-count
slice_bounds-feed-count c = let l = message_long _ _ (sym c.decode-read.ensures ∙ ap (ci_told message_of) c.in-Ok.is) in omega (arith, l)

pub slice_bounds-feed-start : goal.slice_bounds-feed-start
slice_bounds-feed-start c = let l = message_long _ _ (sym c.decode-read.ensures ∙ ap (ci_told message_of) c.in-Ok.is) in omega (arith, l)

pub returns : goal.returns
returns c =
    (rw (rest 13 c.args.body.now) at c.feed.ensures)
    ∙ message_fed c.args.shape _ c.args.body.now c.args.now_ms _ (sym c.if-not-has_all.ensures) (sym c.decode-read.ensures ∙ ap (ci_told message_of) c.in-Ok.is)
