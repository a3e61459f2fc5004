use mathlib.Core.Path.{ap₂, ◌∙◌}
use borrow.Author.Rules.{rules}
use Rattle.seven_bit.specs.Reply.{refused}
use Rattle.syx.specs.Listing.{listing}
use Rattle.syx.proofs.WalkLaws.{counts, places_short, lengths_short, lists}
use Rattle.syx.proofs.list.Goals as goal
use Rattle.syx.proofs.list.Goals.{then-columns-messages-via-then-columns-messages, then-columns-messages-via-else-columns-messages+then-columns-messages-2}

pub returns-then-columns-messages : goal.returns-then-columns-messages
returns-then-columns-messages c =
    let a = c.args in
    let n = counts a.file.now a.places.now a.lengths.now c.walk-messages.ensures.all in
    elim c.then-columns-messages.branch [
      | then-columns-messages-via-then-columns-messages w ↦
          rw (w.places-is, w.lengths-is)
          (ap₂ (listing (refused 32 0)) (search rules) (search rules)
          ∙ places_short a.file.now a.places.now a.lengths.now n w.if-columns-messages.true)
      | then-columns-messages-via-else-columns-messages+then-columns-messages-2 w ↦
          rw (w.places-is, w.lengths-is)
          (ap₂ (listing (refused 32 0)) (search rules) (search rules)
          ∙ lengths_short a.file.now a.places.now a.lengths.now n w.if-columns-messages.false w.if-columns-messages-2.true)
    ]

pub returns : goal.returns
returns c =
    let a = c.args in
    let n = counts a.file.now a.places.now a.lengths.now c.walk-messages.ensures.all in
    ap₂ (listing _) (search rules) (search rules)
    ∙ lists a.file.now a.places.now a.lengths.now n c.if-columns-messages.false c.if-columns-messages-2.false c.walk-listed.ensures.all
