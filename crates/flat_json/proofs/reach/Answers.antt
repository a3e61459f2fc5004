use mathlib.Core.Path.{◌≡◌, sym, ap, ◌∙◌}
use Prim.Native.Nat.{◌<◌}
use lib.ListN.{length, drop}
use native.Mathlib.Omega.{arith}
use Rattle.flat_json.specs.declared.Spot.{Spot}
use Rattle.flat_json.specs.Table.{turned, reached_over, reached}
use Rattle.flat_json.proofs.WalkLaws.{turn_forward, turn_reach, reached_stop, reached_end}
use borrow.Author.Rules.{rules}
use Rattle.flat_json.proofs.reach.Goals as goal

pub loop-here-smaller : goal.loop-here-smaller
unfolding turned
loop-here-smaller c =
    let a = c.args in
    let l = c.loop-here in
    let e : c.turn-here.result ≡ turned a.table.now a.text.now l.here = c.turn-here.ensures in
    let t : l.here.place < length a.text.now = c.loop-here-test.true in
    let f : l.here.place < c.turn-here.result.place = rw e (turn_forward a.table.now a.text.now l.here.place l.here.state t) in
    omega arith

pub loop-here-preserved : goal.loop-here-preserved
unfolding turned
loop-here-preserved c =
    let a = c.args in
    let l = c.loop-here in
    let e : turned a.table.now a.text.now l.here ≡ c.turn-here.result = sym c.turn-here.ensures in
    l.invariant ∙ turn_reach a.table.now a.text.now l.here.place l.here.state a.stop c.if-here-stop.true
    ∙ ap (λ (t : Spot). reached_over a.table.now a.stop t.place t.state (drop t.place a.text.now)) e

pub returns-else-here-stop : goal.returns-else-here-stop
unfolding reached
returns-else-here-stop c =
    let a = c.args in
    let l = c.loop-here in
    sym (l.invariant ∙ reached_stop a.table.now a.stop l.here.state l.here.place (drop l.here.place a.text.now) c.if-here-stop.false)

pub returns-after-loop-here : goal.returns-after-loop-here
unfolding reached
returns-after-loop-here c =
    let a = c.args in
    let l = c.loop-here in
    sym (l.invariant ∙ reached_end a.table.now a.text.now a.stop l.here.state l.here.place (search rules))
