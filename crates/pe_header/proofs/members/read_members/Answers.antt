use mathlib.Core.Path.{◌≡◌, refl, sym, ap, ◌∙◌, subst}
use Prim.Native.Nat.{ℕ, ◌+◌, ◌≤◌}
use native.Mathlib.Omega.{arith}
use lib.ListN.{length, drop}
use Rattle.flat_json.specs.declared.Spot.{Spot}
use Rattle.flat_json.specs.Table.{run, spot, reached}
use Rattle.flat_json.proofs.WalkLaws.{reached_within, reach_forward, reached_run}
use Rattle.flat_json.proofs.RunLaws.{run_end}
use Rattle.pe_header.specs.Find.{list}
use Rattle.pe_header.proofs.MemberLaws.{started, finished}
use borrow.Author.Rules.{rules}
use Rattle.pe_header.proofs.members.read_members.Goals as goal

pub loop-walk-init : goal.loop-walk-init
unfolding reached
loop-walk-init c =
    let a = c.args in
    let table = a.table.now in
    let text = a.text.now in
    let e : c.reach.result ≡ reached table text (spot 0 0) 2 = c.reach.ensures in
    let b : (0 ≤ c.reach.result.place) × (c.reach.result.place ≤ length text) = rw e (reached_within table text (spot 0 0) 2 (omega arith)) in (
      b.1,
      omega arith,
      λ h. rw e (reach_forward table text 2 0 0 (λ q. omega arith) (omega (arith, h))),
      reached_run table text (spot 0 0) 2 ∙ ap (λ (x : Spot). run table x.state (drop x.place text)) (sym e),
      refl,
      λ from es room s. s,
    )

pub next_member-walk-requires : goal.next_member-walk-requires
next_member-walk-requires c =
    let l = c.loop-walk in
    (c.requires.0, l.invariant.2 c.loop-walk-test.true, c.loop-walk-test.true, c.requires.1, l.invariant.1)

pub loop-walk-smaller : goal.loop-walk-smaller
loop-walk-smaller c =
    let h = c.loop-walk-test.true in
    let f = c.next_member-walk.ensures.goes_on.0 in
    omega arith

pub loop-walk-preserved : goal.loop-walk-preserved
loop-walk-preserved c =
    let l = c.loop-walk in
    let n = c.next_member-walk in
    let e = n.ensures in (
      e.goes_on.1,
      e.goes_on.2,
      λ h. (let x = l.invariant.2 c.loop-walk-test.true in let y = e.goes_on.0 in omega arith),
      l.invariant.3 ∙ e.same_run,
      c.next_member-walk.auto.names ∙ l.invariant.4,
      λ from es room s. e.so_far from es (subst (λ (k : ℕ). length es ≤ k) (sym l.invariant.4) room) (l.invariant.5 from es room s),
    )

pub returns : goal.returns
returns c =
    let l = c.loop-walk in
    let a = c.args in
    let h = c.loop-walk-test.false in record {
      state = sym (l.invariant.3 ∙ run_end a.table.now a.text.now l.walk.at.state l.walk.at.place (search rules));
      all_read = λ t g e room. finished a.text.now a.name.now (length t.before + 1) (list t.inside) l.names l.walk (search rules)
          (l.invariant.5 (length t.before + 1) (list t.inside) room
          (started a.table.now c.requires.0 a.text.now a.name.now a.names.now t g e c.reach.result
          c.reach.ensures));
    }
