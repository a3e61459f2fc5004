use mathlib.Core.Bool.{true, false}
use mathlib.Core.Path.{refl, sym, ◌∙◌}
use Prim.Native.Nat.{◌-◌, ◌≤◌}
use lib.ListN.{length, get_or}
use native.Mathlib.Omega.{arith}
use Rattle.pe_header.proofs.EntryLaws.{seen_here, other_name, others_passed, seen_none}
use Rattle.pe_header.proofs.names.seen.Invariants.{Whole}
use Rattle.pe_header.proofs.names.seen.Goals as goal
use Rattle.pe_header.proofs.names.seen.Goals.{In-Some}

-- what holds of the names from the next place on holds of all before k
passed : (c : In-Some) → Whole c.args.text.now c.args.names.now c.args.prints.now c.args.k c.args.print c.in-Some.at
passed c ps m e t h =
    let a = c.args in
    let l = c.loop-at in
    let n = c.in-Some in
    let room : a.k ≤ length a.names.now = omega arith in
    l.invariant.1 ps m e t
    (others_passed a.text.now a.names.now a.prints.now a.k room c.requires.2 ps a.print e
    (n.at - l.j) l.j n.at (omega (arith, n.ensures.0)) (omega (arith, n.ensures.1)) n.ensures.2 t h)

pub returns-then-same_name : goal.returns-then-same_name
returns-then-same_name c ps m e =
    let a = c.args in
    let n = c.in-Some in
    let room : a.k ≤ length a.names.now = omega arith in
    passed (goal.at.returns-then-same_name c).In-Some ps m e true
    (seen_here a.text.now a.names.now a.prints.now a.k n.at n.ensures.1 room c.requires.2 ps
    (get_or a.names.now a.k 0) m (λ qs rs x y. sym c.if-same_name.true ∙ c.same_name.ensures qs rs x y))

pub loop-at-preserved : goal.loop-at-preserved
loop-at-preserved c =
    let a = c.args in
    let n = c.in-Some in
    let room : a.k ≤ length a.names.now = omega arith in (
      omega (arith, n.ensures.1),
      λ ps m e t h. passed (goal.at.loop-at-preserved c).In-Some ps m e t
          (other_name a.text.now a.names.now a.prints.now a.k n.at n.ensures.1 room c.requires.2 ps
          (get_or a.names.now a.k 0) m (λ qs rs x y. sym c.if-same_name.false ∙ c.same_name.ensures qs rs x y) t h),
    )

pub returns : goal.returns
returns c ps m e =
    let a = c.args in
    let l = c.loop-at in
    let room : a.k ≤ length a.names.now = omega arith in
    l.invariant.1 ps m e false
    (others_passed a.text.now a.names.now a.prints.now a.k room c.requires.2 ps a.print e
    (a.k - l.j) l.j a.k (omega arith) (omega arith) c.in_default.ensures false (seen_none a.text.now a.names.now a.prints.now a.k a.k refl ps))
