use mathlib.Core.Bool.{true, false}
use mathlib.Core.Path.{◌≡◌, refl, sym, ◌∙◌}
use Prim.Native.Nat.{◌≤◌}
use lib.ListN.{length, take, length-set}
use native.Mathlib.Omega.{arith}
use borrow.Author.Rules.{rules}
use Rattle.pe_header.proofs.TwiceLaws.{twice_here, twice_on, twice_none, twice_all}
use Rattle.pe_header.proofs.names.stands_twice.Goals as goal

pub loop-k-init : goal.loop-k-init
loop-k-init c =
    let a = c.args in
    (search rules, refl, twice_all a.text.now (take a.count a.names.now))

pub overflow_cast-names : goal.overflow_cast-names
overflow_cast-names c = omega (arith, c.type_inv.names c.loop-k.k)

pub returns-then-seen : goal.returns-then-seen
returns-then-seen c =
    let a = c.args in
    let l = c.loop-k in
    let room : a.count ≤ length l.prints = omega arith in
    let below = c.loop-k-test.true in
    l.invariant.2 true (twice_here a.text.now a.names.now l.prints a.count l.k below c.requires.1 room
    (λ ps m es n q. sym c.if-seen.true ∙ c.seen.ensures ps m (c.fingerprint-print.ensures ps m) es n q))

pub loop-k-preserved : goal.loop-k-preserved
loop-k-preserved c =
    let a = c.args in
    let l = c.loop-k in
    let below = c.loop-k-test.true in
    let f = c.fingerprint-print in
    let room : a.count ≤ length l.prints = omega arith in (
      search rules,
      simp length-set l.invariant.1,
      λ t h. l.invariant.2 t
          (twice_on a.text.now a.names.now l.prints a.count l.k below c.requires.1 room
          f.result f.ensures
          (λ ps m es n q. sym c.if-seen.false ∙ c.seen.ensures ps m (f.ensures ps m) es n q) t h),
    )

pub returns : goal.returns
returns c =
    let a = c.args in
    let l = c.loop-k in
    let same : l.k ≡ a.count = omega arith in
    l.invariant.2 false (rw same (twice_none a.text.now a.names.now l.prints a.count))
