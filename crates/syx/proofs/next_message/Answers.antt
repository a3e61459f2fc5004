use mathlib.Core.Path.{sym, ◌∙◌}
use Prim.Native.Nat.{◌<◌}
use lib.ListN.{length}
use native.Mathlib.Omega.{arith}
use Rattle.syx.proofs.WalkLaws.{none_there, torn_there, listed_there}
use Rattle.syx.proofs.next_message.Goals as goal

pub returns-then-start-file-clause-rest_walked : goal.returns-then-start-file-clause-rest_walked
returns-then-start-file-clause-rest_walked c =
    let a = c.args in
    let t = a.tally in
    let k = a.columns.now in
    none_there a.file.now k.room t.from _ t.messages t.torn k.places.now k.lengths.now c.find_start-start.ensures.1

pub returns-then-not-is_end-clause-rest_walked : goal.returns-then-not-is_end-clause-rest_walked
returns-then-not-is_end-clause-rest_walked c =
    let a = c.args in
    let t = a.tally in
    let k = a.columns.now in
    let f = c.find_start-start in
    let g = c.find_status-end in
    let h : f.result < length a.file.now = omega arith in
    torn_there a.file.now k.room t.from f.result t.messages t.torn k.places.now k.lengths.now f.ensures.1 h g.result g.ensures.1 (sym c.is_end.ensures ∙ c.if-not-is_end.true)

pub returns-clause-rest_walked : goal.returns-clause-rest_walked
returns-clause-rest_walked c =
    let a = c.args in
    let t = a.tally in
    let k = a.columns.now in
    let f = c.find_start-start in
    let g = c.find_status-end in
    let s = c.store.ensures in
    let h : f.result < length a.file.now = omega arith in
    rw s.same.0 (listed_there a.file.now k.room t.from f.result t.messages t.torn k.places.now k.lengths.now f.ensures.1 h g.result g.ensures.1
    (sym c.is_end.ensures ∙ c.if-not-is_end.false) s.places s.lengths)
