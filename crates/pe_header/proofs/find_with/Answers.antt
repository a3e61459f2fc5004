use mathlib.Core.Path.{◌≡◌, sym, ◌∙◌}
use mathlib.Core.Bool.{true, false}
use native.Mathlib.Omega.{arith}
use borrow.Author.Tests.{not-true, not-false}
use Rattle.seven_bit.specs.SevenBit.{is_seven_bit}
use Rattle.flat_json.proofs.RunLaws.{object_law}
use Rattle.pe_header.specs.Find.{list}
use Rattle.pe_header.specs.Members.{TreeRead}
use Rattle.pe_header.proofs.FindLaws.{tree_read, names_read, find_not, read_large, read_twice, read_once}
use Rattle.pe_header.proofs.find_with.Goals as goal
use Rattle.pe_header.proofs.find_with.Goals.{After-read_members-walk, then-walk-ne-DONE-via-then-walk-ne-DONE, then-walk-ne-DONE-via-else-walk-ne-DONE+then-not-walk}

-- the tree of a header that the table accepts
the_tree : (c : After-read_members-walk) → c.read_members-walk.result.at.state ≡ 28
    → (let a = c.args in
    TreeRead a.header.now a.name.now c.read_members-walk.new.names c.read_members-walk.result)
the_tree c done =
    let a = c.args in
    tree_read a.table.now c.requires.0 a.header.now a.name.now a.names.now c.read_members-walk.new.names c.read_members-walk.result c.requires.2
    c.read_members-walk.auto.names (c.read_members-walk.ensures.state, c.read_members-walk.ensures.all_read) done

pub returns-then-walk-ne-DONE : goal.returns-then-walk-ne-DONE
returns-then-walk-ne-DONE c =
    let a = c.args in
    elim c.then-walk-ne-DONE.branch [
      | then-walk-ne-DONE-via-then-walk-ne-DONE w ↦
          sym (find_not a.header.now a.name.now c.requires.1
          (λ m. w.if-walk-ne-DONE.true (c.read_members-walk.ensures.state ∙ (object_law a.table.now c.requires.0 a.header.now).1 m)))
      | then-walk-ne-DONE-via-else-walk-ne-DONE+then-not-walk w ↦
          let r = the_tree (goal.at.returns-then-walk-ne-DONE c).After-read_members-walk w.if-walk-ne-DONE.false in
          sym (read_large a.header.now a.name.now _ _ r c.requires.1 (not-true _ w.if-not-walk.true))
    ]

pub stands_twice-requires : goal.stands_twice-requires
stands_twice-requires c =
    let r = the_tree (goal.at.stands_twice-requires c).After-read_members-walk c.if-walk-ne-DONE.false in
    let l = c.read_members-walk.auto.names in
    let m = c.requires.3 in
    let k = r.room in
    (c.requires.0, r.room, omega arith)

pub returns-then-stands_twice : goal.returns-then-stands_twice
returns-then-stands_twice c =
    let r = the_tree (goal.at.returns-then-stands_twice c).After-read_members-walk c.if-walk-ne-DONE.false in
    let a = c.args in
    let s : c.read_members-walk.result.small
    ≡ true = not-false _ c.if-not-walk.false in
    sym (read_twice a.header.now a.name.now _ _ r c.requires.1 s
    (sym c.if-stands_twice.true ∙ c.stands_twice.ensures (list r.tree.inside) (names_read a.header.now a.name.now _ _ r)))

pub returns-then-not-all_seven_bit : goal.returns-then-not-all_seven_bit
returns-then-not-all_seven_bit c =
    let r = the_tree (goal.at.returns-then-not-all_seven_bit c).After-read_members-walk c.if-walk-ne-DONE.false in
    let a = c.args in
    let s : c.read_members-walk.result.small ≡ true = not-false _ c.if-not-walk.false in
    let e : is_seven_bit a.name.now ≡ false = sym c.all_seven_bit.ensures ∙ c.if-not-all_seven_bit.true in
    sym (rw e at (read_once a.header.now a.name.now _ _ r c.requires.1 s
    (sym c.if-stands_twice.false ∙ c.stands_twice.ensures (list r.tree.inside)
    (names_read a.header.now a.name.now _ _ r))))

pub returns : goal.returns
returns c =
    let r = the_tree (goal.at.returns c).After-read_members-walk c.if-walk-ne-DONE.false in
    let a = c.args in
    let s : c.read_members-walk.result.small ≡ true = not-false _ c.if-not-walk.false in
    let e : is_seven_bit a.name.now ≡ true = sym c.all_seven_bit.ensures ∙ c.if-not-all_seven_bit.false in
    sym (rw e at (read_once a.header.now a.name.now _ _ r c.requires.1 s
    (sym c.if-stands_twice.false ∙ c.stands_twice.ensures (list r.tree.inside)
    (names_read a.header.now a.name.now _ _ r))))
