use Prim.Native.Nat.{◌-◌}
use native.Mathlib.Omega.{arith}
use Rattle.pe_header.proofs.ValueLaws.{Steps, Onward, by_turn, by_reach, told, bare, quoted, read_number, read_string, read_other}
use Rattle.pe_header.proofs.members.value_of.Goals as goal
use Rattle.pe_header.proofs.members.value_of.Goals.{After-reach-at, After-turn-at, After-turn-first}

-- the steps up to the value's first byte, and where the reading stands behind a number and behind another value
steps : (f : After-turn-first) → (let a = f.args in Steps a.table.now a.text.now a.name f.turn-first.result)
steps f =
    record {
      right = f.requires.0;
      begins = f.requires.1;
      inside = f.requires.2;
      named = f.reach-named.result;
      colon = f.reach-colon.result;
      name_read = f.reach-named.ensures;
      colon_read = f.reach-colon.ensures;
      first_read = f.turn-first.ensures;
    }

after-number : (c : After-turn-at) → (let a = c.args in
    Onward a.table.now a.text.now a.name c.turn-first.result c.turn-at.result)
after-number c = by_turn _ _ _ _ ((record { right = c.requires.0; begins = c.requires.1; inside = c.requires.2; named = c.reach-named.result; colon = c.reach-colon.result; name_read = c.reach-named.ensures; colon_read = c.reach-colon.ensures; first_read = c.turn-first.ensures })) c.turn-at.result c.turn-at.ensures

after-other : (c : After-reach-at) → (let a = c.args in
    Onward a.table.now a.text.now a.name c.turn-first.result c.reach-at.result)
after-other c = by_reach _ _ _ _ ((record { right = c.requires.0; begins = c.requires.1; inside = c.requires.2; named = c.reach-named.result; colon = c.reach-colon.result; name_read = c.reach-named.ensures; colon_read = c.reach-colon.ensures; first_read = c.turn-first.ensures })) c.reach-at.result c.reach-at.ensures

pub overflow_sub-result : goal.overflow_sub-result
overflow_sub-result c = (after-number c).begun

pub overflow_sub-result-then-state-eq-IN_NUMBER : goal.overflow_sub-result-then-state-eq-IN_NUMBER
overflow_sub-result-then-state-eq-IN_NUMBER c =
    let o = after-number (goal.at.overflow_sub-result-then-state-eq-IN_NUMBER c).After-turn-at in
    let x = o.begun in
    let y = o.later in
    omega arith

pub returns-then-state-eq-IN_NUMBER : goal.returns-then-state-eq-IN_NUMBER
returns-then-state-eq-IN_NUMBER c =
    let first = c.turn-first.result in
    let at = c.turn-at.result in
    let p = told _ _ _ _ (steps (goal.at.returns-then-state-eq-IN_NUMBER c).After-turn-first) (bare first.state first.place (at.place - 1) at) (after-number (goal.at.returns-then-state-eq-IN_NUMBER c).After-turn-at) (omega arith)
    (read_number _ _ first at c.if-state-eq-IN_NUMBER.true c.turn-at.ensures) in
    record { same_run = p.0; within = p.1.0; goes_on = p.1.1.0; read_right = p.1.1.1 }

pub overflow_sub-result-then-state-eq-IN_STRING : goal.overflow_sub-result-then-state-eq-IN_STRING
overflow_sub-result-then-state-eq-IN_STRING c =
    let o = after-other (goal.at.overflow_sub-result-then-state-eq-IN_STRING c).After-reach-at in
    let x = o.begun in
    let y = o.later in
    omega arith

pub returns-then-state-eq-IN_STRING : goal.returns-then-state-eq-IN_STRING
returns-then-state-eq-IN_STRING c =
    let first = c.turn-first.result in
    let at = c.reach-at.result in
    let p = told _ _ _ _ (steps (goal.at.returns-then-state-eq-IN_STRING c).After-turn-first) (quoted first.state first.place (at.place - 1) at) (after-other (goal.at.returns-then-state-eq-IN_STRING c).After-reach-at) (omega arith)
    (read_string _ _ first at c.if-state-eq-IN_NUMBER.false c.if-state-eq-IN_STRING.true c.reach-at.ensures) in
    record { same_run = p.0; within = p.1.0; goes_on = p.1.1.0; read_right = p.1.1.1 }

pub overflow_sub-result-2 : goal.overflow_sub-result-2
overflow_sub-result-2 c = (after-other (goal.at.overflow_sub-result-2 c).After-reach-at).begun

pub returns : goal.returns
returns c =
    let first = c.turn-first.result in
    let at = c.reach-at.result in
    let p = told _ _ _ _ (steps (goal.at.returns c).After-turn-first) (bare first.state first.place at.place at) (after-other (goal.at.returns c).After-reach-at) (omega arith)
    (read_other _ _ first at c.if-state-eq-IN_NUMBER.false c.if-state-eq-IN_STRING.false c.reach-at.ensures) in
    record { same_run = p.0; within = p.1.0; goes_on = p.1.1.0; read_right = p.1.1.1 }
