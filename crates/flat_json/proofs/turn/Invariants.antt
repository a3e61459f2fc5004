use mathlib.Core.Path.{◌≡◌}
use Prim.Native.Nat.{◌≤◌, max}
use lib.ListN.{length, drop}
use Rattle.flat_json.specs.Table.{turned_over}
use Rattle.flat_json.proofs.turn.Given as goal

abbrev pub invariant-loop-i : goal.invariant-loop-i
invariant-loop-i l = (l.i ≤ max l.at.place (length l.text))
    × (turned_over l.table l.at.place l.at.state (drop l.at.place l.text) ≡ turned_over l.table l.i l.at.state (drop l.i l.text))
