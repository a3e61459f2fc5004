use mathlib.Core.Path.{◌≡◌}
use mathlib.Core.List.{List}
use Prim.Native.Nat.{ℕ, ◌-◌, ◌≤◌, ◌<◌}
use lib.ListN.{length, drop}
use Rattle.flat_json.specs.Tree.{Entry}
use Rattle.flat_json.specs.Table.{run}
use Rattle.pe_header.specs.Members.{SoFar}
use Rattle.pe_header.proofs.members.read_members.Given as goal

abbrev pub invariant-loop-walk : goal.invariant-loop-walk
invariant-loop-walk l =
    (l.walk.at.place ≤ length l.text) × (l.walk.names ≤ l.walk.at.place) × (l.walk.at.place < length l.text → 1 ≤ l.walk.at.place)
    × (run l.table 0 l.text ≡ run l.table l.walk.at.state (drop l.walk.at.place l.text)) × (length l.names ≡ length l.initial.names)
    × ((from : ℕ) (es : List Entry) → length es ≤ length l.initial.names → SoFar l.text l.name from es l.initial.names l.initial.walk → SoFar l.text l.name from es l.names l.walk)

abbrev pub decreases-loop-walk : goal.decreases-loop-walk
decreases-loop-walk l = length l.text - l.walk.at.place
