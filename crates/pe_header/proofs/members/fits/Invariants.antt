use mathlib.Core.Path.{◌≡◌}
use mathlib.Core.Bool.{true}
use mathlib.Core.List.{List, ◌++◌}
use Prim.Native.Nat.{ℕ, ◌+◌, ◌≤◌}
use lib.ListN.{length, drop}
use Rattle.flat_json.specs.Tree.{is_digit, all}
use Rattle.pe_header.proofs.NumberLaws.{Digits}
use Rattle.pe_header.proofs.members.fits.Given as goal

abbrev pub invariant-loop-i : goal.invariant-loop-i
invariant-loop-i l = (l.n ≤ 65535) × ((ds rest : List ℕ) → all is_digit ds ≡ true → drop l.from l.text ≡ ds ++ rest → l.to ≡ l.from + length ds
    → Digits l.text l.to l.n l.i ds rest)
