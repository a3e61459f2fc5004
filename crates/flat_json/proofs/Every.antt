-- A test of each number of a list and its place, as one computation.
-- Assumes nothing.
use Prim.Native.Nat.{ℕ, zero, suc, ◌+◌, ◌<◌}
use mathlib.Core.Bool.{Bool, true, ◌&&◌}
use mathlib.Core.List.{List, [], ◌∷◌}
use mathlib.Core.Path.{◌≡◌, subst}
use native.Mathlib.Omega.{arith}
use lib.ListN.{length, get_or}
use Rattle.flat_json.proofs.Branches.{and_left, and_right}

-- places are counted from i on
abbrev pub every_from : (ℕ → ℕ → Bool) → ℕ → List ℕ → Bool
every_from test i [] = true
every_from test i (x ∷ xs) = test i x && every_from test (suc i) xs

-- a test that is passed by all is passed at each place
pub passed_at : (test : ℕ → ℕ → Bool) (xs : List ℕ) (i j k : ℕ) → every_from test i xs ≡ true → k < length xs → j ≡ i + k → test j (get_or xs k 0) ≡ true
passed_at test [] i j k e h q = absurd (omega arith)
passed_at test (x ∷ xs) i j zero e h q =
    let p : i ≡ j = omega arith in
    subst (λ (n : ℕ). test n x ≡ true) p (and_left (test i x) (every_from test (suc i) xs) e)
passed_at test (x ∷ xs) i j (suc k) e h q = passed_at test xs (suc i) j k (and_right (test i x) (every_from test (suc i) xs) e) (omega arith) (omega arith)
