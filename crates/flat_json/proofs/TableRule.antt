-- A table that passes one test over all of its entries is the table of the grammar.
-- Assumes nothing.
use Prim.Native.Nat.{ℕ, ◌+◌, ◌*◌, ◌/◌, ◌%◌, ◌<◌}
use mathlib.Core.Bool.{Bool, true, ◌&&◌}
use mathlib.Core.List.{List, ◌∷◌}
use mathlib.Core.Path.{◌≡◌}
use mathlib.Core.Logic.{◌↔◌}
use native.Mathlib.Omega.{arith}
use borrow.Author.Tests.{ltb-true}
use lib.Dec.{ltb}
use lib.ListN.{length}
use Rattle.flat_json.specs.Abnf.{Matches}
use Rattle.flat_json.specs.Grammar.{residual}
use Rattle.flat_json.specs.Table.{RightTable, entry}
use Rattle.flat_json.proofs.Branches.{and_left, and_right}
use Rattle.flat_json.proofs.Follows.{follows, follows_law}
use Rattle.flat_json.proofs.Every.{every_from, passed_at}

-- the test of entry k, whose value is x
unfoldable pub right : ℕ → ℕ → Bool
right k x = ltb x 30 && follows (residual (k / 128)) (k % 128) (residual x)

module _ (table : List ℕ) (size : length table ≡ 30 * 128) (test : every_from right 0 table ≡ true) (s b : ℕ) (hs : s < 30) (hb : b < 128) where
  passed : right (s * 128 + b) (entry table s b) ≡ true
  unfolding entry
  passed =
      let h : s * 128 + b < length table = omega arith in
      passed_at right table 0 (s * 128 + b) (s * 128 + b) test h (omega arith)

  pub entry_state : entry table s b < 30
  unfolding right
  entry_state = ltb-true (entry table s b) 30 (and_left (ltb (entry table s b) 30) _ passed)

  pub entry_rule : (w : List ℕ) → Matches (residual s) (b ∷ w) ↔ Matches (residual (entry table s b)) w
  unfolding right
  entry_rule w =
      let q : (s * 128 + b) / 128 ≡ s = omega arith in
      let r : (s * 128 + b) % 128 ≡ b = omega arith in
      let f : follows (residual ((s * 128 + b) / 128)) ((s * 128 + b) % 128) (residual (entry table s b))
      ≡ true = and_right (ltb (entry table s b) 30) _ passed in
      follows_law (residual s) b (residual (entry table s b)) (rw (q, r) at f) w

pub right_table : (table : List ℕ) → length table ≡ 30 * 128 → every_from right 0 table ≡ true → RightTable table
right_table table size test = record { size = size; state = entry_state table size test; rule = entry_rule table size test }
