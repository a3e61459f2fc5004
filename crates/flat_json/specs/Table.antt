-- The table of next states: 30 rows of 128 entries.
-- Assumes nothing.
use Rattle.std.specs.Prelude.{ℕ, suc, ◌+◌, ◌*◌, ◌<◌, cond, List, [], ◌∷◌, ◌↔◌, ◌≡◌, ltb, eqb, length, get_or, drop}
use Rattle.flat_json.specs.Abnf.{Matches}
use Rattle.flat_json.specs.Grammar.{residual}
use Rattle.flat_json.specs.declared.Spot.{Spot}

abbrev pub start : ℕ
start = 0

abbrev pub done : ℕ
done = 28

abbrev pub dead : ℕ
dead = 29

-- The entry for a state and a byte up to 7F.
unfoldable pub entry : List ℕ → ℕ → ℕ → ℕ
entry table s b = get_or table (s * 128 + b) 0

-- The rule of the table: after a byte, what may follow in the next state is what may follow that byte in the state.
pub record RightTable (table : List ℕ) : Type 0 where
  pub size : length table ≡ 30 * 128
  pub state : (s b : ℕ) → s < 30 → b < 128 → entry table s b < 30
  pub rule : (s b : ℕ) → s < 30 → b < 128 → (w : List ℕ) → Matches (residual s) (b ∷ w) ↔ Matches (residual (entry table s b)) w

-- The state after a byte. One above 7F leads to the dead state, and so does every byte from a number that is no state.
unfoldable pub next : List ℕ → ℕ → ℕ → ℕ
next table s b = cond (ltb s 30) (cond (ltb b 128) (entry table s b) dead) dead

-- The state after a text.
unfoldable pub run : List ℕ → ℕ → List ℕ → ℕ
run table s [] = s
run table s (b ∷ bs) = run table (next table s b) bs

abbrev pub spot : ℕ → ℕ → Spot
spot place s = record { place = place; state = s }

-- From a place and its state on, with the text from there: the spot behind the first byte that changes the state, or the text's end.
unfoldable pub turned_over : List ℕ → ℕ → ℕ → List ℕ → Spot
turned_over table place s [] = spot place s
turned_over table place s (b ∷ bs) = cond (eqb (next table s b) s) (turned_over table (suc place) s bs) (spot (suc place) (next table s b))

unfoldable pub turned : List ℕ → List ℕ → Spot → Spot
turned table text at = turned_over table at.place at.state (drop at.place text)

-- Likewise the first spot, from the place on, whose state is `stop`, or the text's end.
unfoldable pub reached_over : List ℕ → ℕ → ℕ → ℕ → List ℕ → Spot
reached_over table stop place s [] = spot place s
reached_over table stop place s (b ∷ bs) = cond (eqb s stop) (spot place s) (reached_over table stop (suc place) (next table s b) bs)

unfoldable pub reached : List ℕ → List ℕ → Spot → ℕ → Spot
reached table text at stop = reached_over table stop at.place at.state (drop at.place text)
