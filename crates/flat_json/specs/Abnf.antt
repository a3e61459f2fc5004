-- The part of ABNF (RFC 5234) that RFC 8259's rules for a flat object use, and which texts an expression matches.
-- Assumes nothing.
use Rattle.std.specs.Prelude.{ℕ, ◌≤◌, Bool, false, ◌&&◌, ◌||◌, List, [], ◌∷◌, ◌++◌, ◌⊎◌, ◌≡◌, leb}

-- `a then b` is ABNF's concatenation, `a or b` its `a / b`, `many a` its `*a`, `range x y` its `%xX-Y`.
infixr 40 ◌then◌
infixr 30 ◌or◌
pub data Abnf : Type 0 where
  never empty : Abnf
  range : ℕ → ℕ → Abnf
  ◌then◌ ◌or◌ : Abnf → Abnf → Abnf
  many : Abnf → Abnf

-- One byte; and `[ a ]`, what may be left out.
abbrev pub is : ℕ → Abnf
is b = range b b

abbrev pub optional : Abnf → Abnf
optional a = a or empty

-- A text is any number of texts of a kind, one after the other.
pub data Many (P : List ℕ → Type 0) : List ℕ → Type 0 where
  none : Many P []
  more : (u v : List ℕ) → P u → Many P v → Many P (u ++ v)

-- A text is a text of one kind, and then one of another.
abbrev pub Both : (List ℕ → Type 0) → (List ℕ → Type 0) → List ℕ → Type 0
Both P Q w = (u : List ℕ) × (v : List ℕ) × (w ≡ u ++ v) × P u × Q v

-- The texts that an expression matches.
unfoldable pub Matches : Abnf → List ℕ → Type 0
Matches never w = ⊥
Matches empty w = w ≡ []
Matches (range low high) w = (b : ℕ) × (w ≡ b ∷ []) × (low ≤ b) × (b ≤ high)
Matches (a then c) w = Both (Matches a) (Matches c) w
Matches (a or c) w = Matches a w ⊎ Matches c w
Matches (many a) w = Many (Matches a) w

-- Is a byte in a set that ranges and alternatives name?
unfoldable pub in_set : Abnf → ℕ → Bool
in_set never b = false
in_set empty b = false
in_set (range low high) b = leb low b && leb b high
in_set (a then c) b = false
in_set (a or c) b = in_set a b || in_set c b
in_set (many a) b = false
