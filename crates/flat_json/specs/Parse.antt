-- The tree of a text, computed.
-- Assumes nothing.
use Rattle.std.specs.Prelude.{ℕ, zero, suc, Bool, true, false, cond, ◌&&◌, List, [], ◌∷◌, eqb, length}
use Rattle.std.proofs.Math.Option.{Option, none, some}
use Rattle.flat_json.specs.Tree.{is_ws, is_digit, is_hex, is_unescaped, is_short, Piece, plain, short, unicode, Word, true_word, false_word, null_word}
use Rattle.flat_json.specs.Tree.{word_text, Value, string, number, word, good_number, Entry, Inside, blank, entries, Tree}

-- What was read, and the rest of the text.
abbrev pub Read : Type 0 → Type 0
Read A = A × List ℕ

abbrev pub bind : {A B : Type 0} → Option A → (A → Option B) → Option B
bind none f = none
bind (some a) f = f a

abbrev pub or_else : {A : Type 0} → Option A → A → A
or_else none d = d
or_else (some a) d = a

abbrev pub either : {A : Type 0} → Option A → Option A → Option A
either none y = y
either (some a) y = some a

-- The bytes up to the first that is not of a kind.
unfoldable pub span : (ℕ → Bool) → List ℕ → Read (List ℕ)
span p [] = ([], [])
span p (b ∷ bs) = cond (p b) (b ∷ (span p bs).0, (span p bs).1) ([], b ∷ bs)

-- The text behind one byte, and behind some bytes, that must stand there.
unfoldable pub expect : ℕ → List ℕ → Option (List ℕ)
expect c [] = none
expect c (b ∷ bs) = cond (eqb b c) (some bs) none

unfoldable pub expect_all : List ℕ → List ℕ → Option (List ℕ)
expect_all [] w = some w
expect_all (c ∷ cs) w = bind (expect c w) (λ r. expect_all cs r)

unfoldable pub read_hex : List ℕ → Option (Read Piece)
read_hex [] = none
read_hex (a ∷ []) = none
read_hex (a ∷ b ∷ []) = none
read_hex (a ∷ b ∷ c ∷ []) = none
read_hex (a ∷ b ∷ c ∷ d ∷ rest) = cond (is_hex a && (is_hex b && (is_hex c && is_hex d))) (some (unicode a b c d, rest)) none

unfoldable pub read_escape : List ℕ → Option (Read Piece)
read_escape [] = none
read_escape (c ∷ rest) = cond (is_short c) (some (short c, rest)) (cond (eqb c 0x75) (read_hex rest) none)

unfoldable pub read_piece : List ℕ → Option (Read Piece)
read_piece [] = none
read_piece (b ∷ rest) = cond (is_unescaped b) (some (plain b, rest)) (cond (eqb b 0x5C) (read_escape rest) none)

-- As many pieces as can be read, at most n.
unfoldable pub read_pieces : ℕ → List ℕ → Read (List Piece)
read_pieces zero w = ([], w)
read_pieces (suc n) w = or_else (bind (read_piece w) (λ p. some (p.0 ∷ (read_pieces n p.1).0, (read_pieces n p.1).1))) ([], w)

unfoldable pub read_string : List ℕ → Option (Read (List Piece))
read_string w =
    bind (expect 0x22 w) (λ r.
    bind (expect 0x22 (read_pieces (length r) r).1) (λ rest.
    some ((read_pieces (length r) r).0, rest)))

unfoldable pub read_word : Word → List ℕ → Option (Read Value)
read_word k w = bind (expect_all (word_text k) w) (λ rest. some (word k, rest))

unfoldable pub read_number : List ℕ → Option (Read Value)
read_number w = cond (good_number (span is_digit w).0) (some (number (span is_digit w).0, (span is_digit w).1)) none

unfoldable pub read_value : List ℕ → Option (Read Value)
read_value w =
    either (read_number w)
    (either (bind (read_string w) (λ s. some (string s.0, s.1)))
    (either (read_word true_word w) (either (read_word false_word w) (read_word null_word w))))

unfoldable pub read_entry : List ℕ → Option (Read Entry)
read_entry w =
    bind (read_string (span is_ws w).1) (λ name.
    bind (expect 0x3A (span is_ws name.1).1) (λ r.
    bind (read_value (span is_ws r).1) (λ v.
    some (
      record { before = (span is_ws w).0; name = name.0; gap = (span is_ws name.1).0; lead = (span is_ws r).0; value = v.0; after = (span is_ws v.1).0 },
      (span is_ws v.1).1,
    ))))

-- As many further entries as can be read, at most n.
unfoldable pub read_entries : ℕ → List ℕ → Read (List Entry)
read_entries zero w = ([], w)
read_entries (suc n) w =
    or_else
    (bind (expect 0x2C w) (λ r.
    bind (read_entry r) (λ e.
    some (e.0 ∷ (read_entries n e.1).0, (read_entries n e.1).1))))
    ([], w)

unfoldable pub read_inside : List ℕ → Read Inside
read_inside w =
    or_else
    (bind (read_entry w) (λ e.
    some (entries e.0 (read_entries (length w) e.1).0, (read_entries (length w) e.1).1)))
    (blank (span is_ws w).0, (span is_ws w).1)

unfoldable pub at_end : List ℕ → Bool
at_end [] = true
at_end (b ∷ bs) = false

unfoldable pub parse : List ℕ → Option Tree
parse w =
    bind (expect 0x7B (span is_ws w).1) (λ r.
    bind (expect 0x7D (read_inside r).1) (λ r'.
    cond (at_end (span is_ws r').1)
    (some (record { before = (span is_ws w).0; inside = (read_inside r).0; after = (span is_ws r').0 }))
    none))
