-- The first unit of a name's text: digits, escapes, and where the table leads by them.
-- Assumes nothing.
use Prim.Native.Nat.{ℕ, ◌+◌, ◌-◌, ◌*◌, ◌%◌, ◌<◌, ◌≤◌}
use mathlib.Core.Bool.{Bool, true, cond, not, ◌&&◌, ◌||◌, true≢false}
use mathlib.Core.List.{List, [], ◌∷◌}
use mathlib.Core.Logic.{⊎_elim}
use mathlib.Core.Path.{◌≡◌, refl, sym, ap, ◌∙◌}
use native.Mathlib.Omega.{arith}
use native.Mathlib.Nat.{add-zero}
use borrow.Author.Tests.{eqb-true, ltb-true, le-leb, lt-leb}
use lib.Dec.{leb, ltb, eqb}
use lib.ListN.{length, get_or, drop, length-drop, drop_of_length-le}
use lib.Seq.{get_or-drop, drop-drop}
use Rattle.flat_json.specs.Abnf.{is}
use Rattle.flat_json.specs.Grammar.{hexdig, digit, unescaped, short_escape}
use Rattle.flat_json.specs.Table.{RightTable, next}
use Rattle.flat_json.specs.Tree.{is_digit, is_hex, is_unescaped, is_short, Piece, plain, short, unicode, good_piece, good_pieces, piece_text, pieces_text}
use Rattle.flat_json.proofs.Branches.{nil_cons, heads_same, tails_same, and_left, and_right, or_told}
use Rattle.flat_json.proofs.Moves.{leads_law, name_moves, is_set}
use Rattle.flat_json.proofs.Sets.{low_set, low_set_law}
use Rattle.flat_json.proofs.StateLaws.{all_below, below_at}
use Rattle.std.specs.Prelude.{Option, Some, None}
use Rattle.pe_header.specs.declared.names.Unit.{Unit as UnitRead}
use Rattle.pe_header.specs.Find.{short_unit, hex_value, unit}
use Rattle.pe_header.specs.Names.{NameAt, PairAt, EscapeAt, UnitAt, First}

-- the text from a place on, read further
pub past : (l : List ℕ) (n k : ℕ) {w : List ℕ} → drop n l ≡ w → drop (n + k) l ≡ drop k w
past l n k e = sym (drop-drop k n l) ∙ ap (λ (x : List ℕ). drop k x) e

pub head_is : (l : List ℕ) (n : ℕ) {c : ℕ} {w : List ℕ} → drop n l ≡ c ∷ w → get_or l n 0 ≡ c
head_is l n e = ap (λ (x : ℕ). get_or l x 0) (sym (add-zero n)) ∙ sym (get_or-drop n l 0 0) ∙ ap (λ (x : List ℕ). get_or x 0 0) e

pub length_left : (l : List ℕ) (n : ℕ) {w : List ℕ} → drop n l ≡ w → length l - n ≡ length w
length_left l n e = sym (length-drop n l) ∙ ap length e

-- the hexadecimal digits: what is read of each byte, computed
abbrev hex_read : ℕ → ℕ
hex_read b = cond (leb b 0x39) (b % 16) (b % 16 + 9)

hex_test : ℕ → Bool
hex_test b = not (is_hex b) || (eqb (hex_read b) (hex_value b) && ltb (hex_value b) 16)

hex_tests : all_below 128 hex_test ≡ true
unfolding all_below hex_test is_hex hex_value is_digit
hex_tests = refl

hex_tested : (b : ℕ) → is_hex b ≡ true → (eqb (hex_read b) (hex_value b) && ltb (hex_value b) 16) ≡ true
unfolding hex_test is_hex low_set hexdig digit
hex_tested b h =
    ⊎_elim
    (λ k. absurd (true≢false (sym k ∙ ap not h)))
    (λ k. k)
    (or_told (not (is_hex b)) (eqb (hex_read b) (hex_value b) && ltb (hex_value b) 16) (below_at 128 hex_test hex_tests b (low_set_law hexdig b refl h)))

hex_read_law : (b : ℕ) → is_hex b ≡ true → hex_read b ≡ hex_value b
hex_read_law b h = eqb-true _ _ (and_left (eqb (hex_read b) (hex_value b)) (ltb (hex_value b) 16) (hex_tested b h))

pub hex_digit : (b : ℕ) → b ≤ 0x39 → is_hex b ≡ true → b % 16 ≡ hex_value b
hex_digit b l h = rw (le-leb b 0x39 l) at (hex_read_law b h)

pub hex_letter : (b : ℕ) → 0x39 < b → is_hex b ≡ true → b % 16 + 9 ≡ hex_value b
hex_letter b l h = rw (lt-leb b 0x39 l) at (hex_read_law b h)

hex_below : (b : ℕ) → is_hex b ≡ true → hex_value b < 16
hex_below b h = ltb-true _ _ (and_right (eqb (hex_read b) (hex_value b)) (ltb (hex_value b) 16) (hex_tested b h))

-- two digits
pub pair_at : (text : List ℕ) (at x y : ℕ) → (is_hex (get_or text at 0) ≡ true → x ≡ hex_value (get_or text at 0))
    → (is_hex (get_or text (at + 1) 0) ≡ true → y ≡ hex_value (get_or text (at + 1) 0)) → PairAt text at (x * 16 + y)
pair_at text at x y hx hy a b rest ga gb e =
    let ea : get_or text at 0 ≡ a = head_is text at e in
    let eb : get_or text (at + 1) 0 ≡ b = head_is text (at + 1) (past text at 1 e) in
    let p : x ≡ hex_value a = hx (ap is_hex ea ∙ ga) ∙ ap hex_value ea in
    let q : y ≡ hex_value b = hy (ap is_hex eb ∙ gb) ∙ ap hex_value eb in
    ap (λ (n : ℕ). n * 16 + y) p ∙ ap (λ (n : ℕ). hex_value a * 16 + n) q

-- where a byte in a name leads, and one behind its reverse solidus
module _ (table : List ℕ) (right : RightTable table) where
  plain_next : (b : ℕ) → is_unescaped b ≡ true → next table 2 b ≡ 2
  unfolding is_unescaped
  plain_next b h = leads_law table right 2 unescaped 2 name_moves.plain_byte b h

  escape_next : next table 2 0x5C ≡ 3
  escape_next = leads_law table right 2 (is 0x5C) 3 name_moves.escape 0x5C (is_set 0x5C)

  quote_next : next table 2 0x22 ≡ 8
  quote_next = leads_law table right 2 (is 0x22) 8 name_moves.quote 0x22 (is_set 0x22)

  short_next : (c : ℕ) → is_short c ≡ true → next table 3 c ≡ 2
  unfolding is_short
  short_next c h = leads_law table right 3 short_escape 2 name_moves.short_form c h

  long_next : next table 3 0x75 ≡ 4
  long_next = leads_law table right 3 (is 0x75) 4 name_moves.long_form 0x75 (is_set 0x75)

-- behind a reverse solidus stands no plain byte's piece, and something stands there
no_plain : (b : ℕ) {w rest : List ℕ} → is_unescaped b ≡ true → 0x5C ∷ w ≡ b ∷ rest → ⊥
unfolding is_unescaped
no_plain b h e = true≢false (sym h ∙ ap is_unescaped (sym (heads_same e)))

pub none_left : (text : List ℕ) (at : ℕ) (o : Option UnitRead) → length text ≤ at → EscapeAt text at o
unfolding good_piece piece_text
none_left text at o l (plain b) rest g e = absurd (no_plain b g e)
none_left text at o l (short c) rest g e = absurd (nil_cons (sym (drop_of_length-le text l) ∙ tails_same e))
none_left text at o l (unicode a b c d) rest g e = absurd (nil_cons (sym (drop_of_length-le text l) ∙ tails_same e))

-- four digits, and what stands behind a reverse solidus before them
record Long (text : List ℕ) (at : ℕ) (p : Piece) (rest : List ℕ) : Type 0 where
  pub a : ℕ
  pub b : ℕ
  pub c : ℕ
  pub d : ℕ
  pub hex_a : is_hex a ≡ true
  pub hex_b : is_hex b ≡ true
  pub hex_c : is_hex c ≡ true
  pub hex_d : is_hex d ≡ true
  pub is_piece : unicode a b c d ≡ p
  pub there : drop at text ≡ 0x75 ∷ a ∷ b ∷ c ∷ d ∷ rest

module _ (table : List ℕ) (right : RightTable table) (text : List ℕ) (at : ℕ) where
  -- an escape of one letter
  pub short_there : (u : UnitRead) → u.unit ≡ short_unit (get_or text at 0) → u.next ≡ at + 1 → next table 3 (get_or text at 0) ≡ 2 → EscapeAt text at (Some u)
  unfolding good_piece piece_text unit
  short_there u e f m (plain b) rest g h = absurd (no_plain b g h)
  short_there u e f m (short c) rest g h = let t = tails_same h in (u, refl, e ∙ ap short_unit (head_is text at t), rw f (past text at 1 t))
  short_there u e f m (unicode a b c d) rest g h =
      let z : ◌≡◌ {A = ℕ} 4 2 = sym (long_next table right) ∙ ap (next table 3) (sym (head_is text at (tails_same h))) ∙ m in absurd (omega arith)

  long_form : (next table 3 (get_or text at 0) ≡ 2 → ⊥) → (p : Piece) (rest : List ℕ)
      → good_piece p ≡ true → 0x5C ∷ drop at text ≡ piece_text p rest → Long text at p rest
  unfolding good_piece piece_text
  long_form n (plain b) rest g h = absurd (no_plain b g h)
  long_form n (short c) rest g h = absurd (n (ap (next table 3) (head_is text at (tails_same h)) ∙ short_next table right c g))
  long_form n (unicode a b c d) rest g h =
      let h1 = and_right (is_hex a) (is_hex b && (is_hex c && is_hex d)) g in
      let h2 = and_right (is_hex b) (is_hex c && is_hex d) h1 in
      record {
        a = a;
        b = b;
        c = c;
        d = d;
        hex_a = and_left (is_hex a) (is_hex b && (is_hex c && is_hex d)) g;
        hex_b = and_left (is_hex b) (is_hex c && is_hex d) h1;
        hex_c = and_left (is_hex c) (is_hex d) h2;
        hex_d = and_right (is_hex c) (is_hex d) h2;
        is_piece = refl;
        there = tails_same h;
      }

  -- one of four digits, for which there is room
  pub no_room : (next table 3 (get_or text at 0) ≡ 2 → ⊥) → length text - at < 5 → (o : Option UnitRead) → EscapeAt text at o
  no_room n l o p rest g h = let e = length_left text at (long_form n p rest g h).there in absurd (omega arith)

  pub long_there : (high low : ℕ) → (next table 3 (get_or text at 0) ≡ 2 → ⊥) → PairAt text (at + 1) high → PairAt text (at + 3) low
      → (u : UnitRead) → u.unit ≡ high * 256 + low → u.next ≡ at + 5 → EscapeAt text at (Some u)
  unfolding unit
  long_there high low n x y u eu en p rest g h =
      let f = long_form n p rest g h in
      let ex : high ≡ hex_value f.a * 16 + hex_value f.b = x f.a f.b (f.c ∷ f.d ∷ rest) f.hex_a f.hex_b (past text at 1 f.there) in
      let ey : low ≡ hex_value f.c * 16 + hex_value f.d = y f.c f.d rest f.hex_c f.hex_d (past text at 3 f.there) in
      let la : hex_value f.a < 16 = hex_below f.a f.hex_a in
      let lb : hex_value f.b < 16 = hex_below f.b f.hex_b in
      let lc : hex_value f.c < 16 = hex_below f.c f.hex_c in
      let ld : hex_value f.d < 16 = hex_below f.d f.hex_d in
      let e : high * 256 + low ≡ ((hex_value f.a * 16 + hex_value f.b) * 16 + hex_value f.c) * 16 + hex_value f.d = omega arith in
      (u, refl, eu ∙ e ∙ ap unit f.is_piece, rw en (past text at 5 f.there))

-- the state that a name's first byte leads to
unfoldable pub first_state : List Piece → ℕ
first_state [] = 8
first_state (plain b ∷ ps) = 2
first_state (short c ∷ ps) = 3
first_state (unicode a b c d ∷ ps) = 3

module _ (table : List ℕ) (right : RightTable table) (text : List ℕ) (at : ℕ) where
  pub first_state_law : (ps : List Piece) → NameAt text at ps → next table 2 (get_or text at 0) ≡ first_state ps
  unfolding first_state pieces_text piece_text good_pieces good_piece
  first_state_law [] m = ap (next table 2) (head_is text at m.1.1) ∙ quote_next table right
  first_state_law (plain b ∷ ps) m =
      ap (next table 2) (head_is text at m.1.1) ∙ plain_next table right b (and_left (is_unescaped b) (good_pieces ps) m.0)
  first_state_law (short c ∷ ps) m = ap (next table 2) (head_is text at m.1.1) ∙ escape_next table right
  first_state_law (unicode a b c d ∷ ps) m = ap (next table 2) (head_is text at m.1.1) ∙ escape_next table right

-- no name stands at the text's end
name_inside : (text : List ℕ) (at : ℕ) (ps : List Piece) → NameAt text at ps → at < length text
unfolding pieces_text piece_text
name_inside text at [] m = let e = length_left text at m.1.1 in omega arith
name_inside text at (plain b ∷ ps) m = let e = length_left text at m.1.1 in omega arith
name_inside text at (short c ∷ ps) m = let e = length_left text at m.1.1 in omega arith
name_inside text at (unicode a b c d ∷ ps) m = let e = length_left text at m.1.1 in omega arith

-- the first unit by that state
module _ (text : List ℕ) (at : ℕ) where
  pub unit_past : length text ≤ at → First text at None
  unit_past h ps m = absurd (let k = name_inside text at ps m in omega arith)

  pub unit_plain : (ps : List Piece) → NameAt text at ps → first_state ps ≡ 2 → (u : UnitRead) → u.unit ≡ get_or text at 0 → u.next ≡ at + 1 → UnitAt text ps (Some u)
  unfolding first_state pieces_text piece_text good_pieces good_piece unit UnitAt is_unescaped
  unit_plain [] m s u e f = absurd (omega arith)
  unit_plain (plain b ∷ ps) m s u e f =
      (u, refl, e ∙ head_is text at m.1.1, (and_right (is_unescaped b) (good_pieces ps) m.0, (m.1.0, rw f (past text at 1 m.1.1))))
  unit_plain (short c ∷ ps) m s u e f = absurd (omega arith)
  unit_plain (unicode a b c d ∷ ps) m s u e f = absurd (omega arith)

  unit_piece : (o : Option UnitRead) → EscapeAt text (at + 1) o → (p : Piece) (w : List ℕ) (ps : List Piece) (m : NameAt text at (p ∷ ps))
      → drop at text ≡ 0x5C ∷ w → UnitAt text (p ∷ ps) o
  unfolding pieces_text good_pieces UnitAt
  unit_piece o h p w ps m e =
      let r = h p (pieces_text ps (0x22 ∷ m.1.0)) (and_left (good_piece p) (good_pieces ps) m.0)
      (ap (λ (x : List ℕ). 0x5C ∷ x) (past text at 1 e) ∙ sym e ∙ m.1.1) in
      (r.0, r.1, r.2, (and_right (good_piece p) (good_pieces ps) m.0, (m.1.0, r.3)))

  pub unit_escaped : (o : Option UnitRead) → EscapeAt text (at + 1) o → (ps : List Piece) → NameAt text at ps → first_state ps ≡ 3 → UnitAt text ps o
  unfolding first_state pieces_text piece_text
  unit_escaped o h [] m s = absurd (omega arith)
  unit_escaped o h (plain b ∷ ps) m s = absurd (omega arith)
  unit_escaped o h (short c ∷ ps) m s = unit_piece o h (short c) _ ps m m.1.1
  unit_escaped o h (unicode a b c d ∷ ps) m s = unit_piece o h (unicode a b c d) _ ps m m.1.1

  pub unit_none : (ps : List Piece) → NameAt text at ps → (first_state ps ≡ 2 → ⊥) → (first_state ps ≡ 3 → ⊥) → UnitAt text ps None
  unfolding first_state UnitAt
  unit_none [] m n k = refl
  unit_none (plain b ∷ ps) m n k = absurd (n refl)
  unit_none (short c ∷ ps) m n k = absurd (k refl)
  unit_none (unicode a b c d ∷ ps) m n k = absurd (k refl)
