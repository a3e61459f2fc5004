-- The tree of a tree's text is that tree. So no two trees have one text.
-- Assumes nothing.
use Prim.Native.Nat.{ℕ, zero, suc, ◌+◌, ◌≤◌, ◌<◌}
use mathlib.Core.Bool.{Bool, true, false, not, ◌&&◌, ◌||◌, true≢false}
use mathlib.Core.List.{List, [], ◌∷◌, ◌++◌, append-nil}
use mathlib.Core.Logic.{⊎_elim}
use mathlib.Core.Option.{none, some}
use mathlib.Core.Path.{◌≡◌, refl, sym, ap, ◌∙◌, subst}
use native.Mathlib.Omega.{arith}
use borrow.Author.Tests.{leb-true, le-leb, eq-eqb}
use lib.Dec.{leb}
use lib.ListN.{length, length-append}
use Rattle.flat_json.specs.Tree.{is_ws, is_digit, is_unescaped, is_short, all, Piece, plain, short, unicode, Word, true_word, false_word, null_word, word_text}
use Rattle.flat_json.specs.Tree.{Value, string, number, word, Entry, Inside, blank, entries, Tree, piece_text, pieces_text, string_text, value_text, lead_text}
use Rattle.flat_json.specs.Tree.{entry_text, entries_text, inside_text, text, good_piece, good_pieces, good_number, good_value, GoodEntry, GoodEntries}
use Rattle.flat_json.specs.Tree.{GoodInside, Good}
use Rattle.flat_json.specs.Parse.{span, expect, expect_all, read_hex, read_escape, read_piece, read_pieces, read_string, read_word, read_number, read_value}
use Rattle.flat_json.specs.Parse.{read_entry, read_entries, read_inside, at_end, parse}
use Rattle.flat_json.proofs.Branches.{and_left, and_right, and_both, or_told}
use Rattle.flat_json.proofs.StateLaws.{all_below, below_at}

-- the text does not go on with a byte of a kind
unfoldable pub stops : (ℕ → Bool) → List ℕ → Bool
stops p [] = true
stops p (b ∷ bs) = not (p b)

not_told : (b : Bool) → not b ≡ true → b ≡ false
not_told true e = sym e
not_told false e = refl

pub span_at : (p : ℕ → Bool) (xs rest : List ℕ) → all p xs ≡ true → stops p rest ≡ true → span p (xs ++ rest) ≡ (xs, rest)
unfolding span all stops
span_at p [] [] h s = refl
span_at p [] (b ∷ rest) h s = rw (not_told (p b) s)
span_at p (x ∷ xs) rest h s = rw (and_left (p x) (all p xs) h, span_at p xs rest (and_right (p x) (all p xs) h) s)

pub piece_at : (p : Piece) (rest : List ℕ) → good_piece p ≡ true → read_piece (piece_text p rest) ≡ some (p, rest)
unfolding read_piece read_escape read_hex piece_text good_piece is_unescaped is_short
piece_at (plain b) rest h = rw h
piece_at (short c) rest h = rw h
piece_at (unicode a b c d) rest h = rw h

pub pieces_at : (ps : List Piece) (n : ℕ) (rest : List ℕ) → good_pieces ps ≡ true → length ps ≤ n → read_pieces n (pieces_text ps (0x22 ∷ rest))
    ≡ (ps, 0x22 ∷ rest)
unfolding read_pieces pieces_text good_pieces read_piece is_unescaped
pieces_at [] zero rest h l = refl
pieces_at [] (suc n) rest h l = refl
pieces_at (p ∷ ps) zero rest h l = absurd (omega arith)
pieces_at (p ∷ ps) (suc n) rest h l =
    rw (
      piece_at p (pieces_text ps (0x22 ∷ rest)) (and_left (good_piece p) (good_pieces ps) h),
      pieces_at ps n rest (and_right (good_piece p) (good_pieces ps) h) (omega arith),
    )

piece_long : (p : Piece) (rest : List ℕ) → length rest < length (piece_text p rest)
unfolding piece_text
piece_long (plain b) rest = omega arith
piece_long (short c) rest = omega arith
piece_long (unicode a b c d) rest = omega arith

pieces_long : (ps : List Piece) (rest : List ℕ) → length ps + length rest ≤ length (pieces_text ps rest)
unfolding pieces_text
pieces_long [] rest = omega arith
pieces_long (p ∷ ps) rest = omega (arith, piece_long p (pieces_text ps rest), pieces_long ps rest)

pub string_at : (ps : List Piece) (rest : List ℕ) → good_pieces ps ≡ true → read_string (string_text ps rest) ≡ some (ps, rest)
unfolding read_string string_text expect
string_at ps rest h =
    let l : length ps ≤ length (pieces_text ps (0x22 ∷ rest)) = omega (arith, pieces_long ps (0x22 ∷ rest)) in
    rw (pieces_at ps (length (pieces_text ps (0x22 ∷ rest))) rest h l)

-- digits and white space are different bytes
differ : ℕ → Bool
differ b = not (is_digit b) || not (is_ws b)

differ_all : all_below 128 differ ≡ true
unfolding all_below differ is_digit is_ws
differ_all = refl

digit_not_ws : (b : ℕ) → is_digit b ≡ true → is_ws b ≡ false
unfolding differ is_digit
digit_not_ws b h =
    let low : b ≤ 0x39 = leb-true b 0x39 (and_right (leb 0x30 b) (leb b 0x39) h) in
    ⊎_elim
    (λ e. absurd (true≢false (sym e ∙ ap not h)))
    (λ e. not_told (is_ws b) e)
    (or_told (not (is_digit b)) (not (is_ws b)) (below_at 128 differ differ_all b (omega arith)))

ws_not_digit : (b : ℕ) → is_ws b ≡ true → is_digit b ≡ false
ws_not_digit b h = go (is_digit b) refl
  where
    go : (t : Bool) → is_digit b ≡ t → is_digit b ≡ false
    go false e = e
    go true e = absurd (true≢false (sym h ∙ digit_not_ws b e))

-- a number is digits, and its first byte is one
pub first_digit : (d : ℕ) (ds : List ℕ) → good_number (d ∷ ds) ≡ true → is_digit d ≡ true
unfolding good_number is_digit
first_digit d [] h = h
first_digit d (e ∷ ds) h =
    let f = and_right (leb 0x31 d) (leb d 0x39 && all is_digit (e ∷ ds)) h in
    let low : 0x31 ≤ d = leb-true 0x31 d (and_left (leb 0x31 d) (leb d 0x39 && all is_digit (e ∷ ds)) h) in
    and_both (leb 0x30 d) (leb d 0x39) (le-leb 0x30 d (omega arith)) (and_left (leb d 0x39) (all is_digit (e ∷ ds)) f)

pub number_digits : (ds : List ℕ) → good_number ds ≡ true → all is_digit ds ≡ true
unfolding good_number all
number_digits [] h = refl
number_digits (d ∷ []) h = rw h
number_digits (d ∷ (e ∷ ds)) h =
    let f = and_right (leb 0x31 d) (leb d 0x39 && all is_digit (e ∷ ds)) h in
    and_both (is_digit d) (all is_digit (e ∷ ds)) (first_digit d (e ∷ ds) h) (and_right (leb d 0x39) (all is_digit (e ∷ ds)) f)

not_number : (ps : List Piece) (rest : List ℕ) → good_number (span is_digit (string_text ps rest)).0 ≡ false
unfolding span is_digit string_text good_number
not_number ps rest = refl

word_at : (k : Word) (rest : List ℕ) → read_value (word_text k ++ rest) ≡ some (word k, rest)
unfolding read_value read_number read_word word_text span is_digit good_number read_string expect expect_all
word_at true_word rest = refl
word_at false_word rest = refl
word_at null_word rest = refl

pub value_at : (v : Value) (rest : List ℕ) → good_value v ≡ true → stops is_digit rest ≡ true → read_value (value_text v rest) ≡ some (v, rest)
unfolding read_value read_number value_text good_value
value_at (number ds) rest h s = rw (span_at is_digit ds rest (number_digits ds h) s, h)
value_at (string ps) rest h s = rw (not_number ps rest, string_at ps rest h)
value_at (word k) rest h s = word_at k rest

value_stops : (v : Value) (rest : List ℕ) → good_value v ≡ true → stops is_ws (value_text v rest) ≡ true
unfolding stops value_text good_value good_number string_text word_text is_ws
value_stops (number []) rest h = absurd (true≢false (sym h))
value_stops (number (d ∷ ds)) rest h = ap not (digit_not_ws d (first_digit d ds h))
value_stops (string ps) rest h = refl
value_stops (word true_word) rest h = refl
value_stops (word false_word) rest h = refl
value_stops (word null_word) rest h = refl

after_stops : (xs rest : List ℕ) → all is_ws xs ≡ true → stops is_digit rest ≡ true → stops is_digit (xs ++ rest) ≡ true
unfolding stops all
after_stops [] rest h s = s
after_stops (x ∷ xs) rest h s = ap not (ws_not_digit x (and_left (is_ws x) (all is_ws xs) h))

quote_stops : (ps : List Piece) (rest : List ℕ) → stops is_ws (string_text ps rest) ≡ true
unfolding stops string_text is_ws
quote_stops ps rest = refl

colon_stops : (rest : List ℕ) → stops is_ws (0x3A ∷ rest) ≡ true
unfolding stops is_ws
colon_stops rest = refl

expect_at : (b : ℕ) (rest : List ℕ) → expect b (b ∷ rest) ≡ some rest
unfolding expect
expect_at b rest = rw (eq-eqb b b refl)

pub entry_at : (e : Entry) (rest : List ℕ) → GoodEntry e → stops is_ws rest ≡ true → stops is_digit rest ≡ true → read_entry (entry_text e rest) ≡ some (e, rest)
unfolding read_entry entry_text lead_text
entry_at e rest g s d =
    let tail = value_text e.value (e.after ++ rest) in
    let named = e.gap ++ 0x3A ∷ (e.lead ++ tail) in
    let e1 : span is_ws (e.before ++ string_text e.name named) ≡ (e.before, string_text e.name named) = span_at is_ws e.before
    (string_text e.name named) g.before (quote_stops e.name named) in
    let e2 : read_string (string_text e.name named) ≡ some (e.name, named) = string_at e.name named g.name in
    let e3 : span is_ws named ≡ (e.gap, 0x3A ∷ (e.lead ++ tail)) = span_at is_ws e.gap (0x3A ∷ (e.lead ++ tail)) g.gap (colon_stops (e.lead ++ tail)) in
    let e4 : expect 0x3A (0x3A ∷ (e.lead ++ tail)) ≡ some (e.lead ++ tail) = expect_at 0x3A (e.lead ++ tail) in
    let e5 : span is_ws (e.lead ++ tail) ≡ (e.lead, tail) = span_at is_ws e.lead tail g.lead (value_stops e.value (e.after ++ rest) g.value) in
    let e6 : read_value tail ≡ some (e.value, e.after ++ rest) = value_at e.value (e.after ++ rest) g.value
    (after_stops e.after rest g.after d) in
    let e7 : span is_ws (e.after ++ rest) ≡ (e.after, rest) = span_at is_ws e.after rest g.after s in
    rw (e1, e2, e3, e4, e5, e6, e7)

entries_stop : (es : List Entry) (rest : List ℕ) → (stops is_ws (entries_text es (0x7D ∷ rest)) ≡ true) × (stops is_digit (entries_text es (0x7D ∷ rest)) ≡ true)
unfolding stops entries_text is_ws is_digit
entries_stop [] rest = (refl, refl)
entries_stop (e ∷ es) rest = (refl, refl)

not_comma : (rest : List ℕ) → expect 0x2C (0x7D ∷ rest) ≡ none
unfolding expect
not_comma rest = refl

pub entries_at : (es : List Entry) (n : ℕ) (rest : List ℕ) → GoodEntries es → length es ≤ n → read_entries n (entries_text es (0x7D ∷ rest)) ≡ (es, 0x7D ∷ rest)
unfolding read_entries entries_text GoodEntries
entries_at [] zero rest g l = refl
entries_at [] (suc n) rest g l = rw (not_comma rest)
entries_at (e ∷ es) zero rest g l = absurd (omega arith)
entries_at (e ∷ es) (suc n) rest g l =
    let more = entries_text es (0x7D ∷ rest) in
    let stop = entries_stop es rest in
    rw (expect_at 0x2C (entry_text e more), entry_at e more g.0 stop.0 stop.1, entries_at es n rest g.1 (omega arith))

suffix_long : (xs rest : List ℕ) → length rest ≤ length (xs ++ rest)
suffix_long xs rest = omega (arith, length-append xs rest)

value_long : (v : Value) (rest : List ℕ) → length rest ≤ length (value_text v rest)
unfolding value_text string_text
value_long (number ds) rest = suffix_long ds rest
value_long (string ps) rest = omega (arith, pieces_long ps (0x22 ∷ rest))
value_long (word k) rest = suffix_long (word_text k) rest

entry_long : (e : Entry) (rest : List ℕ) → length rest < length (entry_text e rest)
unfolding entry_text lead_text string_text
entry_long e rest =
    let tail = value_text e.value (e.after ++ rest) in
    let named = e.gap ++ 0x3A ∷ (e.lead ++ tail) in
    let a1 = suffix_long e.after rest in
    let a2 = value_long e.value (e.after ++ rest) in
    let a3 = suffix_long e.lead tail in
    let a4 = suffix_long e.gap (0x3A ∷ (e.lead ++ tail)) in
    let a5 = pieces_long e.name (0x22 ∷ named) in
    let a6 = suffix_long e.before (0x22 ∷ pieces_text e.name (0x22 ∷ named)) in
    omega arith

entries_long : (es : List Entry) (rest : List ℕ) → length es ≤ length (entries_text es rest)
unfolding entries_text
entries_long [] rest = omega arith
entries_long (e ∷ es) rest = omega (arith, entry_long e (entries_text es rest), entries_long es rest)

brace_stops : (rest : List ℕ) → stops is_ws (0x7D ∷ rest) ≡ true
unfolding stops is_ws
brace_stops rest = refl

no_string : (rest : List ℕ) → read_string (0x7D ∷ rest) ≡ none
unfolding read_string expect
no_string rest = refl

whole : (e : Entry) (es : List Entry) (rest : List ℕ) → GoodEntry e × GoodEntries es → read_inside (entry_text e (entries_text es (0x7D ∷ rest)))
    ≡ (entries e es, 0x7D ∷ rest)
unfolding read_inside
whole e es rest g =
    let more = entries_text es (0x7D ∷ rest) in
    let stop = entries_stop es rest in
    let l : length es ≤ length (entry_text e more) = omega (arith, entry_long e more, entries_long es (0x7D ∷ rest)) in
    rw (entry_at e more g.0 stop.0 stop.1, entries_at es (length (entry_text e more)) rest g.1 l)

opening_stops : (rest : List ℕ) → stops is_ws (0x7B ∷ rest) ≡ true
unfolding stops is_ws
opening_stops rest = refl

nothing_stops : stops is_ws [] ≡ true
unfolding stops
nothing_stops = refl

pub inside_at : (i : Inside) (rest : List ℕ) → GoodInside i → read_inside (inside_text i (0x7D ∷ rest)) ≡ (i, 0x7D ∷ rest)
unfolding read_inside read_entry inside_text GoodInside
inside_at (blank s) rest g = rw (span_at is_ws s (0x7D ∷ rest) g (brace_stops rest), no_string rest)
inside_at (entries e es) rest g = whole e es rest g

pub parse_text : (t : Tree) → Good t → parse (text t) ≡ some t
unfolding parse text at_end
parse_text t g =
    let body = inside_text t.inside (0x7D ∷ t.after) in
    let e1 : span is_ws (t.before ++ 0x7B ∷ body) ≡ (t.before, 0x7B ∷ body) = span_at is_ws t.before (0x7B ∷ body) g.before (opening_stops body) in
    let e2 : read_inside body ≡ (t.inside, 0x7D ∷ t.after) = inside_at t.inside t.after g.inside in
    let e3 : span is_ws t.after ≡ (t.after, []) = subst (λ (l : List ℕ). span is_ws l ≡ (t.after, [])) (append-nil t.after)
    (span_at is_ws t.after [] g.after nothing_stops) in
    rw (e1, expect_at 0x7B body, e2, expect_at 0x7D t.after, e3)

-- No two trees have one text.
pub one_tree : (t t' : Tree) → Good t → Good t' → text t ≡ text t' → t ≡ t'
one_tree t t' g g' e = let q : some t ≡ some t' = sym (parse_text t g) ∙ ap parse e ∙ parse_text t' g' in cc
