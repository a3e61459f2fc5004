-- The text of a good tree is a text of the grammar.
-- Assumes nothing.
use Prim.Native.Nat.{ℕ, ◌≤◌, ◌<◌}
use mathlib.Core.Bool.{Bool, true, false, ◌&&◌, true≢false}
use mathlib.Core.List.{List, [], ◌∷◌, ◌++◌, append_assoc, append-nil}
use mathlib.Core.Logic.{◌⊎◌, inl, inr, ⊎_elim}
use mathlib.Core.Path.{◌≡◌, refl, sym, ap, ◌∙◌, subst}
use borrow.Author.Tests.{leb-true, leb-false}
use native.Mathlib.Omega.{arith}
use lib.Dec.{leb}
use Rattle.flat_json.specs.Abnf.{Abnf, empty, range, ◌then◌, ◌or◌, many, Matches, none, more, in_set, is, optional}
use Rattle.flat_json.specs.Grammar.{ws_byte, ws, begin_object, end_object, name_separator, value_separator, false_rule, null_rule, true_rule, digit, int}
use Rattle.flat_json.specs.Grammar.{hexdig, unescaped, short_escape, escaped, char, string as string-rule, value as value-rule, member, object, json_text}
use Rattle.flat_json.specs.Tree.{is_ws, is_digit, is_hex, is_unescaped, is_short, all, Piece, plain, short, unicode, true_word, false_word, null_word, word_text}
use Rattle.flat_json.specs.Tree.{Value, string, number, word, Entry, Inside, blank, entries, Tree, piece_text, pieces_text, string_text, value_text, lead_text}
use Rattle.flat_json.specs.Tree.{entry_text, entries_text, inside_text, text, good_piece, good_pieces, good_number, good_value, GoodEntry, GoodEntries}
use Rattle.flat_json.specs.Tree.{GoodInside, Good}
use Rattle.flat_json.proofs.Branches.{and_left, and_right, and_both}
use Rattle.flat_json.proofs.Sets.{set_in}

-- w is a text of a, and then rest
pub record Before (a : Abnf) (w rest : List ℕ) : Type 0 where
  pub part : List ℕ
  pub split : w ≡ part ++ rest
  pub is_text : Matches a part

before : {a : Abnf} {w rest : List ℕ} (u : List ℕ) → w ≡ u ++ rest → Matches a u → Before a w rest
before u e m = record { part = u; split = e; is_text = m }

then_before : {a c : Abnf} {w r r' : List ℕ} → Before a w r → Before c r r' → Before (a then c) w r'
unfolding Matches
then_before {r' = r'} x y =
    before (x.part ++ y.part) (x.split ∙ ap (λ (l : List ℕ). x.part ++ l) y.split ∙ sym (append_assoc x.part y.part r'))
    (x.part, y.part, refl, x.is_text, y.is_text)

left_before : {a c : Abnf} {w r : List ℕ} → Before a w r → Before (a or c) w r
unfolding Matches
left_before x = before x.part x.split (inl x.is_text)

right_before : {a c : Abnf} {w r : List ℕ} → Before c w r → Before (a or c) w r
unfolding Matches
right_before x = before x.part x.split (inr x.is_text)

empty_before : {r : List ℕ} → Before empty r r
unfolding Matches
empty_before = before [] refl refl

none_before : {a : Abnf} {r : List ℕ} → Before (many a) r r
unfolding Matches
none_before = before [] refl none

more_before : {a : Abnf} {w r r' : List ℕ} → Before a w r → Before (many a) r r' → Before (many a) w r'
unfolding Matches
more_before {r' = r'} x y =
    before (x.part ++ y.part) (x.split ∙ ap (λ (l : List ℕ). x.part ++ l) y.split ∙ sym (append_assoc x.part y.part r'))
    (more x.part y.part x.is_text y.is_text)

set_before : (a : Abnf) (b : ℕ) (r : List ℕ) → in_set a b ≡ true → Before a (b ∷ r) r
set_before a b r h = before (b ∷ []) refl (set_in a b h)

is_before : (b : ℕ) (r : List ℕ) → Before (is b) (b ∷ r) r
unfolding Matches
is_before b r = before (b ∷ []) refl (b, refl, omega arith, omega arith)

run_before : (a : Abnf) (xs r : List ℕ) → all (in_set a) xs ≡ true → Before (many a) (xs ++ r) r
unfolding all
run_before a [] r h = none_before
run_before a (x ∷ xs) r h = more_before (set_before a x (xs ++ r) (and_left (in_set a x) (all (in_set a) xs) h))
    (run_before a xs r (and_right (in_set a x) (all (in_set a) xs) h))

ws_before : (xs r : List ℕ) → all is_ws xs ≡ true → Before ws (xs ++ r) r
unfolding ws is_ws
ws_before xs r h = run_before ws_byte xs r h

piece_before : (p : Piece) (r : List ℕ) → good_piece p ≡ true → Before char (piece_text p r) r
unfolding char escaped piece_text good_piece is_unescaped is_short is_hex
piece_before (plain b) r h = left_before (set_before unescaped b r h)
piece_before (short c) r h = right_before (then_before (is_before 0x5C (c ∷ r)) (left_before (set_before short_escape c r h)))
piece_before (unicode a b c d) r h =
    let h1 = and_right (in_set hexdig a) (in_set hexdig b && (in_set hexdig c && in_set hexdig d)) h in
    let h2 = and_right (in_set hexdig b) (in_set hexdig c && in_set hexdig d) h1 in
    right_before (then_before (is_before 0x5C (0x75 ∷ a ∷ b ∷ c ∷ d ∷ r)) (right_before (then_before (is_before 0x75 (a ∷ b ∷ c ∷ d ∷ r))
    (then_before (set_before hexdig a (b ∷ c ∷ d ∷ r) (and_left (in_set hexdig a) (in_set hexdig b && (in_set hexdig c && in_set hexdig d)) h))
    (then_before (set_before hexdig b (c ∷ d ∷ r) (and_left (in_set hexdig b) (in_set hexdig c && in_set hexdig d) h1))
    (then_before (set_before hexdig c (d ∷ r) (and_left (in_set hexdig c) (in_set hexdig d) h2))
    (set_before hexdig d r (and_right (in_set hexdig c) (in_set hexdig d) h2))))))))

pieces_before : (ps : List Piece) (r : List ℕ) → good_pieces ps ≡ true → Before (many char) (pieces_text ps r) r
unfolding pieces_text good_pieces
pieces_before [] r h = none_before
pieces_before (p ∷ ps) r h =
    more_before (piece_before p (pieces_text ps r) (and_left (good_piece p) (good_pieces ps) h)) (pieces_before ps r (and_right (good_piece p) (good_pieces ps) h))

string_before : (ps : List Piece) (r : List ℕ) → good_pieces ps ≡ true → Before string-rule (string_text ps r) r
unfolding string-rule string_text
string_before ps r h = then_before (is_before 0x22 (pieces_text ps (0x22 ∷ r))) (then_before (pieces_before ps (0x22 ∷ r) h) (is_before 0x22 r))

-- a digit is 0 or one of 1 to 9
pub digit_cases : (d : ℕ) → is_digit d ≡ true → (d ≡ 0x30) ⊎ (in_set (range 0x31 0x39) d ≡ true)
unfolding is_digit in_set
digit_cases d h = go (leb 0x31 d) refl
  where
    low : 0x30 ≤ d
    low = leb-true 0x30 d (and_left (leb 0x30 d) (leb d 0x39) h)

    go : (t : Bool) → leb 0x31 d ≡ t → (d ≡ 0x30) ⊎ ((leb 0x31 d && leb d 0x39) ≡ true)
    go true e = inr (and_both (leb 0x31 d) (leb d 0x39) e (and_right (leb 0x30 d) (leb d 0x39) h))
    go false e = inl (let high : d < 0x31 = leb-false 0x31 d e in omega (arith, low))

more_digits : (d : ℕ) (ds r : List ℕ) → (leb 0x31 d && (leb d 0x39 && all is_digit ds)) ≡ true → Before int (d ∷ (ds ++ r)) r
unfolding int is_digit in_set
more_digits d ds r h =
    let f = and_right (leb 0x31 d) (leb d 0x39 && all is_digit ds) h in
    right_before (then_before (set_before (range 0x31 0x39) d (ds ++ r) (and_both (leb 0x31 d) (leb d 0x39)
    (and_left (leb 0x31 d) (leb d 0x39 && all is_digit ds) h) (and_left (leb d 0x39) (all is_digit ds) f)))
    (run_before digit ds r (and_right (leb d 0x39) (all is_digit ds) f)))

number_before : (ds r : List ℕ) → good_number ds ≡ true → Before int (ds ++ r) r
unfolding int good_number
number_before [] r h = absurd (true≢false (sym h))
number_before (d ∷ []) r h =
    ⊎_elim
    (λ e. left_before (subst (λ (x : ℕ). Before (is 0x30) (x ∷ r) r) (sym e) (is_before 0x30 r)))
    (λ e. right_before (then_before (set_before (range 0x31 0x39) d r e) none_before))
    (digit_cases d h)
number_before (d ∷ (e ∷ ds)) r h = more_digits d (e ∷ ds) r h

value_before : (v : Value) (r : List ℕ) → good_value v ≡ true → Before value-rule (value_text v r) r
unfolding value-rule value_text good_value word_text true_rule false_rule null_rule
value_before (number ds) r h = right_before (right_before (right_before (left_before (number_before ds r h))))
value_before (string ps) r h = right_before (right_before (right_before (right_before (string_before ps r h))))
value_before (word true_word) r h =
    right_before (right_before (left_before (then_before (is_before 0x74 (0x72 ∷ 0x75 ∷ 0x65 ∷ r))
    (then_before (is_before 0x72 (0x75 ∷ 0x65 ∷ r)) (then_before (is_before 0x75 (0x65 ∷ r)) (is_before 0x65 r))))))
value_before (word false_word) r h =
    left_before (then_before (is_before 0x66 (0x61 ∷ 0x6C ∷ 0x73 ∷ 0x65 ∷ r))
    (then_before (is_before 0x61 (0x6C ∷ 0x73 ∷ 0x65 ∷ r)) (then_before (is_before 0x6C (0x73 ∷ 0x65 ∷ r))
    (then_before (is_before 0x73 (0x65 ∷ r)) (is_before 0x65 r)))))
value_before (word null_word) r h =
    right_before (left_before (then_before (is_before 0x6E (0x75 ∷ 0x6C ∷ 0x6C ∷ r))
    (then_before (is_before 0x75 (0x6C ∷ 0x6C ∷ r)) (then_before (is_before 0x6C (0x6C ∷ r)) (is_before 0x6C r)))))

-- an entry without the white space before it
unfoldable pub body_text : Entry → List ℕ → List ℕ
body_text e r = string_text e.name (e.gap ++ 0x3A ∷ (e.lead ++ value_text e.value r))

member_before : (e : Entry) (r : List ℕ) → GoodEntry e → Before member (body_text e r) r
unfolding member name_separator body_text
member_before e r g =
    let tail = value_text e.value r in
    then_before (string_before e.name (e.gap ++ 0x3A ∷ (e.lead ++ tail)) g.name)
    (then_before (then_before (ws_before e.gap (0x3A ∷ (e.lead ++ tail)) g.gap)
    (then_before (is_before 0x3A (e.lead ++ tail)) (ws_before e.lead tail g.lead)))
    (value_before e.value r g.value))

-- the further entries, behind the white space s of the entry before; s' is that of the last one
tail_before : (s : List ℕ) (es : List Entry) (r : List ℕ) → all is_ws s ≡ true → GoodEntries es
    → (s' : List ℕ) × (all is_ws s' ≡ true) × Before (many (value_separator then member)) (s ++ entries_text es r) (s' ++ r)
unfolding entries_text GoodEntries entry_text lead_text value_separator body_text
tail_before s [] r h g = (s, h, none_before)
tail_before s (e ∷ es) r h g =
    let ih = tail_before e.after es r g.0.after g.1 in
    let rest = e.after ++ entries_text es r in
    let sep : Before value_separator (s ++ 0x2C ∷ (e.before ++ body_text e rest)) (body_text e rest) =
    then_before (ws_before s (0x2C ∷ (e.before ++ body_text e rest)) h) (then_before (is_before 0x2C (e.before ++ body_text e rest))
    (ws_before e.before (body_text e rest) g.0.before))
    in
    (ih.0, ih.1, more_before (then_before sep (member_before e rest g.0)) ih.2)

no_space : {r : List ℕ} → Before ws r r
unfolding ws
no_space = none_before

closing : (s after : List ℕ) → all is_ws s ≡ true → all is_ws after ≡ true → Before (end_object then ws) (s ++ 0x7D ∷ after) []
unfolding end_object
closing s after h g =
    let a : Before ws after [] = subst (λ (l : List ℕ). Before ws l []) (append-nil after) (ws_before after [] g) in
    then_before (then_before (ws_before s (0x7D ∷ after) h) (then_before (is_before 0x7D after) a)) no_space

inside_before : (i : Inside) (after : List ℕ) → GoodInside i → all is_ws after ≡ true
    → Before (ws then optional (member then many (value_separator then member)) then end_object then ws) (inside_text i (0x7D ∷ after)) []
unfolding inside_text GoodInside entry_text lead_text body_text
inside_before (blank s) after g h = then_before no_space (then_before (right_before empty_before) (closing s after g h))
inside_before (entries e es) after g h =
    let t = tail_before e.after es (0x7D ∷ after) g.0.after g.1 in
    let rest = e.after ++ entries_text es (0x7D ∷ after) in
    then_before (ws_before e.before (body_text e rest) g.0.before)
    (then_before (left_before (then_before (member_before e rest g.0) t.2)) (closing t.0 after t.1 h))

-- the grammar's own grouping
regroup : {w : List ℕ} → Before (ws then (ws then (is 0x7B then (ws then optional
    (member then many (value_separator then member)) then end_object then ws)))) w [] → Before json_text w []
unfolding json_text object begin_object Matches
regroup x =
    let m = x.is_text in
    let m1 = m.4 in
    let m2 = m1.4 in
    let m3 = m2.4 in
    let m4 = m3.4 in
    let m5 = m4.4 in
    before x.part x.split (
      m.0,
      m1.0 ++ m2.0 ++ m3.0 ++ m4.0 ++ m5.0 ++ m5.1,
      m.2 ∙ ap (λ (l : List ℕ). m.0 ++ l) (m1.2 ∙ ap (λ (l : List ℕ). m1.0 ++ l) (m2.2
          ∙ ap (λ (l : List ℕ). m2.0 ++ l) (m3.2 ∙ ap (λ (l : List ℕ). m3.0 ++ l) (m4.2 ∙ ap (λ (l : List ℕ). m4.0 ++ l) m5.2))) ∙ simp append_assoc),
      m.3,
      (
        m1.0 ++ m2.0 ++ m3.0 ++ m4.0 ++ m5.0,
        m5.1,
        refl,
        (
          m1.0 ++ m2.0 ++ m3.0,
          m4.0 ++ m5.0,
          simp append_assoc,
          (m1.0, m2.0 ++ m3.0, simp append_assoc, m1.3, (m2.0, m3.0, refl, m2.3, m3.3)),
          (m4.0, m5.0, refl, m4.3, m5.3),
        ),
        m5.4,
      ),
    )

-- The text of a good tree matches.
pub tree_matches : (t : Tree) → Good t → Matches json_text (text t)
unfolding text
tree_matches t g =
    let body = inside_text t.inside (0x7D ∷ t.after) in
    let b = regroup (then_before (ws_before t.before (0x7B ∷ body) g.before)
    (then_before no_space (then_before (is_before 0x7B body) (inside_before t.inside t.after g.inside g.after)))) in
    subst (Matches json_text) (sym (b.split ∙ append-nil b.part)) b.is_text
