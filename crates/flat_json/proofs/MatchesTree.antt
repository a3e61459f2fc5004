-- A text of the grammar is the text of a good tree.
-- Assumes nothing.
use Prim.Native.Nat.{ℕ, ◌≤◌}
use mathlib.Core.Bool.{Bool, true, ◌&&◌}
use mathlib.Core.List.{List, [], ◌∷◌, ◌++◌, append_assoc}
use mathlib.Core.Logic.{⊎_elim, ◌↔◌}
use mathlib.Core.Option.{some}
use mathlib.Core.Path.{◌≡◌, refl, sym, ap, ◌∙◌, subst}
use borrow.Author.Tests.{leb-true, le-leb}
use native.Mathlib.Omega.{arith}
use lib.Dec.{leb}
use Rattle.flat_json.specs.Abnf.{range, ◌then◌, many, Matches, Many, none, more, in_set, is, optional}
use Rattle.flat_json.specs.Grammar.{ws_byte, ws, begin_object, end_object, name_separator, value_separator, false_rule, null_rule, true_rule, digit, int}
use Rattle.flat_json.specs.Grammar.{hexdig, unescaped, short_escape, escaped, char, string as string-rule, value as value-rule, member, object, json_text}
use Rattle.flat_json.specs.Tree.{is_ws, is_digit, is_hex, is_unescaped, is_short, all, Piece, plain, short, unicode, Word, true_word, false_word, null_word}
use Rattle.flat_json.specs.Tree.{word_text, Value, string, number, word, Entry, Inside, blank, entries, Tree, piece_text, pieces_text, string_text, value_text}
use Rattle.flat_json.specs.Tree.{lead_text, entry_text, entries_text, inside_text, text, good_piece, good_pieces, good_number, good_value, GoodEntry, GoodEntries}
use Rattle.flat_json.specs.Tree.{GoodInside, Good}
use Rattle.flat_json.specs.Parse.{parse}
use Rattle.flat_json.proofs.Branches.{and_left, and_right, and_both}
use Rattle.flat_json.proofs.Sets.{set_out, run_out, is_set}
use Rattle.flat_json.proofs.ParseTold.{parse_law}
use Rattle.flat_json.proofs.TreeMatches.{tree_matches}

-- a text in two parts before a rest
spread : {w : List ℕ} (p q : List ℕ) → w ≡ p ++ q → (r : List ℕ) → w ++ r ≡ p ++ (q ++ r)
spread p q e r = ap (λ (l : List ℕ). l ++ r) e ∙ append_assoc p q r

-- a text whose first part is one byte
byte_next : {u : List ℕ} (p q : List ℕ) (b : ℕ) {rest : List ℕ} → u ≡ p ++ q → p ≡ b ∷ [] → q ≡ rest → u ≡ b ∷ rest
byte_next p q b e f g = e ∙ ap (λ (l : List ℕ). l ++ q) f ∙ ap (λ (l : List ℕ). b ∷ l) g

all_both : (p : ℕ → Bool) (xs ys : List ℕ) → all p xs ≡ true → all p ys ≡ true → all p (xs ++ ys) ≡ true
unfolding all
all_both p [] ys h k = k
all_both p (x ∷ xs) ys h k = and_both (p x) (all p (xs ++ ys)) (and_left (p x) (all p xs) h) (all_both p xs ys (and_right (p x) (all p xs) h) k)

is_out : (c : ℕ) (u : List ℕ) → Matches (is c) u → u ≡ c ∷ []
unfolding Matches
is_out c u m = m.1 ∙ ap (λ (x : ℕ). x ∷ []) (let low : c ≤ m.0 = m.2 in let high : m.0 ≤ c = m.3 in let e : m.0 ≡ c = omega arith in e)

ws_out : (u : List ℕ) → Matches ws u → all is_ws u ≡ true
unfolding ws is_ws Matches is_set
ws_out u m = run_out ws_byte refl m

hex_out : (u : List ℕ) → Matches hexdig u → (b : ℕ) × (u ≡ b ∷ []) × (is_hex b ≡ true)
unfolding is_hex is_set hexdig digit
hex_out u m = set_out hexdig u refl m

next_byte : (c : ℕ) {u : List ℕ} (p q : List ℕ) {rest : List ℕ} → u ≡ p ++ q → Matches (is c) p → q ≡ rest → u ≡ c ∷ rest
next_byte c p q e m f = byte_next p q c e (is_out c p m) f

-- a part with its text
abbrev PieceOf : List ℕ → Type 0
PieceOf u = (p : Piece) × (good_piece p ≡ true) × ((r : List ℕ) → piece_text p r ≡ u ++ r)

escaped_out : (u : List ℕ) → Matches escaped u → PieceOf (0x5C ∷ u)
unfolding escaped Matches piece_text good_piece is_short is_set
escaped_out u m =
    ⊎_elim
    (λ k. let o = set_out short_escape u refl k in (short o.0, o.2, λ r. ap (λ (l : List ℕ). 0x5C ∷ (l ++ r)) (sym o.1)))
    (λ k. let a = hex_out k.4.0 k.4.3 in
    let b = hex_out k.4.4.0 k.4.4.3 in
    let c = hex_out k.4.4.4.0 k.4.4.4.3 in
    let d = hex_out k.4.4.4.1 k.4.4.4.4 in
    let e1 : u ≡ 0x75 ∷ a.0 ∷ b.0 ∷ c.0 ∷ d.0 ∷ [] =
    next_byte 0x75 k.0 k.1 k.2 k.3
    (byte_next k.4.0 k.4.1 a.0 k.4.2 a.1
    (byte_next k.4.4.0 k.4.4.1 b.0 k.4.4.2 b.1
    (byte_next k.4.4.4.0 k.4.4.4.1 c.0 k.4.4.4.2 c.1 d.1)))
    in (
      unicode a.0 b.0 c.0 d.0,
      and_both (is_hex a.0) (is_hex b.0 && (is_hex c.0 && is_hex d.0)) a.2
          (and_both (is_hex b.0) (is_hex c.0 && is_hex d.0) b.2 (and_both (is_hex c.0) (is_hex d.0) c.2 d.2)),
      λ r. ap (λ (l : List ℕ). 0x5C ∷ (l ++ r)) (sym e1),
    ))
    m

piece_out : (u : List ℕ) → Matches char u → PieceOf u
unfolding char Matches piece_text good_piece is_unescaped is_set
piece_out u m =
    ⊎_elim
    (λ k. let o = set_out unescaped u refl k in (plain o.0, o.2, λ r. ap (λ (l : List ℕ). l ++ r) (sym o.1)))
    (λ k. let p = escaped_out k.1 k.4 in
    let e : u ≡ 0x5C ∷ k.1 = k.2 ∙ ap (λ (l : List ℕ). l ++ k.1) (is_out 0x5C k.0 k.3) in
    (p.0, p.1, λ r. p.2 r ∙ ap (λ (l : List ℕ). l ++ r) (sym e)))
    m

abbrev PiecesOf : List ℕ → Type 0
PiecesOf u = (ps : List Piece) × (good_pieces ps ≡ true) × ((r : List ℕ) → pieces_text ps r ≡ u ++ r)

pieces_out : {u : List ℕ} → Many (Matches char) u → PiecesOf u
unfolding pieces_text good_pieces
pieces_out none = ([], refl, λ r. refl)
pieces_out (more u v m ms) =
    let p = piece_out u m in
    let ps = pieces_out ms in (
      p.0 ∷ ps.0,
      and_both (good_piece p.0) (good_pieces ps.0) p.1 ps.1,
      λ r. p.2 (pieces_text ps.0 r) ∙ ap (λ (l : List ℕ). u ++ l) (ps.2 r) ∙ sym (append_assoc u v r),
    )

abbrev StringOf : List ℕ → Type 0
StringOf u = (ps : List Piece) × (good_pieces ps ≡ true) × ((r : List ℕ) → string_text ps r ≡ u ++ r)

string_out : (u : List ℕ) → Matches string-rule u → StringOf u
unfolding string-rule Matches string_text
string_out u m =
    let n = m.4 in
    let ps = pieces_out n.3 in
    let e : u ≡ 0x22 ∷ (n.0 ++ (0x22 ∷ [])) =
    m.2 ∙ ap (λ (l : List ℕ). l ++ m.1) (is_out 0x22 m.0 m.3) ∙ ap (λ (l : List ℕ). 0x22 ∷ l) (n.2
    ∙ ap (λ (l : List ℕ). n.0 ++ l) (is_out 0x22 n.1 n.4))
    in (
      ps.0,
      ps.1,
      λ r. ap (λ (l : List ℕ). 0x22 ∷ l) (ps.2 (0x22 ∷ r) ∙ sym (append_assoc n.0 (0x22 ∷ []) r)) ∙ ap (λ (l : List ℕ). l ++ r) (sym e),
    )

number_good : (d : ℕ) (ds : List ℕ) → in_set (range 0x31 0x39) d ≡ true → all is_digit ds ≡ true → good_number (d ∷ ds) ≡ true
unfolding good_number in_set is_digit
number_good d [] h k =
    let low : 0x31 ≤ d = leb-true 0x31 d (and_left (leb 0x31 d) (leb d 0x39) h) in
    and_both (leb 0x30 d) (leb d 0x39) (le-leb 0x30 d (omega arith)) (and_right (leb 0x31 d) (leb d 0x39) h)
number_good d (e ∷ ds) h k =
    and_both (leb 0x31 d) (leb d 0x39 && all is_digit (e ∷ ds)) (and_left (leb 0x31 d) (leb d 0x39) h)
    (and_both (leb d 0x39) (all is_digit (e ∷ ds)) (and_right (leb 0x31 d) (leb d 0x39) h) k)

zero_good : good_number (0x30 ∷ []) ≡ true
unfolding good_number is_digit
zero_good = refl

number_out : (u : List ℕ) → Matches int u → good_number u ≡ true
unfolding int Matches is_digit is_set
number_out u m =
    ⊎_elim
    (λ k. subst (λ (l : List ℕ). good_number l ≡ true) (sym (is_out 0x30 u k)) zero_good)
    (λ k. let o = set_out (range 0x31 0x39) k.0 refl k.3 in
    let e : u ≡ o.0 ∷ k.1 = k.2 ∙ ap (λ (l : List ℕ). l ++ k.1) o.1 in
    subst (λ (l : List ℕ). good_number l ≡ true) (sym e) (number_good o.0 k.1 o.2 (run_out digit refl k.4)))
    m

abbrev ValueOf : List ℕ → Type 0
ValueOf u = (v : Value) × (good_value v ≡ true) × ((r : List ℕ) → value_text v r ≡ u ++ r)

word_of : (k : Word) (u : List ℕ) → u ≡ word_text k → ValueOf u
unfolding good_value value_text
word_of k u e = (word k, refl, λ r. ap (λ (l : List ℕ). l ++ r) (sym e))

number_of : (u : List ℕ) → good_number u ≡ true → ValueOf u
unfolding good_value value_text
number_of u h = (number u, h, λ r. refl)

string_of : (u : List ℕ) → StringOf u → ValueOf u
unfolding good_value value_text
string_of u s = (string s.0, s.1, s.2)

value_out : (u : List ℕ) → Matches value-rule u → ValueOf u
unfolding value-rule Matches true_rule false_rule null_rule word_text
value_out u m =
    ⊎_elim (λ k. word_of false_word u (next_byte 0x66 k.0 k.1 k.2 k.3
    (next_byte 0x61 k.4.0 k.4.1 k.4.2 k.4.3 (next_byte 0x6C k.4.4.0 k.4.4.1 k.4.4.2 k.4.4.3
    (next_byte 0x73 k.4.4.4.0 k.4.4.4.1 k.4.4.4.2 k.4.4.4.3 (is_out 0x65 k.4.4.4.1 k.4.4.4.4))))))
    (λ m1. ⊎_elim (λ k. word_of null_word u (next_byte 0x6E k.0 k.1 k.2 k.3
    (next_byte 0x75 k.4.0 k.4.1 k.4.2 k.4.3 (next_byte 0x6C k.4.4.0 k.4.4.1 k.4.4.2 k.4.4.3
    (is_out 0x6C k.4.4.1 k.4.4.4)))))
    (λ m2. ⊎_elim (λ k. word_of true_word u (next_byte 0x74 k.0 k.1 k.2 k.3
    (next_byte 0x72 k.4.0 k.4.1 k.4.2 k.4.3 (next_byte 0x75 k.4.4.0 k.4.4.1 k.4.4.2 k.4.4.3
    (is_out 0x65 k.4.4.1 k.4.4.4)))))
    (λ m3. ⊎_elim (λ k. number_of u (number_out u k)) (λ k. string_of u (string_out u k)) m3) m2) m1) m

-- a member without the white space around it
record MemberOf (u : List ℕ) : Type 0 where
  name : List Piece
  gap : List ℕ
  lead : List ℕ
  value : Value
  good_name : good_pieces name ≡ true
  good_gap : all is_ws gap ≡ true
  good_lead : all is_ws lead ≡ true
  good_value_law : good_value value ≡ true
  spelt : (r : List ℕ) → string_text name (gap ++ 0x3A ∷ (lead ++ value_text value r)) ≡ u ++ r

member_out : (u : List ℕ) → Matches member u → MemberOf u
unfolding member name_separator Matches
member_out u m =
    let s = string_out m.0 m.3 in
    let n = m.4 in
    let sep = n.3 in
    let v = value_out n.1 n.4 in
    let colon : sep.1 ≡ 0x3A ∷ sep.4.1 = next_byte 0x3A sep.4.0 sep.4.1 sep.4.2 sep.4.3 refl in
    record {
      name = s.0;
      gap = sep.0;
      lead = sep.4.1;
      value = v.0;
      good_name = s.1;
      good_gap = ws_out sep.0 sep.3;
      good_lead = ws_out sep.4.1 sep.4.4;
      good_value_law = v.1;
      spelt = λ r.
          ap (λ (l : List ℕ). string_text s.0 (sep.0 ++ 0x3A ∷ (sep.4.1 ++ l))) (v.2 r)
          ∙ ap (λ (l : List ℕ). string_text s.0 (sep.0 ++ (l ++ (n.1 ++ r)))) (sym colon)
          ∙ ap (λ (l : List ℕ). string_text s.0 l) (sym (append_assoc sep.0 sep.1 (n.1 ++ r)) ∙ ap (λ (l : List ℕ). l ++ (n.1 ++ r)) (sym sep.2))
          ∙ ap (λ (l : List ℕ). string_text s.0 l) (sym (spread n.0 n.1 n.2 r))
          ∙ s.2 (m.1 ++ r)
          ∙ sym (spread m.0 m.1 m.2 r);
    }

entry_of : List ℕ → {u : List ℕ} → MemberOf u → List ℕ → Entry
entry_of s m s' = record { before = s; name = m.name; gap = m.gap; lead = m.lead; value = m.value; after = s' }

entry_good : (s : List ℕ) {u : List ℕ} (m : MemberOf u) (s' : List ℕ) → all is_ws s ≡ true → all is_ws s' ≡ true → GoodEntry (entry_of s m s')
unfolding entry_of
entry_good s m s' h k = record { before = h; name = m.good_name; gap = m.good_gap; lead = m.good_lead; value = m.good_value_law; after = k }

entry_text_law : (s : List ℕ) {u : List ℕ} (m : MemberOf u) (s' r : List ℕ) → entry_text (entry_of s m s') r ≡ s ++ (u ++ (s' ++ r))
unfolding entry_of entry_text lead_text
entry_text_law s {u} m s' r = ap (λ (l : List ℕ). s ++ l) (m.spelt (s' ++ r))

record EntriesOf (w : List ℕ) : Type 0 where
  first : Entry
  others : List Entry
  good_first : GoodEntry first
  good_others : GoodEntries others
  spelt : (r : List ℕ) → entry_text first (entries_text others r) ≡ w ++ r

separated : (p a c w₁ x k w₂ : List ℕ) → p ≡ a ++ c → a ≡ w₁ ++ x → x ≡ k ++ w₂ → k ≡ 0x2C ∷ [] → p ≡ w₁ ++ 0x2C ∷ (w₂ ++ c)
separated p a c w₁ x k w₂ e f g h =
    e ∙ ap (λ (l : List ℕ). l ++ c) (f ∙ ap (λ (l : List ℕ). w₁ ++ l) (g ∙ ap (λ (l : List ℕ). l ++ w₂) h)) ∙ append_assoc w₁ (0x2C ∷ w₂) c

joined : (s u₀ p q w₁ w₂ c s' : List ℕ) → p ≡ w₁ ++ 0x2C ∷ (w₂ ++ c) → (r : List ℕ)
    → s ++ (u₀ ++ (w₁ ++ 0x2C ∷ (w₂ ++ (c ++ (q ++ s')) ++ r))) ≡ s ++ (u₀ ++ (p ++ q ++ s')) ++ r
joined s u₀ p q w₁ w₂ c s' e r = rw e (simp append_assoc)

entries_out : (s : List ℕ) {u₀ : List ℕ} (m : MemberOf u₀) {u : List ℕ} → Many (Matches (value_separator then member)) u → (s' : List ℕ)
    → all is_ws s ≡ true → all is_ws s' ≡ true → EntriesOf (s ++ (u₀ ++ (u ++ s')))
unfolding entries_text GoodEntries Matches value_separator
entries_out s {u₀} m none s' h k =
    record {
      first = entry_of s m s';
      others = [];
      good_first = entry_good s m s' h k;
      good_others = tt;
      spelt = λ r. entry_text_law s m s' r ∙ simp append_assoc;
    }
entries_out s {u₀} m (more p q n ns) s' h k =
    let n' = n in
    let sep = n'.3 in
    let w₁ = sep.0 in
    let w₂ = sep.4.1 in
    let next = member_out n'.1 n'.4 in
    let ih = entries_out w₂ next ns s' (ws_out w₂ sep.4.4) k in
    let e = separated p n'.0 n'.1 w₁ sep.1 sep.4.0 w₂ n'.2 sep.2 sep.4.2 (is_out 0x2C sep.4.0 sep.4.3) in
    record {
      first = entry_of s m w₁;
      others = ih.first ∷ ih.others;
      good_first = entry_good s m w₁ h (ws_out w₁ sep.3);
      good_others = (ih.good_first, ih.good_others);
      spelt = λ r. entry_text_law s m w₁ (0x2C ∷ entry_text ih.first (entries_text ih.others r))
          ∙ ap (λ (l : List ℕ). s ++ (u₀ ++ (w₁ ++ 0x2C ∷ l))) (ih.spelt r) ∙ joined s u₀ p q w₁ w₂ n'.1 s' e r;
    }

abbrev InsideOf : List ℕ → Type 0
InsideOf w = (i : Inside) × GoodInside i × ((r : List ℕ) → inside_text i r ≡ w ++ r)

inside_of : (w : List ℕ) → EntriesOf w → InsideOf w
unfolding inside_text GoodInside
inside_of w e = (entries e.first e.others, (e.good_first, e.good_others), e.spelt)

blank_of : (w : List ℕ) → all is_ws w ≡ true → InsideOf w
unfolding inside_text GoodInside
blank_of w h = (blank w, h, λ r. refl)

inside_out : (s x s' : List ℕ) → all is_ws s ≡ true → all is_ws s' ≡ true → Matches (optional (member then many (value_separator then member))) x
    → InsideOf (s ++ (x ++ s'))
unfolding Matches
inside_out s x s' h k m =
    ⊎_elim
    (λ n. subst InsideOf (ap (λ (l : List ℕ). s ++ l) (sym (spread n.0 n.1 n.2 s')))
    (inside_of (s ++ (n.0 ++ (n.1 ++ s'))) (entries_out s (member_out n.0 n.3) n.4 s' h k)))
    (λ e. subst (λ (l : List ℕ). InsideOf (s ++ (l ++ s'))) (sym e) (blank_of (s ++ s') (all_both is_ws s s' h k)))
    m

whole_text : (w p₀ o w₁ bo x eo b₁ b₂ e₁ e₂ : List ℕ) → w ≡ p₀ ++ (o ++ w₁) → o ≡ bo ++ (x ++ eo) → bo ≡ b₁ ++ 0x7B ∷ b₂ → eo ≡ e₁ ++ 0x7D ∷ e₂
    → p₀ ++ b₁ ++ 0x7B ∷ (b₂ ++ (x ++ e₁) ++ 0x7D ∷ (e₂ ++ w₁)) ≡ w
whole_text w p₀ o w₁ bo x eo b₁ b₂ e₁ e₂ e f g h = rw (e, f, g, h) (simp append_assoc)

-- A text that matches has a good tree.
pub matches_tree : (w : List ℕ) → Matches json_text w → (t : Tree) × Good t × (text t ≡ w)
unfolding json_text object begin_object end_object Matches text
matches_tree w m =
    let n = m.4 in
    let ob = n.3 in
    let open' = ob.3 in
    let rest = ob.4 in
    let close' = rest.4 in
    let bo : ob.0 ≡ open'.0 ++ 0x7B ∷ open'.4.1 = open'.2 ∙ ap (λ (l : List ℕ). open'.0 ++ l)
    (next_byte 0x7B open'.4.0 open'.4.1 open'.4.2 open'.4.3 refl) in
    let eo : rest.1 ≡ close'.0 ++ 0x7D ∷ close'.4.1 = close'.2 ∙ ap (λ (l : List ℕ). close'.0 ++ l)
    (next_byte 0x7D close'.4.0 close'.4.1 close'.4.2 close'.4.3 refl) in
    let o : ob.0 ++ ob.1 ≡ ob.0 ++ (rest.0 ++ rest.1) = ap (λ (l : List ℕ). ob.0 ++ l) rest.2 in
    let i = inside_out open'.4.1 rest.0 close'.0 (ws_out open'.4.1 open'.4.4) (ws_out close'.0 close'.3) rest.3 in (
      record { before = m.0 ++ open'.0; inside = i.0; after = close'.4.1 ++ n.1 },
      record {
        before = all_both is_ws m.0 open'.0 (ws_out m.0 m.3) (ws_out open'.0 open'.3);
        inside = i.1;
        after = all_both is_ws
            close'.4.1 n.1 (ws_out close'.4.1 close'.4.4) (ws_out n.1 n.4);
      },
      ap (λ (l : List ℕ). m.0 ++ open'.0 ++ 0x7B ∷ l) (i.2 (0x7D ∷ (close'.4.1 ++ n.1)))
          ∙ whole_text w m.0 n.0 n.1 ob.0 rest.0 rest.1 open'.0 open'.4.1 close'.0 close'.4.1 (m.2
          ∙ ap (λ (l : List ℕ). m.0 ++ l) n.2) (ob.2 ∙ o) bo eo,
    )

-- The texts of the grammar are the texts of the good trees.
pub tree_law : (w : List ℕ) → Matches json_text w ↔ ((t : Tree) × Good t × (text t ≡ w))
tree_law w = (matches_tree w, λ h. subst (Matches json_text) h.2 (tree_matches h.0 h.1))

-- And those that the parser finds a tree for.
pub parsed_law : (w : List ℕ) → Matches json_text w ↔ ((t : Tree) × (parse w ≡ some t))
parsed_law w = (
  λ m. let h = matches_tree w m in (h.0, (parse_law w h.0).1 (h.1, h.2)),
  λ h. let g = (parse_law w h.0).0 h.1 in subst (Matches json_text) g.1 (tree_matches h.0 g.0),
)
