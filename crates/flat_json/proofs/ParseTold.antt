-- What was parsed is a good tree, and its text is the text.
-- Assumes nothing.
use Prim.Native.Nat.{ℕ, zero, suc}
use mathlib.Core.Bool.{Bool, true, false, cond, ◌&&◌, true≢false}
use mathlib.Core.List.{List, [], ◌∷◌, ◌++◌, append-nil}
use mathlib.Core.Logic.{◌↔◌}
use mathlib.Core.Option.{Option, none, some}
use mathlib.Core.Path.{◌≡◌, refl, sym, ap, ◌∙◌, subst}
use native.Mathlib.Omega.{arith}
use borrow.Author.Tests.{eqb-true}
use lib.Dec.{eqb}
use lib.ListN.{length}
use Rattle.flat_json.specs.Tree.{is_ws, is_digit, is_hex, is_unescaped, is_short, all, Piece, plain, short, unicode, Word, true_word, false_word, null_word}
use Rattle.flat_json.specs.Tree.{word_text, Value, string, number, word, Entry, Inside, blank, entries, Tree, piece_text, pieces_text, string_text, value_text}
use Rattle.flat_json.specs.Tree.{lead_text, entry_text, entries_text, inside_text, text, good_piece, good_pieces, good_number, good_value, GoodEntry, GoodEntries}
use Rattle.flat_json.specs.Tree.{GoodInside, Good}
use Rattle.flat_json.specs.Parse.{Read, bind, or_else, either, span, expect, expect_all, read_hex, read_escape, read_piece, read_pieces, read_string, read_word}
use Rattle.flat_json.specs.Parse.{read_number, read_value, read_entry, read_entries, read_inside, at_end, parse}
use Rattle.flat_json.proofs.Branches.{and_both}
use Rattle.flat_json.proofs.ParseText.{parse_text}

-- options
pub some_same : {A : Type 0} {a b : A} → some a ≡ some b → a ≡ b
some_same e = cc

pub none_some : {A : Type 0} {a : A} → none ≡ some a → ⊥
none_some {A} {a} e = let z : ◌≡◌ {A = ℕ} 0 1 = cc in omega arith

bind_told : {A B : Type 0} (x : Option A) (f : A → Option B) (b : B) → bind x f ≡ some b → (a : A) × (x ≡ some a) × (f a ≡ some b)
bind_told none f b e = absurd (none_some e)
bind_told (some a) f b e = (a, refl, e)

-- an answer that hangs on a test
cond_told : {A : Type 0} (t : Bool) (x : Option A) (a : A) → cond t x none ≡ some a → (t ≡ true) × (x ≡ some a)
cond_told true x a e = (refl, e)
cond_told false x a e = absurd (none_some e)

SpanTold : (ℕ → Bool) → List ℕ → Read (List ℕ) → Type 0
SpanTold p w x = (all p x.0 ≡ true) × (x.0 ++ x.1 ≡ w)

span_read : (p : ℕ → Bool) (w : List ℕ) → SpanTold p w (span p w)
unfolding span all SpanTold
span_read p [] = (refl, refl)
span_read p (b ∷ w) = go (p b) refl (span_read p w)
  where
    go : (t : Bool) → p b ≡ t → SpanTold p w (span p w) → SpanTold p (b ∷ w) (cond t (b ∷ (span p w).0, (span p w).1) ([], b ∷ w))
    go true e ih = (and_both (p b) (all p (span p w).0) e ih.0, ap (λ (l : List ℕ). b ∷ l) ih.1)
    go false e ih = (refl, refl)

pub span_told : (p : ℕ → Bool) (w : List ℕ) → (all p (span p w).0 ≡ true) × ((span p w).0 ++ (span p w).1 ≡ w)
unfolding SpanTold
span_told p w = span_read p w

expect_told : (c : ℕ) (w r : List ℕ) → expect c w ≡ some r → w ≡ c ∷ r
unfolding expect
expect_told c [] r e = absurd (none_some e)
expect_told c (b ∷ w) r e =
    let h = cond_told (eqb b c) (some w) r e in
    let p : b ≡ c = eqb-true b c h.0 in
    let q : w ≡ r = some_same h.1 in
    cc

expect_all_told : (cs w r : List ℕ) → expect_all cs w ≡ some r → w ≡ cs ++ r
unfolding expect_all
expect_all_told [] w r e = some_same e
expect_all_told (c ∷ cs) w r e =
    let h = bind_told (expect c w) (λ (x : List ℕ). expect_all cs x) r e in
    expect_told c w h.0 h.1 ∙ ap (λ (l : List ℕ). c ∷ l) (expect_all_told cs h.0 r h.2)

-- what a reader of pieces tells
PieceTold : List ℕ → Read Piece → Type 0
PieceTold w x = (good_piece x.0 ≡ true) × (piece_text x.0 x.1 ≡ w)

hex_told : (w : List ℕ) (x : Read Piece) → read_hex w ≡ some x → PieceTold (0x5C ∷ 0x75 ∷ w) x
unfolding read_hex PieceTold good_piece piece_text
hex_told [] x e = absurd (none_some e)
hex_told (a ∷ []) x e = absurd (none_some e)
hex_told (a ∷ b ∷ []) x e = absurd (none_some e)
hex_told (a ∷ b ∷ c ∷ []) x e = absurd (none_some e)
hex_told (a ∷ b ∷ c ∷ d ∷ w) x e =
    let h = cond_told (is_hex a && (is_hex b && (is_hex c && is_hex d))) (some (unicode a b c d, w)) x e in
    subst (PieceTold (0x5C ∷ 0x75 ∷ a ∷ b ∷ c ∷ d ∷ w)) (some_same h.1) (h.0, refl)

cond_either : {A : Type 0} (t : Bool) (x y : Option A) (a : A) (P : Type 0) → cond t x y ≡ some a → (t ≡ true → x ≡ some a → P) → (y ≡ some a → P) → P
cond_either true x y a P e f g = f refl e
cond_either false x y a P e f g = g e

escape_told : (w : List ℕ) (x : Read Piece) → read_escape w ≡ some x → PieceTold (0x5C ∷ w) x
unfolding read_escape PieceTold good_piece piece_text
escape_told [] x e = absurd (none_some e)
escape_told (c ∷ w) x e =
    cond_either (is_short c) (some (short c, w)) (cond (eqb c 0x75) (read_hex w) none) x (PieceTold (0x5C ∷ c ∷ w) x) e
    (λ h q. subst (PieceTold (0x5C ∷ c ∷ w)) (some_same q) (h, refl))
    (λ q. let h = cond_told (eqb c 0x75) (read_hex w) x q in
    subst (λ (y : ℕ). PieceTold (0x5C ∷ y ∷ w) x) (sym (eqb-true c 0x75 h.0)) (hex_told w x h.1))

piece_told : (w : List ℕ) (x : Read Piece) → read_piece w ≡ some x → PieceTold w x
unfolding read_piece PieceTold good_piece piece_text
piece_told [] x e = absurd (none_some e)
piece_told (b ∷ w) x e =
    cond_either (is_unescaped b) (some (plain b, w)) (cond (eqb b 0x5C) (read_escape w) none) x (PieceTold (b ∷ w) x) e
    (λ h q. subst (PieceTold (b ∷ w)) (some_same q) (h, refl))
    (λ q. let h = cond_told (eqb b 0x5C) (read_escape w) x q in
    subst (λ (y : ℕ). PieceTold (y ∷ w) x) (sym (eqb-true b 0x5C h.0)) (escape_told w x h.1))

PiecesTold : List ℕ → Read (List Piece) → Type 0
PiecesTold w x = (good_pieces x.0 ≡ true) × (pieces_text x.0 x.1 ≡ w)

pieces_told : (n : ℕ) (w : List ℕ) → PiecesTold w (read_pieces n w)
unfolding read_pieces PiecesTold good_pieces pieces_text PieceTold
pieces_told zero w = (refl, refl)
pieces_told (suc n) w = go (read_piece w) refl (λ v. pieces_told n v)
  where
    go : (o : Option (Read Piece)) → read_piece w ≡ o → ((v : List ℕ) → PiecesTold v (read_pieces n v))
        → PiecesTold w (or_else (bind o (λ p. some (p.0 ∷ (read_pieces n p.1).0, (read_pieces n p.1).1))) ([], w))
    go none e ih = (refl, refl)
    go (some p) e ih =
        let h = piece_told w p e in
        let k = ih p.1 in
        (and_both (good_piece p.0) (good_pieces (read_pieces n p.1).0) h.0 k.0, ap (λ (l : List ℕ). piece_text p.0 l) k.1 ∙ h.1)

StringTold : List ℕ → Read (List Piece) → Type 0
StringTold w x = (good_pieces x.0 ≡ true) × (string_text x.0 x.1 ≡ w)

string_told : (w : List ℕ) (x : Read (List Piece)) → read_string w ≡ some x → StringTold w x
unfolding read_string StringTold string_text PiecesTold
string_told w x e =
    let h = bind_told (expect 0x22 w) _ x e in
    let r = h.0 in
    let k = bind_told (expect 0x22 (read_pieces (length r) r).1) _ x h.2 in
    let p = pieces_told (length r) r in
    let q : pieces_text (read_pieces (length r) r).0 (0x22 ∷ k.0) ≡ r =
    ap (λ (l : List ℕ). pieces_text (read_pieces (length r) r).0 l) (sym (expect_told 0x22 (read_pieces (length r) r).1 k.0 k.1)) ∙ p.1
    in
    subst (StringTold w) (some_same k.2) (p.0, ap (λ (l : List ℕ). 0x22 ∷ l) q ∙ sym (expect_told 0x22 w r h.1))

ValueTold : List ℕ → Read Value → Type 0
ValueTold w x = (good_value x.0 ≡ true) × (value_text x.0 x.1 ≡ w)

number_told : (w : List ℕ) (x : Read Value) → read_number w ≡ some x → ValueTold w x
unfolding read_number ValueTold good_value value_text
number_told w x e =
    let h = cond_told (good_number (span is_digit w).0) (some (number (span is_digit w).0, (span is_digit w).1)) x e in
    subst (ValueTold w) (some_same h.1) (h.0, (span_told is_digit w).1)

word_told : (k : Word) (w : List ℕ) (x : Read Value) → read_word k w ≡ some x → ValueTold w x
unfolding read_word ValueTold good_value value_text
word_told k w x e =
    let h = bind_told (expect_all (word_text k) w) (λ (r : List ℕ). some (word k, r)) x e in
    subst (ValueTold w) (some_same h.2) (refl, sym (expect_all_told (word_text k) w h.0 h.1))

string_value_told : (w : List ℕ) (x : Read Value) → bind (read_string w) (λ s. some (string s.0, s.1)) ≡ some x → ValueTold w x
unfolding ValueTold good_value value_text StringTold
string_value_told w x e =
    let h = bind_told (read_string w) (λ (s : Read (List Piece)). some (string s.0, s.1)) x e in
    subst (ValueTold w) (some_same h.2) (string_told w h.0 h.1)

either_told : {A : Type 0} (x y : Option A) (a : A) (P : Type 0) → either x y ≡ some a → (x ≡ some a → P) → (y ≡ some a → P) → P
either_told none y a P e f g = g e
either_told (some b) y a P e f g = f e

value_told : (w : List ℕ) (x : Read Value) → read_value w ≡ some x → ValueTold w x
unfolding read_value
value_told w x e =
    either_told (read_number w) _ x (ValueTold w x) e (number_told w x)
    (λ e1. either_told (bind (read_string w) (λ (s : Read (List Piece)). some (string s.0, s.1))) _ x (ValueTold w x) e1 (string_value_told w x)
    (λ e2. either_told (read_word true_word w) _ x (ValueTold w x) e2 (word_told true_word w x)
    (λ e3. either_told (read_word false_word w) (read_word null_word w) x (ValueTold w x) e3 (word_told false_word w x) (word_told null_word w x))))

EntryTold : List ℕ → Read Entry → Type 0
EntryTold w x = GoodEntry x.0 × (entry_text x.0 x.1 ≡ w)

entry_told : (w : List ℕ) (x : Read Entry) → read_entry w ≡ some x → EntryTold w x
unfolding read_entry EntryTold StringTold ValueTold entry_text lead_text
entry_told w x e =
    let h = bind_told (read_string (span is_ws w).1) _ x e in
    let name = h.0 in
    let k = bind_told (expect 0x3A (span is_ws name.1).1) _ x h.2 in
    let r = k.0 in
    let m = bind_told (read_value (span is_ws r).1) _ x k.2 in
    let v = m.0 in
    let before = span_told is_ws w in
    let gap = span_told is_ws name.1 in
    let lead = span_told is_ws r in
    let after = span_told is_ws v.1 in
    let s = string_told (span is_ws w).1 name h.1 in
    let vt = value_told (span is_ws r).1 v m.1 in
    let q1 : value_text v.0 ((span is_ws v.1).0 ++ (span is_ws v.1).1) ≡ (span is_ws r).1 = ap (λ (l : List ℕ). value_text v.0 l) after.1 ∙ vt.1 in
    let q2 : (span is_ws r).0 ++ value_text v.0 ((span is_ws v.1).0 ++ (span is_ws v.1).1) ≡ r = ap (λ (l : List ℕ). (span is_ws r).0 ++ l) q1 ∙ lead.1 in
    let q3 : (span is_ws name.1).0 ++ 0x3A ∷ ((span is_ws r).0 ++ value_text v.0 ((span is_ws v.1).0 ++ (span is_ws v.1).1)) ≡ name.1 =
    ap (λ (l : List ℕ). (span is_ws name.1).0 ++ 0x3A ∷ l) q2 ∙ ap (λ (l : List ℕ). (span is_ws name.1).0 ++ l)
    (sym (expect_told 0x3A (span is_ws name.1).1 r k.1)) ∙ gap.1
    in
    let q4 : (span is_ws w).0 ++ string_text name.0 ((span is_ws name.1).0 ++ 0x3A ∷
    ((span is_ws r).0 ++ value_text v.0 ((span is_ws v.1).0 ++ (span is_ws v.1).1))) ≡ w =
    ap (λ (l : List ℕ). (span is_ws w).0 ++ string_text name.0 l) q3 ∙ ap (λ (l : List ℕ). (span is_ws w).0 ++ l) s.1 ∙ before.1
    in
    subst (EntryTold w) (some_same m.2)
    (record { before = before.0; name = s.0; gap = gap.0; lead = lead.0; value = vt.0; after = after.0 }, q4)

EntriesTold : List ℕ → Read (List Entry) → Type 0
EntriesTold w x = GoodEntries x.0 × (entries_text x.0 x.1 ≡ w)

entries_told : (n : ℕ) (w : List ℕ) → EntriesTold w (read_entries n w)
unfolding read_entries EntriesTold GoodEntries entries_text EntryTold
entries_told zero w = (tt, refl)
entries_told (suc n) w = go (expect 0x2C w) refl (λ v. entries_told n v)
  where
    go₂ : (r : List ℕ) → w ≡ 0x2C ∷ r → (o : Option (Read Entry)) → read_entry r ≡ o → ((v : List ℕ) → EntriesTold v (read_entries n v))
        → EntriesTold w (or_else (bind o (λ e. some (e.0 ∷ (read_entries n e.1).0, (read_entries n e.1).1))) ([], w))
    go₂ r q none e ih = (tt, refl)
    go₂ r q (some x) e ih =
        let h = entry_told r x e in
        let k = ih x.1 in
        ((h.0, k.0), ap (λ (l : List ℕ). 0x2C ∷ entry_text x.0 l) k.1 ∙ ap (λ (l : List ℕ). 0x2C ∷ l) h.1 ∙ sym q)

    go : (o : Option (List ℕ)) → expect 0x2C w ≡ o → ((v : List ℕ) → EntriesTold v (read_entries n v))
        → EntriesTold w (or_else (bind o (λ r. bind (read_entry r) (λ e. some (e.0 ∷ (read_entries n e.1).0, (read_entries n e.1).1)))) ([], w))
    go none e ih = (tt, refl)
    go (some r) e ih = go₂ r (expect_told 0x2C w r e) (read_entry r) refl ih

InsideTold : List ℕ → Read Inside → Type 0
InsideTold w x = GoodInside x.0 × (inside_text x.0 x.1 ≡ w)

inside_told : (w : List ℕ) → InsideTold w (read_inside w)
unfolding read_inside InsideTold GoodInside inside_text EntriesTold EntryTold
inside_told w = go (read_entry w) refl
  where
    go : (o : Option (Read Entry)) → read_entry w ≡ o
        → InsideTold w (or_else (bind o (λ e. some (entries e.0 (read_entries (length w) e.1).0, (read_entries (length w) e.1).1)))
        (blank (span is_ws w).0, (span is_ws w).1))
    go none e = span_told is_ws w
    go (some x) e =
        let h = entry_told w x e in
        let k = entries_told (length w) x.1 in
        ((h.0, k.0), ap (λ (l : List ℕ). entry_text x.0 l) k.1 ∙ h.1)

at_end_told : (w : List ℕ) → at_end w ≡ true → w ≡ []
unfolding at_end
at_end_told [] e = refl
at_end_told (b ∷ w) e = absurd (true≢false (sym e))

TreeTold : List ℕ → Tree → Type 0
TreeTold w t = Good t × (text t ≡ w)

tree_told : (w : List ℕ) (t : Tree) → parse w ≡ some t → TreeTold w t
unfolding parse TreeTold InsideTold text
tree_told w t e =
    let h = bind_told (expect 0x7B (span is_ws w).1) _ t e in
    let r = h.0 in
    let k = bind_told (expect 0x7D (read_inside r).1) _ t h.2 in
    let r' = k.0 in
    let c = cond_told (at_end (span is_ws r').1) _ t k.2 in
    let before = span_told is_ws w in
    let inside = inside_told r in
    let after = span_told is_ws r' in
    let q0 : (span is_ws r').0 ≡ r' = sym (append-nil (span is_ws r').0) ∙ ap (λ (l : List ℕ). (span is_ws r').0 ++ l)
    (sym (at_end_told (span is_ws r').1 c.0)) ∙ after.1 in
    let q1 : inside_text (read_inside r).0 (0x7D ∷ (span is_ws r').0) ≡ r =
    ap (λ (l : List ℕ). inside_text (read_inside r).0 (0x7D ∷ l)) q0 ∙ ap (λ (l : List ℕ). inside_text (read_inside r).0 l)
    (sym (expect_told 0x7D (read_inside r).1 r' k.1)) ∙ inside.1
    in
    let q2 : (span is_ws w).0 ++ 0x7B ∷ inside_text (read_inside r).0 (0x7D ∷ (span is_ws r').0) ≡ w =
    ap (λ (l : List ℕ). (span is_ws w).0 ++ 0x7B ∷ l) q1 ∙ ap (λ (l : List ℕ). (span is_ws w).0 ++ l) (sym (expect_told 0x7B (span is_ws w).1 r h.1)) ∙ before.1
    in
    subst (TreeTold w) (some_same c.1) (record { before = before.0; inside = inside.0; after = after.0 }, q2)

-- The parser finds a tree exactly where there is a good one with this text, and finds that tree.
pub parse_law : (w : List ℕ) (t : Tree) → (parse w ≡ some t) ↔ (Good t × (text t ≡ w))
unfolding TreeTold
parse_law w t = (tree_told w t, λ h. ap parse (sym h.1) ∙ parse_text t h.0)
