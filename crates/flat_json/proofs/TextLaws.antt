-- The texts of a tree's parts: written before a rest, and alone; and their lengths.
-- Assumes nothing.
use Prim.Native.Nat.{ℕ, ◌+◌, ◌*◌, ◌≤◌}
use mathlib.Core.Bool.{true, true≢false}
use mathlib.Core.List.{List, [], ◌∷◌, ◌++◌, append_assoc, append-nil}
use mathlib.Core.Path.{◌≡◌, refl, sym, ap, ◌∙◌}
use native.Mathlib.Omega.{arith}
use lib.ListN.{length, length-append}
use Rattle.flat_json.specs.Tree.{Piece, plain, short, unicode, true_word, false_word, null_word, word_text, Value, string, number, word, Entry, piece_text}
use Rattle.flat_json.specs.Tree.{pieces_text, string_text, value_text, lead_text, entry_text, entries_text, good_number, good_value, GoodEntry, GoodEntries}

-- texts before a rest, and alone
pub pieces_text_law : (ps : List Piece) (r : List ℕ) → pieces_text ps r ≡ pieces_text ps [] ++ r
unfolding pieces_text piece_text
pieces_text_law [] r = refl
pieces_text_law (plain b ∷ ps) r = ap (λ (l : List ℕ). b ∷ l) (pieces_text_law ps r)
pieces_text_law (short c ∷ ps) r = ap (λ (l : List ℕ). 0x5C ∷ c ∷ l) (pieces_text_law ps r)
pieces_text_law (unicode a b c d ∷ ps) r = ap (λ (l : List ℕ). 0x5C ∷ 0x75 ∷ a ∷ b ∷ c ∷ d ∷ l) (pieces_text_law ps r)

pub string_text_law : (ps : List Piece) (r : List ℕ) → string_text ps r ≡ string_text ps [] ++ r
unfolding string_text
string_text_law ps r =
    ap (λ (l : List ℕ). 0x22 ∷ l)
    (pieces_text_law ps (0x22 ∷ r) ∙ sym (append_assoc (pieces_text ps []) (0x22 ∷ []) r) ∙ ap (λ (l : List ℕ). l ++ r) (sym (pieces_text_law ps (0x22 ∷ []))))

pub value_text_law : (v : Value) (r : List ℕ) → value_text v r ≡ value_text v [] ++ r
unfolding value_text
value_text_law (string ps) r = string_text_law ps r
value_text_law (number ds) r = ap (λ (l : List ℕ). l ++ r) (sym (append-nil ds))
value_text_law (word k) r = ap (λ (l : List ℕ). l ++ r) (sym (append-nil (word_text k)))

pub lead_text_law : (e : Entry) (r : List ℕ) → lead_text e r ≡ lead_text e [] ++ r
unfolding lead_text
lead_text_law e r =
    ap (λ (l : List ℕ). e.before ++ l) (string_text_law e.name (e.gap ++ 0x3A ∷ (e.lead ++ r)))
    ∙ regroup e.before (string_text e.name []) e.gap e.lead r
    ∙ ap (λ (l : List ℕ). e.before ++ l ++ r) (sym (string_text_law e.name (e.gap ++ 0x3A ∷ (e.lead ++ []))))
  where
    regroup : (a s g l z : List ℕ) → a ++ (s ++ (g ++ 0x3A ∷ (l ++ z))) ≡ a ++ (s ++ (g ++ 0x3A ∷ (l ++ []))) ++ z
    regroup a s g l z = rw (append-nil l) (simp append_assoc)

pub entry_text_law : (e : Entry) (r : List ℕ) → entry_text e r ≡ entry_text e [] ++ r
unfolding entry_text
entry_text_law e r =
    lead_text_law e (value_text e.value (e.after ++ r))
    ∙ ap (λ (l : List ℕ). lead_text e [] ++ l) (value_text_law e.value (e.after ++ r))
    ∙ regroup (lead_text e []) (value_text e.value []) e.after r
    ∙ ap (λ (l : List ℕ). lead_text e [] ++ l ++ r) (sym (value_text_law e.value (e.after ++ [])))
    ∙ ap (λ (l : List ℕ). l ++ r) (sym (lead_text_law e (value_text e.value (e.after ++ []))))
  where
    regroup : (a v s z : List ℕ) → a ++ (v ++ (s ++ z)) ≡ a ++ (v ++ (s ++ [])) ++ z
    regroup a v s z = rw (append-nil s) (simp append_assoc)

pub lead_length : (e : Entry) → length (lead_text e []) ≡ length e.before + 1 + length (pieces_text e.name []) + 1 +
    (length e.gap + 1) + length e.lead
unfolding lead_text string_text
lead_length e =
    let inner = e.gap ++ 0x3A ∷ (e.lead ++ []) in
    let l1 = length-append e.before (0x22 ∷ pieces_text e.name (0x22 ∷ inner)) in
    let l2 = ap length (pieces_text_law e.name (0x22 ∷ inner)) ∙ length-append (pieces_text e.name []) (0x22 ∷ inner) in
    let l3 = length-append e.gap (0x3A ∷ (e.lead ++ [])) in
    let l4 = ap length (append-nil e.lead) in
    omega arith

-- an entry is its lead, its value, and the white space behind it
pub entry_parts : (e : Entry) (r : List ℕ) → entry_text e r ≡ lead_text e [] ++ (value_text e.value [] ++ (e.after ++ r))
unfolding entry_text
entry_parts e r = lead_text_law e (value_text e.value (e.after ++ r)) ∙ ap (λ (l : List ℕ). lead_text e [] ++ l) (value_text_law e.value (e.after ++ r))

pub entry_length : (e : Entry) → length (entry_text e []) ≡ length (lead_text e []) + length (value_text e.value []) + length e.after
entry_length e =
    let l1 = ap length (entry_parts e []) ∙ length-append (lead_text e []) (value_text e.value [] ++ (e.after ++ [])) in
    let l2 = length-append (value_text e.value []) (e.after ++ []) in
    let l3 = ap length (append-nil e.after) in
    omega arith

-- the least that values and entries take
value_long : (v : Value) → good_value v ≡ true → 1 ≤ length (value_text v [])
unfolding value_text good_value good_number string_text word_text
value_long (string ps) g = omega arith
value_long (number []) g = absurd (true≢false (sym g))
value_long (number (d ∷ ds)) g = omega arith
value_long (word true_word) g = omega arith
value_long (word false_word) g = omega arith
value_long (word null_word) g = omega arith

pub entry_long : (e : Entry) (r : List ℕ) → GoodEntry e → 4 + length r ≤ length (entry_text e r)
entry_long e r g =
    let l1 = ap length (entry_text_law e r) ∙ length-append (entry_text e []) r in
    let l2 = entry_length e in
    let l4 = lead_length e in
    let l3 = value_long e.value g.value in
    omega arith

pub entries_long : (es : List Entry) (r : List ℕ) → GoodEntries es → 5 * length es + length r ≤ length (entries_text es r)
unfolding entries_text GoodEntries
entries_long [] r g = omega arith
entries_long (e ∷ es) r g =
    let l1 = entry_long e (entries_text es r) g.0 in
    let l2 = entries_long es r g.1 in
    omega arith
