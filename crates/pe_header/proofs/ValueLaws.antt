-- A value is read right: what the turns and reaches of `value_of` come to is the value's place in the tree.
-- Assumes nothing.
use Prim.Native.Nat.{ℕ, suc, ◌+◌, ◌-◌, ◌≤◌, ◌<◌}
use mathlib.Core.Bool.{Bool, true, false, cond, ◌&&◌, true≢false}
use mathlib.Core.List.{List, [], ◌∷◌, ◌++◌, append-nil}
use mathlib.Core.Logic.{◌⊎◌, inl, inr, ⊎_elim}
use mathlib.Core.Path.{◌≡◌, refl, sym, ap, ◌∙◌, subst}
use native.Mathlib.Omega.{arith}
use borrow.Author.Tests.{leb-true, leb-false, eq-eqb, ne_eqb}
use lib.Dec.{eqb, leb}
use lib.ListN.{length, drop, length-append}
use lib.Seq.{drop-drop, drop_at}
use Rattle.flat_json.specs.Abnf.{is, range, in_set}
use Rattle.flat_json.specs.Grammar.{ws_byte, digit}
use Rattle.flat_json.specs.declared.Spot.{Spot}
use Rattle.flat_json.specs.Table.{RightTable, next, run, spot, turned_over, turned, reached_over, reached}
use Rattle.flat_json.specs.Tree.{is_ws, is_digit, all, Piece, Word, true_word, false_word, null_word, word_text, Value, string, number, word, pieces_text}
use Rattle.flat_json.specs.Tree.{string_text, value_text, good_pieces, good_number, good_value, Entry, GoodEntry}
use Rattle.flat_json.proofs.Branches.{and_left, and_right, and_both}
use Rattle.flat_json.proofs.Moves.{leads, leads_law, is_set, name_moves, value_moves, first_moves, from_colon, in_number, in_word, outside}
use Rattle.flat_json.proofs.WalkLaws.{reach_one, reached_stop, turn_forward, turned_within, reached_within, turned_run, reached_run}
use Rattle.flat_json.proofs.TreeMatches.{digit_cases}
use Rattle.flat_json.proofs.TextLaws.{pieces_text_law}
use Rattle.flat_json.proofs.TreeWalk.{reach_is, reach_ws, reach_string, turn_set, turn_by, turn_to}
use Rattle.pe_header.specs.declared.members.Value.{Value as ValueRead}
use Rattle.pe_header.specs.Find.{kind_of, value_bytes, quotes, decimal, small}
use Rattle.pe_header.specs.Members.{name_text, value_from, IsEnd, kind_at, ReadRight}

-- a text behind a part of it
pub ahead : (text : List ℕ) (from : ℕ) (xs ys : List ℕ) → drop from text ≡ xs ++ ys → drop (from + length xs) text ≡ ys
ahead text from xs ys e = sym (drop-drop (length xs) from text) ∙ ap (λ (l : List ℕ). drop (length xs) l) e ∙ drop_at xs ys (length xs) refl

-- what `value_of` answers, by the spot behind the value's first byte
abbrev pub bare : ℕ → ℕ → ℕ → Spot → ValueRead
bare s begin end at = record { state = s; place = begin - 1; end = end; at = at }

abbrev pub quoted : ℕ → ℕ → ℕ → Spot → ValueRead
quoted s begin end at = record { state = s; place = begin; end = end; at = at }

unfoldable pub value_read : List ℕ → List ℕ → Spot → ValueRead
value_read table text first =
    let over = turned table text first in
    let to = reached table text first 26 in
    cond (eqb first.state 16) (bare first.state first.place (over.place - 1) over)
    (cond (eqb first.state 10) (quoted first.state first.place (to.place - 1) to) (bare first.state first.place to.place to))

-- the three ways in which `value_of` returns
module _ (table text : List ℕ) (first at : Spot) where
  pub read_number : first.state ≡ 16 → at ≡ turned table text first → value_read table text first ≡ bare first.state first.place (at.place - 1) at
  unfolding value_read
  read_number n e = rw (eq-eqb first.state 16 n, e)

  pub read_string : (first.state ≡ 16 → ⊥) → first.state ≡ 10 → at ≡ reached table text first 26 → value_read table text first
      ≡ quoted first.state first.place (at.place - 1) at
  unfolding value_read
  read_string n s e = rw (ne_eqb first.state 16 n, eq-eqb first.state 10 s, e)

  pub read_other : (first.state ≡ 16 → ⊥) → (first.state ≡ 10 → ⊥) → at ≡ reached table text first 26 → value_read table text first
      ≡ bare first.state first.place at.place at
  unfolding value_read
  read_other n s e = rw (ne_eqb first.state 16 n, ne_eqb first.state 10 s, e)

is_in : (c k : ℕ) → c ≡ k → in_set (is k) c ≡ true
is_in c k e = subst (λ (x : ℕ). in_set (is k) x ≡ true) (sym e) (is_set k)

no_number : good_number [] ≡ true → ⊥
unfolding good_number
no_number e = true≢false (sym e)

-- 0 alone, or digits that do not begin with it
number_cases : (d : ℕ) (ds : List ℕ) → good_number (d ∷ ds) ≡ true → ((d ≡ 0x30) × (ds ≡ [])) ⊎ ((in_set (range 0x31 0x39) d ≡ true) × (all is_digit ds ≡ true))
unfolding good_number in_set all
number_cases d [] g = ⊎_elim (λ e. inl (e, refl)) (λ e. inr (e, refl)) (digit_cases d g)
number_cases d (x ∷ ds) g =
    let h = and_right (leb 0x31 d) (leb d 0x39 && all is_digit (x ∷ ds)) g in
    inr (
      and_both (leb 0x31 d) (leb d 0x39) (and_left (leb 0x31 d) (leb d 0x39 && all is_digit (x ∷ ds)) g) (and_left (leb d 0x39) (all is_digit (x ∷ ds)) h),
      and_right (leb d 0x39) (all is_digit (x ∷ ds)) h,
    )

module _ (table : List ℕ) (right : RightTable table) where
  -- the byte behind a value leads on from a number as from any value
  abbrev Leaves : ℕ → Type 0
  Leaves b = (next table 16 b ≡ next table 26 b) × (next table 16 b ≡ 16 → ⊥)

  leaves : (b t : ℕ) → next table 16 b ≡ t → next table 26 b ≡ t → (t ≡ 16 → ⊥) → Leaves b
  leaves b t e f n = (e ∙ sym f, λ q. n (sym e ∙ q))

  end_leaves : (c : ℕ) → IsEnd c → Leaves c
  end_leaves c (inl e) =
      leaves c 27 (leads_law table right 16 (is 0x2C) 27 in_number.comma c (is_in c 0x2C e))
      (leads_law table right 26 (is 0x2C) 27 outside.comma c (is_in c 0x2C e)) (λ q. omega arith)
  end_leaves c (inr e) =
      leaves c 28 (leads_law table right 16 (is 0x7D) 28 in_number.brace c (is_in c 0x7D e))
      (leads_law table right 26 (is 0x7D) 28 outside.brace c (is_in c 0x7D e)) (λ q. omega arith)

  number_end : (after : List ℕ) (c : ℕ) (rest : List ℕ) → all is_ws after ≡ true → IsEnd c → (b : ℕ) × (w : List ℕ) × (after ++ c ∷ rest ≡ b ∷ w) × Leaves b
  unfolding all is_ws
  number_end [] c rest h k = (c, rest, refl, end_leaves c k)
  number_end (x ∷ xs) c rest h k =
      let m = and_left (in_set ws_byte x) (all (in_set ws_byte) xs) h in (
        x,
        xs ++ c ∷ rest,
        refl,
        leaves x 26 (leads_law table right 16 ws_byte 26 in_number.after x m) (leads_law table right 26 ws_byte 26 outside.after x m) (λ q. omega arith),
      )

  module _ (text : List ℕ) where
    behind_one : (f b : ℕ) (w : List ℕ) → drop f text ≡ b ∷ w → drop (suc f) text ≡ w
    behind_one f b w e = ap (λ (x : ℕ). drop x text) (let z : suc f ≡ f + 1 = omega arith in z) ∙ ahead text f (b ∷ []) w e

    -- a value that is no string and, but for 0, no number
    bare_right : (v : Value) (f s : ℕ) (first : Spot) → first ≡ spot (suc f) s → eqb s 16 ≡ false → eqb s 10 ≡ false → (s ≡ 16 → ⊥)
        → kind_at s ≡ kind_of v → quotes v ≡ 0 → small v ≡ true
        → length (value_text v []) ≡ length (value_bytes v) → reached table text (spot (suc f) s) 26 ≡ spot (f + length (value_bytes v)) 26
        → ReadRight table text f v (value_read table text first)
    unfolding value_read
    bare_right v f s first e n16 n10 n k q m l t =
        subst (λ (x : Spot). ReadRight table text f v (value_read table text x)) (sym e)
        (rw (n16, n10)
        (subst (λ (x : Spot). ReadRight table text f v (bare s (suc f) x.place x)) (sym t)
        (record {
          kind = k;
          place = omega arith;
          end = omega arith;
          numeric = λ h. absurd (n h);
          other = λ h. m;
          onward = ap (λ (x : ℕ). reached_over table 2 x 26 (drop x text)) (let z : f + length (value_bytes v) ≡ f + length (value_text v []) = omega arith in z);
        })))

    string_right : (ps : List Piece) (f : ℕ) (r : List ℕ) → good_pieces ps ≡ true → drop f text ≡ string_text ps r
        → (first : Spot) → first ≡ turned_over table f 9 (string_text ps r) → ReadRight table text f (string ps) (value_read table text first)
    unfolding string_text value_read value_text value_bytes quotes kind_at kind_of small reached
    string_right ps f r g w first e =
        let at : first ≡ spot (suc f) 10 = e ∙ turn_to table right f 9 (is 0x22) 10 0x22 (pieces_text ps (0x22 ∷ r)) from_colon.text (is_set 0x22)
        (λ q. omega arith) in
        let n = length (pieces_text ps []) in
        let t : reached table text (spot (suc f) 10) 26 ≡ spot (suc f + n + 1) 26 =
        ap (reached_over table 26 (suc f) 10) (behind_one f 0x22 (pieces_text ps (0x22 ∷ r)) w)
        ∙ reach_string table right 10 26 value_moves (omega arith) ps (suc f) r g
        in
        let l : length (pieces_text ps (0x22 ∷ [])) ≡ n + 1 = ap length (pieces_text_law ps (0x22 ∷ [])) ∙ length-append (pieces_text ps []) (0x22 ∷ []) in
        subst (λ (x : Spot). ReadRight table text f (string ps) (value_read table text x)) (sym at)
        (subst (λ (x : Spot). ReadRight table text f (string ps) (quoted 10 (suc f) (x.place - 1) x)) (sym t)
        (record {
          kind = refl;
          place = omega arith;
          end = omega arith;
          numeric = λ h. absurd (omega arith);
          other = λ h. refl;
          onward = ap (λ (x : ℕ). reached_over table 2 x 26 (drop x text)) (let z : suc f + n + 1
              ≡ f + suc (length (pieces_text ps (0x22 ∷ []))) = omega arith in z);
        }))

    nought_right : (d f : ℕ) (ds r : List ℕ) → d ≡ 0x30 → ds ≡ [] → (first : Spot) → first ≡ turned_over table f 9 (d ∷ (ds ++ r))
        → ReadRight table text f (number (d ∷ ds)) (value_read table text first)
    unfolding value_text value_bytes quotes kind_at kind_of small decimal reached
    nought_right d f ds r ed es first e =
        subst (λ (x : ℕ). ReadRight table text f (number (x ∷ ds)) (value_read table text first)) (sym ed)
        (subst (λ (l : List ℕ). ReadRight table text f (number (0x30 ∷ l)) (value_read table text first)) (sym es)
        (bare_right (number (0x30 ∷ [])) f 26 first
        (e ∙ turn_to table right f 9 (is 0x30) 26 d (ds ++ r) from_colon.nought (is_in d 0x30 ed) (λ q. omega arith))
        refl refl (λ q. omega arith) refl refl refl refl
        (reached_stop table 26 26 (suc f) (drop (suc f) text) refl ∙ ap (λ (x : ℕ). spot x 26) (let z : suc f ≡ f + 1 = omega arith in z))))

    digits_right : (d f : ℕ) (ds after : List ℕ) (c : ℕ) (rest : List ℕ) → in_set (range 0x31 0x39) d ≡ true → all is_digit ds ≡ true → all is_ws after
        ≡ true → IsEnd c
        → drop f text ≡ d ∷ (ds ++ (after ++ c ∷ rest)) → (first : Spot) → first ≡ turned_over table f 9 (d ∷ (ds ++ (after ++ c ∷ rest)))
        → ReadRight table text f (number (d ∷ ds)) (value_read table text first)
    unfolding value_read value_text value_bytes quotes kind_at kind_of turned is_digit
    digits_right d f ds after c rest hd hs ha k w first e =
        let r = after ++ c ∷ rest in
        let n = suc f + length ds in
        let o = number_end after c rest ha k in
        let at : first ≡ spot (suc f) 16 = e ∙ turn_to table right f 9 (range 0x31 0x39) 16 d (ds ++ r) from_colon.digits hd (λ q. omega arith) in
        let w1 : drop (suc f) text ≡ ds ++ r = behind_one f d (ds ++ r) w in
        let w2 : drop n text ≡ o.0 ∷ o.1 = ahead text (suc f) ds r w1 ∙ o.2 in
        let w3 : drop (suc n) text ≡ o.1 = behind_one n o.0 o.1 w2 in
        let t : turned table text (spot (suc f) 16) ≡ spot (suc n) (next table 16 o.0) =
        ap (turned_over table (suc f) 16) w1 ∙ turn_set table right (suc f) 16 digit ds r in_number.digits hs
        ∙ ap (turned_over table n 16) o.2 ∙ turn_by table right n 16 o.0 o.1 o.3.1
        in
        let l : length ((d ∷ ds) ++ []) ≡ suc (length ds) = ap length (append-nil (d ∷ ds)) in
        subst (λ (x : Spot). ReadRight table text f (number (d ∷ ds)) (value_read table text x)) (sym at)
        (subst (λ (x : Spot). ReadRight table text f (number (d ∷ ds)) (bare 16 (suc f) (x.place - 1) x)) (sym t)
        (record {
          kind = refl;
          place = omega arith;
          end = omega arith;
          numeric = λ h. (d ∷ ds, refl);
          other = λ h. absurd (h refl);
          onward =
              ap (reached_over table 2 (suc n) (next table 16 o.0)) w3
              ∙ ap (λ (x : ℕ). reached_over table 2 (suc n) x o.1) o.3.0
              ∙ sym (reach_one table 2 n 26 o.0 o.1 (λ q. omega arith))
              ∙ ap (reached_over table 2 n 26) (sym w2)
              ∙ ap (λ (x : ℕ). reached_over table 2 x 26 (drop x text)) (let z : n ≡ f + length ((d ∷ ds) ++ []) = omega arith in z);
        }))

    -- a word from behind its first letter
    word_right : (k : Word) (f s c : ℕ) (cs r : List ℕ) → word_text k ≡ c ∷ cs → leads 9 (is c) s ≡ true → (s ≡ 9 → ⊥) → eqb s 16 ≡ false → eqb s 10
        ≡ false → (s ≡ 16 → ⊥) → kind_at s ≡ kind_of (word k)
        → reached_over table 26 (suc f) s (cs ++ r) ≡ spot (suc f + length cs) 26 → drop f text ≡ word_text k ++ r
        → (first : Spot) → first ≡ turned_over table f 9 (word_text k ++ r) → ReadRight table text f (word k) (value_read table text first)
    unfolding value_text value_bytes quotes small reached
    word_right k f s c cs r q m n9 n16 n10 n kind over w first e =
        let w1 : drop (suc f) text ≡ cs ++ r = behind_one f c (cs ++ r) (w ∙ ap (λ (l : List ℕ). l ++ r) q) in
        let l : length (word_text k) ≡ suc (length cs) = ap length q in
        bare_right (word k) f s first
        (e ∙ ap (λ (l : List ℕ). turned_over table f 9 (l ++ r)) q ∙ turn_to table right f 9 (is c) s c (cs ++ r) m (is_set c) n9)
        n16 n10 n kind refl refl (ap length (append-nil (word_text k)))
        (ap (reached_over table 26 (suc f) s) w1 ∙ over ∙ ap (λ (x : ℕ). spot x 26) (let z : suc f + length cs ≡ f + length (word_text k) = omega arith in z))

    to_value : (p s : ℕ) (r : List ℕ) → s ≡ 26 → (q : ℕ) → p ≡ q → reached_over table 26 p s r ≡ spot q 26
    to_value p s r e q h = reached_stop table 26 s p r e ∙ ap (λ (x : ℕ). spot x s) h ∙ ap (spot q) e

    value_law : (v : Value) (f : ℕ) (after : List ℕ) (c : ℕ) (rest : List ℕ) → good_value v ≡ true → all is_ws after ≡ true → IsEnd c
        → drop f text ≡ value_text v (after ++ c ∷ rest) → (first : Spot) → first ≡ turned_over table f 9 (value_text v (after ++ c ∷ rest))
        → ReadRight table text f v (value_read table text first)
    unfolding value_text good_value word_text kind_at kind_of
    value_law (string ps) f after c rest g h k w first e = string_right ps f (after ++ c ∷ rest) g w first e
    value_law (number []) f after c rest g h k w first e = absurd (no_number g)
    value_law (number (d ∷ ds)) f after c rest g h k w first e =
        ⊎_elim
        (λ m. nought_right d f ds (after ++ c ∷ rest) m.0 m.1 first e)
        (λ m. digits_right d f ds after c rest m.0 m.1 h k w first e)
        (number_cases d ds g)
    value_law (word true_word) f after c rest g h k w first e =
        let r = after ++ c ∷ rest in
        word_right true_word f 17 0x74 (0x72 ∷ 0x75 ∷ 0x65 ∷ []) r refl from_colon.true_word (λ q. omega arith) refl refl (λ q. omega arith) refl
        (reach_is table right 26 (suc f) 17 18 0x72 (0x75 ∷ 0x65 ∷ r) in_word.t_r (λ q. omega arith)
        ∙ reach_is table right 26 (suc (suc f)) 18 19 0x75 (0x65 ∷ r) in_word.tr_u (λ q. omega arith)
        ∙ reach_is table right 26 (suc (suc (suc f))) 19 26 0x65 r in_word.u_e (λ q. omega arith)
        ∙ to_value (suc (suc (suc (suc f)))) 26 r refl (suc f + 3) (omega arith))
        w first e
    value_law (word false_word) f after c rest g h k w first e =
        let r = after ++ c ∷ rest in
        word_right false_word f 20 0x66 (0x61 ∷ 0x6C ∷ 0x73 ∷ 0x65 ∷ []) r refl from_colon.false_word (λ q. omega arith) refl refl (λ q. omega arith) refl
        (reach_is table right 26 (suc f) 20 21 0x61 (0x6C ∷ 0x73 ∷ 0x65 ∷ r) in_word.f_a (λ q. omega arith)
        ∙ reach_is table right 26 (suc (suc f)) 21 22 0x6C (0x73 ∷ 0x65 ∷ r) in_word.fa_l (λ q. omega arith)
        ∙ reach_is table right 26 (suc (suc (suc f))) 22 19 0x73 (0x65 ∷ r) in_word.fal_s (λ q. omega arith)
        ∙ reach_is table right 26 (suc (suc (suc (suc f)))) 19 26 0x65 r in_word.u_e (λ q. omega arith)
        ∙ to_value (suc (suc (suc (suc (suc f))))) 26 r refl (suc f + 4) (omega arith))
        w first e
    value_law (word null_word) f after c rest g h k w first e =
        let r = after ++ c ∷ rest in
        word_right null_word f 23 0x6E (0x75 ∷ 0x6C ∷ 0x6C ∷ []) r refl from_colon.null_word (λ q. omega arith) refl refl (λ q. omega arith) refl
        (reach_is table right 26 (suc f) 23 24 0x75 (0x6C ∷ 0x6C ∷ r) in_word.n_u (λ q. omega arith)
        ∙ reach_is table right 26 (suc (suc f)) 24 25 0x6C (0x6C ∷ r) in_word.nu_l (λ q. omega arith)
        ∙ reach_is table right 26 (suc (suc (suc f))) 25 26 0x6C r in_word.nul_l (λ q. omega arith)
        ∙ to_value (suc (suc (suc (suc f)))) 26 r refl (suc f + 3) (omega arith))
        w first e

    -- a member, from behind the opening quotation mark of its name
    pub member_law : (p : ℕ) (e : Entry) (c : ℕ) (rest : List ℕ) → GoodEntry e → IsEnd c → drop p text ≡ name_text e (c ∷ rest) → (named colon first : Spot)
        → named ≡ reached table text (spot p 2) 8 → colon ≡ reached table text named 9 → first ≡ turned table text colon
        → ReadRight table text (value_from p e) e.value (value_read table text first)
    unfolding name_text value_from turned reached is_ws
    member_law p e c rest g k w named colon first e1 e2 e3 =
        let tail = value_text e.value (e.after ++ c ∷ rest) in
        let inner = e.gap ++ 0x3A ∷ (e.lead ++ tail) in
        let n = p + length (pieces_text e.name []) + 1 in
        let m = n + (length e.gap + 1) in
        let w1 : drop n text ≡ inner =
        ahead text (p + length (pieces_text e.name [])) (0x22 ∷ []) inner
        (ahead text p (pieces_text e.name []) (0x22 ∷ inner) (w ∙ pieces_text_law e.name (0x22 ∷ inner)))
        in
        let w2 : drop m text ≡ e.lead ++ tail =
        ap (λ (x : ℕ). drop x text) (let z : m ≡ n + length e.gap + 1 = omega arith in z)
        ∙ ahead text (n + length e.gap) (0x3A ∷ []) (e.lead ++ tail) (ahead text n e.gap (0x3A ∷ (e.lead ++ tail)) w1)
        in
        let at1 : named ≡ spot n 8 = e1 ∙ ap (reached_over table 8 p 2) w ∙ reach_string table right 2 8 name_moves (omega arith) e.name p inner g.name in
        let at2 : colon ≡ spot m 9 =
        e2 ∙ ap (λ (x : Spot). reached table text x 9) at1 ∙ ap (reached_over table 9 n 8) w1
        ∙ reach_ws table right 9 n 8 e.gap (0x3A ∷ (e.lead ++ tail)) first_moves.gap g.gap (λ q. omega arith)
        ∙ reach_is table right 9 (n + length e.gap) 8 9 0x3A (e.lead ++ tail) first_moves.colon (λ q. omega arith)
        ∙ reached_stop table 9 9 (suc (n + length e.gap)) (e.lead ++ tail) refl
        ∙ ap (λ (x : ℕ). spot x 9) (let z : suc (n + length e.gap) ≡ m = omega arith in z)
        in
        value_law e.value (m + length e.lead) e.after c rest g.value g.after k (ahead text m e.lead tail w2) first
        (e3 ∙ ap (λ (x : Spot). turned table text x) at2 ∙ ap (turned_over table m 9) w2
        ∙ turn_set table right m 9 ws_byte e.lead tail first_moves.lead g.lead)

-- what holds of the spots whatever the text is: the last state is as it was to be, they lie in the text, and the reading goes on
abbrev left : List ℕ → List ℕ → Spot → ℕ
left table text at = run table at.state (drop at.place text)

pub record Onward (table text : List ℕ) (name first at : Spot) : Type 0 where
  pub same_run : run table name.state (drop name.place text) ≡ run table at.state (drop at.place text)
  pub begun : 1 ≤ first.place
  pub later : first.place ≤ at.place
  pub within : at.place ≤ length text
  pub forward : name.place < length text → name.place < at.place

-- the steps of `value_of` up to the value's first byte
pub record Steps (table text : List ℕ) (name first : Spot) : Type 0 where
  pub right : RightTable table
  pub begins : 1 ≤ name.place
  pub inside : name.place ≤ length text
  pub named : Spot
  pub colon : Spot
  pub name_read : named ≡ reached table text name 8
  pub colon_read : colon ≡ reached table text named 9
  pub first_read : first ≡ turned table text colon

module _ (table text : List ℕ) (name first : Spot) (steps : Steps table text name first) where
  to_first : Onward table text name first first
  unfolding turned
  to_first =
      let named = steps.named in
      let colon = steps.colon in
      let e1 = steps.name_read in
      let e2 = steps.colon_read in
      let e3 = steps.first_read in
      let h = steps.begins in
      let b1 : (name.place ≤ named.place) × (named.place ≤ length text) = rw e1 (reached_within table text name 8 steps.inside) in
      let b2 : (named.place ≤ colon.place) × (colon.place ≤ length text) = rw e2 (reached_within table text named 9 b1.1) in
      let b3 : (colon.place ≤ first.place) × (first.place ≤ length text) = rw e3 (turned_within table text colon b2.1) in
      let f : colon.place < length text → colon.place < first.place = λ k. rw e3 (turn_forward table text colon.place colon.state k) in
      let x = b1.0 in
      let y = b2.0 in
      let z = b3.0 in
      record {
        same_run =
            reached_run table text name 8 ∙ ap (left table text) (sym e1) ∙ reached_run table text named 9 ∙ ap (left table text) (sym e2)
            ∙ turned_run table text colon ∙ ap (left table text) (sym e3);
        begun = omega arith;
        later = omega arith;
        within = b3.1;
        forward = λ k. further name.place colon.place first.place (length text) k (omega arith) (omega arith) f;
      }
    where
      further : (p q r n : ℕ) → p < n → p ≤ q → q ≤ r → (q < n → q < r) → p < r
      further p q r n a b c d = go (leb n q) refl
        where
          go : (t : Bool) → leb n q ≡ t → p < r
          go true e = let k : n ≤ q = leb-true n q e in omega arith
          go false e = let k : q < n = leb-false n q e in let m : q < r = d k in omega arith

  further_on : (at : Spot) → left table text first ≡ left table text at → (first.place ≤ at.place) × (at.place ≤ length text)
      → Onward table text name first at
  further_on at e b =
      let o = to_first in
      let x = b.0 in
      record {
        same_run = o.same_run ∙ e;
        begun = o.begun;
        later = x;
        within = b.1;
        forward = λ k. let y : name.place < first.place = o.forward k in omega arith;
      }

  pub by_turn : (at : Spot) → at ≡ turned table text first → Onward table text name first at
  by_turn at e = further_on at (turned_run table text first ∙ ap (left table text) (sym e)) (rw e (turned_within table text first to_first.within))

  pub by_reach : (at : Spot) → at ≡ reached table text first 26 → Onward table text name first at
  by_reach at e = further_on at (reached_run table text first 26 ∙ ap (left table text) (sym e)) (rw e (reached_within table text first 26 to_first.within))

  -- what `value_of` ensures, by each of its returns
  pub told : (r : ValueRead) → Onward table text name first r.at → r.end ≤ r.at.place → value_read table text first ≡ r
      → (run table name.state (drop name.place text) ≡ run table r.at.state (drop r.at.place text))
      × (((r.at.place ≤ length text) × (r.end ≤ r.at.place))
      × ((name.place < length text → name.place < r.at.place)
      × ((e : Entry) (c : ℕ) (rest : List ℕ) → GoodEntry e → IsEnd c → name.state ≡ 2 → drop name.place text ≡ name_text e (c ∷ rest)
      → ReadRight table text (value_from name.place e) e.value r)))
  told r o b q = (
    o.same_run,
    (
      (o.within, b),
      (
        o.forward,
        λ e c rest g k s w. subst (λ (x : ValueRead). ReadRight table text (value_from name.place e) e.value x) q
            (member_law table steps.right text name.place e c rest g k w steps.named steps.colon first
            (steps.name_read ∙ ap (λ (x : ℕ). reached table text (spot name.place x) 8) s) steps.colon_read steps.first_read),
      ),
    ),
  )
