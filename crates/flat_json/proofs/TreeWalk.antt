-- What a turn and a reach pass over in the text of a tree, by any table that follows the grammar, without a look at its entries.
-- Assumes nothing.
use Prim.Native.Nat.{ℕ, suc, ◌+◌, ◌<◌}
use mathlib.Core.Bool.{true, ◌&&◌}
use mathlib.Core.List.{List, [], ◌∷◌, ◌++◌}
use mathlib.Core.Path.{◌≡◌, refl, sym, ap, ◌∙◌}
use native.Mathlib.Omega.{arith}
use borrow.Author.Tests.{eq-eqb, ne_eqb}
use lib.ListN.{length}
use Rattle.flat_json.specs.Abnf.{Abnf, is, in_set}
use Rattle.flat_json.specs.Grammar.{ws_byte, unescaped, short_escape, hexdig}
use Rattle.flat_json.specs.Table.{RightTable, next, spot, turned_over, reached_over}
use Rattle.flat_json.specs.Tree.{is_ws, is_hex, is_unescaped, is_short, all, Piece, plain, short, unicode, piece_text, pieces_text, good_piece, good_pieces}
use Rattle.flat_json.proofs.Branches.{and_left, and_right}
use Rattle.flat_json.proofs.Moves.{leads, leads_law, is_set, StringMoves}
use Rattle.flat_json.proofs.WalkLaws.{reach_one, reached_stop}

piece_length : (p : Piece) (r : List ℕ) → length (piece_text p r) ≡ length (piece_text p []) + length r
unfolding piece_text
piece_length (plain b) r = omega arith
piece_length (short c) r = omega arith
piece_length (unicode a b c d) r = omega arith

module _ (table : List ℕ) (right : RightTable table) where
  -- one byte
  pub reach_byte : (stop p s : ℕ) (a : Abnf) (t b : ℕ) (r : List ℕ) → leads s a t ≡ true → in_set a b ≡ true → (s ≡ stop → ⊥)
      → reached_over table stop p s (b ∷ r) ≡ reached_over table stop (suc p) t r
  reach_byte stop p s a t b r e h n = reach_one table stop p s b r n ∙ ap (λ (x : ℕ). reached_over table stop (suc p) x r) (leads_law table right s a t e b h)

  pub reach_is : (stop p s t c : ℕ) (r : List ℕ) → leads s (is c) t ≡ true → (s ≡ stop → ⊥) → reached_over table stop p s (c ∷ r)
      ≡ reached_over table stop (suc p) t r
  reach_is stop p s t c r e n = reach_byte stop p s (is c) t c r e (is_set c) n

  -- bytes of a set that keep the state
  pub reach_set : (stop p s : ℕ) (a : Abnf) (xs r : List ℕ) → leads s a s ≡ true → all (in_set a) xs ≡ true → (s ≡ stop → ⊥)
      → reached_over table stop p s (xs ++ r) ≡ reached_over table stop (p + length xs) s r
  unfolding all
  reach_set stop p s a [] r e h n = ap (λ (q : ℕ). reached_over table stop q s r) (let z : p ≡ p + 0 = omega arith in z)
  reach_set stop p s a (x ∷ xs) r e h n =
      reach_byte stop p s a s x (xs ++ r) e (and_left (in_set a x) (all (in_set a) xs) h) n
      ∙ reach_set stop (suc p) s a xs r e (and_right (in_set a x) (all (in_set a) xs) h) n
      ∙ ap (λ (q : ℕ). reached_over table stop q s r) (let z : suc p + length xs ≡ p + suc (length xs) = omega arith in z)

  pub reach_ws : (stop p s : ℕ) (xs r : List ℕ) → leads s ws_byte s ≡ true → all is_ws xs ≡ true → (s ≡ stop → ⊥)
      → reached_over table stop p s (xs ++ r) ≡ reached_over table stop (p + length xs) s r
  unfolding is_ws
  reach_ws stop p s xs r e h n = reach_set stop p s ws_byte xs r e h n

  -- a string up to its closing quotation mark, and past it
  reach_piece : (s t stop : ℕ) → StringMoves s t → s + 5 < stop → (q : Piece) (p : ℕ) (r : List ℕ) → good_piece q ≡ true
      → reached_over table stop p s (piece_text q r) ≡ reached_over table stop (p + length (piece_text q [])) s r
  unfolding piece_text good_piece is_unescaped is_short is_hex
  reach_piece s t stop m l (plain b) p r h =
      reach_byte stop p s unescaped s b r m.plain_byte h (λ q. omega arith)
      ∙ ap (λ (x : ℕ). reached_over table stop x s r) (let z : suc p ≡ p + 1 = omega arith in z)
  reach_piece s t stop m l (short c) p r h =
      reach_is stop p s (s + 1) 0x5C (c ∷ r) m.escape (λ q. omega arith)
      ∙ reach_byte stop (suc p) (s + 1) short_escape s c r m.short_form h (λ q. omega arith)
      ∙ ap (λ (x : ℕ). reached_over table stop x s r) (let z : suc (suc p) ≡ p + 2 = omega arith in z)
  reach_piece s t stop m l (unicode a b c d) p r h =
      let h1 = and_right (in_set hexdig a) (in_set hexdig b && (in_set hexdig c && in_set hexdig d)) h in
      let h2 = and_right (in_set hexdig b) (in_set hexdig c && in_set hexdig d) h1 in
      reach_is stop p s (s + 1) 0x5C (0x75 ∷ a ∷ b ∷ c ∷ d ∷ r) m.escape (λ q. omega arith)
      ∙ reach_is stop (suc p) (s + 1) (s + 2) 0x75 (a ∷ b ∷ c ∷ d ∷ r) m.long_form (λ q. omega arith)
      ∙ reach_byte stop (suc (suc p)) (s + 2) hexdig (s + 3) a (b ∷ c ∷ d ∷ r) m.digit₁
      (and_left (in_set hexdig a) (in_set hexdig b && (in_set hexdig c && in_set hexdig d)) h) (λ q. omega arith)
      ∙ reach_byte stop (suc (suc (suc p))) (s + 3) hexdig (s + 4) b (c ∷ d ∷ r) m.digit₂
      (and_left (in_set hexdig b) (in_set hexdig c && in_set hexdig d) h1) (λ q. omega arith)
      ∙ reach_byte stop (suc (suc (suc (suc p)))) (s + 4) hexdig (s + 5) c (d ∷ r) m.digit₃ (and_left (in_set hexdig c) (in_set hexdig d) h2)
      (λ q. omega arith)
      ∙ reach_byte stop (suc (suc (suc (suc (suc p))))) (s + 5) hexdig s d r m.digit₄ (and_right (in_set hexdig c) (in_set hexdig d) h2) (λ q. omega arith)
      ∙ ap (λ (x : ℕ). reached_over table stop x s r) (let z : suc (suc (suc (suc (suc (suc p))))) ≡ p + 6 = omega arith in z)

  reach_pieces : (s t stop : ℕ) → StringMoves s t → s + 5 < stop → (ps : List Piece) (p : ℕ) (r : List ℕ) → good_pieces ps ≡ true
      → reached_over table stop p s (pieces_text ps r) ≡ reached_over table stop (p + length (pieces_text ps [])) s r
  unfolding pieces_text good_pieces
  reach_pieces s t stop m l [] p r h = ap (λ (x : ℕ). reached_over table stop x s r) (let z : p ≡ p + 0 = omega arith in z)
  reach_pieces s t stop m l (q ∷ ps) p r h =
      reach_piece s t stop m l q p (pieces_text ps r) (and_left (good_piece q) (good_pieces ps) h)
      ∙ reach_pieces s t stop m l ps (p + length (piece_text q [])) r (and_right (good_piece q) (good_pieces ps) h)
      ∙ ap (λ (x : ℕ). reached_over table stop x s r) (let k = piece_length q (pieces_text ps []) in
      let z : p + length (piece_text q []) + length (pieces_text ps []) ≡ p + length (piece_text q (pieces_text ps [])) = omega arith in z)

  pub reach_string : (s t : ℕ) → StringMoves s t → s + 5 < t → (ps : List Piece) (p : ℕ) (r : List ℕ) → good_pieces ps ≡ true
      → reached_over table t p s (pieces_text ps (0x22 ∷ r)) ≡ spot (p + length (pieces_text ps []) + 1) t
  reach_string s t m l ps p r h =
      reach_pieces s t t m l ps p (0x22 ∷ r) h
      ∙ reach_is t (p + length (pieces_text ps [])) s t 0x22 r m.quote (λ q. omega arith)
      ∙ reached_stop table t t (suc (p + length (pieces_text ps []))) r refl
      ∙ ap (λ (x : ℕ). spot x t) (let z : suc (p + length (pieces_text ps [])) ≡ p + length (pieces_text ps []) + 1 = omega arith in z)

  -- a turn, over bytes that keep the state and by one that does not
  pub turn_set : (p s : ℕ) (a : Abnf) (xs r : List ℕ) → leads s a s ≡ true → all (in_set a) xs ≡ true → turned_over table p s (xs ++ r)
      ≡ turned_over table (p + length xs) s r
  unfolding all turned_over
  turn_set p s a [] r e h = ap (λ (q : ℕ). turned_over table q s r) (let z : p ≡ p + 0 = omega arith in z)
  turn_set p s a (x ∷ xs) r e h =
      let n = leads_law table right s a s e x (and_left (in_set a x) (all (in_set a) xs) h) in
      rw (n, eq-eqb s s refl)
      (turn_set (suc p) s a xs r e (and_right (in_set a x) (all (in_set a) xs) h)
      ∙ ap (λ (q : ℕ). turned_over table q s r) (let z : suc p + length xs ≡ p + suc (length xs) = omega arith in z))

  pub turn_by : (p s b : ℕ) (r : List ℕ) → (next table s b ≡ s → ⊥) → turned_over table p s (b ∷ r) ≡ spot (suc p) (next table s b)
  unfolding turned_over
  turn_by p s b r n = rw (ne_eqb (next table s b) s n)

  pub turn_to : (p s : ℕ) (a : Abnf) (t b : ℕ) (r : List ℕ) → leads s a t ≡ true → in_set a b ≡ true → (t ≡ s → ⊥) → turned_over table p s (b ∷ r)
      ≡ spot (suc p) t
  turn_to p s a t b r e h n =
      let l = leads_law table right s a t e b h in
      turn_by p s b r (λ q. n (sym l ∙ q)) ∙ ap (spot (suc p)) l
