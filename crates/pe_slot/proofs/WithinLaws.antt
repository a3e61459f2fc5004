-- No slot holds a number above its count (document 02, K3), whatever chunks within their own count are fed to it: those that a reader gives.
-- Assumes nothing.
use Rattle.std.proofs.Common.{◌≡◌, ℕ, ◌+◌, Bool, true, false, cond, not, ◌&&◌, ◌||◌, eqb, ltb, leb, ◌⊎◌, List, [], ◌∷◌, ◌++◌, length, refl, ap, ◌∙◌, ap₂, inl, inr}
use Rattle.seven_bit.proofs.ReplyLaws.{and_told}
use Rattle.pe_frame.specs.Chunk.{Chunk, within_count}
use Rattle.pe_slot.specs.Slot.{Piece, Slot, Verdict, empty_slot, held_within, held, body_length, header_fits, header_agrees}
use Rattle.pe_slot.specs.Slot.{new_header, count_agrees, new_count, after_chunk, all_within, judge, slot_after}
use Rattle.pe_slot.proofs.JudgeLaws.{piece_by, count_by, header_by}

-- one piece more
within_last : (n : ℕ) (ps : List Piece) (p : Piece) → held_within n ps ≡ true → leb p.number n ≡ true → held_within n (ps ++ (p ∷ [])) ≡ true
unfolding held_within
within_last n [] p h l = rw l
within_last n (q ∷ qs) p h l =
    let a = and_told (leb q.number n) (held_within n qs) h in
    rw a.0 (within_last n qs p a.1 l)

-- with the piece or without it
within_either : (n : ℕ) (ps : List Piece) (p : Piece) (adds : Bool) → held_within n ps ≡ true → leb p.number n ≡ true
    → held_within n (cond adds (ps ++ (p ∷ [])) ps) ≡ true
within_either n ps p true h l = within_last n ps p h l
within_either n ps p false h l = h

-- a verdict takes nothing and adds nothing, or the count's questions had a yes
takes_or_not : (fits agrees stores counts takes zero holding few roomy : Bool) (next : Slot)
    → let v = header_by fits agrees stores (count_by counts takes (piece_by zero holding few roomy next)) in
    ((v.takes ≡ false) × (v.adds ≡ false)) ⊎ ((counts ≡ true) × (v.takes ≡ takes))
takes_or_not false a s k t z h f r x = inl (refl, refl)
takes_or_not true false s k t z h f r x = inl (refl, refl)
takes_or_not true true s false t z h f r x = inl (refl, refl)
takes_or_not true true s true t z h f r x = inr (refl, refl)

module _ (s : Slot) (c : Chunk) (within : within_count c.chunk_num c.num_chunks ≡ true) (now : all_within s ≡ true) where
  -- a chunk that is not taken leaves count and numbers
  same : (stores : Bool) → all_within (after_chunk s c stores false false) ≡ true
  unfolding all_within after_chunk
  same stores = now

  -- one whose count agrees, with its piece or without it
  agreed : (stores adds : Bool) → count_agrees s c ≡ true → all_within (after_chunk s c stores (new_count s c) adds) ≡ true
  unfolding all_within after_chunk count_agrees within_count
  agreed stores adds k =
      let counts = eqb c.num_chunks 0 || eqb s.count 0 || eqb s.count c.num_chunks in
      let a = and_told (counts && within_count c.chunk_num s.count) (not (new_count s c) || held_within c.num_chunks s.pieces) k in
      let b = and_told counts (within_count c.chunk_num s.count) a.0 in
      go (new_count s c) refl (eqb c.num_chunks 0) refl (eqb s.count 0) refl a.1 b.1
    where
      piece : Piece
      piece = record { number = c.chunk_num; bytes = c.property }

      go : (t : Bool) → new_count s c ≡ t → (n : Bool) → eqb c.num_chunks 0 ≡ n → (z : Bool) → eqb s.count 0 ≡ z
          → (not t || held_within c.num_chunks s.pieces) ≡ true → (eqb s.count 0 || leb c.chunk_num s.count) ≡ true
          → (eqb (cond t c.num_chunks s.count) 0
          || held_within (cond t c.num_chunks s.count) (cond adds (s.pieces ++ (piece ∷ [])) s.pieces)) ≡ true
      go true t true n z ez h l = rw n
      go true t false n z ez h l = rw n (within_either c.num_chunks s.pieces piece adds h (rw n at within))
      go false t n en true z h l = rw z
      go false t n en false z h l = rw z (within_either s.count s.pieces piece adds (rw z at now) (rw z at l))

  -- A slot whose numbers are within its count keeps so, whatever chunk that is within its own count it is fed.
  pub all_within_law : (H B R : ℕ) → all_within (slot_after s c (judge H B R s c)) ≡ true
  unfolding judge
  all_within_law H B R =
      go (takes_or_not (header_fits H c) (header_agrees s c) (new_header s c) (count_agrees s c) (new_count s c) (eqb c.chunk_num 0)
      (held c.chunk_num s.pieces) (ltb (length s.pieces) R) (leb (body_length s.pieces + length c.property) B)
      (after_chunk s c (new_header s c) (new_count s c) true))
    where
      v : Verdict
      v = judge H B R s c

      go : ((v.takes ≡ false) × (v.adds ≡ false)) ⊎ ((count_agrees s c ≡ true) × (v.takes ≡ new_count s c)) → all_within (slot_after s c v) ≡ true
      go (inl e) = ap₂ (λ (t a : Bool). all_within (after_chunk s c v.stores t a)) e.0 e.1 ∙ same v.stores
      go (inr e) = ap (λ (t : Bool). all_within (after_chunk s c v.stores t v.adds)) e.1 ∙ agreed v.stores v.adds e.0

-- An empty slot has none.
pub none_yet : all_within empty_slot ≡ true
unfolding all_within
none_yet = refl
