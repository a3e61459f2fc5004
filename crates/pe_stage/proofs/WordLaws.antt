-- The laws of a stage in lent words: what a place's words hold, and what a store of one leaves.
-- Assumes nothing.
use Prim.Native.Nat.{ℕ, zero, suc, ◌+◌, ◌-◌, ◌*◌, ◌%◌, ◌≤◌, ◌<◌}
use mathlib.Core.List.{List, [], ◌∷◌, ◌++◌}
use Rattle.std.specs.Prelude.{Some, None}
use mathlib.Core.Path.{◌≡◌, refl, sym, ap, ◌∙◌}
use native.Mathlib.Omega.{arith}
use Rattle.std.proofs.Common.{append_assoc}
use borrow.Author.Tests.{eq-eqb, ne_eqb, le-leb, lt-leb}
use lib.ListN.{length, get_or, set, take, drop, replicate, length-take, length-set, length-append, length-drop}
use lib.Seq.{drop-cons, drop-drop, sets, set-append_left}
use Rattle.seven_bit.specs.Parts.{put, splice}
use Rattle.seven_bit.proofs.PartLaws.{put_is, rest}
use Rattle.seven_bit.specs.Reply.{granted, refused}
use Rattle.pe_stage.specs.declared.place.Outgoing.{Outgoing}
use Rattle.pe_stage.specs.Stage.{Place, holding, Stage, stage, free_place, empty, place_at, first_waiting}
use Rattle.pe_stage.specs.Words.{place_words, place_words_at, stage_words, HasPlaces, place_in, places_in, stage_in, words_of, storing, placed, kept, new_call}

-- ---- reading
-- place p of k places is what the words from 7 * p on hold
place_read : (k p : ℕ) (ws : List ℕ) → p < k → get_or (places_in k ws) p free_place ≡ place_in (drop (place_words * p) ws)
unfolding places_in
place_read zero p ws h = absurd (omega arith)
place_read (suc k) zero ws h = refl
place_read (suc k) (suc p) ws h =
    let e : place_words * suc p ≡ place_words + place_words * p = omega arith in
    place_read k p (drop place_words ws) (omega arith)
    ∙ ap place_in (drop-drop (place_words * p) place_words ws ∙ ap (λ (n : ℕ). drop n ws) (sym e))

pub place_at_law : (words : List ℕ) (p : ℕ) → p < 16 → place_at (stage_in words) p ≡ place_in (drop (place_words_at p) words)
place_at_law words p h = place_read 16 p (drop 1 words) h ∙ ap place_in (drop-drop (place_words * p) 1 words)

-- the code's reading
pub place_seen : (words : List ℕ) (p at : ℕ) → p < 16 → at ≡ place_words_at p
    → place_in (take (length words - at) (drop at words)) ≡ place_at (stage_in words) p
place_seen words p at h e = rw (e, rest) (sym (place_at_law words p h))

-- ---- the search for who is next
-- a search from one place on that has asked so many places: it goes on at the next one
pub ask_first : (places : List Place) (from : ℕ) → from < 16 → first_waiting places 16 from ≡ first_waiting places (16 - 0) ((from + 0) % 16)
ask_first places from h =
    let e : (from + 0) % 16 ≡ from = omega arith in
    rw e

-- the place has something waiting, or the search goes on, or all places are done
module _ (places : List Place) (from asked : ℕ) (rest : first_waiting places 16 from ≡ first_waiting places (16 - asked) ((from + asked) % 16)) where
  more : asked < 16 → 16 - asked ≡ suc (16 - (asked + 1))
  more l = omega arith

  pub ask_waits : asked < 16 → ((get_or places ((from + asked) % 16) free_place).next_chunk ≡ 0 → ⊥)
      → Some ((from + asked) % 16) ≡ first_waiting places 16 from
  unfolding first_waiting
  ask_waits l w = rw (rest, more l, ne_eqb (get_or places ((from + asked) % 16) free_place).next_chunk 0 w)

  pub ask_next : asked < 16 → (get_or places ((from + asked) % 16) free_place).next_chunk ≡ 0
      → first_waiting places 16 from ≡ first_waiting places (16 - (asked + 1)) ((from + (asked + 1)) % 16)
  unfolding first_waiting
  ask_next l f =
      let e : ((from + asked) % 16 + 1) % 16 ≡ (from + (asked + 1)) % 16 = omega arith in
      rw (rest, more l, eq-eqb (get_or places ((from + asked) % 16) free_place).next_chunk 0 f, e)

  pub ask_nobody : 16 ≤ asked → None ≡ first_waiting places 16 from
  unfolding first_waiting
  ask_nobody l =
      let z : 16 - asked ≡ 0 = omega arith in
      rw (rest, z)

pub ruleset asks = (ask_first, ask_waits, ask_next, ask_nobody)

-- ---- storing
-- a store behind the first words, and one into the first of two lists
put_behind : (y : ℕ) (xs : List ℕ) (a : ℕ) (ys : List ℕ) → y ∷ put xs a ys ≡ put (y ∷ xs) (suc a) ys
unfolding put
put_behind y xs a [] = refl
put_behind y xs a (z ∷ ys) = unfold put in (put_behind y (set xs a z) (suc a) ys)

put_before : (xs zs : List ℕ) (a : ℕ) (ys : List ℕ) → a + length ys ≤ length xs → put xs a ys ++ zs ≡ put (xs ++ zs) a ys
unfolding put
put_before xs zs a [] h = refl
put_before xs zs a (y ∷ ys) h =
    (unfold put in (put_before (set xs a y) zs (suc a) ys (rw (length-set xs a y) (omega arith))))
    ∙ ap (λ (l : List ℕ). sets l (suc a) ys) (sym (set-append_left xs zs a y (omega arith)))

-- a place is stored by storing its words
words_set : (places : List Place) (p : ℕ) (x : Place) → p < length places
    → words_of (set places p x) ≡ put (words_of places) (place_words * p) (words_of (x ∷ []))
unfolding words_of put
words_set [] p x h = absurd (omega arith)
words_set (y ∷ places) zero x h = refl
words_set (y ∷ places) (suc p) x h =
    let e : place_words * suc p ≡ suc (suc (suc (suc (suc (suc (suc (place_words * p))))))) = omega arith in
    ap (λ (r : List ℕ). words_of (y ∷ []) ++ r) (words_set places p x (omega arith))
    ∙ ap (λ (n : ℕ). put (words_of (y ∷ places)) n (words_of (x ∷ []))) (sym e)

-- the words of the places that words hold
pub words_held : (k : ℕ) (ws : List ℕ) → place_words * k ≤ length ws → words_of (places_in k ws) ++ drop (place_words * k) ws ≡ ws
unfolding words_of places_in
words_held zero ws h = refl
words_held (suc k) ws h =
    let e : place_words * suc k ≡ place_words + place_words * k = omega arith in
    let e0 = drop-cons ws 0 0 (omega arith) in
    let e1 = drop-cons ws 1 0 (omega arith) in
    let e2 = drop-cons ws 2 0 (omega arith) in
    let e3 = drop-cons ws 3 0 (omega arith) in
    let e4 = drop-cons ws 4 0 (omega arith) in
    let e5 = drop-cons ws 5 0 (omega arith) in
    let e6 = drop-cons ws 6 0 (omega arith) in
    let i = words_held k (drop place_words ws) (simp length-drop (omega arith)) in
    let d : drop (place_words * suc k) ws ≡ drop (place_words * k) (drop place_words ws)
    = ap (λ (n : ℕ). drop n ws) e ∙ sym (drop-drop (place_words * k) place_words ws) in
    ap (λ (r : List ℕ). words_of (place_in ws ∷ []) ++ (words_of (places_in k (drop place_words ws)) ++ r)) d
    ∙ ap (λ (r : List ℕ). words_of (place_in ws ∷ []) ++ r) i
    ∙ cc

-- how many places and how many words
pub places_length : (k : ℕ) (ws : List ℕ) → length (places_in k ws) ≡ k
unfolding places_in
places_length zero ws = refl
places_length (suc k) ws = ap suc (places_length k (drop place_words ws))

pub words_length : (places : List Place) → length (words_of places) ≡ place_words * length places
unfolding words_of
words_length [] = refl
words_length (x ∷ places) = let e = words_length places in omega arith

-- storing the stage that words hold changes nothing
pub storing_held : (words : List ℕ) → HasPlaces words → storing (stage_in words) words ≡ words
storing_held words h =
    let d : drop stage_words words ≡ drop (place_words * 16) (drop 1 words) = sym (drop-drop (place_words * 16) 1 words) in
    ap (λ (r : List ℕ). get_or words 0 0 ∷ (words_of (places_in 16 (drop 1 words)) ++ r)) d
    ∙ ap (λ (r : List ℕ). get_or words 0 0 ∷ r) (words_held 16 (drop 1 words) (simp length-drop (omega arith)))
    ∙ sym (drop-cons words 0 0 (omega arith))

-- a place is stored in its seven words
pub placed_words : (words : List ℕ) (p : ℕ) (list : Outgoing) (k : ℕ) → HasPlaces words → p < 16
    → placed p list k words ≡ put words (place_words_at p) (words_of (holding list k ∷ []))
placed_words words p list k h l =
    let t = get_or words 0 0 in
    let ps = places_in 16 (drop 1 words) in
    let w = words_of (holding list k ∷ []) in
    let n = places_length 16 (drop 1 words) in
    let m = words_length ps in
    let o = words_length (holding list k ∷ []) in
    let e : place_words_at p ≡ suc (place_words * p) = omega arith in
    ap (λ (r : List ℕ). t ∷ (r ++ drop stage_words words)) (words_set ps p (holding list k) (omega arith))
    ∙ ap (λ (r : List ℕ). t ∷ r) (put_before (words_of ps) (drop stage_words words) (place_words * p) w (omega arith))
    ∙ put_behind t (words_of ps ++ drop stage_words words) (place_words * p) w
    ∙ ap (λ (r : List ℕ). put r (suc (place_words * p)) w) (storing_held words h)
    ∙ ap (λ (r : ℕ). put words r w) (sym e)

-- where the code puts them
pub placed_stores : (words : List ℕ) (p at : ℕ) (list : Outgoing) (k : ℕ) → HasPlaces words → p < 16 → at ≡ place_words_at p
    → splice at 7 words (words_of (holding list k ∷ [])) ≡ placed p list k words
placed_stores words p at list k h l e =
    let ws = words_of (holding list k ∷ []) in
    let n : length ws ≡ 7 = omega (arith, words_length (holding list k ∷ [])) in
    rw e
    (ap (λ (r : List ℕ). take (place_words_at p) words ++ (ws ++ r))
    (drop-drop 7 (place_words_at p) words ∙ ap (λ (m : ℕ). drop (place_words_at p + m) words) (sym n))
    ∙ sym (append_assoc (take (place_words_at p) words) ws (drop (place_words_at p + length ws) words))
    ∙ sym (put_is words (place_words_at p) ws (omega arith))
    ∙ sym (placed_words words p list k h l))

-- ---- an empty stage
-- the words of a stage that is empty are 0
pub zero_empty : (words : List ℕ) → replicate stage_words 0 ++ drop stage_words words ≡ storing empty words
unfolding words_of
zero_empty words = refl

-- `new` in memory that is long enough, and in other memory
pub new_made : (words zeros : List ℕ) → HasPlaces words → zeros ≡ replicate (length (take stage_words words)) 0
    → kept (granted 0) (zeros ++ drop stage_words words) ≡ new_call words
unfolding new_call
new_made words zeros h e =
    let n : length (take stage_words words) ≡ stage_words = simp length-take (omega arith) in
    rw (le-leb stage_words (length words) h, e, n) (ap (λ (l : List ℕ). kept (granted 0) l) (zero_empty words))

pub new_short : (words : List ℕ) → length words < stage_words → kept (refused 30 0) words ≡ new_call words
unfolding new_call
new_short words h = rw (lt-leb stage_words (length words) h)

-- ---- a stage that is stored
places_stored : (places : List Place) (rest : List ℕ) → places_in (length places) (words_of places ++ rest) ≡ places
unfolding places_in words_of
places_stored [] rest = refl
places_stored (x ∷ places) rest = ap (λ (l : List Place). x ∷ l) (places_stored places rest)

-- it is there, and the memory is still long enough
pub stored : (s : Stage) (words : List ℕ) → length s.places ≡ 16 → stage_in (storing s words) ≡ s
stored s words g =
    ap (λ (l : List Place). stage s.turn l)
    (ap (λ (k : ℕ). places_in k (words_of s.places ++ drop stage_words words)) (sym g) ∙ places_stored s.places (drop stage_words words))

pub storing_long : (s : Stage) (words : List ℕ) → length s.places ≡ 16 → HasPlaces (storing s words)
storing_long s words g =
    let e = words_length s.places in
    let l = length-append (words_of s.places) (drop stage_words words) in
    omega arith
