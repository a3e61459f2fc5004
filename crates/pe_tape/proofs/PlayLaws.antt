-- The laws of reading a tape and of playing it, one command after the other.
-- Assumes nothing.
use Prim.Native.Nat.{ℕ, zero, suc, ◌+◌, ◌-◌, ◌≤◌, ◌<◌}
use mathlib.Core.Bool.{Bool, true, false, cond}
use mathlib.Core.List.{List, [], ◌∷◌}
use Rattle.std.specs.Prelude.{Option, None, Some}
use mathlib.Core.Path.{◌≡◌, refl, sym, ap, ◌∙◌, fun_ext}
use native.Mathlib.Omega.{arith}
use borrow.Author.Tests.{eqb-true, leb-true}
use lib.Dec.{leb, eqb}
use lib.ListN.{length, drop, length-drop}
use Rattle.seven_bit.specs.Reply.{Reply, granted, refused}
use Rattle.seven_bit.proofs.ReplyLaws.{asked, refused_not}
use Rattle.pe_reassembler.specs.Feed.{Memory}
use Rattle.pe_tape.specs.Command.{Command, Taken, taken, chunk_len, read_feed, read_cancel, read_drop, read_poll, read_command}
use Rattle.pe_tape.specs.Tape.{ended, with_command, read_on, tape_from, tape_of}
use Rattle.pe_tape.specs.Line.{line_len}
use Rattle.pe_tape.specs.Play.{make_call, line_of, Played, stopped, before, play_on, play_from, play_bytes}

-- ---- a command by its byte, in front of two lists of operands
pub by_kind : (P : ℕ → Reply (Option Taken) → Reply (Option Taken) → Type 0) (b : ℕ) (s s' : List ℕ)
    → P 1 (read_feed s) (read_feed s') → P 2 (read_cancel s) (read_cancel s') → P 3 (read_drop s) (read_drop s') → P 4 (read_poll s) (read_poll s')
    → P b (refused 36 0) (refused 36 0) → P b (read_command (b ∷ s)) (read_command (b ∷ s'))
unfolding read_command
by_kind P b s s' fed cancelled dropped polled unknown = go (eqb b 1) (eqb b 2) (eqb b 3) (eqb b 4) refl refl refl refl
  where
    chosen : Bool → Bool → Bool → Bool → List ℕ → Reply (Option Taken)
    chosen t u v w l = cond t (read_feed l) (cond u (read_cancel l) (cond v (read_drop l) (cond w (read_poll l) (refused 36 0))))

    go : (t u v w : Bool) → eqb b 1 ≡ t → eqb b 2 ≡ u → eqb b 3 ≡ v → eqb b 4 ≡ w → P b (chosen t u v w s) (chosen t u v w s')
    go true u v w t= u= v= w= = rw (eqb-true b 1 t=) fed
    go false true v w t= u= v= w= = rw (eqb-true b 2 u=) cancelled
    go false false true w t= u= v= w= = rw (eqb-true b 3 v=) dropped
    go false false false true t= u= v= w= = rw (eqb-true b 4 w=) polled
    go false false false false t= u= v= w= = unknown

-- ---- how many bytes a command has
abbrev Within : List ℕ → Reply (Option Taken) → Type 0
Within s r = (t : Taken) → r ≡ granted (Some t) → (0 < t.len) × (t.len ≤ suc (length s))

len_is : (c : Command) (n : ℕ) (t : Taken) → taken c n ≡ granted (Some t) → n ≡ t.len
len_is c n t q = cc

within : (s : List ℕ) (n len : ℕ) (c : Command) → len ≡ suc n → Within s (cond (leb n (length s)) (taken c len) (refused 37 0))
within s n len c e t q =
    let a = asked (leb n (length s)) 37 (taken c len) (Some t) q in
    let h : n ≤ length s = leb-true n (length s) a.0 in
    let l : len ≡ t.len = len_is c len t a.1 in
    (omega arith, omega arith)

pub read_len : (s : List ℕ) (t : Taken) → read_command s ≡ granted (Some t) → (0 < t.len) × (t.len ≤ length s)
unfolding read_command read_feed read_cancel read_drop read_poll
read_len [] t q = absurd (let z : ◌≡◌ {A = ℕ} 0 1 = cc in omega arith)
read_len (b ∷ s) t q =
    by_kind (λ (k : ℕ) (r r' : Reply (Option Taken)). Within s r) b s s
    (λ (t : Taken) (q : read_feed s ≡ granted (Some t)).
    within s (14 + chunk_len s) (15 + chunk_len s) _ (omega arith) t (asked (leb 14 (length s)) 37 _ (Some t) q).1)
    (within s 5 6 _ refl)
    (within s 4 5 _ refl)
    (within s 8 9 _ refl)
    (λ (t : Taken) (q : refused 36 0 ≡ granted (Some t)). absurd (refused_not 36 0 (Some t) q))
    t q

pub read_none : (s : List ℕ) → read_command s ≡ granted None → s ≡ []
unfolding read_command read_feed read_cancel read_drop read_poll
read_none [] q = refl
read_none (b ∷ s) q =
    absurd (by_kind (λ (k : ℕ) (r r' : Reply (Option Taken)). r ≡ granted None → ⊥) b s s
    (λ (q : read_feed s ≡ granted None). never (14 + chunk_len s) _ _ (asked (leb 14 (length s)) 37 _ None q).1)
    (never 5 _ _) (never 4 _ _) (never 8 _ _)
    (λ (q : refused 36 0 ≡ granted None). refused_not 36 0 None q)
    q)
  where
    never : (n len : ℕ) (c : Command) → cond (leb n (length s)) (taken c len) (refused 37 0) ≡ granted None → ⊥
    never n len c q =
        let a = (asked (leb n (length s)) 37 (taken c len) None q).1 in
        let z : ◌≡◌ {A = ℕ} 0 1 = cc in omega arith

-- ---- a tape: fuel does not matter
same_tape : (j k : ℕ) (s : List ℕ) → length s ≤ j → length s ≤ k → tape_from j s ≡ tape_from k s
unfolding tape_from read_command
same_tape zero zero s h h' = refl
same_tape zero (suc k) [] h h' = refl
same_tape zero (suc k) (b ∷ s) h h' = absurd (omega arith)
same_tape (suc j) zero [] h h' = refl
same_tape (suc j) zero (b ∷ s) h h' = absurd (omega arith)
same_tape (suc j) (suc k) s h h' = go (read_command s) refl (same_tape j k)
  where
    go : (r : Reply (Option Taken)) → read_command s ≡ r → ((s' : List ℕ) → length s' ≤ j → length s' ≤ k → tape_from j s' ≡ tape_from k s')
        → read_on r s (λ (t : Taken). tape_from j (drop t.len s)) ≡ read_on r s (λ (t : Taken). tape_from k (drop t.len s))
    go (granted None) e same = refl
    go (refused number value) e same = refl
    go (granted (Some t)) e same =
        let l = read_len s t e in
        ap (with_command t.command) (same (drop t.len s) (simp length-drop (omega arith)) (simp length-drop (omega arith)))

pub tape_fuel : (k : ℕ) (s : List ℕ) → length s ≤ k → tape_from k s ≡ tape_of s
unfolding tape_of
tape_fuel k s h = same_tape k (length s) s h (omega arith)

-- one command more
tape_step : (s : List ℕ) → tape_of s ≡ read_on (read_command s) s (λ (t : Taken). tape_of (drop t.len s))
unfolding tape_from
tape_step s =
    sym (tape_fuel (suc (length s)) s (omega arith))
    ∙ ap (read_on (read_command s) s) (fun_ext (λ (t : Taken). tape_fuel (length s) (drop t.len s) (simp length-drop (omega arith))))

pub tape_end : (s : List ℕ) → read_command s ≡ granted None → tape_of s ≡ ended (granted 0) s
tape_end s e = tape_step s ∙ rw e

pub tape_next : (s : List ℕ) (t : Taken) → read_command s ≡ granted (Some t) → tape_of s ≡ with_command t.command (tape_of (drop t.len s))
tape_next s t e = tape_step s ∙ rw e

pub tape_refused : (s : List ℕ) (number value : ℕ) → read_command s ≡ refused number value → tape_of s ≡ ended (refused number value) s
tape_refused s number value e = tape_step s ∙ rw e

-- ---- playing: the same
same_play : (j k : ℕ) (m : Memory) (s : List ℕ) (room : ℕ) → length s ≤ j → length s ≤ k → play_from j m s room ≡ play_from k m s room
unfolding play_from read_command
same_play zero zero m s room h h' = refl
same_play zero (suc k) m [] room h h' = refl
same_play zero (suc k) m (b ∷ s) room h h' = absurd (omega arith)
same_play (suc j) zero m [] room h h' = refl
same_play (suc j) zero m (b ∷ s) room h h' = absurd (omega arith)
same_play (suc j) (suc k) m s room h h' = go (read_command s) refl (same_play j k)
  where
    go : (r : Reply (Option Taken)) → read_command s ≡ r
        → ((m' : Memory) (s' : List ℕ) (room' : ℕ) → length s' ≤ j → length s' ≤ k → play_from j m' s' room' ≡ play_from k m' s' room')
        → play_on r m room (λ (m' : Memory) (len room' : ℕ). play_from j m' (drop len s) room')
        ≡ play_on r m room (λ (m' : Memory) (len room' : ℕ). play_from k m' (drop len s) room')
    go (granted None) e same = refl
    go (refused number value) e same = refl
    go (granted (Some t)) e same =
        let l = read_len s t e in
        ap (λ (p : Played). cond (leb line_len room) (before (line_of m t.command) t.len p) (stopped m (refused 3 0)))
        (same (make_call m t.command).memory (drop t.len s) (room - length (line_of m t.command))
        (simp length-drop (omega arith)) (simp length-drop (omega arith)))

pub play_fuel : (k : ℕ) (m : Memory) (s : List ℕ) (room : ℕ) → length s ≤ k → play_from k m s room ≡ play_bytes m s room
unfolding play_bytes
play_fuel k m s room h = same_play k (length s) m s room h (omega arith)

-- one command more
play_step : (m : Memory) (s : List ℕ) (room : ℕ)
    → play_bytes m s room ≡ play_on (read_command s) m room (λ (m' : Memory) (len room' : ℕ). play_bytes m' (drop len s) room')
unfolding play_from
play_step m s room =
    sym (play_fuel (suc (length s)) m s room (omega arith))
    ∙ ap (play_on (read_command s) m room)
    (fun_ext (λ (m' : Memory). fun_ext (λ (len : ℕ). fun_ext (λ (room' : ℕ). play_fuel (length s) m' (drop len s) room' (simp length-drop (omega arith))))))

pub play_end : (m : Memory) (s : List ℕ) (room : ℕ) → read_command s ≡ granted None → play_bytes m s room ≡ stopped m (granted 0)
play_end m s room e = play_step m s room ∙ rw e

pub play_refused : (m : Memory) (s : List ℕ) (room number value : ℕ) → read_command s ≡ refused number value
    → play_bytes m s room ≡ stopped m (refused number value)
play_refused m s room number value e = play_step m s room ∙ rw e

pub play_next : (m : Memory) (s : List ℕ) (room : ℕ) (t : Taken) → read_command s ≡ granted (Some t) → leb line_len room ≡ true
    → play_bytes m s room ≡ before (line_of m t.command) t.len
    (play_bytes (make_call m t.command).memory (drop t.len s) (room - length (line_of m t.command)))
play_next m s room t e h = play_step m s room ∙ rw (e, h)

-- a line for which there is no room
pub play_full : (m : Memory) (s : List ℕ) (room : ℕ) (t : Taken) → read_command s ≡ granted (Some t) → leb line_len room ≡ false
    → play_bytes m s room ≡ stopped m (refused 3 0)
play_full m s room t e h = play_step m s room ∙ rw (e, h)
