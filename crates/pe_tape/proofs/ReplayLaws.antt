-- "Replay equals making the same calls one by one", however the tape is cut into blocks and whatever room is lent for its lines.
-- Assumes nothing.
use Prim.Native.Nat.{ℕ, zero, suc, ◌+◌, ◌-◌, ◌≤◌, ◌<◌}
use mathlib.Core.Bool.{Bool, true, false}
use mathlib.Core.List.{List, [], ◌∷◌, ◌++◌, append-nil, append_assoc}
use mathlib.Core.Logic.{◌⊎◌, inl, inr}
use Rattle.std.specs.Prelude.{Option, None, Some}
use mathlib.Core.Path.{◌≡◌, refl, sym, ap, ◌∙◌}
use native.Mathlib.Nat.{sub-zero}
use native.Mathlib.Omega.{arith}
use borrow.Author.Tests.{le-leb, leb-true, leb-false}
use lib.Dec.{leb}
use lib.ListN.{length, drop, length-drop, length-append, get_or-append}
use lib.Seq.{drop-drop, drop-append-le}
use Rattle.seven_bit.specs.Reply.{Reply, granted, refused, ◌else◌then◌}
use Rattle.seven_bit.proofs.PartLaws.{part_front}
use Rattle.seven_bit.proofs.ReplyLaws.{both, refused_not}
use Rattle.pe_reassembler.specs.Feed.{Memory}
use Rattle.pe_tape.specs.Command.{Taken, chunk_len, read_feed, read_cancel, read_drop, read_poll, read_command}
use Rattle.pe_tape.specs.Tape.{Tape, ended, with_command, tape_of, Ends, followed_by}
use Rattle.pe_tape.specs.Line.{line_len, end_text}
use Rattle.pe_tape.specs.Play.{make_call, line_of, Played, stopped, before, play_bytes}
use Rattle.pe_tape.specs.Replay.{memory_after, lines_of, text_of, memory_of, Stops, PlaysAll, Block, play_blocks, memory_blocks, bytes_of}
use Rattle.pe_tape.proofs.PlayLaws.{by_kind, read_len, read_none, tape_next, tape_end, tape_refused}
use Rattle.pe_tape.proofs.PlayLaws.{play_next, play_full, play_end, play_refused}

-- ---- a command is read the same, whatever stands behind it
module _ (s ys : List ℕ) where
  one_front : (n : ℕ) → n ≤ length s → leb n (length (s ++ ys)) ≡ true
  one_front n h = le-leb n (length (s ++ ys)) (simp length-append (omega arith))

  feed_front : 14 ≤ length s → 14 + chunk_len s ≤ length s → read_feed (s ++ ys) ≡ read_feed s
  unfolding read_feed
  feed_front h l =
      rw (
        part_front 12 2 s ys (omega arith),
        part_front 0 4 s ys (omega arith),
        part_front 4 8 s ys (omega arith),
        part_front 14 (chunk_len s) s ys l,
        one_front 14 h,
        one_front (14 + chunk_len s) l,
        le-leb 14 (length s) h,
        le-leb (14 + chunk_len s) (length s) l,
      )

  cancel_front : 5 ≤ length s → read_cancel (s ++ ys) ≡ read_cancel s
  unfolding read_cancel
  cancel_front h =
      rw (part_front 0 4 s ys (omega arith), get_or-append s ys 0 4 (omega arith), one_front 5 h, le-leb 5 (length s) h)

  drop_front : 4 ≤ length s → read_drop (s ++ ys) ≡ read_drop s
  unfolding read_drop
  drop_front h = rw (part_front 0 4 s ys (omega arith), one_front 4 h, le-leb 4 (length s) h)

  poll_front : 8 ≤ length s → read_poll (s ++ ys) ≡ read_poll s
  unfolding read_poll
  poll_front h = rw (part_front 0 8 s ys (omega arith), one_front 8 h, le-leb 8 (length s) h)

-- a question that is not what cuts a command off
not_cut : (yes? : Bool) (r : Reply (Option Taken)) → ((yes? else 37 then r) ≡ refused 37 0 → ⊥) → (yes? ≡ true) × (r ≡ refused 37 0 → ⊥)
not_cut true r whole = (refl, whole)
not_cut false r whole = absurd (whole refl)

read_same : (xs ys : List ℕ) → (read_command xs ≡ granted None → ⊥) → (read_command xs ≡ refused 37 0 → ⊥) → read_command (xs ++ ys) ≡ read_command xs
unfolding read_command read_feed read_cancel read_drop read_poll
read_same [] ys there whole = absurd (there refl)
read_same (b ∷ s) ys there whole =
    by_kind (λ (k : ℕ) (r r' : Reply (Option Taken)). (r ≡ refused 37 0 → ⊥) → r' ≡ r) b s (s ++ ys)
    (λ (whole : read_feed s ≡ refused 37 0 → ⊥).
    let a = not_cut (leb 14 (length s)) _ whole in
    let a' = not_cut (leb (14 + chunk_len s) (length s)) _ a.1 in
    feed_front s ys (leb-true 14 (length s) a.0) (leb-true (14 + chunk_len s) (length s) a'.0))
    (λ (whole : read_cancel s ≡ refused 37 0 → ⊥). cancel_front s ys (leb-true 5 (length s) (not_cut (leb 5 (length s)) _ whole).0))
    (λ (whole : read_drop s ≡ refused 37 0 → ⊥). drop_front s ys (leb-true 4 (length s) (not_cut (leb 4 (length s)) _ whole).0))
    (λ (whole : read_poll s ≡ refused 37 0 → ⊥). poll_front s ys (leb-true 8 (length s) (not_cut (leb 8 (length s)) _ whole).0))
    (λ (whole : refused 36 0 ≡ refused 37 0 → ⊥). refl)
    whole

pub read_front : (xs ys : List ℕ) (t : Taken) → read_command xs ≡ granted (Some t) → read_command (xs ++ ys) ≡ granted (Some t)
read_front xs ys t q =
    read_same xs ys
    (λ (e : read_command xs ≡ granted None). let z : ◌≡◌ {A = ℕ} 0 1 = cc in omega arith)
    (λ (e : read_command xs ≡ refused 37 0). let z : ◌≡◌ {A = ℕ} 0 1 = cc in omega arith)
    ∙ q

pub unknown_front : (xs ys : List ℕ) → read_command xs ≡ refused 36 0 → read_command (xs ++ ys) ≡ refused 36 0
unknown_front xs ys q =
    read_same xs ys
    (λ (e : read_command xs ≡ granted None). let z : ◌≡◌ {A = ℕ} 0 1 = cc in omega arith)
    (λ (e : read_command xs ≡ refused 37 0). let z : ◌≡◌ {A = ℕ} 36 37 = cc in omega arith)
    ∙ q

-- ---- what reading gives: nothing, a command, or one of the two refusals
data Reads : Reply (Option Taken) → Type 0 where
  nothing : Reads (granted None)
  got : (t : Taken) → Reads (granted (Some t))
  not_known : Reads (refused 36 0)
  cut : Reads (refused 37 0)

reads : (s : List ℕ) → Reads (read_command s)
unfolding read_command read_feed read_cancel read_drop read_poll
reads [] = nothing
reads (b ∷ s) =
    by_kind (λ (k : ℕ) (r r' : Reply (Option Taken)). Reads r) b s s
    (one (leb 14 (length s)) _ (one (leb (14 + chunk_len s) (length s)) _ (got _)))
    (one (leb 5 (length s)) _ (got _)) (one (leb 4 (length s)) _ (got _)) (one (leb 8 (length s)) _ (got _))
    not_known
  where
    one : (yes? : Bool) (r : Reply (Option Taken)) → Reads r → Reads (yes? else 37 then r)
    one true r h = h
    one false r h = cut

-- what holds where a tape ends, and of a command in front of what holds, holds of every tape
pub by_commands : (P : List ℕ → Type 0) → ((s : List ℕ) (end : Reply ℕ) → Ends s end → P s)
    → ((s : List ℕ) (t : Taken) → read_command s ≡ granted (Some t) → P (drop t.len s) → P s) → (s : List ℕ) → P s
by_commands P over one s = from (length s) s (omega arith)
  where
    step : (s : List ℕ) {r : Reply (Option Taken)} → Reads r → read_command s ≡ r
        → ((t : Taken) → read_command s ≡ granted (Some t) → P (drop t.len s)) → P s
    step s nothing e below = over s (granted 0) (Ends.at_end (read_none s e))
    step s (got t) e below = one s t e (below t e)
    step s not_known e below = over s (refused 36 0) (Ends.unknown e)
    step s cut e below = over s (refused 37 0) (Ends.cut_off e)

    from : (k : ℕ) (s : List ℕ) → length s ≤ k → P s
    from zero s h = step s (reads s) refl (λ (t : Taken) (e : read_command s ≡ granted (Some t)). absurd (let l = read_len s t e in omega arith))
    from (suc k) s h =
        step s (reads s) refl
        (λ (t : Taken) (e : read_command s ≡ granted (Some t)).
        let l = read_len s t e in
        from k (drop t.len s) (simp length-drop (omega arith)))

pub tape_ends : {s : List ℕ} {end : Reply ℕ} → Ends s end → tape_of s ≡ ended end s
unfolding read_command
tape_ends {s} (Ends.at_end e) = tape_end s (ap read_command e)
tape_ends {s} (Ends.unknown e) = tape_refused s 36 0 e
tape_ends {s} (Ends.cut_off e) = tape_refused s 37 0 e

play_ends : (m : Memory) (room : ℕ) {s : List ℕ} {end : Reply ℕ} → Ends s end → play_bytes m s room ≡ stopped m end
unfolding read_command
play_ends m room {s} (Ends.at_end e) = play_end m s room (ap read_command e)
play_ends m room {s} (Ends.unknown e) = play_refused m s room 36 0 e
play_ends m room {s} (Ends.cut_off e) = play_refused m s room 37 0 e

-- a refusal is that of the command that is left
left_refused : {left : List ℕ} {number : ℕ} → Ends left (refused number 0) → read_command left ≡ refused number 0
left_refused (Ends.unknown e) = e
left_refused (Ends.cut_off e) = e

-- ---- a tape's text, one command after the other
pub text_next : (m : Memory) (s : List ℕ) (t : Taken) → read_command s ≡ granted (Some t)
    → text_of m s ≡ line_of m t.command ++ text_of (make_call m t.command).memory (drop t.len s)
unfolding text_of lines_of
text_next m s t e = rw (tape_next s t e, append_assoc)

pub text_refused : (m : Memory) (s : List ℕ) (number : ℕ) → read_command s ≡ refused number 0 → text_of m s ≡ end_text (refused number 0)
unfolding text_of lines_of
text_refused m s number e = rw (tape_refused s number 0 e)

-- ---- what holds where playing stops, and of a command in front of what is played next, holds of playing a tape
pub by_play : (P : Memory → List ℕ → ℕ → Played → Type 0)
    → ((m : Memory) (s : List ℕ) (room : ℕ) (stop : Reply ℕ) → Stops s room stop → P m s room (stopped m stop))
    → ((m : Memory) (s : List ℕ) (room : ℕ) (t : Taken) (p : Played) → read_command s ≡ granted (Some t) → line_len ≤ room
    → P (make_call m t.command).memory (drop t.len s) (room - length (line_of m t.command)) p → P m s room (before (line_of m t.command) t.len p))
    → (m : Memory) (s : List ℕ) (room : ℕ) → P m s room (play_bytes m s room)
by_play P stops one m s room =
    by_commands (λ (s : List ℕ). (m : Memory) (room : ℕ) → P m s room (play_bytes m s room))
    (λ (s : List ℕ) (end : Reply ℕ) (h : Ends s end) (m : Memory) (room : ℕ). rw (play_ends m room h) (stops m s room end (Stops.ends h)))
    (λ (s : List ℕ) (t : Taken) (e : read_command s ≡ granted (Some t))
    (below : (m : Memory) (room : ℕ) → P m (drop t.len s) room (play_bytes m (drop t.len s) room)) (m : Memory) (room : ℕ).
    next s t e below m room (both (leb line_len room)))
    s m room
  where
    next : (s : List ℕ) (t : Taken) → read_command s ≡ granted (Some t)
        → ((m : Memory) (room : ℕ) → P m (drop t.len s) room (play_bytes m (drop t.len s) room)) → (m : Memory) (room : ℕ)
        → (leb line_len room ≡ true) ⊎ (leb line_len room ≡ false) → P m s room (play_bytes m s room)
    next s t e below m room (inl h) = rw (play_next m s room t e h) (one m s room t _ e (leb-true line_len room h) (below _ _))
    next s t e below m room (inr h) = rw (play_full m s room t e h) (stops m s room (refused 3 0) (Stops.full t e (leb-false line_len room h)))

-- ---- a tape is played up to some place, and the rest then, with bytes behind it
pub drop_none : (s : List ℕ) → drop 0 s ≡ s
drop_none [] = refl
drop_none (b ∷ s) = refl

pub play_on : (m : Memory) (xs ys : List ℕ) (room : ℕ)
    → text_of m (xs ++ ys) ≡ (play_bytes m xs room).text ++ text_of (play_bytes m xs room).memory (drop (play_bytes m xs room).used xs ++ ys)
play_on m xs ys room =
    by_play (λ (m : Memory) (s : List ℕ) (room : ℕ) (p : Played). text_of m (s ++ ys) ≡ p.text ++ text_of p.memory (drop p.used s ++ ys))
    (λ (m : Memory) (s : List ℕ) (room : ℕ) (stop : Reply ℕ) (h : Stops s room stop). ap (λ (l : List ℕ). text_of m (l ++ ys)) (sym (drop_none s)))
    one m xs room
  where
    one : (m : Memory) (s : List ℕ) (room : ℕ) (t : Taken) (p : Played) → read_command s ≡ granted (Some t) → line_len ≤ room
        → text_of (make_call m t.command).memory (drop t.len s ++ ys) ≡ p.text ++ text_of p.memory (drop p.used (drop t.len s) ++ ys)
        → text_of m (s ++ ys) ≡ (line_of m t.command ++ p.text) ++ text_of p.memory (drop (t.len + p.used) s ++ ys)
    one m s room t p e h below =
        let l = read_len s t e in
        text_next m (s ++ ys) t (read_front s ys t e)
        ∙ ap (λ (x : List ℕ). line_of m t.command ++ text_of (make_call m t.command).memory x) (drop-append-le t.len s ys l.1)
        ∙ ap (λ (x : List ℕ). line_of m t.command ++ x) below
        ∙ rw (drop-drop p.used t.len s, append_assoc)

-- the same of the table
memory_next : (m : Memory) (s : List ℕ) (t : Taken) → read_command s ≡ granted (Some t)
    → memory_of m s ≡ memory_of (make_call m t.command).memory (drop t.len s)
unfolding memory_after
memory_next m s t e = rw (tape_next s t e)

pub memory_on : (m : Memory) (xs ys : List ℕ) (room : ℕ)
    → memory_of m (xs ++ ys) ≡ memory_of (play_bytes m xs room).memory (drop (play_bytes m xs room).used xs ++ ys)
memory_on m xs ys room =
    by_play (λ (m : Memory) (s : List ℕ) (room : ℕ) (p : Played). memory_of m (s ++ ys) ≡ memory_of p.memory (drop p.used s ++ ys))
    (λ (m : Memory) (s : List ℕ) (room : ℕ) (stop : Reply ℕ) (h : Stops s room stop). ap (λ (l : List ℕ). memory_of m (l ++ ys)) (sym (drop_none s)))
    (λ (m : Memory) (s : List ℕ) (room : ℕ) (t : Taken) (p : Played) (e : read_command s ≡ granted (Some t)) (h : line_len ≤ room)
    (below : memory_of (make_call m t.command).memory (drop t.len s ++ ys) ≡ memory_of p.memory (drop p.used (drop t.len s) ++ ys)).
    memory_next m (s ++ ys) t (read_front s ys t e)
    ∙ ap (memory_of (make_call m t.command).memory) (drop-append-le t.len s ys (read_len s t e).1)
    ∙ below
    ∙ ap (λ (l : List ℕ). memory_of p.memory (l ++ ys)) (drop-drop p.used t.len s))
    m xs room

-- ---- why it stops
pub stops : (m : Memory) (xs : List ℕ) (room : ℕ)
    → Stops (drop (play_bytes m xs room).used xs) (room - length (play_bytes m xs room).text) (play_bytes m xs room).stop
stops =
    by_play (λ (m : Memory) (s : List ℕ) (room : ℕ) (p : Played). Stops (drop p.used s) (room - length p.text) p.stop)
    (λ (m : Memory) (s : List ℕ) (room : ℕ) (stop : Reply ℕ) (h : Stops s room stop). rw (drop_none s, sub-zero room) h)
    (λ (m : Memory) (s : List ℕ) (room : ℕ) (t : Taken) (p : Played) (e : read_command s ≡ granted (Some t)) (h : line_len ≤ room)
    (below : Stops (drop p.used (drop t.len s)) (room - length (line_of m t.command) - length p.text) p.stop).
    let r : room - length (line_of m t.command ++ p.text) ≡ room - length (line_of m t.command) - length p.text =
    omega (arith, length-append (line_of m t.command) p.text) in
    rw (r, ← drop-drop p.used t.len s) below)

-- a stop that is not for want of room is the end of what is left
ends_there : {left : List ℕ} {room : ℕ} {stop : Reply ℕ} → Stops left room stop → (stop ≡ refused 3 0 → ⊥) → Ends left stop
ends_there (Stops.ends h) n = h
ends_there (Stops.full t e l) n = absurd (n refl)

pub stop_ends : (m : Memory) (xs : List ℕ) (room : ℕ) (end : Reply ℕ) → (play_bytes m xs room).stop ≡ end → (end ≡ refused 3 0 → ⊥)
    → Ends (drop (play_bytes m xs room).used xs) end
stop_ends m xs room end q n = ends_there (rw q at (stops m xs room)) n

pub stop_end : (m : Memory) (xs : List ℕ) (room : ℕ) → (play_bytes m xs room).stop ≡ granted 0 → drop (play_bytes m xs room).used xs ≡ []
stop_end m xs room q = none_left (stop_ends m xs room (granted 0) q (λ (n : granted 0 ≡ refused 3 0). refused_not 3 0 0 (sym n)))
  where
    none_left : {left : List ℕ} → Ends left (granted 0) → left ≡ []
    none_left (Ends.at_end e) = e

not_three : (number : ℕ) → 3 < number → ◌≡◌ {A = Reply ℕ} (refused number 0) (refused 3 0) → ⊥
not_three number h q = let z : number ≡ 3 = cc in omega arith

stop_refused : (m : Memory) (xs : List ℕ) (room number : ℕ) → (play_bytes m xs room).stop ≡ refused number 0 → 3 < number
    → read_command (drop (play_bytes m xs room).used xs) ≡ refused number 0
stop_refused m xs room number q h = left_refused (stop_ends m xs room (refused number 0) q (not_three number h))

pub stop_unknown : (m : Memory) (xs : List ℕ) (room : ℕ) → (play_bytes m xs room).stop ≡ refused 36 0
    → (m' : Memory) (ys : List ℕ) → text_of m' (drop (play_bytes m xs room).used xs ++ ys) ≡ end_text (refused 36 0)
stop_unknown m xs room q m' ys =
    text_refused m' _ 36 (unknown_front (drop (play_bytes m xs room).used xs) ys (stop_refused m xs room 36 q (omega arith)))

pub stop_cut_off : (m : Memory) (xs : List ℕ) (room : ℕ) → (play_bytes m xs room).stop ≡ refused 37 0
    → (m' : Memory) → text_of m' (drop (play_bytes m xs room).used xs) ≡ end_text (refused 37 0)
stop_cut_off m xs room q m' = text_refused m' _ 37 (stop_refused m xs room 37 q (omega arith))

-- ---- a tape that comes in blocks
pub by_blocks : (m : Memory) (rest : List ℕ) (bs : List Block) → play_blocks m rest bs ≡ text_of m (rest ++ bytes_of bs)
unfolding play_blocks bytes_of
by_blocks m rest [] = rw (append-nil rest)
by_blocks m rest (b ∷ bs) =
    let p = play_bytes m (rest ++ b.bytes) b.room in
    ap (λ (l : List ℕ). p.text ++ l) (by_blocks p.memory (drop p.used (rest ++ b.bytes)) bs)
    ∙ sym (play_on m (rest ++ b.bytes) (bytes_of bs) b.room)
    ∙ ap (text_of m) (append_assoc rest b.bytes (bytes_of bs))

pub memory_by_blocks : (m : Memory) (rest : List ℕ) (bs : List Block) → memory_blocks m rest bs ≡ memory_of m (rest ++ bytes_of bs)
unfolding memory_blocks bytes_of
memory_by_blocks m rest [] = rw (append-nil rest)
memory_by_blocks m rest (b ∷ bs) =
    let p = play_bytes m (rest ++ b.bytes) b.room in
    memory_by_blocks p.memory (drop p.used (rest ++ b.bytes)) bs
    ∙ sym (memory_on m (rest ++ b.bytes) (bytes_of bs) b.room)
    ∙ ap (memory_of m) (append_assoc rest b.bytes (bytes_of bs))

-- ---- all of a tape is played where there is room
plays_all : (m : Memory) (s : List ℕ) (p : Played) (u : Tape) → tape_of s ≡ u → p.memory ≡ memory_after m u.commands
    → p.text ≡ lines_of m u.commands → p.stop ≡ u.end → drop p.used s ≡ u.rest → PlaysAll m s p
plays_all m s p u e memory_is text_is stop_is rest_is =
    record { memory_is = rw e memory_is; text_is = rw e text_is; stop_is = rw e stop_is; rest_is = rw e rest_is }

pub all_played : (m : Memory) (s : List ℕ) (room : ℕ) → ((play_bytes m s room).stop ≡ refused 3 0 → ⊥) → PlaysAll m s (play_bytes m s room)
unfolding memory_after lines_of
all_played =
    by_play (λ (m : Memory) (s : List ℕ) (room : ℕ) (p : Played). (p.stop ≡ refused 3 0 → ⊥) → PlaysAll m s p)
    (λ (m : Memory) (s : List ℕ) (room : ℕ) (stop : Reply ℕ) (h : Stops s room stop) (n : stop ≡ refused 3 0 → ⊥).
    plays_all m s (stopped m stop) (ended stop s) (tape_ends (ends_there h n)) refl refl refl (drop_none s))
    (λ (m : Memory) (s : List ℕ) (room : ℕ) (t : Taken) (p : Played) (e : read_command s ≡ granted (Some t)) (h : line_len ≤ room)
    (below : (p.stop ≡ refused 3 0 → ⊥) → PlaysAll (make_call m t.command).memory (drop t.len s) p) (n : p.stop ≡ refused 3 0 → ⊥).
    let b = below n in
    plays_all m s (before (line_of m t.command) t.len p) (with_command t.command (tape_of (drop t.len s))) (tape_next s t e)
    b.memory_is (ap (λ (l : List ℕ). line_of m t.command ++ l) b.text_is) b.stop_is (sym (drop-drop p.used t.len s) ∙ b.rest_is))

pub room_enough : (m : Memory) (s : List ℕ) (room : ℕ) → line_len + length (lines_of m (tape_of s).commands) ≤ room
    → (play_bytes m s room).stop ≡ refused 3 0 → ⊥
unfolding lines_of
room_enough =
    by_play (λ (m : Memory) (s : List ℕ) (room : ℕ) (p : Played). line_len + length (lines_of m (tape_of s).commands) ≤ room → p.stop ≡ refused 3 0 → ⊥)
    (λ (m : Memory) (s : List ℕ) (room : ℕ) (stop : Reply ℕ) (h : Stops s room stop) (r : line_len + length (lines_of m (tape_of s).commands) ≤ room).
    there h (omega arith))
    (λ (m : Memory) (s : List ℕ) (room : ℕ) (t : Taken) (p : Played) (e : read_command s ≡ granted (Some t)) (h : line_len ≤ room)
    (below : line_len + length (lines_of (make_call m t.command).memory (tape_of (drop t.len s)).commands) ≤ room - length (line_of m t.command)
    → p.stop ≡ refused 3 0 → ⊥)
    (r : line_len + length (lines_of m (tape_of s).commands) ≤ room).
    below (omega (arith, rw (tape_next s t e, length-append) at r)))
  where
    over : {s : List ℕ} {end : Reply ℕ} → Ends s end → end ≡ refused 3 0 → ⊥
    over (Ends.at_end e) q = refused_not 3 0 0 (sym q)
    over (Ends.unknown e) q = not_three 36 (omega arith) q
    over (Ends.cut_off e) q = not_three 37 (omega arith) q

    there : {s : List ℕ} {room : ℕ} {stop : Reply ℕ} → Stops s room stop → line_len ≤ room → stop ≡ refused 3 0 → ⊥
    there (Stops.ends h) r q = over h q
    there (Stops.full t e h) r q = omega arith

-- ---- a tape with bytes behind it
pub tape_append : (xs ys : List ℕ) → tape_of (xs ++ ys) ≡ followed_by (tape_of xs) ys
tape_append xs ys =
    by_commands (λ (s : List ℕ). tape_of (s ++ ys) ≡ followed_by (tape_of s) ys)
    (λ (s : List ℕ) (end : Reply ℕ) (h : Ends s end). ap behind (sym (tape_ends h)))
    (λ (s : List ℕ) (t : Taken) (e : read_command s ≡ granted (Some t)) (below : tape_of (drop t.len s ++ ys) ≡ followed_by (tape_of (drop t.len s)) ys).
    tape_next (s ++ ys) t (read_front s ys t e)
    ∙ ap (λ (x : List ℕ). with_command t.command (tape_of x)) (drop-append-le t.len s ys (read_len s t e).1)
    ∙ ap (with_command t.command) below
    ∙ ap behind (sym (tape_next s t e)))
    xs
  where
    behind : Tape → Tape
    behind t = followed_by t ys

-- why a tape ends where it does
pub tape_rest : (s : List ℕ) → Ends (tape_of s).rest (tape_of s).end
tape_rest =
    by_commands (λ (s : List ℕ). Ends (tape_of s).rest (tape_of s).end)
    (λ (s : List ℕ) (end : Reply ℕ) (h : Ends s end). rw (tape_ends h) h)
    (λ (s : List ℕ) (t : Taken) (e : read_command s ≡ granted (Some t)) (below : Ends (tape_of (drop t.len s)).rest (tape_of (drop t.len s)).end).
    rw (tape_next s t e) below)

-- behind an unknown command nothing is read
pub unknown_append : (xs ys : List ℕ) → (tape_of xs).end ≡ refused 36 0
    → tape_of (xs ++ ys) ≡ record { commands = (tape_of xs).commands; end = refused 36 0; rest = (tape_of xs).rest ++ ys }
unknown_append xs ys q =
    let e = left_refused (rw q at (tape_rest xs)) in
    tape_append xs ys ∙ rw (tape_refused ((tape_of xs).rest ++ ys) 36 0 (unknown_front (tape_of xs).rest ys e), append-nil)
