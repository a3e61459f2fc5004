-- Playing one command after the other: what a step leaves, and what is known between two steps.
-- Assumes nothing.
use Prim.Native.Nat.{ℕ, ◌+◌, ◌-◌, ◌≤◌, ◌<◌}
use native.Mathlib.Nat.{add-zero, add_assoc}
use native.Mathlib.Omega.{arith}
use mathlib.Core.Bool.{Bool, true, false, cond}
use mathlib.Core.List.{List, ◌++◌, append-nil, append_assoc}
use mathlib.Core.Logic.{◌⊎◌, inl, inr}
use Rattle.std.specs.Prelude.{Option, None, Some, Ok}
use mathlib.Core.Path.{◌≡◌, refl, sym, ap, ap₂, subst, ◌∙◌}
use lib.Dec.{leb}
use lib.ListN.{length, take, drop, length-drop, length-append, take-append-drop}
use lib.Seq.{length-take-le, drop-drop, take_at, drop_at}
use Rattle.seven_bit.specs.Parts.{put}
use Rattle.seven_bit.specs.Reply.{Reply, granted, refused}
use Rattle.seven_bit.proofs.ReplyLaws.{both}
use Rattle.seven_bit.proofs.PartLaws.{put_is, length_put}
use Rattle.pe_reassembler.specs.Feed.{Memory}
use Rattle.pe_tape.specs.declared.play.Line.{Line}
use Rattle.pe_tape.specs.declared.play.Table.{Table}
use Rattle.pe_tape.specs.Table.{SameRooms}
use Rattle.pe_tape.specs.Command.{Taken, read_command}
use Rattle.pe_tape.specs.Line.{line_len}
use Rattle.pe_tape.specs.Play.{make_call, line_of, Played, stopped, before, play_bytes, play_left, playing, play_call}
use Rattle.pe_tape.specs.Steps.{Stepped, went, halted, step_told, StepLeft, step_left, play_step}
use Rattle.pe_tape.specs.Told.{placed}
use Rattle.pe_tape.proofs.PlayLaws.{read_len, play_end, play_refused, play_next, play_full}

-- ---- between two steps
-- the text so far, in front of what playing the rest gives, is what playing the whole gives
pub record Going (m₀ : Memory) (tape out₀ : List ℕ) (m : Memory) (out : List ℕ) (at written : ℕ) : Type 0 where
  pub within : at ≤ length tape
  pub fits : written ≤ length out
  pub long : length out ≡ length out₀
  pub untouched : drop written out ≡ drop written out₀
  pub told : before (take written out) at (play_bytes m (drop at tape) (length out - written)) ≡ play_bytes m₀ tape (length out₀)

-- text and bytes in front
before_before : (a b : List ℕ) (n k : ℕ) (p : Played) → before a n (before b k p) ≡ before (a ++ b) (n + k) p
before_before a b n k p =
    ap₂ (λ (t : List ℕ) (u : ℕ). record { text = t; memory = p.memory; used = u; stop = p.stop })
    (sym (append_assoc a b p.text)) (sym (add_assoc n k p.used))

before_stopped : (a : List ℕ) (n : ℕ) (m : Memory) (stop : Reply ℕ)
    → before a n (stopped m stop) ≡ record { text = a; memory = m; used = n; stop = stop }
before_stopped a n m stop = ap₂ (λ (t : List ℕ) (u : ℕ). record { text = t; memory = m; used = u; stop = stop }) (append-nil a) (add-zero n)

-- what was read where a step went on
pub record Went (m : Memory) (tape out : List ℕ) (at written next behind : ℕ) (after : Memory) (out' : List ℕ) : Type 0 where
  pub taken : Taken
  pub read : read_command (drop at tape) ≡ granted (Some taken)
  pub room : leb line_len (length out - written) ≡ true
  pub next_is : next ≡ at + taken.len
  pub behind_is : behind ≡ written + length (line_of m taken.command)
  pub after_is : after ≡ (make_call m taken.command).memory
  pub out_is : out' ≡ put out written (line_of m taken.command)

abbrev next_of : Stepped → ℕ
next_of (went next behind) = next
next_of (halted stop) = 0

abbrev behind_of : Stepped → ℕ
behind_of (went next behind) = behind
behind_of (halted stop) = 0

abbrev goes : Stepped → Bool
goes (went next behind) = true
goes (halted stop) = false

never : {P : Type 0} → true ≡ false → P
never e = absurd (subst (λ (b : Bool). cond b (Unit {0}) ⊥) e tt)

-- what a step with a command does, with room and without
abbrev chosen : Memory → ℕ → Taken → List ℕ → ℕ → Bool → StepLeft
chosen m at t out written room =
    cond room
    (step_left (went (at + t.len) (written + length (line_of m t.command))) (make_call m t.command).memory (put out written (line_of m t.command)))
    (step_left (halted (refused 3 0)) m out)

went_read : (m after : Memory) (tape out out' : List ℕ) (at written next behind : ℕ) (r : Reply (Option Taken)) → read_command (drop at tape) ≡ r
    → step_left (went next behind) after out' ≡ play_step m (placed at r) out written → Went m tape out at written next behind after out'
went_read m after tape out out' at written next behind (granted None) read e = never (ap (λ (l : StepLeft). goes l.answer) e)
went_read m after tape out out' at written next behind (refused number value) read e = never (ap (λ (l : StepLeft). goes l.answer) e)
went_read m after tape out out' at written next behind (granted (Some t)) read e = go (both (leb line_len (length out - written)))
  where
    go : (leb line_len (length out - written) ≡ true) ⊎ (leb line_len (length out - written) ≡ false) → Went m tape out at written next behind after out'
    go (inl enough) =
        let h : step_left (went next behind) after out' ≡ chosen m at t out written true = e ∙ ap (chosen m at t out written) enough in
        record {
          taken = t;
          read = read;
          room = enough;
          next_is = ap (λ (l : StepLeft). next_of l.answer) h;
          behind_is = ap (λ (l : StepLeft). behind_of l.answer) h;
          after_is = ap (λ (l : StepLeft). l.memory) h;
          out_is = ap (λ (l : StepLeft). l.out) h;
        }
    go (inr short) = never (ap (λ (l : StepLeft). goes l.answer) (e ∙ ap (chosen m at t out written) short))

went_told : (m after : Memory) (tape out out' : List ℕ) (at written next behind : ℕ)
    → step_left (went next behind) after out' ≡ play_step m (placed at (read_command (drop at tape))) out written
    → Went m tape out at written next behind after out'
went_told m after tape out out' at written next behind e = went_read m after tape out out' at written next behind (read_command (drop at tape)) refl e

-- a step that went on: what is known behind it
front_long : (out : List ℕ) (written : ℕ) (line : List ℕ) → written + length line ≤ length out
    → length (take written out ++ line) ≡ written + length line
front_long out written line h =
    length-append (take written out) line ∙ ap (λ (n : ℕ). n + length line) (length-take-le written out (omega (arith, h)))

text_on : (out : List ℕ) (written : ℕ) (line : List ℕ) → written + length line ≤ length out
    → take (written + length line) (put out written line) ≡ take written out ++ line
text_on out written line h =
    ap (take (written + length line)) (put_is out written line h)
    ∙ take_at (take written out ++ line) (drop (written + length line) out) (written + length line) (front_long out written line h)

rest_on : (out : List ℕ) (written : ℕ) (line : List ℕ) → written + length line ≤ length out
    → drop (written + length line) (put out written line) ≡ drop (written + length line) out
rest_on out written line h =
    ap (drop (written + length line)) (put_is out written line h)
    ∙ drop_at (take written out ++ line) (drop (written + length line) out) (written + length line) (front_long out written line h)

turn : (m₀ : Memory) (tape out₀ : List ℕ) (m after : Memory) (out out' : List ℕ) (at written next behind : ℕ) → Going m₀ tape out₀ m out at written
    → Went m tape out at written next behind after out' → behind ≤ length out → (at < next) × Going m₀ tape out₀ after out' next behind
turn m₀ tape out₀ m after out out' at written next behind g w h =
    let t : Taken = w.taken in
    let line : List ℕ = line_of m t.command in
    let len = read_len (drop at tape) t w.read in
    let rest : length (drop at tape) ≡ length tape - at = length-drop at tape in
    let room : written + length line ≤ length out = omega (arith, h, w.behind_is) in
    let long : length out' ≡ length out = ap length w.out_is ∙ length_put out written line in
    let left : length out - written - length line ≡ length out' - behind = omega (arith, long, w.behind_is) in
    let text : take behind out' ≡ take written out ++ line = ap₂ take w.behind_is w.out_is ∙ text_on out written line room in
    let untouched : drop behind out' ≡ drop behind out =
    ap (drop behind) w.out_is ∙ subst (λ (n : ℕ). drop n (put out written line) ≡ drop n out) (sym w.behind_is) (rest_on out written line room) in
    let played : play_bytes m (drop at tape) (length out - written) ≡ before line t.len (play_bytes after (drop next tape) (length out' - behind)) =
    play_next m (drop at tape) (length out - written) t w.read w.room
    ∙ ap (λ (p : Played). before line t.len p)
    (ap₂ (λ (o : Memory) (s : List ℕ). play_bytes o s (length out - written - length line)) (sym w.after_is)
    (drop-drop t.len at tape ∙ ap (λ (n : ℕ). drop n tape) (sym w.next_is))
    ∙ ap (play_bytes after (drop next tape)) left) in (
      omega (arith, len.0, w.next_is),
      record {
        within = omega (arith, len.1, rest, w.next_is, g.within);
        fits = omega (arith, h, long);
        long = long ∙ g.long;
        untouched = untouched ∙ further written behind out out₀ (omega (arith, w.behind_is)) g.untouched;
        told =
            ap₂ (λ (a : List ℕ) (n : ℕ). before a n (play_bytes after (drop next tape) (length out' - behind))) text w.next_is
            ∙ sym (before_before (take written out) line at t.len (play_bytes after (drop next tape) (length out' - behind)))
            ∙ ap (λ (p : Played). before (take written out) at p) (sym played)
            ∙ g.told;
      },
    )
  where
    further : (a b : ℕ) (xs ys : List ℕ) → a ≤ b → drop a xs ≡ drop a ys → drop b xs ≡ drop b ys
    further a b xs ys le e =
        let s : a + (b - a) ≡ b = omega (arith, le) in
        subst (λ (n : ℕ). drop n xs ≡ drop n ys) s (sym (drop-drop (b - a) a xs) ∙ ap (drop (b - a)) e ∙ drop-drop (b - a) a ys)

-- a step that did not go on: nothing was played
pub record Halted (m : Memory) (tape out : List ℕ) (at written : ℕ) (stop : Reply ℕ) (after : Memory) (out' : List ℕ) : Type 0 where
  pub nothing : play_bytes m (drop at tape) (length out - written) ≡ stopped m stop
  pub after_is : after ≡ m
  pub out_is : out' ≡ out

abbrev stop_of : Stepped → Reply ℕ
stop_of (went next behind) = granted 0
stop_of (halted stop) = stop

halted_as : (m after : Memory) (tape out out' : List ℕ) (at written : ℕ) (stop why : Reply ℕ) → step_left (halted stop) after out' ≡ step_left (halted why) m out
    → play_bytes m (drop at tape) (length out - written) ≡ stopped m why → Halted m tape out at written stop after out'
halted_as m after tape out out' at written stop why e h =
    record {
      nothing = h ∙ ap (λ (l : StepLeft). stopped m (stop_of l.answer)) (sym e);
      after_is = ap (λ (l : StepLeft). l.memory) e;
      out_is = ap (λ (l : StepLeft). l.out) e;
    }

halted_read : (m after : Memory) (tape out out' : List ℕ) (at written : ℕ) (stop : Reply ℕ) (r : Reply (Option Taken)) → read_command (drop at tape) ≡ r
    → step_left (halted stop) after out' ≡ play_step m (placed at r) out written → Halted m tape out at written stop after out'
halted_read m after tape out out' at written stop (granted None) read e =
    halted_as m after tape out out' at written stop (granted 0) e (play_end m (drop at tape) (length out - written) read)
halted_read m after tape out out' at written stop (refused number value) read e =
    halted_as m after tape out out' at written stop (refused number value) e (play_refused m (drop at tape) (length out - written) number value read)
halted_read m after tape out out' at written stop (granted (Some t)) read e = go (both (leb line_len (length out - written)))
  where
    go : (leb line_len (length out - written) ≡ true) ⊎ (leb line_len (length out - written) ≡ false) → Halted m tape out at written stop after out'
    go (inl enough) = never (sym (ap (λ (l : StepLeft). goes l.answer) (e ∙ ap (chosen m at t out written) enough)))
    go (inr short) =
        halted_as m after tape out out' at written stop (refused 3 0) (e ∙ ap (chosen m at t out written) short)
        (play_full m (drop at tape) (length out - written) t read short)

-- and the answer
halt : (m₀ : Memory) (tape out₀ : List ℕ) (m after : Memory) (out out' : List ℕ) (at written : ℕ) (stop : Reply ℕ) → Going m₀ tape out₀ m out at written
    → step_left (halted stop) after out' ≡ play_step m (placed at (read_command (drop at tape))) out written
    → play_left at written stop after out' ≡ play_call m₀ tape out₀
unfolding play_call
halt m₀ tape out₀ m after out out' at written stop g e =
    let h = halted_read m after tape out out' at written stop (read_command (drop at tape)) refl e in
    let text : List ℕ = take written out in
    let whole : record { text = text; memory = m; used = at; stop = stop } ≡ play_bytes m₀ tape (length out₀) =
    sym (before_stopped text at m stop) ∙ ap (λ (p : Played). before text at p) (sym h.nothing) ∙ g.told in
    let len : length text ≡ written = length-take-le written out g.fits in
    let all : out' ≡ text ++ drop (length text) out₀ =
    h.out_is ∙ sym (take-append-drop written out) ∙ ap (λ (d : List ℕ). text ++ d) (g.untouched ∙ ap (λ (n : ℕ). drop n out₀) (sym len)) in
    ap (λ (n : ℕ). play_left at n stop after out') (sym len)
    ∙ ap₂ (λ (o : Memory) (x : List ℕ). play_left at (length text) stop o x) h.after_is all
    ∙ ap (λ (p : Played). playing p out₀) whole

-- ---- the same of what a step answers
pub go_on : {m₀ : Memory} {tape out₀ : List ℕ} {m : Memory} {out : List ℕ} {at written : ℕ} → Going m₀ tape out₀ m out at written
    → (line : Line) (after : Memory) (out' : List ℕ)
    → step_left (step_told (Ok (Some line))) after out' ≡ play_step m (placed at (read_command (drop at tape))) out written → line.end ≤ length out
    → (at < line.next) × Going m₀ tape out₀ after out' line.next line.end
go_on {m₀ = m₀} {tape = tape} {out₀ = out₀} {m = m} {out = out} {at = at} {written = written} g line after out' e f =
    let w = went_told m after tape out out' at written line.next line.end e in
    turn m₀ tape out₀ m after out out' at written line.next line.end g w f

pub end : {m₀ : Memory} {tape out₀ : List ℕ} {m : Memory} {out : List ℕ} {at written : ℕ} → Going m₀ tape out₀ m out at written
    → (stop : Reply ℕ) (after : Memory) (out' : List ℕ)
    → step_left (halted stop) after out' ≡ play_step m (placed at (read_command (drop at tape))) out written
    → play_left at written stop after out' ≡ play_call m₀ tape out₀
end {m₀ = m₀} {tape = tape} {out₀ = out₀} {m = m} {out = out} {at = at} {written = written} g stop after out' e =
    halt m₀ tape out₀ m after out out' at written stop g e

-- the rooms of three tables
pub same_on : (s t u : Table) → SameRooms s t → SameRooms t u → SameRooms s u
same_on s t u a b = (b.0 ∙ a.0, b.1 ∙ a.1, b.2 ∙ a.2, b.3 ∙ a.3, b.4 ∙ a.4, b.5 ∙ a.5)
