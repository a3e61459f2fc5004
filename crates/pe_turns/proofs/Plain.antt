-- Calls on the stage itself, without lent numbers: what is held after them, their answers, and one sequence behind another.
-- Assumes nothing.
use Prim.Native.Nat.{ℕ, ◌<◌}
use mathlib.Core.Bool.{Bool, true, false, cond}
use mathlib.Core.List.{List, [], ◌∷◌, ◌++◌}
use mathlib.Core.Path.{◌≡◌, refl, ap, ◌∙◌}
use lib.Dec.{eqb}
use lib.ListN.{length}
use Rattle.seven_bit.specs.Reply.{granted, refused}
use Rattle.pe_stage.specs.declared.place.Outgoing.{Outgoing}
use Rattle.pe_stage.specs.Stage.{Stage, empty, header_in, body_in, ask_join, after_join, Written, Handout, nobody, hands, ask_turn, after_turn}
use Rattle.pe_turns.specs.Calls.{Call, join, turn, Answer, joined, turned, Seen}
use Rattle.pe_turns.specs.Turns.{turns_in, sent_from, sent}

abbrev pub answer : Stage → Call → Answer
answer s (join buffer p n) = joined (ask_join s buffer p n)
answer s (turn buffer out) = turned (ask_turn s buffer (length out))

abbrev pub after : Stage → Call → Stage
after s (join buffer p n) = after_join s p n (ask_join s buffer p n)
after s (turn buffer out) = after_turn s (ask_turn s buffer (length out))

abbrev pub stage_from : Stage → List Call → Stage
stage_from s [] = s
stage_from s (c ∷ calls) = stage_from (after s c) calls

abbrev pub answers : Stage → List Call → List Answer
answers s [] = []
answers s (c ∷ calls) = answer s c ∷ answers (after s c) calls

-- what left from a place
abbrev pub left : ℕ → Stage → List Call → List Written
left p s calls = sent p (answers s calls)

-- from an empty stage
abbrev pub plain : Seen
plain = record { held = λ calls. stage_from empty calls; told = λ before calls. answers (stage_from empty before) calls }

-- a list's bytes in each turn's buffer, as `LentUnchanged` says, from a stage on
abbrev pub Unchanged : ℕ → Outgoing → List ℕ → List ℕ → ℕ → Stage → List Call → Type 0
Unchanged p n header body count s calls =
    (some_calls : List Call) (buffer out : List ℕ) (more : List Call)
    → calls ≡ some_calls ++ turn buffer out ∷ more
    → length (left p s some_calls) < count
    → (w : Written) → answer (stage_from s some_calls) (turn buffer out) ≡ turned (granted (hands p w))
    → (header_in buffer n ≡ header) × (body_in buffer n ≡ body)

-- ---- one sequence behind another
answers_append : (s : Stage) (xs ys : List Call) → answers s (xs ++ ys) ≡ answers s xs ++ answers (stage_from s xs) ys
answers_append s [] ys = refl
answers_append s (c ∷ xs) ys = ap (λ (l : List Answer). answer s c ∷ l) (answers_append (after s c) xs ys)

pub stage_append : (s : Stage) (xs ys : List Call) → stage_from s (xs ++ ys) ≡ stage_from (stage_from s xs) ys
stage_append s [] ys = refl
stage_append s (c ∷ xs) ys = stage_append (after s c) xs ys

turns_append : (xs ys : List Answer) → turns_in (xs ++ ys) ≡ turns_in xs ++ turns_in ys
turns_append [] ys = refl
turns_append (joined r ∷ xs) ys = turns_append xs ys
turns_append (turned (granted t) ∷ xs) ys = ap (λ (l : List Handout). t ∷ l) (turns_append xs ys)
turns_append (turned (refused number value) ∷ xs) ys = turns_append xs ys

sent_append : (p : ℕ) (xs ys : List Handout) → sent_from p (xs ++ ys) ≡ sent_from p xs ++ sent_from p ys
sent_append p [] ys = refl
sent_append p (nobody ∷ xs) ys = sent_append p xs ys
sent_append p (hands q f ∷ xs) ys = go (eqb p q) (sent_append p xs ys)
  where
    go : (b : Bool) → sent_from p (xs ++ ys) ≡ sent_from p xs ++ sent_from p ys
        → cond b (f ∷ sent_from p (xs ++ ys)) (sent_from p (xs ++ ys)) ≡ cond b (f ∷ sent_from p xs) (sent_from p xs) ++ sent_from p ys
    go true e = ap (λ (l : List Written). f ∷ l) e
    go false e = e

pub left_then : (p : ℕ) (s : Stage) (xs ys : List Call) → left p s (xs ++ ys) ≡ left p s xs ++ left p (stage_from s xs) ys
left_then p s xs ys =
    ap (λ (l : List Answer). sent_from p (turns_in l)) (answers_append s xs ys)
    ∙ ap (sent_from p) (turns_append (answers s xs) (answers (stage_from s xs) ys))
    ∙ sent_append p (turns_in (answers s xs)) (turns_in (answers (stage_from s xs) ys))
