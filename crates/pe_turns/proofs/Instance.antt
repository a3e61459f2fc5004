-- The instance's run, and what K8 says of it.
-- Assumes nothing.
use Prim.Native.Nat.{ℕ, zero, suc, ◌≤◌}
use mathlib.Core.Bool.{true, false}
use mathlib.Core.List.{List, [], ◌∷◌, ◌++◌}
use mathlib.Core.Path.{◌≡◌, refl, ap, subst, ◌∙◌}
use native.Mathlib.Omega.{arith}
use lib.ListN.{length, replicate, take}
use Rattle.seven_bit.specs.Reply.{granted, refused}
use Rattle.seven_bit.specs.SevenBit.{is_seven_bit}
use Rattle.pe_frame.specs.Write.{chunk_len}
use Rattle.pe_chunker.specs.Cut.{clamped, budget, later_capacity, first_capacity, cut_up, body_pieces, chunk_at, ask_first, ask_cut, cut_count, cut_chunk}
use Rattle.pe_stage.specs.declared.place.Outgoing.{Outgoing}
use Rattle.pe_stage.specs.Stage.{is_free, place_at, is_inside, header_in, body_in, count_in, chunk_in, ask_join, first_waiting, nobody, hands, ask_chunk, ask_turn}
use Rattle.pe_turns.specs.Calls.{Call, join, turn, Answer, joined, turned, Seen, seen_on}
use Rattle.pe_turns.specs.Turns.{turns_in, is_served, sent, chunk_of, all_of, LentUnchanged, Leaves}
use Rattle.pe_turns.specs.Instance.{lent_words, buffer, long, brief, before, calls}
use Rattle.pe_turns.proofs.Plain.{plain}
use Rattle.pe_turns.proofs.Lent.{seen_plain, k8}

-- every turn's buffer has the list
abbrev AllLent : Outgoing → List ℕ → List ℕ → List Call → Type 0
AllLent n header body [] = Unit {0}
AllLent n header body (join b p m ∷ cs) = AllLent n header body cs
AllLent n header body (turn b out ∷ cs) = ((header_in b n ≡ header) × (body_in b n ≡ body)) × AllLent n header body cs

at_turn : (n : Outgoing) (header body : List ℕ) (xs : List Call) (b out : List ℕ) (more : List Call) → AllLent n header body (xs ++ turn b out ∷ more)
    → (header_in b n ≡ header) × (body_in b n ≡ body)
at_turn n header body [] b out more a = a.0
at_turn n header body (join d p m ∷ xs) b out more a = at_turn n header body xs b out more a
at_turn n header body (turn d o ∷ xs) b out more a = at_turn n header body xs b out more a.1

lent_again : (n : Outgoing) (header body b out : List ℕ) (k : ℕ) → header_in b n ≡ header → body_in b n ≡ body
    → AllLent n header body (replicate k (turn b out))
lent_again n header body b out zero h e = tt
lent_again n header body b out (suc k) h e = ((h, e), lent_again n header body b out k h e)

lent_all : (s : Seen) (p : ℕ) (n : Outgoing) (header body : List ℕ) (count : ℕ) (since cs : List Call) → AllLent n header body cs
    → LentUnchanged s p n header body count since cs
lent_all s p n header body count since cs a = λ xs b out more e l w q. at_turn n header body xs b out more (subst (AllLent n header body) e a)

-- ---- what is seen of the lent numbers is what is seen of the stage itself
seen : seen_on lent_words ≡ plain
seen = seen_plain lent_words (omega arith)

abbrev pub since : List Call
since = before ++ join buffer 3 long ∷ []

-- the answers: to the calls before, to the join, and to those behind it
before_told : plain.told [] before ≡ turned (granted nobody) ∷ joined (refused 38 0) ∷ []
unfolding ask_turn first_waiting ask_join
before_told = refl

abbrev pub count : ℕ
count = 2

join_told : plain.told before (join buffer 3 long ∷ []) ≡ joined (granted count) ∷ []
unfolding ask_turn first_waiting ask_join count_in is_inside cut_count ask_cut ask_first is_seven_bit body_pieces cut_up first_capacity later_capacity budget clamped
join_told = refl

calls_told : plain.told since calls
    ≡ joined (refused 39 0)
    ∷ turned (granted (hands 3 (chunk_of long (header_in buffer long) (body_in buffer long) 2 1)))
    ∷ joined (granted 1)
    ∷ turned (refused 3 0)
    ∷ turned (granted (hands 7 (chunk_of brief (header_in buffer brief) (body_in buffer brief) 1 1)))
    ∷ turned (granted (hands 3 (chunk_of long (header_in buffer long) (body_in buffer long) 2 2)))
    ∷ replicate 29 (turned (granted nobody))
unfolding ask_turn first_waiting ask_chunk ask_join count_in chunk_in is_inside cut_count cut_chunk ask_cut ask_first is_seven_bit
calls_told = unfold body_pieces cut_up first_capacity later_capacity budget clamped chunk_at chunk_len in refl

-- ---- the hypotheses, of the lent numbers, and what follows
pub instance : ((seen_on lent_words).told before (join buffer 3 long ∷ []) ≡ joined (granted count) ∷ [])
    × LentUnchanged (seen_on lent_words) 3 long (header_in buffer long) (body_in buffer long) count since calls
instance = (
  ap (λ (s : Seen). s.told before (join buffer 3 long ∷ [])) seen ∙ join_told,
  lent_all (seen_on lent_words) 3 long (header_in buffer long) (body_in buffer long) count since calls
      ((refl, refl), ((refl, refl), ((refl, refl), ((refl, refl), lent_again long (header_in buffer long) (body_in buffer long) buffer [] 29 refl refl)))),
)

pub instance_leaves : Leaves (seen_on lent_words) 3 long (header_in buffer long) (body_in buffer long) count since calls
instance_leaves = (k8 lent_words (omega arith)).leaves before buffer 3 long count calls instance.0 instance.1

-- both chunks have left
two_left : length (sent 3 ((seen_on lent_words).told since calls)) ≡ 2
two_left = ap (λ (s : Seen). length (sent 3 (s.told since calls))) seen ∙ ap (λ (told : List Answer). length (sent 3 told)) calls_told

pub both_in_order : take 2 (sent 3 ((seen_on lent_words).told since calls)) ≡ all_of long (header_in buffer long) (body_in buffer long) 2
both_in_order = instance_leaves.in_order ∙ ap (λ (k : ℕ). take k (all_of long (header_in buffer long) (body_in buffer long) 2)) two_left

-- ---- of all that was told
turns_told : length (turns_in ((seen_on lent_words).told since calls)) ≡ 32
turns_told = ap (λ (s : Seen). length (turns_in (s.told since calls))) seen ∙ ap (λ (told : List Answer). length (turns_in told)) calls_told

pub all_left : count ≤ length (sent 3 ((seen_on lent_words).told since calls))
all_left = instance_leaves.complete (omega (arith, turns_told))

-- the first list waits once it has joined, and is served
waits : is_free (place_at (plain.held since) 3) ≡ false
unfolding ask_turn first_waiting ask_join count_in is_inside cut_count ask_cut ask_first is_seven_bit body_pieces cut_up first_capacity later_capacity budget clamped
waits = refl

pub served_soon : is_served 3 (take 16 (turns_in ((seen_on lent_words).told since calls))) ≡ true
served_soon =
    (k8 lent_words (omega arith)).served since 3 calls (ap (λ (s : Seen). is_free (place_at (s.held since) 3)) seen ∙ waits) (omega (arith, turns_told))
