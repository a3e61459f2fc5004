-- Demand 3, proved: every answer of every run is the model's, no peer has more than four open, no two open slots share peer and id, and a list
-- whose chunks arrive is handed out.
-- Assumes nothing.
use Prim.Native.Nat.{ℕ, ◌+◌, ◌≤◌}
use mathlib.Core.Bool.{true, ◌&&◌}
use mathlib.Core.Option.{none}
use mathlib.Core.List.{List, [], ◌∷◌, map}
use mathlib.Core.Path.{◌≡◌, refl}
use native.Mathlib.Omega.{arith}
use lib.Dec.{eqb}
use lib.ListN.{length}
use Rattle.seven_bit.specs.Parts.{joined}
use Rattle.seven_bit.specs.Reply.{granted}
use Rattle.seven_bit.specs.SevenBit.{is_seven_bit}
use Rattle.pe_chunker.specs.Split.{all_chunks, cut_list}
use Rattle.pe_chunker.specs.Cut.{max_sysex_max, clamped, budget, Cut}
use Rattle.pe_chunker.proofs.CutLaws.{budget_between, later_is}
use Rattle.pe_chunker.proofs.SplitLaws.{list_granted}
use Rattle.pe_chunker.proofs.Theorems.{split_count, split_each}
use Rattle.pe_reassembler.specs.declared.shape.Shape.{Shape}
use Rattle.pe_reassembler.specs.Open.{Shown, open_slots}
use Rattle.pe_run.specs.Lists.{tally}
use Rattle.pe_run.specs.Model.{Model, Clocked, start, is_of, find, acted}
use Rattle.pe_run.specs.Calls.{Call, Answer, act_of, model_from, model_after, shown_of, AllRight}
use Rattle.pe_run.specs.Run.{Table, LongFor, made, step, table_from, Run}
use Rattle.pe_run.specs.Demand.{full_size, CutInto, NoneTwice, Demand}
use Rattle.pe_run.proofs.Value.{value_of, opens}
use Rattle.pe_run.proofs.ModelLaws.{find_none_head, find_none_tail, Unique, perm_unique, Four, four_step}
use Rattle.pe_run.proofs.PermLaws.{perm_sym}
use Rattle.pe_run.proofs.RowLaws.{open_rows_law}
use Rattle.pe_run.proofs.Refine.{four_open}
use Rattle.pe_run.proofs.Kept.{Kept, kept_new, step_kept, right}
use Rattle.pe_run.proofs.Ahead.{long_enough}
use Rattle.pe_run.proofs.Chunks.{pieces_few}
use Rattle.pe_run.proofs.Deliver.{deliver}

-- of the rows that show what is open, as many are a peer's
tally_shown : (peer : ℕ) (b : Model) → tally (λ (r : Shown). eqb peer r.peer) (map shown_of b) ≡ tally (is_of peer) b
tally_shown peer [] = refl
tally_shown peer (e ∷ b) = rw (tally_shown peer b)

-- and where each peer and request id is there once, no two rows share them
none_shown : (peer id : ℕ) (b : Model) → find peer id b ≡ none → tally (λ (r : Shown). eqb peer r.peer && eqb id r.request_id) (map shown_of b) ≡ 0
none_shown peer id [] h = refl
none_shown peer id (e ∷ b) h = rw (find_none_head peer id e b h) (none_shown peer id b (find_none_tail peer id e b h))

apart_shown : (b : Model) → Unique b → NoneTwice (map shown_of b)
apart_shown [] u = tt
apart_shown (e ∷ b) u = (none_shown e.peer e.request_id b u.0, apart_shown b u.1)

-- ---- any shape
module _ (shape : Shape) where
  pub kept_all : (t : Table) (b : Clocked) (calls : List Call) → Kept shape t b → Kept shape (table_from shape t calls) (model_from shape b calls)
  kept_all t b [] k = k
  kept_all t b (c ∷ calls) k = kept_all (step shape t c) (acted shape b (act_of shape c)) calls (step_kept shape t b k c)

  all_right : (t : Table) (b : Clocked) (calls : List Call) (told : List Answer) → Kept shape t b → Run shape t calls told → AllRight shape b calls told
  all_right t b [] [] k r = tt
  all_right t b [] (a ∷ told) k r = r
  all_right t b (c ∷ calls) [] k r = r
  all_right t b (c ∷ calls) (a ∷ told) k r =
      (right shape t b k c a r.0, all_right (step shape t c) (acted shape b (act_of shape c)) calls told (step_kept shape t b k c) r.1)

  -- every answer is the model's, before and from any moment on
  pub answers_right : (t : Table) → LongFor shape t → (before calls : List Call) (told : List Answer)
      → Run shape (table_from shape (made shape t) before) calls told → AllRight shape (model_after shape before) calls told
  answers_right t long before calls told r =
      all_right (table_from shape (made shape t) before) (model_after shape before) calls told (kept_all (made shape t) start before (kept_new shape t long)) r

  four_all : (b : Clocked) (calls : List Call) → Four b.model → Four (model_from shape b calls).model
  four_all b [] f = f
  four_all b (c ∷ calls) f = four_all (acted shape b (act_of shape c)) calls (four_step shape b (act_of shape c) f)

  -- no peer ever has more than four slots open
  pub four_slots : (t : Table) → LongFor shape t → (calls : List Call) (peer : ℕ)
      → tally (λ (r : Shown). eqb peer r.peer) (open_slots shape (table_from shape (made shape t) calls).numbers) ≤ 4
  four_slots t long calls peer =
      let k = kept_all (made shape t) start calls (kept_new shape t long) in
      rw (
        open_rows_law shape (table_from shape (made shape t) calls) k.long k.sound,
        tally_shown peer (opens (value_of shape (table_from shape (made shape t) calls))),
      )
      (four_open k.rel (four_all start calls (λ p. omega arith)) peer)

  -- no two open slots share peer and request id
  pub slots_apart : (t : Table) → LongFor shape t → (calls : List Call) → NoneTwice (open_slots shape (table_from shape (made shape t) calls).numbers)
  slots_apart t long calls =
      let k = kept_all (made shape t) start calls (kept_new shape t long) in
      rw (open_rows_law shape (table_from shape (made shape t) calls) k.long k.sound)
      (apart_shown (opens (value_of shape (table_from shape (made shape t) calls))) (perm_unique (perm_sym k.rel.same) k.rel.unique))

-- A list that is cut into all its chunks at once is one of which delivery speaks.
pub split_into : (request_id : ℕ) (header body : List ℕ) (limit room places : ℕ) (chunks : List (List ℕ))
    → cut_list request_id header body limit room places ≡ granted chunks → CutInto request_id header body limit chunks
split_into request_id header body limit room places chunks q =
    record {
      count = split_count request_id header body limit room places chunks q;
      each = λ k l. split_each request_id header body limit room places chunks q k _ l (omega (arith, budget_between limit));
    }

-- Every list that a full-size table has room for is cut into such chunks, where its header fits beside nine bytes,
pub room_into : (request_id : ℕ) (header body : List ℕ) (limit : ℕ) → request_id ≤ 127 → is_seven_bit header ≡ true → is_seven_bit body ≡ true
    → length header ≤ 4096 → length body ≤ 65536 → length header + 9 ≤ budget limit
    → CutInto request_id header body limit (all_chunks request_id header body limit)
room_into request_id header body limit i s t r b h =
    let chunks = all_chunks request_id header body limit in
    let few = pieces_few limit (length header) body b in
    let cut : Cut request_id header body limit =
    record { low = i; header_bytes = s; body_bytes = t; receivable = r; fits = omega (arith, later_is limit); few = omega arith } in
    split_into request_id header body limit (length (joined chunks)) (length chunks) chunks
    (list_granted request_id header body limit (length (joined chunks)) (length chunks) cut (omega arith) (omega arith))

-- and at the largest limit it always does.
pub largest_into : (request_id : ℕ) (header body : List ℕ) → request_id ≤ 127 → is_seven_bit header ≡ true → is_seven_bit body ≡ true
    → length header ≤ 4096 → length body ≤ 65536 → CutInto request_id header body max_sysex_max (all_chunks request_id header body max_sysex_max)
unfolding budget clamped
largest_into request_id header body i s t r b = room_into request_id header body max_sysex_max i s t r b (omega arith)

-- ---- full size
pub demand : Demand
demand n t few long =
    record {
      answers = λ calls told r. answers_right (full_size n) t enough [] calls told r;
      four = four_slots (full_size n) t enough;
      apart = slots_apart (full_size n) t enough;
      delivery = λ before peer request_id header body limit first rest told d r.
          deliver n (model_after (full_size n) before) peer request_id header body limit first rest told d
          (answers_right (full_size n) t enough before (first ∷ rest) told r);
    }
  where
    enough : LongFor (full_size n) t
    enough = long_enough n t few long
