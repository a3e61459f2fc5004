-- What the stage hands out, the reassembler delivers: K8 with demand 3.
-- Assumes nothing.
use Prim.Native.Nat.{ℕ, zero, suc, ◌+◌, ◌<◌}
use mathlib.Core.List.{List, [], ◌∷◌, ◌++◌, map}
use mathlib.Core.Path.{◌≡◌, refl, sym, ap, subst, ◌∙◌}
use native.Mathlib.Omega.{arith}
use lib.ListN.{length, get_or, take}
use lib.Seq.{take_all}
use Rattle.seven_bit.specs.Reply.{granted}
use Rattle.pe_frame.specs.Write.{chunk_bytes}
use Rattle.pe_chunker.specs.Cut.{max_sysex_max, chunk_at, cut_count}
use Rattle.pe_chunker.proofs.CutLaws.{budget_between}
use Rattle.pe_chunker.proofs.Theorems.{budget_is_room}
use Rattle.pe_stage.specs.declared.place.Outgoing.{Outgoing}
use Rattle.pe_stage.specs.Stage.{empty, header_in, body_in, Written}
use Rattle.pe_run.specs.Lists.{Perm}
use Rattle.pe_run.specs.Demand.{CutInto}
use Rattle.pe_run.proofs.PermLaws.{perm_refl}
use Rattle.pe_run.proofs.Demand.{demand}
use Rattle.pe_turns.specs.Calls.{join}
use Rattle.pe_turns.specs.Turns.{sent, chunks_from, all_of}
use Rattle.pe_turns.specs.Forward.{Forwards, Forwarding}
use Rattle.pe_turns.proofs.Plain.{stage_from, plain}
use Rattle.pe_turns.proofs.Steps.{join_told}
use Rattle.pe_turns.proofs.Theorem.{told_once, taking_turns}
use Rattle.pe_turns.proofs.Lent.{seen_plain}

abbrev bytes_of : List Written → List (List ℕ)
bytes_of left = map (λ (w : Written). w.bytes) left

-- ---- the chunks of a list, and their bytes
module _ (list : Outgoing) (header body : List ℕ) (count : ℕ) where
  from_length : (k m : ℕ) → length (chunks_from list header body count k m) ≡ m
  from_length k zero = refl
  from_length k (suc m) = ap suc (from_length (suc k) m)

  bytes_length : (k m : ℕ) → length (bytes_of (chunks_from list header body count k m)) ≡ m
  bytes_length k zero = refl
  bytes_length k (suc m) = ap suc (bytes_length (suc k) m)

  bytes_at_law : (k m i : ℕ) → i < m
      → get_or (bytes_of (chunks_from list header body count k m)) i [] ≡ chunk_bytes (chunk_at list.request_id header body list.max_sysex (k + i))
  bytes_at_law k zero i l = absurd (omega arith)
  bytes_at_law k (suc m) zero l = ap (λ (j : ℕ). chunk_bytes (chunk_at list.request_id header body list.max_sysex j)) (plus k)
    where
      plus : (x : ℕ) → x ≡ x + 0
      plus x = omega arith
  bytes_at_law k (suc m) (suc i) l =
      bytes_at_law (suc k) m i (omega arith)
      ∙ ap (λ (j : ℕ). chunk_bytes (chunk_at list.request_id header body list.max_sysex j)) (plus k i)
    where
      plus : (x y : ℕ) → suc x + y ≡ x + suc y
      plus x y = omega arith

  -- they are the chunks that it is cut into
  cut_into : cut_count list.request_id header body list.max_sysex ≡ granted count
      → CutInto list.request_id header body list.max_sysex (bytes_of (all_of list header body count))
  cut_into q =
      record {
        count = q ∙ ap granted (sym (bytes_length 1 count));
        each = λ k l.
            let c : k < count = omega (arith, bytes_length 1 count) in
            budget_is_room list.request_id header body list.max_sysex count (suc k) max_sysex_max q (omega arith) (omega arith)
            (omega (arith, budget_between list.max_sysex))
            ∙ ap granted (sym (bytes_at_law 1 count k c ∙ ap (λ (j : ℕ). chunk_bytes (chunk_at list.request_id header body list.max_sysex j)) (one k)));
      }
    where
      one : (x : ℕ) → 1 + x ≡ suc x
      one x = omega arith

-- each once, in their own order
in_that_order : (xs ys : List (List ℕ)) → xs ≡ ys → Perm xs ys
in_that_order xs ys e = subst (λ (zs : List (List ℕ)). Perm xs zs) e (perm_refl xs)

-- ---- the stage itself
forwards : Forwards plain
forwards before buffer p list count calls asked u all n t few long earlier peer first rest told f r =
    let since = before ++ join buffer p list ∷ [] in
    let header = header_in buffer list in
    let body = body_in buffer list in
    let left = sent p (plain.told since calls) in
    let order = (taking_turns.leaves before buffer p list count calls asked u).in_order in
    let cut = (join_told (stage_from empty before) buffer p list count (told_once asked)).3 in
    let len = from_length list header body count 1 count in
    let whole : take count left ≡ all_of list header body count = order ∙ take_all (length left) (all_of list header body count) (omega (arith, len)) in
    (demand n t few long).delivery earlier peer list.request_id header body list.max_sysex first rest told
    (record {
      chunks = bytes_of (all_of list header body count);
      cut = cut_into list header body count cut;
      fits = f.fits;
      first_of_them = f.first_of_them;
      room = f.room;
      each_once = in_that_order _ _ (f.as_they_left ∙ ap bytes_of whole);
      spared = f.spared;
    })
    r

pub forwarding : Forwarding
forwarding words l = subst Forwards (sym (seen_plain words l)) forwards
