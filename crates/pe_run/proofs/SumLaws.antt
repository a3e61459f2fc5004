-- The sums over all slots are those of the value: bytes held, and how many are open.
-- Assumes nothing.
use Prim.Native.Nat.{ℕ, zero, suc, ◌+◌, ◌≤◌, ◌<◌}
use mathlib.Core.Bool.{Bool, true, false, cond}
use mathlib.Core.List.{[], ◌∷◌, ◌++◌, append-nil}
use mathlib.Core.Path.{◌≡◌, refl, sym, ap, ◌∙◌}
use native.Mathlib.Omega.{arith}
use lib.ListN.{length, length-append}
use Rattle.pe_reassembler.specs.declared.shape.Shape.{Shape}
use Rattle.pe_reassembler.specs.Table.{is_active}
use Rattle.pe_reassembler.specs.Calls.{open_count, slot_bytes, over_slots}
use Rattle.pe_reassembler.proofs.SoundLaws.{SlotsSound}
use Rattle.pe_run.specs.Lists.{Perm}
use Rattle.pe_run.specs.Model.{Entry, Model}
use Rattle.pe_run.specs.Calls.{entry_bytes, bytes_open}
use Rattle.pe_run.specs.Run.{Table, LongFor}
use Rattle.pe_run.proofs.Value.{cell_at, rec_at, recs_from, value_of, cell_open, recs_open, opens}
use Rattle.pe_run.proofs.PermLaws.{perm_sum}
use Rattle.pe_run.proofs.CellLaws.{peer_in, entry_at, cell_open_law, entry_bytes_law}

-- ---- sums by place
module _ (g : Model → ℕ) (none_held : g [] ≡ 0) (both_held : (xs ys : Model) → g (xs ++ ys) ≡ g xs + g ys) (shape : Shape) (t : Table) (f : ℕ → ℕ → ℕ) where
  four_held : (c0 c1 c2 c3 rest : Model) → g ((c0 ++ (c1 ++ (c2 ++ (c3 ++ [])))) ++ rest) ≡ (g c0 + g c1 + g c2 + g c3) + g rest
  four_held c0 c1 c2 c3 rest =
      rw (append-nil c3, both_held (c0 ++ (c1 ++ (c2 ++ c3))) rest, both_held c0 (c1 ++ (c2 ++ c3)), both_held c1 (c2 ++ c3), both_held c2 c3) (omega arith)

  sums_from : (p k : ℕ) → ((i s : ℕ) → p ≤ i → i < p + k → s < 4 → f i s ≡ g (cond (is_active t.numbers i s) (entry_at shape t i s ∷ []) []))
      → over_slots f (p + k) ≡ over_slots f p + g (recs_open (recs_from shape t p k))
  unfolding recs_from rec_at
  sums_from p zero h =
      let z : p + 0 ≡ p = omega arith in
      rw (z, none_held) (omega arith)
  sums_from p (suc k) h =
      let c : ℕ → Model = λ s. cell_open (peer_in t p) (cell_at shape t p s) in
      let one : (s : ℕ) → s < 4 → f p s ≡ g (c s) = λ s l. h p s (omega arith) (omega arith) l ∙ ap g (sym (cell_open_law shape t p s)) in
      let rest = sums_from (suc p) k (λ i s a b l. h i s (omega arith) (omega arith) l) in
      let z : p + suc k ≡ suc p + k = omega arith in
      ap (over_slots f) z ∙ rest
      ∙ more (g (recs_open (recs_from shape t (suc p) k))) (g (c 0)) (g (c 1)) (g (c 2)) (g (c 3)) (one 0 (omega arith)) (one 1 (omega arith))
      (one 2 (omega arith)) (one 3 (omega arith))
      ∙ ap (λ (r : ℕ). over_slots f p + r) (sym (four_held (c 0) (c 1) (c 2) (c 3) (recs_open (recs_from shape t (suc p) k))))
    where
      more : (r a b c d : ℕ) → f p 0 ≡ a → f p 1 ≡ b → f p 2 ≡ c → f p 3 ≡ d → over_slots f (suc p) + r ≡ over_slots f p + ((a + b + c + d) + r)
      more r a b c d ea eb ec ed = unfold over_slots in (omega arith)

  pub sums_by : ((p s : ℕ) → p < shape.max_peers → s < 4 → f p s ≡ g (cond (is_active t.numbers p s) (entry_at shape t p s ∷ []) []))
      → over_slots f shape.max_peers ≡ g (opens (value_of shape t))
  unfolding value_of over_slots
  sums_by h =
      let z : 0 + shape.max_peers ≡ shape.max_peers = omega arith in
      ap (over_slots f) (sym z) ∙ sums_from 0 shape.max_peers (λ p s a b l. h p s (omega arith) l) ∙ omega arith

-- ---- the bytes that open slots hold
bytes_both : (xs ys : Model) → bytes_open (xs ++ ys) ≡ bytes_open xs + bytes_open ys
bytes_both [] ys = omega arith
bytes_both (x ∷ xs) ys = rw (bytes_both xs ys) (group (entry_bytes x) (bytes_open xs) (bytes_open ys))
  where
    group : (a b c : ℕ) → a + (b + c) ≡ a + b + c
    group a b c = omega arith

pub bytes_held : (shape : Shape) (t : Table) → LongFor shape t → SlotsSound shape t.numbers t.index
    → over_slots (slot_bytes t.numbers) shape.max_peers ≡ bytes_open (opens (value_of shape t))
unfolding slot_bytes
bytes_held shape t long sound =
    sums_by bytes_open refl bytes_both shape t (slot_bytes t.numbers)
    (λ p s h k. one (entry_at shape t p s) (is_active t.numbers p s) _ (entry_bytes_law shape t long p s h k (sound.each p s h k)))
  where
    one : (e : Entry) (b : Bool) (bytes : ℕ) → entry_bytes e ≡ bytes → cond b bytes 0 ≡ bytes_open (cond b (e ∷ []) [])
    one e true bytes q = sum (entry_bytes e) q
      where
        sum : (a : ℕ) → a ≡ bytes → bytes ≡ a + 0
        sum a q = omega arith
    one e false bytes q = refl

-- ---- how many are open
pub count_open : (shape : Shape) (t : Table) → over_slots (λ (p s : ℕ). open_count t.numbers p s) shape.max_peers ≡ length (opens (value_of shape t))
count_open shape t =
    sums_by (λ (b : Model). length b) refl (λ xs ys. length-append xs ys) shape t (λ (p s : ℕ). open_count t.numbers p s)
    (λ p s h k. one (entry_at shape t p s) (is_active t.numbers p s))
  where
    one : (e : Entry) (b : Bool) → cond b 1 0 ≡ length (cond b (e ∷ []) [])
    one e true = refl
    one e false = refl

-- ---- in any order
pub perm_bytes : {xs ys : Model} → Perm xs ys → bytes_open xs ≡ bytes_open ys
perm_bytes p = perm_sum entry_bytes bytes_open (λ e b. refl) p
