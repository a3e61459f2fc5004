-- Document 01's marked examples and K6's of document 02 hold.
-- Assumes nothing.
use Prim.Native.Nat.{ℕ, zero, suc, ◌+◌, ◌-◌, ◌*◌, ◌/◌, min, ◌≤◌}
use mathlib.Core.Bool.{true}
use mathlib.Core.List.{List, [], ◌∷◌}
use mathlib.Core.Path.{◌≡◌, refl, ap, ◌∙◌}
use native.Mathlib.Omega.{arith}
use lib.ListN.{length, drop}
use Rattle.seven_bit.specs.Parts.{pieces, joined}
use Rattle.seven_bit.specs.Reply.{granted, refused}
use Rattle.seven_bit.specs.SevenBit.{is_seven_bit, number_of, bytes_of}
use Rattle.midici_core.specs.Muid.{read_muid}
use Rattle.pe_wire.specs.Wire.{read_u14, write_u14}
use Rattle.pe_frame.specs.Chunk.{within_count, read_end, read_fields, read_chunk}
use Rattle.pe_frame.specs.Write.{chunk_bytes}
use Rattle.pe_chunker.specs.Cut.{max_sysex_max, clamped, budget, later_capacity, first_capacity, ask_first, body_pieces, chunk_at, cut_count}
use Rattle.pe_chunker.proofs.AskLaws.{cut_long, cut_wide}
use Rattle.pe_chunker.proofs.PieceLaws.{pieces_count}
use Rattle.pe_chunker.proofs.CutLaws.{budget_between}
use Rattle.pe_chunker.proofs.SplitLaws.{count_granted}
use Rattle.pe_chunker.proofs.Theorems.{property_length, budget_is_room, chunk_reads_back}
use Rattle.pe_mcoded7.specs.Mcoded7.{read_mcoded7, ask_groups, ask_group, groups, decoded, group_data, restored}
use Rattle.pe_controller.specs.Controller.{stepped}
use Rattle.examples.specs.Examples.{carried_from, carried, Holds, AllHold, examples}

-- how many bytes of the body chunk k and those after it carry, n of them
abbrev sizes : (h b m n k : ℕ) → List ℕ
sizes h b m zero k = []
sizes h b m (suc n) k = (min (k * m - h) b - min ((k - 1) * m - h) b) ∷ sizes h b m n (k + 1)

-- the cuts of the table
module _ (id : ℕ) (header body : List ℕ) (i : id ≤ 127) (s : is_seven_bit header ≡ true) (t : is_seven_bit body ≡ true) where
  -- lengths that are known, and a header that fits
  module _ (limit h b m count : ℕ) (header_is : length header ≡ h) (body_is : length body ≡ b) (later : later_capacity limit ≡ m)
      (receivable : h ≤ 4096) (fits : h ≤ m) (chunks : 1 + (b - (m - h) + (m - 1)) / m ≡ count) (few : count ≤ 16383) where
    counted : length (body_pieces limit (length header) body) ≡ count
    counted = pieces_count limit (length header) body ∙ rw (header_is, body_is, later) chunks

    all_granted : cut_count id header body limit ≡ granted count
    all_granted =
        count_granted id header body limit
        (record {
          low = i;
          header_bytes = s;
          body_bytes = t;
          receivable = rw header_is receivable;
          fits = rw (header_is, later) fits;
          few = rw counted few;
        })
        ∙ ap granted counted

    -- the property of each chunk from k on, read back
    carried_from_law : (n k : ℕ) → 1 ≤ k → n + k ≡ count + 1 → carried_from id header body limit n k ≡ granted (sizes h b m n k)
    unfolding carried_from
    carried_from_law zero k one e = refl
    carried_from_law (suc n) k one e =
        let w = budget_is_room id header body limit count k max_sysex_max all_granted one (omega arith) (let t = budget_between limit in omega arith) in
        let r = chunk_reads_back id header body limit k max_sysex_max _ w in
        let c : read_chunk (chunk_bytes (chunk_at id header body limit k)) ≡ granted (chunk_at id header body limit k) =
        rw r.0 (ap granted r.1) in
        let p : length (chunk_at id header body limit k).property ≡ min (k * m - h) b - min ((k - 1) * m - h) b =
        property_length id header body limit count k all_granted one ∙ rw (header_is, body_is, later) refl in
        rw (w, c, carried_from_law n (k + 1) (omega arith) (omega arith), p)

    cut_carried : carried id header body limit ≡ granted (sizes h b m count 1)
    unfolding carried
    cut_carried = rw all_granted (carried_from_law count 1 (omega arith) refl)

  five_chunks : length header ≡ 48 → length body ≡ 1000 → carried id header body 256 ≡ granted (184 ∷ 232 ∷ 232 ∷ 232 ∷ 120 ∷ [])
  unfolding later_capacity budget clamped
  five_chunks eh eb = cut_carried 256 48 1000 232 5 eh eb refl (omega arith) (omega arith) refl (omega arith)

  five_larger : length header ≡ 48 → length body ≡ 65536 → carried id header body 16384 ≡ granted (16312 ∷ 16360 ∷ 16360 ∷ 16360 ∷ 144 ∷ [])
  unfolding later_capacity budget clamped
  five_larger eh eb = cut_carried 16384 48 65536 16360 5 eh eb refl (omega arith) (omega arith) refl (omega arith)

  longest_header : length header ≡ 4096 → length body ≡ 1000 → carried id header body 16384 ≡ granted (1000 ∷ [])
  unfolding later_capacity budget clamped
  longest_header eh eb = cut_carried 16384 4096 1000 16360 1 eh eb refl (omega arith) (omega arith) refl (omega arith)

  none_in_the_first : length header ≡ 104 → length body ≡ 200 → carried id header body 128 ≡ granted (0 ∷ 104 ∷ 96 ∷ [])
  unfolding later_capacity budget clamped
  none_in_the_first eh eb = cut_carried 128 104 200 104 3 eh eb refl (omega arith) (omega arith) refl (omega arith)

  too_wide : length header ≡ 105 → length body ≡ 200 → carried id header body 128 ≡ refused 4 0
  unfolding carried cut_count later_capacity budget clamped
  too_wide eh eb =
      let count = length (body_pieces 128 (length header) body) in
      rw (cut_wide id header body 128 (granted count) i s t (omega arith) (omega arith))

  too_long : length header ≡ 4097 → length body ≡ 1000 → carried id header body 16384 ≡ refused 4 0
  unfolding carried cut_count
  too_long eh eb =
      let count = length (body_pieces 16384 (length header) body) in
      rw (cut_long id header body 16384 (granted count) i s t (omega arith))

-- All of them hold.
pub examples_hold : AllHold examples
unfolding Holds AllHold examples within_count read_end read_fields clamped budget later_capacity first_capacity ask_first read_u14 write_u14 read_muid
    read_mcoded7 ask_groups ask_group groups decoded group_data restored pieces joined is_seven_bit number_of bytes_of stepped
examples_hold =
    let from_21 : AllHold (drop 21 examples) = (refl, (refl, (refl, tt))) in
    let from_18 : AllHold (drop 18 examples) = (five_larger, (longest_header, (too_long, from_21))) in
    let from_13 : AllHold (drop 13 examples) = (refl, (refl, (none_in_the_first, (too_wide, (five_chunks, from_18))))) in
    let from_7 : AllHold (drop 7 examples) = (refl, (refl, (refl, (refl, (refl, (refl, from_13)))))) in
    let from_3 : AllHold (drop 3 examples) = (refl, (refl, (refl, (refl, from_7)))) in
    (refl, (refl, (refl, from_3)))
