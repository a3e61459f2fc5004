-- A tape written from commands reads back as them, and what is read of a tape is written again unchanged.
-- Assumes nothing.
use Prim.Native.Nat.{ℕ, suc, ◌+◌, ◌%◌, ◌≤◌}
use mathlib.Core.List.{List, [], ◌∷◌, ◌++◌, append_assoc}
use Rattle.std.specs.Prelude.{Option, Some}
use mathlib.Core.Path.{◌≡◌, refl, sym, ap, ◌∙◌}
use native.Mathlib.Omega.{arith}
use borrow.Author.Tests.{le-leb, leb-true}
use lib.Dec.{leb}
use lib.ListN.{length, get_or, take, drop, take-append-drop}
use lib.Seq.{take-add, drop-drop, take-length, drop-append_seam}
use Rattle.seven_bit.specs.Parts.{part}
use Rattle.seven_bit.specs.Reply.{Reply, granted, refused}
use Rattle.seven_bit.proofs.PartLaws.{length_part, part_next, part_none}
use Rattle.seven_bit.proofs.ReplyLaws.{asked, refused_not}
use Rattle.pe_tape.specs.Number.{operand_of, operand_bytes, AreBytes}
use Rattle.pe_tape.specs.Command.{Command, feed, cancel, drop_peer, poll, Taken, taken, chunk_len, read_feed, read_cancel, read_drop, read_poll}
use Rattle.pe_tape.specs.Command.{read_command, write_command, Fits}
use Rattle.pe_tape.specs.Tape.{with_command, tape_of, Ends, AllFit, one_more, write_tape}
use Rattle.pe_tape.proofs.NumberLaws.{operand_bytes_law, operand_again, bytes_at_law, bytes_drop}
use Rattle.pe_tape.proofs.PlayLaws.{by_kind, tape_next}
use Rattle.pe_tape.proofs.ReplayLaws.{read_front, by_commands, tape_ends, drop_none}

-- ---- written and read again
feed_read : (s chunk : List ℕ) (peer now_ms : ℕ) → operand_of (part 0 4 s) ≡ peer → operand_of (part 4 8 s) ≡ now_ms → chunk_len s ≡ length chunk
    → drop 14 s ≡ chunk → length s ≡ 14 + length chunk → read_feed s ≡ taken (feed peer now_ms chunk) (suc (length s))
unfolding read_feed
feed_read s chunk peer now_ms p= n= l= d= s= =
    let n : 15 + length chunk ≡ suc (length s) = omega arith in
    rw (p=, n=, l=, d=, take-length chunk, le-leb 14 (length s) (omega arith), le-leb (14 + length chunk) (length s) (omega arith), n)

written_read : (c : Command) → Fits c → read_command (write_command c) ≡ taken c (length (write_command c))
unfolding read_command read_feed read_cancel read_drop read_poll write_command operand_bytes
written_read (feed peer now_ms chunk) h =
    feed_read (operand_bytes 4 peer ++ (operand_bytes 8 now_ms ++ (operand_bytes 2 (length chunk) ++ chunk))) chunk peer now_ms
    (operand_bytes_law 4 peer h.0) (operand_bytes_law 8 now_ms h.1) (operand_bytes_law 2 (length chunk) h.2) (drop_none chunk) (omega arith)
written_read (cancel peer request_id) h =
    let r : request_id % 256 ≡ request_id = omega arith in
    ap (λ (n : ℕ). taken (cancel n (request_id % 256)) 6) (operand_bytes_law 4 peer h.0) ∙ ap (λ (n : ℕ). taken (cancel peer n) 6) r
written_read (drop_peer peer) h = ap (λ (n : ℕ). taken (drop_peer n) 5) (operand_bytes_law 4 peer h)
written_read (poll now_ms) h = ap (λ (n : ℕ). taken (poll n) 9) (operand_bytes_law 8 now_ms h)

pub command_back : (c : Command) → Fits c → (ys : List ℕ) → read_command (write_command c ++ ys) ≡ taken c (length (write_command c))
command_back c h ys = read_front (write_command c) ys _ (written_read c h)

pub reads_back : (cs : List Command) → AllFit cs → tape_of (write_tape cs) ≡ record { commands = cs; end = granted 0; rest = [] }
unfolding write_tape
reads_back [] h = tape_ends (Ends.at_end refl)
reads_back (c ∷ cs) (one_more h hs) =
    tape_next (write_command c ++ write_tape cs) _ (command_back c h (write_tape cs))
    ∙ ap (λ (s : List ℕ). with_command c (tape_of s)) (drop-append_seam (write_command c) (write_tape cs))
    ∙ ap (with_command c) (reads_back cs hs)

-- ---- read and written again
-- two parts, the second where the first ends, are one
part_part : (a j k : ℕ) (s : List ℕ) → part a j s ++ part (a + j) k s ≡ part a (j + k) s
part_part a j k s = ap (λ (l : List ℕ). part a j s ++ take k l) (sym (drop-drop j a s)) ∙ sym (take-add j k (drop a s))

module _ (s : List ℕ) (b : AreBytes s) where
  feed_again : 14 + chunk_len s ≤ length s
      → write_command (feed (operand_of (part 0 4 s)) (operand_of (part 4 8 s)) (part 14 (chunk_len s) s)) ≡ 1 ∷ part 0 (14 + chunk_len s) s
  unfolding write_command
  feed_again h =
      let n : 4 + (8 + (2 + chunk_len s)) ≡ 14 + chunk_len s = omega arith in
      rw (
        operand_again 0 4 s (omega arith) b,
        operand_again 4 8 s (omega arith) b,
        length_part 14 (chunk_len s) s h,
        operand_again 12 2 s (omega arith) b,
        part_part 12 2 (chunk_len s) s,
        part_part 4 8 (2 + chunk_len s) s,
        part_part 0 4 (8 + (2 + chunk_len s)) s,
        n,
      )

  cancel_again : 5 ≤ length s → write_command (cancel (operand_of (part 0 4 s)) (get_or s 4 0)) ≡ 2 ∷ part 0 5 s
  unfolding write_command operand_bytes
  cancel_again h =
      let r : get_or s 4 0 % 256 ≡ get_or s 4 0 = omega (arith, bytes_at_law s b 4) in
      let l : get_or s 4 0 ∷ [] ≡ part 4 1 s = rw (part_next 4 0 s 0 (omega arith), part_none 5 s) in
      ap (λ (l : List ℕ). 2 ∷ (l ++ (get_or s 4 0 % 256 ∷ []))) (operand_again 0 4 s (omega arith) b) ∙ rw (r, l, part_part 0 4 1 s)

-- a command that is read is written from its operands
as_read : (k : ℕ) (s : List ℕ) (c : Command) (len n : ℕ) (t : Taken) → len ≡ suc n → taken c len ≡ granted (Some t) → write_command c ≡ k ∷ part 0 n s
    → write_command t.command ≡ take t.len (k ∷ s)
as_read k s c len n t e q w =
    let c= : c ≡ t.command = cc in
    let l= : suc n ≡ t.len = cc in
    ap write_command (sym c=) ∙ w ∙ ap (λ (l : List ℕ). k ∷ take n l) (drop_none s) ∙ ap (λ (j : ℕ). take j (k ∷ s)) l=

pub written_again : (s : List ℕ) (t : Taken) → AreBytes s → read_command s ≡ granted (Some t) → write_command t.command ≡ take t.len s
unfolding read_command read_feed read_cancel read_drop read_poll write_command AreBytes
written_again [] t b q = absurd (let z : ◌≡◌ {A = ℕ} 0 1 = cc in omega arith)
written_again (x ∷ s) t b q =
    by_kind (λ (k : ℕ) (r r' : Reply (Option Taken)). r ≡ granted (Some t) → write_command t.command ≡ take t.len (k ∷ s)) x s s
    (λ (q : read_feed s ≡ granted (Some t)).
    let a = asked (leb (14 + chunk_len s) (length s)) 37 _ (Some t) (asked (leb 14 (length s)) 37 _ (Some t) q).1 in
    as_read 1 s _ (15 + chunk_len s) (14 + chunk_len s) t (omega arith) a.1 (feed_again s b.1 (leb-true (14 + chunk_len s) (length s) a.0)))
    (λ (q : read_cancel s ≡ granted (Some t)).
    let a = asked (leb 5 (length s)) 37 _ (Some t) q in
    as_read 2 s _ 6 5 t refl a.1 (cancel_again s b.1 (leb-true 5 (length s) a.0)))
    (λ (q : read_drop s ≡ granted (Some t)).
    let a = asked (leb 4 (length s)) 37 _ (Some t) q in
    as_read 3 s _ 5 4 t refl a.1 (ap (λ (l : List ℕ). 3 ∷ l) (operand_again 0 4 s (leb-true 4 (length s) a.0) b.1)))
    (λ (q : read_poll s ≡ granted (Some t)).
    let a = asked (leb 8 (length s)) 37 _ (Some t) q in
    as_read 4 s _ 9 8 t refl a.1 (ap (λ (l : List ℕ). 4 ∷ l) (operand_again 0 8 s (leb-true 8 (length s) a.0) b.1)))
    (λ (q : refused 36 0 ≡ granted (Some t)). absurd (refused_not 36 0 (Some t) q))
    q

pub tape_again : (s : List ℕ) → AreBytes s → write_tape (tape_of s).commands ++ (tape_of s).rest ≡ s
unfolding write_tape
tape_again =
    by_commands (λ (s : List ℕ). AreBytes s → write_tape (tape_of s).commands ++ (tape_of s).rest ≡ s)
    (λ (s : List ℕ) (end : Reply ℕ) (h : Ends s end) (b : AreBytes s). rw (tape_ends h))
    (λ (s : List ℕ) (t : Taken) (e : read_command s ≡ granted (Some t))
    (below : AreBytes (drop t.len s) → write_tape (tape_of (drop t.len s)).commands ++ (tape_of (drop t.len s)).rest ≡ drop t.len s) (b : AreBytes s).
    rw (tape_next s t e, append_assoc, below (bytes_drop t.len s b), written_again s t b e) (take-append-drop t.len s))
