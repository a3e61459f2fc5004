use Prim.Native.Nat.{ℕ, ◌+◌, ◌*◌}
use mathlib.Core.Path.{◌≡◌, sym, ap, ◌∙◌}
use native.Mathlib.Omega.{arith}
use lib.ListN.{length}
use Rattle.seven_bit.specs.Parts.{joined}
use Rattle.pe_wire.specs.Errors.{pe_count}
use Rattle.pe_chunker.specs.Cut.{body_pieces, Cut}
use Rattle.pe_chunker.specs.Split.{all_chunks}
use Rattle.pe_chunker.proofs.ChunkLaws.{count_told}
use Rattle.pe_chunker.proofs.SplitLaws.{first_length, all_bytes, list_granted, all_left}
use Rattle.pe_chunker.proofs.split.split.Goals as goal
use Rattle.pe_chunker.proofs.split.split.Goals.{In_ok-num_chunks}

-- none of the questions was answered no, and the count is that of the pieces
cut : (c : In_ok-num_chunks)
    → Cut c.args.request_id c.args.header.now c.args.body.now c.args.max_sysex
    × (length (body_pieces c.args.max_sysex (length c.args.header.now) c.args.body.now) ≡ c.in_ok-num_chunks.num_chunks)
cut c = count_told _ _ _ _ _ (sym c.chunk_count.ensures ∙ ap pe_count c.in_ok-num_chunks.was)

-- how many bytes all chunks have, and how many they are
bytes : (c : In_ok-num_chunks) → let a = c.args in
    length (joined (all_chunks a.request_id a.header.now a.body.now a.max_sysex))
    ≡ 9 * c.in_ok-num_chunks.num_chunks + length a.header.now + length a.body.now
bytes c =
    let a = c.args in
    all_bytes a.request_id a.header.now a.body.now a.max_sysex (cut c).0.fits
    ∙ ap (λ (n : ℕ). 9 * n + length a.header.now + length a.body.now) (cut c).1

many : (c : In_ok-num_chunks) → let a = c.args in length (all_chunks a.request_id a.header.now a.body.now a.max_sysex) ≡ c.in_ok-num_chunks.num_chunks
many c = let a = c.args in first_length a.request_id a.header.now a.body.now a.max_sysex _ ∙ (cut c).1

pub returns : goal.returns
returns c =
    let a = c.args in
    let at = (goal.at.returns c).In_ok-num_chunks in
    rw (list_granted a.request_id a.header.now a.body.now a.max_sysex (length a.out.now) (length a.lengths.now) (cut at).0
    (omega (arith, bytes at, c.if-out-bytes.false)) (omega (arith, many at, c.if-lengths-chunks.false)))
    (all_left a.request_id a.header.now a.body.now a.max_sysex a.out.now a.lengths.now _ _ _ _ (many at) (bytes at)
    c.put_all.ensures.stored c.put_all.ensures.column (omega (arith, bytes at, c.if-out-bytes.false)) (omega (arith, many at, c.if-lengths-chunks.false)))
