use Prim.Native.Nat.{◌+◌, ◌<◌, ◌≤◌}
use mathlib.Core.Path.{◌≡◌, refl, sym, ◌∙◌}
use native.Mathlib.Omega.{arith}
use lib.ListN.{length}
use Rattle.seven_bit.specs.Parts.{joined}
use Rattle.seven_bit.proofs.PartLaws.{put_none}
use Rattle.pe_frame.specs.Write.{chunk_len}
use Rattle.pe_chunker.specs.Cut.{max_sysex_max, chunk_at}
use Rattle.pe_chunker.specs.Split.{first_chunks}
use Rattle.pe_chunker.proofs.CutLaws.{budget_between}
use Rattle.pe_chunker.proofs.ChunkLaws.{chunk_short}
use Rattle.pe_chunker.proofs.SplitLaws.{next_size, next_fits, next_put, next_column}
use Rattle.pe_chunker.proofs.split.put_all.Goals as goal
use Rattle.pe_chunker.proofs.split.put_all.Goals.{After-put_piece-len}

-- the chunk's length: that of a chunk of the cut, which the limit bounds
short : (c : After-put_piece-len) → c.put_piece-len.result ≤ max_sysex_max
short c =
    let a = c.args.list in
    let s = chunk_short a.request_id a.header.now a.body.now a.max_sysex (c.loop-k.k + 1) c.requires.cut.asked.fits (omega arith) in
    omega (arith, s, budget_between a.max_sysex, c.put_piece-len.ensures.length)

-- and the chunks with it fit
fits : (c : After-put_piece-len) → let a = c.args.list in
    length (joined (first_chunks a.request_id a.header.now a.body.now a.max_sysex (c.loop-k.k + 1)))
    ≤ length c.args.out.now
fits c =
    let a = c.args.list in
    next_fits a.request_id a.header.now a.body.now a.max_sysex c.loop-k.k _
    (length c.args.out.now)
    (omega (arith, c.requires.cut.count)) c.requires.room.0

-- where the next one goes
next-at : (c : After-put_piece-len) → let a = c.args.list in let l = c.loop-k in
    l.at + c.put_piece-len.result ≡ length (joined (first_chunks a.request_id a.header.now a.body.now a.max_sysex (l.k + 1)))
next-at c =
    let a = c.args.list in
    let l = c.loop-k in
    let e : c.put_piece-len.result ≡ chunk_len (chunk_at a.request_id a.header.now a.body.now a.max_sysex (l.k + 1)) = c.put_piece-len.ensures.length in
    let i : l.at ≡ length (joined (first_chunks a.request_id a.header.now a.body.now a.max_sysex l.k)) = l.invariant.0 in
    omega (arith, i, e, next_size a.request_id a.header.now a.body.now a.max_sysex l.k)

pub loop-k-init : goal.loop-k-init
loop-k-init c = (unfold first_chunks joined in refl, unfold first_chunks joined in sym (put_none _ 0), unfold first_chunks in sym (put_none _ 0))

pub overflow_cast-lengths : goal.overflow_cast-lengths
overflow_cast-lengths c = let h = short (goal.at.overflow_cast-lengths c).After-put_piece-len in omega arith

pub overflow_add-at : goal.overflow_add-at
overflow_add-at c =
    let w = (goal.at.overflow_add-at c).After-put_piece-len in
    let n : length c.args.out.now < 18446744073709551616 = omega (arith, c.well_formed, c.ranges) in
    omega (arith, next-at w, fits w)

pub loop-k-preserved : goal.loop-k-preserved
loop-k-preserved c =
    let w = (goal.at.loop-k-preserved c).After-put_piece-len in
    let a = c.args.list in
    let l = c.loop-k in
    let r = c.put_piece-len.ensures in (
      next-at w,
      r.stored ∙ next_put a.request_id a.header.now a.body.now a.max_sysex l.k _ c.args.out.now _ l.invariant.0 l.invariant.1 (fits w),
      next_column a.request_id a.header.now a.body.now a.max_sysex l.k _ c.args.lengths.now _ r.length l.invariant.2,
    )
