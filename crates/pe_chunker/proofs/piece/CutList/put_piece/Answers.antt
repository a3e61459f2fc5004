use mathlib.Core.Bool.{cond}
use mathlib.Core.Path.{◌≡◌, ap, ◌∙◌}
use Prim.Native.Nat.{◌-◌, ◌≤◌}
use lib.Dec.{eqb}
use lib.ListN.{length, take, drop}
use lib.Seq.{length-take-le}
use native.Mathlib.Omega.{arith}
use Rattle.std.proofs.lemmas.Bool.Decides.{nat_tests}
use Rattle.seven_bit.proofs.PartLaws.{length_part}
use Rattle.pe_frame.specs.Chunk.{Chunk, chunk_from}
use Rattle.pe_frame.specs.Write.{chunk_len, put_chunk}
use Rattle.pe_frame.proofs.ChunkLaws.{put_small}
use Rattle.pe_chunker.specs.Split.{chunk_in}
use Rattle.pe_chunker.proofs.CutLaws.{later_between}
use Rattle.pe_chunker.proofs.PieceLaws.{piece_at, part_ends}
use Rattle.pe_chunker.proofs.ChunkLaws.{header_part, header_within, chunk_is, chunk_in_range}
use Rattle.pe_chunker.proofs.piece.CutList.put_piece.Goals as goal
use Rattle.pe_chunker.proofs.piece.CutList.put_piece.Goals.{After-body_part-end}

-- where the property stands in the body
ends : (c : After-body_part-end) → (c.body_part-start.result ≤ c.body_part-end.result) × (c.body_part-end.result ≤ length c.args.self.body.now)
ends c =
    let o = c.requires.number.0 in
    part_ends (length c.args.self.header.now) (c.args.chunk_num - 1) c.args.chunk_num _ _ _ _
    (omega arith) c.body_part-start.ensures c.body_part-end.ensures

-- how much of the header goes with it
head : (c : After-body_part-end) → c.if-chunk_num-eq1.header_end ≡ cond (eqb c.args.chunk_num 1) (length c.args.self.header.now) 0
head c = grind (arith, nat_tests)

-- what is handed on is the chunk
handed : (c : After-body_part-end) → let a = c.args in let n = c.if-chunk_num-eq1.header_end in let from = c.body_part-start.result in
    chunk_from a.self.request_id (take n a.self.header.now) a.self.num_chunks a.chunk_num (take (c.body_part-end.result - from) (drop from a.self.body.now))
    ≡ chunk_in a.self a.chunk_num
handed c =
    let a = c.args in
    let l = a.self in
    let o = c.requires.number.0 in
    chunk_is l.request_id l.header.now l.body.now l.max_sysex a.chunk_num _ _ _ (header_part a.chunk_num _ l.header.now (head c)) c.requires.cut.count
    (piece_at l.max_sysex (length l.header.now) (a.chunk_num - 1) a.chunk_num _ _ _ l.body.now
    c.later_chunk_property_capacity-later.ensures (omega arith) c.requires.cut.asked.fits c.body_part-start.ensures c.body_part-end.ensures)

pub body_part-start-requires : goal.body_part-start-requires
body_part-start-requires c =
    let h = later_between c.args.self.max_sysex in
    omega arith

pub body_part-end-requires : goal.body_part-end-requires
body_part-end-requires c =
    let h = later_between c.args.self.max_sysex in
    omega arith

pub returns-clause-length : goal.returns-clause-length
unfolding chunk_len
returns-clause-length c =
    let at = (goal.at.returns-clause-length c).After-body_part-end in
    let l = c.args.self in
    let from = c.body_part-start.result in
    let e = ends at in
    let lh = length-take-le c.if-chunk_num-eq1.header_end l.header.now (header_within c.args.chunk_num _ _ (head at)) in
    let lp = length_part from (c.body_part-end.result - from) l.body.now (omega arith) in
    omega (arith, lh, lp) ∙ ap chunk_len (handed at)

pub returns-clause-stored : goal.returns-clause-stored
returns-clause-stored c =
    let a = c.args in
    let l = a.self in
    let n = c.requires.number in
    let t = c.requires.cut in
    let r = chunk_in_range l.request_id l.header.now l.body.now l.max_sysex a.chunk_num t.asked n.0 (omega (arith, t.count)) in
    c.put_chunk.ensures
    ∙ ap (λ (k : Chunk). put_chunk k a.out.now a.at) (handed (goal.at.returns-clause-stored c).After-body_part-end)
    ∙ put_small _ _ _ r.header_len r.property_len r.count r.number
