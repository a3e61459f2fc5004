use mathlib.Core.Bool.{true}
use mathlib.Core.Path.{◌≡◌, sym, ◌∙◌}
use Prim.Native.Nat.{◌+◌}
use native.Mathlib.Omega.{arith}
use borrow.Author.Tests.{le-leb, lt-leb}
use Rattle.std.proofs.lemmas.Bool.Decides.{nat_tests}
use lib.ListN.{length, take}
use Rattle.seven_bit.specs.Parts.{part}
use Rattle.seven_bit.specs.SevenBit.{is_seven_bit}
use Rattle.seven_bit.proofs.SevenBitLaws.{seven_bit_take, seven_bit_part}
use Rattle.pe_frame.specs.Chunk.{read_end, read_fields}
use Rattle.pe_frame.proofs.ChunkLaws.{low_short, low_fields}
use Rattle.pe_frame.proofs.frame.decode_low.Goals as goal
use Rattle.pe_frame.proofs.frame.decode_low.Goals.{After-u14_at-nd, Start}

all : (c : Start) → is_seven_bit (take (length c.args.«data».now) c.args.«data».now) ≡ true
all c = seven_bit_take (length c.args.«data».now) c.args.«data».now c.requires.1

behind : (c : After-u14_at-nd)
    → read_fields c.args.«data».now ≡ read_end c.args.«data».now c.u14_at-nh.result c.u14_at-num_chunks.result c.u14_at-chunk_num.result c.u14_at-nd.result
behind c =
    let l = c.if-data-property_at.false in
    low_fields c.args.«data».now c.requires.0 (length c.args.«data».now) (seven_bit_take (length c.args.«data».now) c.args.«data».now c.requires.1) _ _ _ _ l c.u14_at-nh.ensures l
    c.u14_at-num_chunks.ensures c.u14_at-chunk_num.ensures c.u14_at-nd.ensures

property : (c : After-u14_at-nd) → is_seven_bit (part (9 + c.u14_at-nh.result) c.u14_at-nd.result c.args.«data».now) ≡ true
property c = seven_bit_part (9 + c.u14_at-nh.result) c.u14_at-nd.result c.args.«data».now c.requires.1

pub returns-then-data-property_at : goal.returns-then-data-property_at
returns-then-data-property_at c =
    sym (low_short c.args.«data».now c.requires.0 (length c.args.«data».now) (all (goal.at.returns-then-data-property_at c).Start) _ (omega (arith, c.requires.0)) c.u14_at-nh.ensures c.if-data-property_at.true)

pub returns-then-data-property_at-2 : goal.returns-then-data-property_at-2
unfolding read_end
returns-then-data-property_at-2 c = rw (behind (goal.at.returns-then-data-property_at-2 c).After-u14_at-nd, lt-leb _ _ c.if-data-property_at-2.true)

pub returns-then-property_at-nd : goal.returns-then-property_at-nd
unfolding read_end
returns-then-property_at-nd c = rw (behind (goal.at.returns-then-property_at-nd c).After-u14_at-nd, le-leb _ _ c.if-data-property_at-2.false, lt-leb _ _ c.if-property_at-nd.true)

pub returns-then-nh-ne0 : goal.returns-then-nh-ne0
unfolding read_end
returns-then-nh-ne0 c =
    let at = (goal.at.returns-then-nh-ne0 c).After-u14_at-nd in
    grind (arith, nat_tests, behind at, property at)

pub returns-then-not-is_within_count : goal.returns-then-not-is_within_count
unfolding read_end
returns-then-not-is_within_count c =
    let at = (goal.at.returns-then-not-is_within_count c).After-u14_at-nd in
    grind (arith, nat_tests, behind at, property at)

pub returns : goal.returns
unfolding read_end
returns c =
    let at = (goal.at.returns c).After-u14_at-nd in
    grind (arith, nat_tests, behind at, property at)
