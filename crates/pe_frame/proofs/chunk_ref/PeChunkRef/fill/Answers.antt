use mathlib.Core.Path.{◌≡◌, refl, ap, ◌∙◌}
use Prim.Native.Nat.{◌+◌}
use lib.ListN.{length}
use native.Mathlib.Omega.{arith}
use mathlib.Core.List.{[], ◌∷◌}
use Rattle.seven_bit.specs.Parts.{put}
use Rattle.seven_bit.specs.SevenBit.{bytes_of}
use Rattle.seven_bit.proofs.PartLaws.{put_one}
use Rattle.pe_frame.specs.ChunkRef.{chunk_in}
use Rattle.pe_frame.proofs.ChunkLaws.{up_to_size, up_to_header, up_to_count, up_to_number, up_to_length, up_to_end, size_length, header_length, count_length, number_length, length_length, put_on, fit_on}
use Rattle.pe_frame.proofs.chunk_ref.PeChunkRef.fill.Goals as goal

pub returns : goal.returns
returns c =
    let a = c.args in
    let o = a.out.now in
    let x = chunk_in a.self.now in
    -- what out holds after each call
    let s1 : c.put_u14.new.out ≡ put o a.at (up_to_size x) =
    c.put_u14.ensures ∙ put_on o _ (x.request_id ∷ []) (bytes_of 2 (length x.header)) a.at (a.at + 1) (put_one o a.at x.request_id) refl in
    let s2 : c.copy_in.new.dst ≡ put o a.at (up_to_header x) =
    c.copy_in.ensures ∙ fit_on o _ (up_to_size x) x.header a.at (a.at + 3) s1 (omega (arith, size_length x)) (omega (arith, c.requires)) in
    let s3 : c.put_u14-2.new.out ≡ put o a.at (up_to_count x) =
    c.put_u14-2.ensures ∙ put_on o _ (up_to_header x) (bytes_of 2 x.num_chunks) a.at _ s2 (omega (arith, header_length x)) in
    let s4 : c.put_u14-3.new.out ≡ put o a.at (up_to_number x) =
    c.put_u14-3.ensures ∙ put_on o _ (up_to_count x) (bytes_of 2 x.chunk_num) a.at _ s3 (omega (arith, count_length x)) in
    let s5 : c.put_u14-4.new.out ≡ put o a.at (up_to_length x) =
    c.put_u14-4.ensures ∙ put_on o _ (up_to_number x) (bytes_of 2 (length x.property)) a.at _ s4 (omega (arith, number_length x)) in
    c.copy_in-2.ensures ∙ fit_on o _ (up_to_length x) x.property a.at _ s5 (omega (arith, length_length x)) (omega (arith, c.requires)) ∙ ap (put o a.at) (up_to_end x)
