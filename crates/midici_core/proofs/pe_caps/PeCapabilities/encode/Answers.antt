use Prim.Native.Nat.{ℕ, ◌+◌, ◌≤◌}
use mathlib.Core.Bool.{true}
use mathlib.Core.List.{◌++◌}
use mathlib.Core.Path.{◌≡◌, sym, ◌∙◌, ap}
use native.Mathlib.Omega.{arith}
use borrow.Author.Tests.{le-leb}
use lib.ListN.{length, take}
use lib.Seq.{length-take-le}
use Rattle.seven_bit.specs.Parts.{put}
use Rattle.seven_bit.specs.SevenBit.{is_seven_bit}
use Rattle.seven_bit.proofs.PartLaws.{put_front}
use Rattle.seven_bit.proofs.ReplyLaws.{wrote}
use Rattle.midici_core.specs.Header.{within28, bytes_of_header}
use Rattle.midici_core.specs.Caps.{write_caps, caps_of, caps_len, caps_values, caps_bytes}
use Rattle.midici_core.proofs.CapsLaws.{len_most, caps_length}
use Rattle.midici_core.proofs.pe_caps.PeCapabilities.encode.Goals as goal

pub slice_bounds-store-end : goal.slice_bounds-store-end
slice_bounds-store-end c = sym (length-take-le _ _ (omega (arith, c.data_len-n.ensures, len_most c.args.self.header.version)))

pub returns : goal.returns
unfolding write_caps caps_values caps_bytes
returns c =
    let o = c.args.out.now in
    let p = caps_of c.args.self in
    let d : c.data_len-n.result ≡ caps_len p.header.version = c.data_len-n.ensures in
    let r : 13 + caps_len p.header.version ≤ length o = omega arith in
    let w : within28 p.header ≡ true = sym c.muids_fit.ensures ∙ c.if-not-muids_fit.false in
    let v : is_seven_bit (caps_values p) ≡ true = sym c.all_seven_bit.ensures ∙ c.if-not-all_seven_bit.false in
    let n : length (caps_bytes p) ≡ 13 + c.data_len-n.result = omega (arith, caps_length p) in
    let s : c.store.new.out ≡ put o 0 (caps_bytes p) =
    c.store.ensures ∙ ap (λ (k : ℕ). put o 0 (bytes_of_header p.header ++ take k (caps_values p))) d in
    rw (w, le-leb _ _ r, v) (wrote (caps_bytes p) o _ _ n (s ∙ put_front o (caps_bytes p) (omega arith)))
