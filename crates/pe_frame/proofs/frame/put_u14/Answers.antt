use mathlib.Core.Path.{◌≡◌, ap, ◌∙◌}
use Prim.Native.Nat.{ℕ, ◌-◌}
use lib.ListN.{length, take, drop, length-drop, length-take}
use native.Mathlib.Omega.{arith}
use mathlib.Core.List.{List}
use borrow.Rule.Slice.PartMut.{put_mid}
use Rattle.seven_bit.specs.Reply.{Reply, Outcome, granted, outcome, writing}
use Rattle.seven_bit.specs.SevenBit.{bytes_of}
use Rattle.seven_bit.proofs.PartLaws.{put_rest}
use Rattle.seven_bit.proofs.SevenBitLaws.{bytes_length}
use Rattle.pe_wire.specs.Errors.{pe_count, pe_number, pe_value}
use Rattle.pe_wire.proofs.WireLaws.{write_value}
use Rattle.pe_frame.proofs.ResultLaws.{granted_ok}
use Rattle.pe_frame.proofs.frame.put_u14.Goals as goal
use Rattle.pe_frame.proofs.frame.put_u14.Goals.{After-write_u14_le7}

-- the field's bytes are written, since there is room
wrote : (c : After-write_u14_le7) → let part : List ℕ = take (length c.args.out.now - c.args.at) (drop c.args.at c.args.out.now) in
    outcome (pe_count c.write_u14_le7.result) c.write_u14_le7.new.out ≡ writing (granted (bytes_of 2 c.args.v)) part
wrote c =
    let part : List ℕ = take (length c.args.out.now - c.args.at) (drop c.args.at c.args.out.now) in
    c.write_u14_le7.ensures ∙ ap (λ (r : Reply (List ℕ)). writing r part) (write_value c.args.v (length part) (simp (length-take, length-drop) (omega arith)) (omega arith))

pub unwrap-requires : goal.unwrap-requires
unwrap-requires c =
    granted_ok (λ (n : ℕ). n) pe_number pe_value c.write_u14_le7.result _ (ap (λ (o : Outcome). o.answer) (wrote (goal.at.unwrap-requires c).After-write_u14_le7))

pub returns : goal.returns
returns c =
    let d = c.args.out.now in
    let a = c.args in
    ap (λ (o : Outcome). put_mid a.at (length d - a.at) d o.out) (wrote (goal.at.returns c).After-write_u14_le7)
    ∙ put_rest d a.at (bytes_of 2 a.v) (omega (arith, bytes_length 2 a.v))
