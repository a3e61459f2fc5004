-- The laws of the record that a call finds, and of one that is dropped.
-- Assumes nothing.
use Prim.Native.Nat.{ℕ, zero, suc}
use mathlib.Core.List.{List}
use Rattle.std.specs.Prelude.{Some}
use mathlib.Core.Path.{◌≡◌, refl}
use Rattle.seven_bit.specs.Reply.{granted, ◌else◌then◌}
use Rattle.seven_bit.proofs.ReplyLaws.{same_grant, asked}
use Rattle.pe_reassembler.specs.declared.shape.Shape.{Shape}
use Rattle.pe_reassembler.specs.Calls.{find_peer, close_open}
use Rattle.pe_reassembler.specs.Table.{HasPeer, has_numbers, is_muid, record_of}
use Rattle.pe_reassembler.proofs.TableLaws.{record_in}

-- a record that was found lies in the numbers
pub found_in : (shape : Shape) (numbers : List ℕ) (peer p : ℕ) → find_peer shape numbers peer ≡ granted (Some p) → HasPeer numbers p
found_in shape numbers peer p e =
    let shaped = asked (has_numbers shape numbers) 30 (is_muid peer else 28 then granted (record_of shape numbers peer)) (Some p) e in
    let within = asked (is_muid peer) 28 (granted (record_of shape numbers peer)) (Some p) shaped.1 in
    let found : record_of shape numbers peer ≡ Some p = same_grant (granted (record_of shape numbers peer)) (record_of shape numbers peer) (Some p) refl within.1 in
    record_in shape numbers peer p shaped.0 found

-- the first slots of a record, closed one after the other
abbrev pub closed : ℕ → ℕ → List ℕ → List ℕ
closed p zero numbers = numbers
closed p (suc s) numbers = close_open p s (closed p s numbers)
