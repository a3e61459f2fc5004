use Rattle.std.specs.Prelude.{ℕ, List, ◌≡◌, ◌-◌}
use mathlib.Core.Path.{sym, ap, ◌∙◌}
use native.Mathlib.Nat.{add-zero}
use native.Mathlib.Omega.{arith}
use lib.ListN.{length, take, drop, drop_of_length-le, length-drop}
use lib.Seq.{take_all}
use Rattle.seven_bit.specs.Parts.{put}
use Rattle.seven_bit.proofs.SevenBitLaws.{seven_bit_at}
use Rattle.pe_mcoded7.proofs.AskLaws.{seven_bit_drop}
use Rattle.pe_mcoded7.proofs.StoreLaws.{restore_start, restore_next, restore_end}
use Rattle.pe_mcoded7.proofs.groups.decode_group.Goals as goal

-- the bytes behind the flag byte
behind : (g : List ℕ) → take (length g - 1) (drop 1 g) ≡ drop 1 g
behind g = take_all (length g - 1) (drop 1 g) (omega (arith, length-drop 1 g))

pub loop-i-init : goal.loop-i-init
loop-i-init c =
    let a = c.args in
    let g = a.group.now in
    record {
      low = seven_bit_at g c.requires.2 0;
      left = rw (add-zero a.at, behind g) (ap (put a.out.now a.at) (restore_start g c.requires.0));
    }

pub overflow_add-out : goal.overflow_add-out
overflow_add-out c =
    let g = c.args.group.now in
    rw (behind g) (omega (arith, seven_bit_at (drop 1 g) (seven_bit_drop 1 g c.requires.2) c.loop-i.i))

pub loop-i-preserved : goal.loop-i-preserved
loop-i-preserved c =
    let a = c.args in
    let g = a.group.now in
    let l = c.loop-i in
    record {
      low = omega arith;
      left = restore_next l.out (take (length g - 1) (drop 1 g)) a.at l.flags l.i l.invariant.low (omega arith) (omega (arith, behind g, length-drop 1 g))
          ∙ l.invariant.left;
    }

pub returns : goal.returns
returns c =
    let g = c.args.group.now in
    let l = c.loop-i in
    sym (restore_end l.out _ _ l.flags (drop_of_length-le (take (length g - 1) (drop 1 g)) (omega arith))) ∙ l.invariant.left
