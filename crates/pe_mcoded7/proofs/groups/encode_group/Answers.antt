use Rattle.std.specs.Prelude.{ℕ, List, ◌+◌, ◌-◌, ◌*◌, ◌/◌, ◌%◌}
use mathlib.Core.Path.{sym, ap, ◌∙◌}
use native.Mathlib.Omega.{arith}
use lib.ListN.{get_or, set}
use lib.Seq.{drop-length}
use Rattle.seven_bit.proofs.PartLaws.{put_none}
use Rattle.pe_mcoded7.specs.Mcoded7.{flags}
use Rattle.pe_mcoded7.proofs.StoreLaws.{low_before, flags_before, group_stored}
use Rattle.pe_mcoded7.proofs.groups.encode_group.Goals as goal

pub loop-i-init : goal.loop-i-init
unfolding flags
loop-i-init c =
    let e = drop-length c.args.group.now in
    record { lows = rw e (sym (put_none _ _)); gathered = rw e; low = omega arith }

pub loop-i-preserved : goal.loop-i-preserved
loop-i-preserved c =
    let a = c.args in
    let l = c.loop-i in
    let g = a.group.now in
    let j : ℕ = l.i - 1 in
    record {
      lows = ap (λ (d : List ℕ). set d (a.at + 1 + j) (get_or g j 0 % 128)) l.invariant.lows
          ∙ low_before a.out.now g (a.at + 1 + j) (a.at + 1 + l.i) l.i j (omega arith) (omega arith) (omega arith);
      gathered = ap (λ (f : ℕ). f / 2 + get_or g j 0 / 128 * 64) l.invariant.gathered ∙ flags_before g l.i j (omega arith) (omega arith) (omega arith);
      low = omega (arith, c.type_inv.group j);
    }

pub returns : goal.returns
returns c =
    let a = c.args in
    let l = c.loop-i in
    cc (group_stored a.out.now a.group.now a.at (a.at + 1 + l.i) l.i (omega arith) (omega arith))
