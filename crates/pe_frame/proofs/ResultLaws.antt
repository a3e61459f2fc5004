-- A result that tells a grant is no error.
-- Assumes nothing.
use Rattle.std.proofs.Common.{ℕ, Result, Ok, Err}
use mathlib.Core.Path.{◌≡◌, refl}
use Rattle.std.specs.Result.{IsOk}
use Rattle.seven_bit.specs.Reply.{granted, told}
use Rattle.seven_bit.proofs.ReplyLaws.{refused_not}

pub granted_ok : {T E A : Type 0} (f : T → A) (number value : E → ℕ) (r : Result T E) (a : A) → told f number value r ≡ granted a → IsOk r
granted_ok f number value (Ok t) a q = refl
granted_ok f number value (Err e) a q = absurd (refused_not (number e) (value e) a q)
