use Prim.Native.Nat.{ℕ, ◌+◌, ◌≤◌}
use native.Mathlib.Omega.{arith}
use mathlib.Core.List.{List}
use mathlib.Core.Path.{◌≡◌, sym, subst}
use lib.ListN.{length}
use Rattle.seven_bit.specs.Parts.{put}
use Rattle.pe_tape.specs.declared.line.Shown.{Shown}
use Rattle.pe_tape.specs.Line.{shown_text}
use Rattle.pe_tape.specs.Told.{shown_told}
use Rattle.pe_tape.proofs.line.put_shown.Goals as goal

-- what is said of the text of what is shown
abbrev Put : List ℕ → ℕ → ℕ → List ℕ → Shown → Type 0
Put out at behind after shown =
    (behind ≡ at + length (shown_text (shown_told shown))) × (behind ≤ at + 43) × (after ≡ put out at (shown_text (shown_told shown)))

pub returns-in-Bare : goal.returns-in-Bare
unfolding shown_text
returns-in-Bare c =
    let a = c.args in
    let p = c.put_decimal in
    subst (Put a.out.now a.at p.result p.new.out) (sym c.in-Bare.is)
    (p.ensures.0, omega (arith, p.ensures.1), p.ensures.2)
