use Rattle.std.specs.Prelude.{◌≡◌, drop}
use Rattle.midici_core.specs.Muid.{first_ordinary}
use Rattle.midici_core.proofs.muid.Muid.generate.Given as goal

abbrev pub invariant-loop-word : goal.invariant-loop-word
invariant-loop-word l = first_ordinary l.words ≡ first_ordinary (drop l.word-index l.words)
