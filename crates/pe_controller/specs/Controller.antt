-- The request counter and the negotiated requests (document 01, modules 9 and 4).
-- Assumes nothing.
use Rattle.std.specs.Prelude.{ℕ, ◌+◌, ◌%◌, cond, ◌==◌, nat_le}

-- "steps it by a wrapping add of one, cut to seven bits, 0 becoming 1": the counter is one byte, so the sum wraps at 256.
unfoldable pub stepped : ℕ → ℕ
stepped counter = cond ((counter + 1) % 256 % 128 == 0) 1 ((counter + 1) % 256 % 128)

-- "Negotiated requests are the smaller of both sides, at least 1."
unfoldable pub negotiated : ℕ → ℕ → ℕ
negotiated a b = cond (nat_le 1 (cond (nat_le a b) a b)) (cond (nat_le a b) a b) 1
