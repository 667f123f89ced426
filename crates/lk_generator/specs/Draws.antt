-- The numbers that a seed gives.
use Rattle.std.specs.Prelude.{ℕ, zero, suc, ◌+◌, ◌*◌, ◌/◌, ◌%◌, ◌^◌}

-- the state behind a state: a linear congruence of 64 bits
abbrev pub next_state : ℕ → ℕ
next_state x = (x * 6364136223846793005 + 1442695040888963407) % 2 ^ 64

-- the state behind so many draws of a seed
unfoldable pub state_behind : ℕ → ℕ → ℕ
state_behind seed zero = seed
state_behind seed (suc n) = next_state (state_behind seed n)

-- a draw of a seed, counted from 1, modulo k: of the state behind it the upper 31 bits
abbrev pub pick : ℕ → ℕ → ℕ → ℕ
pick seed n k = state_behind seed n / 2 ^ 33 % k
