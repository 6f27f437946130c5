-- The numbers that votes are made from.
use Rattle.std.specs.Prelude.{ℕ, zero, suc, ◌+◌, ◌*◌, ◌%◌, ◌^◌}

-- the number behind x, with the factor and the summand of Knuth's MMIX
abbrev pub next_state : ℕ → ℕ
next_state x = (x * 6364136223846793005 + 1442695040888963407) % 2 ^ 64

-- x(i), where x(0) is the seed
abbrev pub state : ℕ → ℕ → ℕ
state seed zero = seed
state seed (suc i) = next_state (state seed i)
