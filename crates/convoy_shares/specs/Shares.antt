-- Shares of a whole, and how often a number is there.
use Rattle.std.specs.Prelude.{ℕ, nat_lt, if◌then◌else◌}

-- once where the number is below n, and else never
abbrev pub once_below : ℕ → ℕ → ℕ
once_below x n = if nat_lt x n then 1 else 0

-- the share of one who holds a board or a ledger alone, and of all who hold it together
abbrev pub whole : ℕ
whole = 4294967296
