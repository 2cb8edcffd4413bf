-- What no choice is below: an excess, and a total below which the excess is one tick more.
use Rattle.std.specs.Prelude.{ℕ, ◌+◌, ◌≤◌, ◌⊎◌, nat_lt, Bool, not, ◌&&◌, ◌||◌, if◌then◌else◌}
use Rattle.convoy_best_order.specs.declared.excess.Excess.{Excess}
use Rattle.convoy_best_order.specs.Excesses.{IsAtMost, IsLess, is_less}
use Rattle.convoy_best_plan.specs.declared.floor.Floor.{Floor}

-- an excess of one tick more
abbrev pub one_more : Excess → Excess
one_more excess = record { latency = excess.latency + 1; limit = excess.limit }

-- the least excess of a choice of that total
abbrev pub excess_at : Floor → ℕ → Excess
excess_at floor total = if nat_lt total floor.ties then one_more floor.least else floor.least

-- the one is no higher than the other: its excess is less, or it is no greater and no more totals are below its own
abbrev pub IsNoHigher : Floor → Floor → Type 0
IsNoHigher floor other = IsLess floor.least other.least ⊎ (IsAtMost floor.least other.least × (floor.ties ≤ other.ties))

-- the one is lower than the other
abbrev pub is_lower : Floor → Floor → Bool
is_lower floor other = is_less floor.least other.least || (not (is_less other.least floor.least) && nat_lt floor.ties other.ties)

-- the lower of two
abbrev pub lower : Floor → Floor → Floor
lower floor other = if is_lower other floor then other else floor
