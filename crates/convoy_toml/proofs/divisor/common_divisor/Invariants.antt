use Rattle.std.proofs.Common.{ℕ, ◌≤◌, max}
use Rattle.std.specs.Int.{IsGcd}
use Rattle.convoy_toml.proofs.divisor.common_divisor.Given as goal

-- what divides the two divides the first two, and neither grows
abbrev pub invariant-loop-rest : goal.invariant-loop-rest
invariant-loop-rest l = ((g : ℕ) → IsGcd l.divisor l.rest g → IsGcd l.fn.a l.fn.b g) × (l.divisor ≤ max l.fn.a l.fn.b) × (l.rest ≤ max l.fn.a l.fn.b)

abbrev pub decreases-loop-rest : goal.decreases-loop-rest
decreases-loop-rest l = l.rest
