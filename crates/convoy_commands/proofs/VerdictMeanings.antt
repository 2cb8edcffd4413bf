-- What verdicts say of deadlines holds.
use Rattle.std.proofs.Common.{◌≡◌, ℕ, Bool, true, false, nat_le, if◌then◌else◌, refl, arith}
use Rattle.std.proofs.lemmas.Bool.{leb-true, leb-false}
use Rattle.convoy_scenario.specs.Scenario.{Scenario}
use Rattle.convoy_sim.specs.Greatest.{IsReached, IsUpper}
use Rattle.convoy_commands.specs.declared.verdict.Verdict.TheVariants.{Within, Beyond, Undecided}
use Rattle.convoy_commands.specs.CommandLaws.{VerdictsHold, VerdictSays}

-- by whether the most is within the deadline, and the least
holds_by : (scenario : Scenario) (deadline least most : ℕ) → IsReached scenario least → IsUpper scenario most →
    (all any : Bool) → nat_le most deadline ≡ all → nat_le least deadline ≡ any →
    VerdictSays scenario deadline (if all then Within else if any then Undecided else Beyond)
holds_by scenario deadline least most reached upper true any is known =
    λ schedule assigned. omega (arith, upper schedule assigned, leb-true most deadline is)
holds_by scenario deadline least most reached upper false true is known = tt
holds_by scenario deadline least most reached upper false false is known =
    (reached.0, reached.1, omega (arith, reached.2, leb-false least deadline known))

pub verdict_holds : VerdictsHold
verdict_holds scenario deadline least most reached upper =
    holds_by scenario deadline least most reached upper (nat_le most deadline) (nat_le least deadline) refl refl
