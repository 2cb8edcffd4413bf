-- What is found of a case, from what its calls answered.
use Rattle.std.proofs.Common.{ℕ, Vec, inl, inr}
use Rattle.std.specs.declared.alloc.Global.{Global}
use Rattle.convoy_scenario.specs.Scenario.{Scenario}
use Rattle.convoy_sim.specs.Greatest.{IsReached, IsUpper}
use Rattle.convoy_certificate.specs.Certificate.{Certificate}
use Rattle.convoy_branch.specs.BothWays.{IsOutcomeBothWays}
use Rattle.convoy_branch.specs.declared.limit.Limit.{Limit}
use Rattle.convoy_branch.specs.declared.options.Ways.{Ways}
use Rattle.convoy_branch.specs.declared.options.Ways.TheVariants.{One, Both}
use Rattle.convoy_branch.specs.declared.outcome.Outcome.{Outcome}
use Rattle.convoy_branch.specs.declared.outcome.Outcome.TheVariants.{Proved, Open}
use Rattle.convoy_branch.specs.Options.{Settings, limit_of}
use Rattle.convoy_branch.specs.Outcomes.{best_of}
use Rattle.convoy_commands.specs.Searches.{IsEnd, IsOutcomeBy}
use Rattle.convoy_commands.proofs.Acceptance.{open_end}
use Rattle.convoy_case_answers.specs.Founds.{upper_of}

-- some assignment has what a search found, and none has more than what it found none above
abbrev AreReached : Scenario → Outcome → Type 0
AreReached scenario outcome = IsReached scenario (best_of outcome) × IsUpper scenario (upper_of outcome)

proved_both : (scenario : Scenario) (workers plain leads : ℕ) (certificate : Certificate) (tickets : ℕ) (by_worker : Vec ℕ Global)
    → IsOutcomeBothWays scenario workers plain leads (Proved certificate tickets by_worker) → AreReached scenario (Proved certificate tickets by_worker)
proved_both scenario workers plain leads certificate tickets by_worker (inl proved) = (proved.greatest.reached, proved.greatest.upper)
proved_both scenario workers plain leads certificate tickets by_worker (inr proved) = (proved.greatest.reached, proved.greatest.upper)

by_ways : (ways : Ways) (scenario : Scenario) (workers : ℕ) (limit : Limit) (outcome : Outcome) → IsOutcomeBy ways scenario workers limit outcome → AreReached scenario outcome
by_ways (One bounds) scenario workers limit (Proved certificate tickets by_worker) found = (found.answer.greatest.reached, found.answer.greatest.upper)
by_ways Both scenario workers limit (Proved certificate tickets by_worker) found =
    proved_both scenario workers found.plain found.leads certificate tickets by_worker found.answer
by_ways ways scenario workers limit (Open best upper tickets by_worker) found =
    let ended = open_end ways scenario workers limit best upper tickets by_worker found in
    (ended.reached, ended.none_greater)

pub reached_by : (settings : Settings) (scenario : Scenario) (outcome : Outcome) → IsEnd settings scenario outcome → IsReached scenario (best_of outcome)
reached_by settings scenario outcome search = (by_ways settings.ways scenario search.workers (limit_of settings) outcome search.found).0

pub upper_by : (settings : Settings) (scenario : Scenario) (outcome : Outcome) → IsEnd settings scenario outcome → IsUpper scenario (upper_of outcome)
upper_by settings scenario outcome search = (by_ways settings.ways scenario search.workers (limit_of settings) outcome search.found).1
