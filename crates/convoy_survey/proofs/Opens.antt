-- What a search finds that has ended with boxes left.
use Rattle.std.proofs.Common.{◌≡◌, ℕ, Vec, sym}
use Rattle.std.specs.declared.alloc.Global.{Global}
use Rattle.convoy_scenario.specs.Scenario.{Scenario}
use Rattle.convoy_sim.specs.Record.{IsAttained, Record}
use Rattle.convoy_survey.specs.Findings.{IsFrontFound, cause_in}
use Rattle.convoy_survey.specs.declared.finding.Cause.{Cause}
use Rattle.convoy_branch.specs.Options.{Settings, limit_of}
use Rattle.convoy_branch.specs.declared.outcome.Outcome.TheVariants.{Open}
use Rattle.convoy_commands.specs.Searches.{IsEnd}
use Rattle.convoy_commands.proofs.Acceptance.{open_end}

pub open_found : (settings : Settings) (scenario : Scenario) (best : Record) (upper tickets : ℕ) (by_worker : Vec ℕ Global) (cause : Cause) →
    IsEnd settings scenario (Open best upper tickets by_worker) → IsAttained best → cause ≡ cause_in scenario best.schedule →
    IsFrontFound settings scenario best.latency upper cause
open_found settings scenario best upper tickets by_worker cause search attained told =
    let ended = open_end settings.ways scenario search.workers (limit_of settings) best upper tickets by_worker search.found in
    record {
      schedule = best.schedule;
      assigned = rw ended.of_scenario at attained.assignment;
      reached = sym (rw ended.of_scenario at attained.latency);
      upper = ended.none_greater;
      front = ended.front;
      told_cause = told;
    }
