-- The schedule that a search which has ended found to have the greatest latency.
use Rattle.std.proofs.Common.{◌≡◌, inl, inr, ℕ, Vec, sym}
use Rattle.std.specs.declared.alloc.Global.{Global}
use Rattle.convoy_scenario.specs.Scenario.{Scenario}
use Rattle.convoy_packets.specs.Assignment.{Schedule}
use Rattle.convoy_sim.specs.Record.{Record, IsAttained}
use Rattle.convoy_certificate.specs.Certificate.{Certificate, IsCertificate}
use Rattle.convoy_checker.specs.Validity.{IsValid}
use Rattle.convoy_branch.specs.BothWays.{IsOutcomeBothWays}
use Rattle.convoy_branch.specs.declared.limit.Limit.{Limit}
use Rattle.convoy_branch.specs.declared.options.Ways.{Ways}
use Rattle.convoy_branch.specs.declared.options.Ways.TheVariants.{One, Both}
use Rattle.convoy_branch.specs.declared.outcome.Outcome.TheVariants.{Proved, Open}
use Rattle.convoy_branch.specs.Options.{Settings, limit_of}
use Rattle.convoy_commands.specs.Searches.{IsEnd, IsOutcomeBy}
use Rattle.convoy_commands.proofs.Acceptance.{open_end}
use Rattle.convoy_finish_answers.specs.AcceptedLatencies.{IsBestOf}

-- What a proved end says of its certificate.
record IsProvedOf (scenario : Scenario) (certificate : Certificate) : Type 0 where
  of_scenario : certificate.scenario ≡ scenario
  valid : IsValid certificate

proved_both : (scenario : Scenario) (workers plain leads : ℕ) (certificate : Certificate) (tickets : ℕ) (by_worker : Vec ℕ Global) →
    IsOutcomeBothWays scenario workers plain leads (Proved certificate tickets by_worker) → IsProvedOf scenario certificate
proved_both scenario workers plain leads certificate tickets by_worker (inl proved) = record { of_scenario = proved.of_scenario; valid = proved.valid }
proved_both scenario workers plain leads certificate tickets by_worker (inr proved) = record { of_scenario = proved.of_scenario; valid = proved.valid }

proved_by : (ways : Ways) (scenario : Scenario) (workers : ℕ) (limit : Limit) (certificate : Certificate) (tickets : ℕ) (by_worker : Vec ℕ Global) →
    IsOutcomeBy ways scenario workers limit (Proved certificate tickets by_worker) → IsProvedOf scenario certificate
proved_by (One bounds) scenario workers limit certificate tickets by_worker found = record { of_scenario = found.answer.of_scenario; valid = found.answer.valid }
proved_by Both scenario workers limit certificate tickets by_worker found =
    proved_both scenario workers found.plain found.leads certificate tickets by_worker found.answer

pub best_of_proved : (settings : Settings) (scenario : Scenario) (certificate : Certificate) (tickets : ℕ) (by_worker : Vec ℕ Global) (schedule : Schedule) →
    IsEnd settings scenario (Proved certificate tickets by_worker) → IsCertificate certificate → schedule ≡ certificate.schedule →
    IsBestOf scenario (Proved certificate tickets by_worker) schedule
best_of_proved settings scenario certificate tickets by_worker schedule search lawful is =
    let ended = proved_by settings.ways scenario search.workers (limit_of settings) certificate tickets by_worker search.found in
    record {
      assigned = rw (sym is, ended.of_scenario) at lawful.assigned;
      latency = rw (sym is, ended.of_scenario) at ended.valid.latency;
    }

pub best_of_open : (settings : Settings) (scenario : Scenario) (best : Record) (upper tickets : ℕ) (by_worker : Vec ℕ Global) (schedule : Schedule) →
    IsEnd settings scenario (Open best upper tickets by_worker) → IsAttained best → schedule ≡ best.schedule →
    IsBestOf scenario (Open best upper tickets by_worker) schedule
best_of_open settings scenario best upper tickets by_worker schedule search attained is =
    let ended = open_end settings.ways scenario search.workers (limit_of settings) best upper tickets by_worker search.found in
    record {
      assigned = rw (sym is, ended.of_scenario) at attained.assignment;
      latency = rw (sym is, ended.of_scenario) at (sym attained.latency);
    }
