-- How a search ended, by all its workers or with its first ticket.
use Rattle.std.proofs.Common.{◌≡◌, ◌≤◌, ℕ, List, Vec, refl, inl, inr, arith}
use Rattle.std.specs.declared.alloc.Global.{Global}
use Rattle.convoy_scenario.specs.Scenario.{Scenario}
use Rattle.convoy_certificate.specs.Certificate.{Certificate}
use Rattle.convoy_sim.specs.Record.{Record}
use Rattle.convoy_branch.specs.BothWays.{lead_share, plain_share}
use Rattle.convoy_branch.specs.Outcomes.{IsOutcome, IsProved}
use Rattle.convoy_branch.specs.SearchBounds.{most_nodes}
use Rattle.convoy_branch.specs.declared.bounds.Bounds.{Bounds}
use Rattle.convoy_branch.specs.declared.bounds.Bounds.TheVariants.{Plain, Stamp, Lead}
use Rattle.convoy_branch.specs.declared.outcome.Outcome.{Outcome}
use Rattle.convoy_branch.specs.declared.outcome.Outcome.TheVariants.{Proved, Open}
use Rattle.convoy_branch.specs.Options.{AreSettings, Settings, first_bounds, limit_of}
use Rattle.convoy_branch.specs.declared.limit.Limit.{Limit}
use Rattle.convoy_branch.specs.declared.options.Ways.{Ways}
use Rattle.convoy_branch.specs.declared.options.Ways.TheVariants.{One, Both}
use Rattle.convoy_commands.specs.Searches.{IsEnd, IsOutcomeBy}

-- one node can be read, by any bounds
one_is_few : (bounds : Bounds) → 1 ≤ most_nodes bounds
one_is_few Plain = omega arith
one_is_few Stamp = omega arith
one_is_few Lead = omega arith

-- where one ticket is enough, more may be spent
more : (bounds : Bounds) (scenario : Scenario) (limit : ℕ) (certificate : Certificate) (tickets : ℕ) (by_worker : List ℕ) →
    1 ≤ limit → IsProved bounds scenario 1 1 certificate tickets by_worker →
    IsProved bounds scenario 1 limit certificate tickets by_worker
more bounds scenario limit certificate tickets by_worker some proved = record {
  of_scenario = proved.of_scenario;
  valid = proved.valid;
  greatest = proved.greatest;
  nodes = proved.nodes;
  plain = proved.plain;
  no_leads = proved.no_leads;
  few = omega (arith, proved.few, some);
  readable = λ within. proved.readable (one_is_few bounds);
  shares = proved.shares;
}

-- by whatever the search goes
more_by : (ways : Ways) (scenario : Scenario) (limit : Limit) (certificate : Certificate) (tickets : ℕ) (by_worker : Vec ℕ Global) →
    1 ≤ limit.tickets → IsOutcome (first_bounds ways) scenario 1 1 (Proved certificate tickets by_worker) →
    IsOutcomeBy ways scenario 1 limit (Proved certificate tickets by_worker)
more_by (One bounds) scenario limit certificate tickets by_worker some proved = record {
  spendable = limit.tickets;
  few = omega arith;
  all = λ never. refl;
  answer = more bounds scenario limit.tickets certificate tickets by_worker.items some proved;
}
more_by Both scenario limit certificate tickets by_worker some proved = record {
  plain = plain_share limit.tickets;
  leads = lead_share limit.tickets;
  few_plain = omega arith;
  few_leads = omega arith;
  all_plain = λ never. refl;
  all_leads = λ never. refl;
  answer = inl (more Plain scenario (plain_share limit.tickets) certificate tickets by_worker.items (omega (arith, some)) proved);
}

-- where one worker has a proved outcome with one ticket, no more of either are needed
pub one_ticket : (settings : Settings) (scenario : Scenario) (outcome : Outcome) → AreSettings settings →
    IsOutcome (first_bounds settings.ways) scenario 1 1 outcome →
    ((best : Record) (upper tickets : ℕ) (by_worker : Vec ℕ Global) → outcome ≡ Open best upper tickets by_worker → ⊥) →
    IsEnd settings scenario outcome
one_ticket settings scenario (Open best upper tickets by_worker) lawful search not_open = absurd (not_open best upper tickets by_worker refl)
one_ticket settings scenario (Proved certificate tickets by_worker) lawful search not_open = record {
  workers = 1;
  as_said = inr (refl, search.few);
  found = more_by settings.ways scenario (limit_of settings) certificate tickets by_worker lawful.some_ticket search;
}

-- where all workers searched that there are to be
pub by_all : (settings : Settings) (scenario : Scenario) (outcome : Outcome) (workers : ℕ) → workers ≡ settings.workers →
    IsOutcomeBy settings.ways scenario workers (limit_of settings) outcome → IsEnd settings scenario outcome
by_all settings scenario outcome workers same found = record { workers = workers; as_said = inl same; found = found }
