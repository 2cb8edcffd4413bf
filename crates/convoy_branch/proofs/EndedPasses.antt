-- What a pass of a search is worth for the whole.
use Rattle.std.specs.Prelude.{◌≡◌, ℕ, ◌≤◌, true}
use Rattle.std.proofs.Common.{Vec, arith, inr}
use Rattle.std.specs.declared.alloc.Global.{Global}
use Rattle.convoy_scenario.specs.Scenario.{Scenario}
use Rattle.convoy_certificate.specs.Certificate.{Certificate}
use Rattle.convoy_sim.specs.Record.{Record}
use Rattle.convoy_branch.specs.declared.bounds.Bounds.{Bounds}
use Rattle.convoy_branch.specs.declared.limit.Limit.{Limit}
use Rattle.convoy_branch.specs.declared.outcome.Outcome.TheVariants.{Proved, Open}
use Rattle.convoy_branch.specs.Limits.{IsOutcomeWithin}
use Rattle.convoy_branch.specs.Outcomes.{IsOpen, IsProved}
use Rattle.convoy_branch.specs.Passes.{IsPass}
use Rattle.convoy_branch.proofs.Withins.{IsWithin-all, IsWithin-spent}

-- what was proved with some tickets is proved with more
more : (bounds : Bounds) (scenario : Scenario) (workers some most : ℕ) (certificate : Certificate) (tickets : ℕ) (by_worker : Vec ℕ Global) →
    some ≤ most → IsProved bounds scenario workers some certificate tickets by_worker.items →
    IsProved bounds scenario workers most certificate tickets by_worker.items
more bounds scenario workers some most certificate tickets by_worker fewer proved = record {
  of_scenario = proved.of_scenario;
  valid = proved.valid;
  greatest = proved.greatest;
  nodes = proved.nodes;
  plain = proved.plain;
  no_leads = proved.no_leads;
  few = omega (arith, proved.few, fewer);
  readable = λ within. proved.readable (omega (arith, within, fewer));
  shares = proved.shares;
}

-- where nothing is left, the pass ends the search
pub proved_in_pass : (bounds : Bounds) (scenario : Scenario) (workers : ℕ) (limit few : Limit) (certificate : Certificate) (tickets : ℕ) (by_worker : Vec ℕ Global) →
    IsPass limit few → IsOutcomeWithin bounds scenario workers few (Proved certificate tickets by_worker) →
    IsOutcomeWithin bounds scenario workers limit (Proved certificate tickets by_worker)
proved_in_pass bounds scenario workers limit few certificate tickets by_worker first within =
    IsWithin-all limit (λ spent. IsProved bounds scenario workers spent certificate tickets by_worker.items)
    (more bounds scenario workers within.spendable limit.tickets certificate tickets by_worker (omega (arith, within.few, first.fewer)) within.answer)

-- where it was stopped, so was the search
pub stopped_in_pass : (bounds : Bounds) (scenario : Scenario) (workers : ℕ) (limit few : Limit) (best : Record) (upper tickets : ℕ) (by_worker : Vec ℕ Global) →
    limit.may_stop ≡ true → IsPass limit few → IsOutcomeWithin bounds scenario workers few (Open best upper tickets by_worker) →
    IsOutcomeWithin bounds scenario workers limit (Open best upper tickets by_worker)
stopped_in_pass bounds scenario workers limit few best upper tickets by_worker stops first within =
    IsWithin-spent limit (λ spent. IsOpen bounds scenario workers spent best upper tickets by_worker.items) within.spendable
    (omega (arith, within.few, first.fewer)) (inr stops) within.answer

-- its best record is one of the scenario
pub again : (bounds : Bounds) (scenario : Scenario) (workers : ℕ) (limit few : Limit) (best : Record) (upper tickets : ℕ) (by_worker : Vec ℕ Global) →
    IsPass limit few → IsOutcomeWithin bounds scenario workers few (Open best upper tickets by_worker) → best.scenario ≡ scenario
again bounds scenario workers limit few best upper tickets by_worker first within = within.answer.of_scenario
