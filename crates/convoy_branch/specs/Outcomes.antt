-- What a search answers.
use Rattle.std.specs.Prelude.{◌≡◌, ◌≢◌, ℕ, ◌≤◌, false, List, length}
use Rattle.std.specs.List.{list_any, sum}
use Rattle.convoy_scenario.specs.Scenario.{Scenario}
use Rattle.convoy_sim.specs.Greatest.{IsGreatest, IsReached, IsUpper}
use Rattle.convoy_sim.specs.Record.{Record}
use Rattle.convoy_certificate.specs.Certificate.{Certificate}
use Rattle.convoy_certificate.specs.Reading.{AreReadable}
use Rattle.convoy_certificate.specs.Text.{is_lead, is_stamp}
use Rattle.convoy_checker.specs.Validity.{IsValid}
use Rattle.convoy_branch.specs.declared.bounds.Bounds.{Bounds}
use Rattle.convoy_branch.specs.declared.bounds.Bounds.TheVariants as bounds_of
use Rattle.convoy_branch.specs.declared.outcome.Outcome.{Outcome}
use Rattle.convoy_branch.specs.declared.outcome.Outcome.TheVariants.{Proved, Open}
use Rattle.convoy_branch.specs.Fronts.{IsFront}
use Rattle.convoy_branch.specs.SearchBounds.{most_nodes}

-- a number of tickets for each of so many workers, which add up to that many
pub record AreTicketsByWorker (workers tickets : ℕ) (by_worker : List ℕ) : Type 0 where
  pub each : length by_worker ≡ workers
  pub all : sum by_worker ≡ tickets

-- A proved outcome: a valid certificate of the scenario, for each node of which a ticket was spent.
pub record IsProved (bounds : Bounds) (scenario : Scenario) (workers limit : ℕ) (certificate : Certificate) (tickets : ℕ) (by_worker : List ℕ) : Type 0 where
  pub of_scenario : certificate.scenario ≡ scenario
  pub valid : IsValid certificate
  -- so the latency of the certificate is the greatest of the scenario
  pub greatest : IsGreatest scenario certificate.latency
  pub nodes : length certificate.nodes ≡ tickets
  -- by plain bounds no node is a stamp leaf, and only by leads is one a lead leaf
  pub plain : bounds ≡ bounds_of.Plain → list_any is_stamp certificate.nodes ≡ false
  pub no_leads : bounds ≢ bounds_of.Lead → list_any is_lead certificate.nodes ≡ false
  pub few : tickets ≤ limit
  -- the certificate's text can be read, where the limit is within that of nodes, or of lead leaves
  pub readable : limit ≤ most_nodes bounds → AreReadable certificate.nodes
  pub shares : AreTicketsByWorker workers tickets by_worker

-- An open outcome: regions are left, and as many tickets as there may be were spent.
pub record IsOpen (bounds : Bounds) (scenario : Scenario) (workers limit : ℕ) (best : Record) (upper tickets : ℕ) (by_worker : List ℕ) : Type 0 where
  pub of_scenario : best.scenario ≡ scenario
  -- some assignment has the best latency, and none has one above the upper bound
  pub reached : IsReached scenario best.latency
  pub none_greater : IsUpper scenario upper
  pub front : IsFront bounds scenario best.latency upper tickets
  pub all : tickets ≡ limit
  pub shares : AreTicketsByWorker workers tickets by_worker

-- what a search of so many workers by those bounds answers, where at most `limit` tickets may be spent
abbrev pub IsOutcome : Bounds → Scenario → ℕ → ℕ → Outcome → Type 0
IsOutcome bounds scenario workers limit (Proved certificate tickets by_worker) =
    IsProved bounds scenario workers limit certificate tickets by_worker.items
IsOutcome bounds scenario workers limit (Open best upper tickets by_worker) =
    IsOpen bounds scenario workers limit best upper tickets by_worker.items

-- the latency that the search has found: that of the certificate, or of the best record
abbrev pub best_of : Outcome → ℕ
best_of (Proved certificate tickets by_worker) = certificate.latency
best_of (Open best upper tickets by_worker) = best.latency
