-- A search both ways: by plain bounds, and where regions are left then, by leads from the root.
use Rattle.std.specs.Prelude.{◌≡◌, ◌⊎◌, ℕ, ◌-◌, ◌≤◌, min, true, false, List}
use Rattle.convoy_scenario.specs.Scenario.{Scenario}
use Rattle.convoy_sim.specs.Greatest.{IsReached, IsUpper}
use Rattle.convoy_sim.specs.Record.{Record}
use Rattle.convoy_certificate.specs.declared.certificate.TheConstants.{MOST_LEADS}
use Rattle.convoy_branch.specs.declared.bounds.Bounds.TheVariants.{Plain, Lead}
use Rattle.convoy_branch.specs.declared.limit.Limit.{Limit}
use Rattle.convoy_branch.specs.declared.ways.AfterPlain.{AfterPlain}
use Rattle.convoy_branch.specs.declared.ways.AfterPlain.TheVariants.{Ended, ByLeads}
use Rattle.convoy_branch.specs.declared.ways.TheConstants.{PLAIN_TICKETS}
use Rattle.convoy_branch.specs.declared.outcome.Outcome.{Outcome}
use Rattle.convoy_branch.specs.declared.outcome.Outcome.TheVariants.{Proved, Open}
use Rattle.convoy_branch.specs.Fronts.{IsFront}
use Rattle.convoy_branch.specs.Outcomes.{AreTicketsByWorker, IsOpen, IsProved}

-- how many of the tickets may be spent by plain bounds, and of the others by leads
abbrev pub plain_share : ℕ → ℕ
plain_share limit = min limit PLAIN_TICKETS

abbrev pub lead_share : ℕ → ℕ
lead_share limit = min (limit - PLAIN_TICKETS) MOST_LEADS

-- The answer of a search both ways with that limit is one of a search that may spend so many tickets by plain bounds and so many by leads: as many as the limit gives to each, or fewer, but that only where the search may be stopped (`IsWithin` says so of a search one way).
pub record IsWithinBothWays (limit : Limit) (IsAnswer : ℕ → ℕ → Type 0) : Type 0 where
  pub plain : ℕ
  pub leads : ℕ
  pub few_plain : plain ≤ plain_share limit.tickets
  pub few_leads : leads ≤ lead_share limit.tickets
  pub all_plain : limit.may_stop ≡ false → plain ≡ plain_share limit.tickets
  pub all_leads : limit.may_stop ≡ false → leads ≡ lead_share limit.tickets
  pub answer : IsAnswer plain leads

-- The fronts of both searches, the second no worse in its best latency; the upper bound is the lesser one of theirs.
pub record AreFrontsBothWays (scenario : Scenario) (best upper plain leads : ℕ) : Type 0 where
  pub plain_best : ℕ
  pub plain_upper : ℕ
  pub lead_upper : ℕ
  pub by_plain : IsFront Plain scenario plain_best plain_upper plain
  pub by_leads : IsFront Lead scenario best lead_upper leads
  pub no_worse : plain_best ≤ best
  pub lesser : upper ≡ min plain_upper lead_upper

-- how far a search both ways has come that has not ended, where so many tickets may be spent by plain bounds and by leads: where there is none for leads, as far as by plain bounds
abbrev pub IsFrontBothWays : Scenario → ℕ → ℕ → ℕ → ℕ → Type 0
IsFrontBothWays scenario best upper plain leads =
    ((leads ≡ 0) × IsFront Plain scenario best upper plain) ⊎ AreFrontsBothWays scenario best upper plain leads

-- An open outcome of both searches: the tickets told are those of the second.
pub record IsOpenBothWays (scenario : Scenario) (workers plain leads : ℕ) (best : Record) (upper tickets : ℕ) (by_worker : List ℕ) : Type 0 where
  pub of_scenario : best.scenario ≡ scenario
  -- some assignment has the best latency, and none has one above the upper bound
  pub reached : IsReached scenario best.latency
  pub none_greater : IsUpper scenario upper
  pub fronts : AreFrontsBothWays scenario best.latency upper plain leads
  pub all : tickets ≡ leads
  pub shares : AreTicketsByWorker workers tickets by_worker

-- what a search both ways by so many workers answers, where so many tickets may be spent by plain bounds and by leads
abbrev pub IsOutcomeBothWays : Scenario → ℕ → ℕ → ℕ → Outcome → Type 0
IsOutcomeBothWays scenario workers plain leads (Proved certificate tickets by_worker) =
    IsProved Plain scenario workers plain certificate tickets by_worker.items
    ⊎ IsProved Lead scenario workers leads certificate tickets by_worker.items
IsOutcomeBothWays scenario workers plain leads (Open best upper tickets by_worker) =
    ((leads ≡ 0) × IsOpen Plain scenario workers plain best upper tickets by_worker.items)
    ⊎ IsOpenBothWays scenario workers plain leads best upper tickets by_worker.items

-- the search by plain bounds ends the search both ways: nothing is left, or there is no ticket for leads, or the search may be stopped
abbrev pub IsLast : Limit → Outcome → Type 0
IsLast limit (Proved certificate tickets by_worker) = Unit {0}
IsLast limit (Open best upper tickets by_worker) = (lead_share limit.tickets ≡ 0) ⊎ (limit.may_stop ≡ true)

-- regions are left, with that best record and that upper bound
abbrev pub IsLeftAt : Record → ℕ → Outcome → Type 0
IsLeftAt best upper (Proved certificate tickets by_worker) = ⊥
IsLeftAt best upper (Open found above tickets by_worker) = (found ≡ best) × (above ≡ upper)

-- what comes after a search by plain bounds with that outcome: nothing where it ends the search, or the search by leads where regions are left and there is a ticket for leads
abbrev pub IsAfterPlain : Limit → Outcome → AfterPlain → Type 0
IsAfterPlain limit first (Ended outcome) = (outcome ≡ first) × IsLast limit first
IsAfterPlain limit first (ByLeads best upper) = IsLeftAt best upper first × (1 ≤ lead_share limit.tickets)
