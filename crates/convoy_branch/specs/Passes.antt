-- The passes of a search by leads in real time.
use Rattle.std.specs.Prelude.{◌≡◌, ℕ, ◌≤◌}
use Rattle.convoy_scenario.specs.Scenario.{Scenario}
use Rattle.convoy_branch.specs.declared.bounds.Bounds.{Bounds}
use Rattle.convoy_branch.specs.declared.limit.Limit.{Limit}
use Rattle.convoy_branch.specs.declared.outcome.Outcome.{Outcome}
use Rattle.convoy_branch.specs.declared.passes.AfterPass.{AfterPass}
use Rattle.convoy_branch.specs.declared.passes.AfterPass.TheVariants.{Ended, Again}
use Rattle.convoy_branch.specs.Limits.{IsOutcomeWithin}
use Rattle.convoy_branch.specs.Outcomes.{best_of}

-- A pass of a search has some of its tickets, and may be stopped where the search may be.
pub record IsPass (limit few : Limit) : Type 0 where
  pub some : 1 ≤ few.tickets
  pub fewer : few.tickets ≤ limit.tickets
  pub stop : few.may_stop ≡ limit.may_stop

-- where a pass gave that outcome, the search ends with it, or goes on from its best record
abbrev pub GoesOn : Bounds → Scenario → ℕ → Limit → Outcome → AfterPass → Type 0
GoesOn bounds scenario workers limit first (Ended outcome) =
    IsOutcomeWithin bounds scenario workers limit outcome × (best_of outcome ≡ best_of first)
GoesOn bounds scenario workers limit first (Again best) = (best.scenario ≡ scenario) × (best.latency ≡ best_of first)
