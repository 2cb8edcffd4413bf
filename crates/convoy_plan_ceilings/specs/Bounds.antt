-- What is known of all placements that have some sites: how great ceilings are at least.
use Rattle.std.specs.Prelude.{ℕ, ◌+◌, ◌-◌, ◌≤◌, if◌then◌else◌, List, map, Option, Some, None, Contains}
use Rattle.convoy_scenario.specs.declared.sender.Sender.{Sender}
use Rattle.convoy_scenario.specs.declared.sender.Sender.TheVariants as senders
use Rattle.convoy_scenario.specs.Scenario.{Scenario, is_same_sender, message_at}
use Rattle.convoy_sim.specs.Delivery.{addressed_to}
use Rattle.convoy_sim.specs.Times.{greatest}
use Rattle.convoy_plans.specs.declared.plan.Origin.{Origin}
use Rattle.convoy_plans.specs.Plans.{Plan, origin_of}
use Rattle.convoy_best_order.specs.Excesses.{IsAtMost}
use Rattle.convoy_best_order.specs.Targets.{limit_of}
use Rattle.convoy_best_plan.specs.declared.floor.Floor.{Floor}
use Rattle.convoy_best_plan.specs.Floors.{excess_at}
use Rattle.convoy_best_plan.specs.Leaves.{commit_known, origin_site, site_known, total_known}
use Rattle.convoy_plan_ceilings.specs.declared.target_ceiling.TargetCeiling.{TargetCeiling}
use Rattle.convoy_plan_ceilings.specs.Leasts.{least_at}

-- the least delay from the one site to the other, if both are known and it is
abbrev pub least_between : List (Option ℕ) → Option ℕ → Option ℕ → Option ℕ
least_between leasts None to = None
least_between leasts (Some a) None = None
least_between leasts (Some a) (Some b) = least_at leasts a b

-- the same from a sender, who is there, to a group; what a group sends to itself takes no time, as it has no link to itself
abbrev pub least_known : List (Option ℕ) → List (Option ℕ) → Sender → Origin → ℕ → Option ℕ
least_known leasts sites sender from g =
    if is_same_sender sender (senders.Group g) then Some 0 else least_between leasts (origin_site sites from) (site_known sites g)

-- what is left of so many ticks after a delay; nothing where it is not known
abbrev pub after_least : ℕ → Option ℕ → ℕ
after_least ticks None = 0
after_least ticks (Some least) = ticks - least

-- how long message n of a scenario of the plan takes at the longest from its arrival at group g to its commit there, as far as that is known
abbrev pub from_arrival_known : Plan → Scenario → List (Option ℕ) → List (Option ℕ) → ℕ → ℕ → ℕ
from_arrival_known plan scenario leasts sites g n =
    after_least (commit_known plan scenario sites n g) (least_known leasts sites (message_at scenario n).sender (origin_of plan n) g)

-- the same of any message that goes there
abbrev pub after_known : Plan → Scenario → List (Option ℕ) → List (Option ℕ) → ℕ → ℕ
after_known plan scenario leasts sites g = greatest (map (from_arrival_known plan scenario leasts sites g) (addressed_to scenario g))

-- the ceiling of message m at group g, as far as it is known
abbrev pub ceiling_known : Plan → Scenario → List (Option ℕ) → List (Option ℕ) → ℕ → ℕ → ℕ
ceiling_known plan scenario leasts sites m g = commit_known plan scenario sites m g + after_known plan scenario leasts sites g

-- The ceiling of the target is so great, wherever the groups are that have no site yet, where the total is at least that.
pub record IsHigh (plan : Plan) (scenario : Scenario) (leasts sites : List (Option ℕ)) (reach : Floor) (total : ℕ) (row : TargetCeiling) : Type 0 where
  pub ceiling : ℕ
  pub ceiling_low : ceiling ≤ ceiling_known plan scenario leasts sites row.target.message row.target.group
  pub past : IsAtMost (excess_at reach total) (record { latency = ceiling; limit = limit_of row.target })

-- That of some target is.
pub record IsHighAnyhow (plan : Plan) (scenario : Scenario) (leasts sites : List (Option ℕ)) (rows : List TargetCeiling) (reach : Floor) : Type 0 where
  pub row : TargetCeiling
  pub of_row : Contains rows row
  pub total : ℕ
  pub total_low : total ≤ total_known plan scenario sites
  pub high : IsHigh plan scenario leasts sites reach total row
