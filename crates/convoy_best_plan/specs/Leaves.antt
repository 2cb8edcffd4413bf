-- What is known of all placements that have some sites: how late commits may be at least, where all takes as long as it may.
use Rattle.std.specs.Prelude.{ℕ, ◌+◌, ◌≤◌, List, map, slice_index_or, Option, Some, None, Contains, if◌then◌else◌}
use Rattle.std.specs.List.{sum_by}
use Rattle.convoy_scenario.specs.declared.sender.Sender.{Sender}
use Rattle.convoy_scenario.specs.declared.sender.Sender.TheVariants as senders
use Rattle.convoy_scenario.specs.Scenario.{Scenario, is_same_sender, message_at, message_numbers}
use Rattle.convoy_sim.specs.Times.{greatest}
use Rattle.convoy_plans.specs.declared.plan.Origin.{Origin}
use Rattle.convoy_plans.specs.declared.plan.Origin.TheVariants.{Site, Group}
use Rattle.convoy_plans.specs.Plans.{Plan, most_between, origin_of}
use Rattle.convoy_best_order.specs.declared.target.Target.{Target}
use Rattle.convoy_best_order.specs.Excesses.{IsAtMost}
use Rattle.convoy_best_order.specs.Targets.{limit_of}
use Rattle.convoy_best_plan.specs.declared.floor.Floor.{Floor}
use Rattle.convoy_best_plan.specs.Floors.{excess_at}

-- the site of the group, if it has one
abbrev pub site_known : List (Option ℕ) → ℕ → Option ℕ
site_known sites g = slice_index_or sites g None

-- the site from which something is sent, if it is known
abbrev pub origin_site : List (Option ℕ) → Origin → Option ℕ
origin_site sites (Site s) = Some s
origin_site sites (Group g) = site_known sites g

-- how long what goes from the one site to the other takes at most, or 0 where one of them is not known
abbrev pub most_known : Plan → Option ℕ → Option ℕ → ℕ
most_known plan None to = 0
most_known plan (Some a) None = 0
most_known plan (Some a) (Some b) = most_between plan a b

-- the same from a sender, who is there, to a group; what a group sends to itself takes no time, as it has no link to itself
abbrev pub way_known : Plan → List (Option ℕ) → Sender → Origin → ℕ → ℕ
way_known plan sites sender from g =
    if is_same_sender sender (senders.Group g) then 0 else most_known plan (origin_site sites from) (site_known sites g)

-- the way from the sender to group h, and on to group g
abbrev pub way_by : Plan → List (Option ℕ) → Sender → Origin → ℕ → ℕ → ℕ
way_by plan sites sender from g h = way_known plan sites sender from h + way_known plan sites (senders.Group h) (Group h) g

-- how long message m of a scenario of the plan takes at the longest to its commit at group g, as far as that is known
abbrev pub commit_known : Plan → Scenario → List (Option ℕ) → ℕ → ℕ → ℕ
commit_known plan scenario sites m g =
    greatest (map (way_by plan sites (message_at scenario m).sender (origin_of plan m) g) (message_at scenario m).destinations)

-- the same, summed over the groups that the message goes to, and over all messages
abbrev pub total_known_at : Plan → Scenario → List (Option ℕ) → ℕ → ℕ
total_known_at plan scenario sites m = sum_by (commit_known plan scenario sites m) (message_at scenario m).destinations

abbrev pub total_known : Plan → Scenario → List (Option ℕ) → ℕ
total_known plan scenario sites = sum_by (total_known_at plan scenario sites) (message_numbers scenario)

-- The target is so late by its commit alone, wherever the groups are that have no site yet, where the total is at least that.
pub record IsLate (plan : Plan) (scenario : Scenario) (sites : List (Option ℕ)) (reach : Floor) (total : ℕ) (target : Target) : Type 0 where
  pub latency : ℕ
  pub latency_low : latency ≤ commit_known plan scenario sites target.message target.group
  pub past : IsAtMost (excess_at reach total) (record { latency = latency; limit = limit_of target })

-- Some target is.
pub record IsLateAnyhow (plan : Plan) (scenario : Scenario) (sites : List (Option ℕ)) (targets : List Target) (reach : Floor) : Type 0 where
  pub target : Target
  pub of_target : Contains targets target
  pub total : ℕ
  pub total_low : total ≤ total_known plan scenario sites
  pub late : IsLate plan scenario sites reach total target
