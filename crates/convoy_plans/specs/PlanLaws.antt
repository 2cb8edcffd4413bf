-- What is proved of the scenarios of a plan. Each is the one clause of the function of its name in the crate's module `plan_laws`.
use Rattle.std.specs.Prelude.{◌≡◌, ◌≢◌, ℕ, ◌<◌, ◌≤◌, List, [], length, Some, Ok, IsFalse}
use Rattle.convoy_scenario.specs.Numbering.{sender_of}
use Rattle.convoy_scenario.specs.Scenario.{Scenario, message_at, range_between, stamp_takes_time, takes_time}
use Rattle.convoy_scenario.specs.declared.sender.Sender.{Sender}
use Rattle.convoy_scenario.specs.declared.sender.Sender.TheVariants as senders
use Rattle.convoy_plans.specs.Placements.{groups_in, scenario_at, sender_in, site_at}
use Rattle.convoy_plans.specs.Plans.{IsOrigin, IsPlan, Plan, goes_of, most_between, origin_of, site_name}
use Rattle.convoy_plans.specs.declared.plan.Origin.{Origin}
use Rattle.convoy_plans.specs.declared.plan.Origin.TheVariants.{Site, Group}

-- the site of clients, or of the group in that placement
abbrev pub site_of : List ℕ → Origin → ℕ
site_of placement (Site s) = s
site_of placement (Group g) = site_at placement g

-- who that is in the scenarios of the plan: a group keeps its number
abbrev pub sender_for : Plan → Origin → Sender
sender_for plan (Site s) = sender_of (groups_in plan) [] (sender_in plan (Some (site_name plan s)))
sender_for plan (Group g) = senders.Group g

-- In the scenario of a placement what goes from a place to another group of the plan may take as long as what is written from site to site.
abbrev pub RangesAreOfSites : Type 0
RangesAreOfSites =
    (plan : Plan) (placement : List ℕ) (scenario : Scenario) (from : Origin) (g : ℕ)
    → IsPlan plan → scenario_at plan placement ≡ Ok scenario
    → IsOrigin plan from → g < length plan.written.groups → from ≢ Group g
    → most_between plan (site_of placement from) (site_at placement g) ≤ (range_between scenario (sender_for plan from) g).1

-- what the group sends to itself takes no time, be it a message or its own stamp
pub record TakesNoTimeAtHome (scenario : Scenario) (g : ℕ) : Type 0 where
  pub messages : IsFalse (takes_time scenario (senders.Group g) g)
  pub stamps : IsFalse (stamp_takes_time scenario g g)

-- In the scenario of a placement no group has a link to itself: neither a message that it sends to itself nor its own stamp takes time.
abbrev pub GroupsHaveNoLinksToThemselves : Type 0
GroupsHaveNoLinksToThemselves =
    (plan : Plan) (placement : List ℕ) (scenario : Scenario) (g : ℕ) → scenario_at plan placement ≡ Ok scenario
    → TakesNoTimeAtHome scenario g

-- what a message of the scenario of a placement has from the plan: who sends it, and the groups that it goes to, by their numbers
pub record IsOfPlan (plan : Plan) (scenario : Scenario) (m : ℕ) : Type 0 where
  pub sender : (message_at scenario m).sender ≡ sender_for plan (origin_of plan m)
  pub origin : IsOrigin plan (origin_of plan m)
  pub destinations : (message_at scenario m).destinations ≡ goes_of plan m

-- The scenario of each placement has the plan's messages, from where they are sent to the groups that they go to.
abbrev pub MessagesAreOfPlans : Type 0
MessagesAreOfPlans =
    (plan : Plan) (placement : List ℕ) (scenario : Scenario) (m : ℕ)
    → IsPlan plan → scenario_at plan placement ≡ Ok scenario → m < length plan.written.messages
    → IsOfPlan plan scenario m
