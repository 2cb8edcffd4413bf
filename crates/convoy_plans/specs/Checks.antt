-- The rules for a plan as it is written, in the order in which they are asked.
use Rattle.std.specs.Prelude.{ℕ, ◌*◌, nat_le, Bool, ◌&&◌, false, not, if◌then◌else◌, List, [], ◌∷◌, ◌++◌, map, length, Option, Some, None, is_some, Result, Ok, Err}
use Rattle.std.specs.List.{list_all}
use Rattle.convoy_draft.specs.declared.fault.Key.TheVariants.{From, Stamps}
use Rattle.convoy_draft.specs.declared.fault.Limit.TheVariants.{Delay, Link}
use Rattle.convoy_draft.specs.declared.fault.ScenarioFault.TheVariants as scenario
use Rattle.convoy_draft.specs.Checks.{all_differ, has_range, is_among, is_count, is_within, links_differ}
use Rattle.convoy_draft.specs.Draft.{Draft}
use Rattle.convoy_draft.specs.Limits.{greatest_delay}
use Rattle.convoy_draft.specs.Names.{is_group_name}
use Rattle.convoy_toml.specs.Shape.{LinkEnds, WrittenMessage}
use Rattle.convoy_plans.specs.declared.fault.PlanFault.{PlanFault}
use Rattle.convoy_plans.specs.declared.fault.PlanFault.TheVariants.{Scenario, OverLimit, UnknownSite, NoSites, NoPlace}
use Rattle.convoy_plans.specs.declared.fault.PlanLimit.TheVariants.{Sites, Placements}
use Rattle.convoy_plans.specs.declared.fault.TheConstants.{MOST_PLACEMENTS, MOST_SITES}
use Rattle.convoy_plans.specs.Numbering.{all_housed}
use Rattle.convoy_plans.specs.Plans.{WrittenPlan}
use Rattle.convoy_plans.specs.Ranges.{senders_of}

-- all of the names are among others
abbrev pub are_among : List (List ℕ) → List (List ℕ) → Bool
are_among names others = list_all (λ name. is_among name others) names

-- both ends of a table's links are sites
abbrev pub knows_ends : List (List ℕ) → LinkEnds → Bool
knows_ends sites ends = are_among (senders_of ends) sites && are_among ends.to sites

-- how many placements there are, where each group may be at these sites
abbrev pub placement_count : List (List ℕ) → ℕ
placement_count [] = 1
placement_count (sites ∷ others) = length sites * placement_count others

-- what sends the message is a site or a group
abbrev pub is_sent_from : List (List ℕ) → WrittenMessage → Bool
is_sent_from places message = by_sender message.sender where
  by_sender : Option (List ℕ) → Bool
  by_sender None = false
  by_sender (Some name) = is_among name places

-- a rule and the fault that is told where it does not hold
abbrev pub PlanCheck : Type 0
PlanCheck = Bool × PlanFault

-- the rules on numbers, where each group may be at these sites
abbrev pub limit_checks : WrittenPlan → Draft → List (List ℕ) → List PlanCheck
limit_checks plan draft housed =
    (is_count MOST_SITES plan.sites, OverLimit Sites)
    ∷ (is_within 1 (greatest_delay draft.time) draft.delay, Scenario (scenario.OverLimit Delay))
    ∷ (list_all (has_range draft.delay) draft.links, Scenario (scenario.OverLimit Link))
    ∷ (nat_le (placement_count housed) MOST_PLACEMENTS, OverLimit Placements)
    ∷ []

-- the rules on names: of places, which are groups and sites, and of the groups that have a table
abbrev pub name_checks : WrittenPlan → Draft → List (List ℕ) → List (List ℕ) → List PlanCheck
name_checks plan draft places settled =
    (list_all is_group_name plan.sites, Scenario scenario.BadName)
    ∷ (all_differ places, Scenario scenario.DoubleName)
    ∷ (all_differ settled, Scenario scenario.DoubleName)
    ∷ (list_all (λ home. all_differ home.sites) plan.homes, Scenario scenario.DoubleName)
    ∷ (list_all all_differ plan.apart, Scenario scenario.DoubleName)
    ∷ (links_differ draft.links, Scenario scenario.DoubleName)
    ∷ []

-- the rules on what refers to groups, of which these have a table
abbrev pub group_checks : WrittenPlan → List (List ℕ) → List PlanCheck
group_checks plan settled =
    (are_among settled plan.scenario.groups, Scenario scenario.UnknownGroup)
    ∷ (list_all (λ groups. are_among groups plan.scenario.groups) plan.apart, Scenario scenario.UnknownGroup)
    ∷ (list_all (λ message. are_among message.to plan.scenario.groups) plan.scenario.messages, Scenario scenario.UnknownGroup)
    ∷ (are_among plan.scenario.groups settled, NoSites)
    ∷ []

-- the rules on what refers to sites, and on what sends messages: one of these places; no link between sites is for a group's own stamps
abbrev pub site_checks : WrittenPlan → List (List ℕ) → List PlanCheck
site_checks plan places =
    (list_all (λ home. are_among home.sites plan.sites) plan.homes, UnknownSite)
    ∷ (list_all (λ link. is_some link.ends.senders) plan.scenario.links, Scenario (scenario.Shape From))
    ∷ (list_all (λ link. not link.stamps) plan.scenario.links, Scenario (scenario.Shape Stamps))
    ∷ (list_all (λ link. knows_ends plan.sites link.ends) plan.scenario.links, UnknownSite)
    ∷ (list_all (λ message. is_some message.sender) plan.scenario.messages, NoPlace)
    ∷ (list_all (is_sent_from places) plan.scenario.messages, UnknownSite)
    ∷ []

-- the names of all places: the groups, and the sites
abbrev pub places_of : WrittenPlan → List (List ℕ)
places_of plan = plan.scenario.groups ++ plan.sites

-- the names of the groups that have a table
abbrev pub settled_of : WrittenPlan → List (List ℕ)
settled_of plan = map (λ home. home.name) plan.homes

-- the rules, in order, where the names of places and of groups with a table are these
abbrev pub rules_of : WrittenPlan → Draft → List (List ℕ) → List (List ℕ) → List (List ℕ) → List PlanCheck
rules_of plan draft housed places settled =
    limit_checks plan draft housed ++ (name_checks plan draft places settled ++ (group_checks plan settled ++ site_checks plan places))

-- all the rules, in order
abbrev pub checks : WrittenPlan → Draft → List PlanCheck
checks plan draft = rules_of plan draft (all_housed plan) (places_of plan) (settled_of plan)

-- the fault of the first rule that does not hold
abbrev pub judge : List PlanCheck → Result (Unit {0}) PlanFault
judge [] = Ok tt
judge (check ∷ rest) = if check.0 then judge rest else Err check.1
