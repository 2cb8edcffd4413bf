-- Trees over placements, which show that no choice of a plan is below a floor.
use Rattle.std.specs.Prelude.{ℕ, ◌+◌, nat_lt, Bool, false, IsTrue, ◌&&◌, if◌then◌else◌, List, [], ◌∷◌, ◌++◌, length, Option, Some, None, is_none, Result, Ok, Err}
use Rattle.std.specs.Option.{option_or}
use Rattle.convoy_draft.specs.declared.fault.ScenarioFault.{ScenarioFault}
use Rattle.convoy_scenario.specs.Scenario.{Scenario}
use Rattle.convoy_plans.specs.Placements.{scenario_at}
use Rattle.convoy_plans.specs.Plans.{Plan, is_apart}
use Rattle.convoy_best_order.specs.declared.target.Target.{Target}
use Rattle.convoy_best_order.specs.declared.wanted.Wanted.{Wanted}
use Rattle.convoy_best_plan.specs.declared.floor.Floor.{Floor}
use Rattle.convoy_best_plan.specs.BestPlans.{targets_by}
use Rattle.convoy_best_plan.specs.Floors.{excess_at}
use Rattle.convoy_best_plan.specs.Leaves.{commit_known, site_known, total_known}
use Rattle.convoy_best_plan.specs.Totals.{total_of}
use Rattle.convoy_plan_certificate.specs.declared.branch.Branch.{Branch}
use Rattle.convoy_plan_certificate.specs.declared.branch.Branch.TheVariants.{Split, Apart, Commit, NoScenario, Late}
use Rattle.convoy_plan_certificate.specs.declared.branch.Witness.{Witness}
use Rattle.convoy_plan_checker.specs.declared.plan_refused.PlanRefused.{PlanRefused}
use Rattle.convoy_plan_checker.specs.declared.plan_refused.PlanRefused.TheVariants as refused
use Rattle.convoy_plan_checker.specs.Lateness.{are_late, is_past, target_at}
use Rattle.convoy_plan_checker.specs.Sites.{Sites, is_left, is_one_site, is_placed, no_sites, placement_of, sites_below}

-- what a tree is to show: that no choice of the plan is below the floor, for the targets that are wanted; and the scenario of one placement with its targets, since all of them have the same messages
pub record Claim : Type 0 where
  pub wanted : Wanted
  pub scenario : Scenario
  pub targets : List Target
  pub floor : Floor

-- NODES
-- the target is so late by its commit alone, wherever the groups are that have no site yet
abbrev pub is_late_anyhow : Plan → Claim → Sites → Target → Bool
is_late_anyhow plan claim sites target =
    is_past (excess_at claim.floor (total_known plan claim.scenario sites)) target
    (Some (commit_known plan claim.scenario sites target.message target.group))

-- the scenario that is made, if one is
abbrev pub if_made : Result Scenario ScenarioFault → Option Scenario
if_made (Ok scenario) = Some scenario
if_made (Err fault) = None

-- the scenario of the placement that has these sites, where each group has one
abbrev pub scenario_over : Plan → Sites → Option Scenario
scenario_over plan sites = if_made (scenario_at plan (placement_of sites))

-- there is a scenario, and the witnesses show that no order of its groups is below the floor
abbrev pub is_late_made : Plan → Claim → List Witness → Option Scenario → Bool
is_late_made plan claim witnesses None = false
is_late_made plan claim witnesses (Some scenario) =
    are_late scenario (targets_by claim.wanted plan scenario) (excess_at claim.floor (total_of scenario)) witnesses

-- the node is right over the sites: a split names a group that has none yet, and a leaf shows that no placement with these sites is below the floor
abbrev pub is_right : Plan → Claim → Branch → Sites → Bool
is_right plan claim (Split g) sites = is_left sites g
is_right plan claim (Apart g h) sites = is_apart plan g h && is_one_site (site_known sites g) (site_known sites h)
is_right plan claim (Commit k) sites =
    nat_lt k (length claim.targets) && is_late_anyhow plan claim sites (target_at claim.targets k)
is_right plan claim NoScenario sites = is_placed sites && is_none (scenario_over plan sites)
is_right plan claim (Late witnesses) sites = is_placed sites && is_late_made plan claim witnesses.items (scenario_over plan sites)

-- what a node of that number is refused for
abbrev pub fault_of : Branch → ℕ → PlanRefused
fault_of (Split g) number = refused.Split number
fault_of (Apart g h) number = refused.Apart number
fault_of (Commit k) number = refused.Commit number
fault_of NoScenario number = refused.NoScenario number
fault_of (Late witnesses) number = refused.Late number

abbrev pub node_fault : Plan → Claim → ℕ → Branch → Sites → Option PlanRefused
node_fault plan claim number node sites = if is_right plan claim node sites then None else Some (fault_of node number)

-- TREES
-- The nodes are whole trees, one over each of the sites and in their order, and nothing more, and each node is right.
abbrev pub AreTrees : Plan → Claim → List Sites → List Branch → Type 0
AreTrees plan claim [] [] = Unit {0}
AreTrees plan claim (sites ∷ left) (node ∷ nodes) =
    IsTrue (is_right plan claim node sites) × AreTrees plan claim (sites_below plan node sites ++ left) nodes
AreTrees plan claim left nodes = ⊥

-- the first fault of the nodes from that number on, over the sites that are left there; after all nodes and sites that the one ended before the other
abbrev pub first_fault : Plan → Claim → ℕ → List Sites → List Branch → Option PlanRefused
first_fault plan claim number [] [] = None
first_fault plan claim number (sites ∷ left) (node ∷ nodes) =
    option_or (node_fault plan claim number node sites)
    (first_fault plan claim (number + 1) (sites_below plan node sites ++ left) nodes)
first_fault plan claim number left nodes = Some refused.TreeCount

-- what is answered for the nodes of a certificate: nothing if they are one tree over all placements, and else the first fault
abbrev pub told_by : Option PlanRefused → Result (Unit {0}) PlanRefused
told_by None = Ok tt
told_by (Some fault) = Err fault

abbrev pub tree_answer : Plan → Claim → List Branch → Result (Unit {0}) PlanRefused
tree_answer plan claim nodes = told_by (first_fault plan claim 0 (no_sites plan ∷ []) nodes)
