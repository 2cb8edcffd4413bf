-- The law of the listed order, said of drafts.
use Rattle.std.proofs.Common.{◌≡◌, ℕ, ◌<◌, ◌≤◌, List, length, Ok, sym, subst, subst₂, arith}
use Rattle.convoy_draft.specs.Draft.{Draft}
use Rattle.convoy_scenario.specs.Scenario.{Scenario, GoesTo, message_at, no_message}
use Rattle.convoy_scenario.specs.Numbering.{scenario_of_draft}
use Rattle.convoy_scenario.specs.ScenarioLaws.{DraftsGiveScenarios}
use Rattle.convoy_scenario.specs.WellFormed.{IsScenario}
use Rattle.convoy_sim.specs.Delivery.{latency_at, latency_of}
use Rattle.convoy_sim.proofs.Membership.{all-in}
use Rattle.convoy_sim.proofs.Addressed.{in_of_goes, number_of_goes}
use Rattle.convoy_orders.specs.AllOrders.{IsHeldUp, NoOrderIsBelow}
use Rattle.convoy_orders.specs.GreatestAt.{IsUpperAt}
use Rattle.convoy_orders.specs.ListedOrder.{CeilingIsSame, LastListedIsBest}
use Rattle.convoy_orders.specs.Relisted.{number_in, relisted, RelistedDraftsAreRenumbered}
use Rattle.convoy_orders.specs.RelistedOrders.{CeilingOfDraftIsSame, IsHeldUpIn, IsTargetLast, NoOrderOfDraftIsBelow, TargetListedLastIsBest, TargetListedLastIsLeast}
use Rattle.convoy_orders.proofs.SameParts.{goes_there}

-- no destination of a message stands behind the last group
none_behind : (last : Scenario) → IsScenario last → IsTargetLast last → (m h : ℕ) → GoesTo last m h → h ≤ last.target_group
none_behind last well end m h goes =
    let known = (well.messages m no_message (number_of_goes last m h goes)).known in
    let below = all-in (λ g. g < length last.groups) h (message_at last m).destinations known (in_of_goes last m h goes) in
    omega arith

module _ (scenarios : DraftsGiveScenarios) (renumbered : RelistedDraftsAreRenumbered) where
  pub last_is_best : LastListedIsBest → TargetListedLastIsBest
  unfolding latency_of
  last_is_best best draft names plan last latency of end upper =
      let is = renumbered draft names plan last of in
      let well = scenarios draft plan of.is in
      let well_too = scenarios (relisted names draft) last of.other_is in
      let group = is.target_group in
      let most : IsUpperAt last plan.target_message (number_in names draft.groups plan.target_group) latency =
      best (number_in names draft.groups) (number_in draft.groups names) plan last plan.target_message plan.target_group latency well well_too is well.addressed
      (λ h goes.
      let low = none_behind last well_too end plan.target_message (number_in names draft.groups h) (goes_there (number_in names draft.groups) (number_in draft.groups names) plan last is plan.target_message h goes) in
      omega arith)
      upper in
      λ run given. subst₂ (λ m g. latency_at last run m g ≤ latency) (sym is.target_message) (sym group) (most run given)

  held_up : (draft : Draft) (plan : Scenario) (names : List (List ℕ)) (groups : List ℕ) (m g latency : ℕ)
      → scenario_of_draft draft ≡ Ok plan → IsHeldUpIn draft plan names groups m g latency → IsHeldUp plan groups m g latency
  held_up draft plan names groups m g latency is held = record {
    renumber = number_in names draft.groups;
    back = number_in draft.groups names;
    listed = held.listed;
    well = scenarios (relisted names draft) held.listed held.of_draft.other_is;
    is = renumbered draft names plan held.listed held.of_draft;
    goes = held.goes;
    behind = held.behind;
    run = held.run;
  }

  pub none_below : NoOrderIsBelow → NoOrderOfDraftIsBelow
  none_below below draft names plan other groups order message latency of some held =
      below (number_in names draft.groups) (number_in draft.groups names) plan other groups message latency
      (scenarios draft plan of.is) (scenarios (relisted names draft) other of.other_is) (renumbered draft names plan other of) some
      (λ g c. held_up draft plan (order g) groups (message g) g (latency g) of.is (held g c))

pub last_is_least : TargetListedLastIsBest → TargetListedLastIsLeast
last_is_least best draft names plan last latency least of end greatest greatest_last =
    let run = greatest_last.reached in
    subst (λ n. n ≤ latency) run.2 (best draft names plan last latency of end greatest.upper run.0 run.1)

pub ceiling_same : RelistedDraftsAreRenumbered → CeilingIsSame → CeilingOfDraftIsSame
ceiling_same renumbered same draft names plan other of =
    (same (number_in names draft.groups) (number_in draft.groups names) plan other (renumbered draft names plan other of)).1
