-- What is asked of a target with the groups in an order is asked of its message at its group.
use Rattle.std.proofs.Common.{◌≡◌, ℕ, ◌≤◌, List, Some, Ok, refl, sym, ap, subst, subst₂, ◌∙◌}
use Rattle.std.proofs.lemmas.Option.{same_Some, none-some}
use Rattle.convoy_scenario.specs.Naming.{draft_for}
use Rattle.convoy_scenario.specs.Scenario.{Scenario}
use Rattle.convoy_scenario.specs.ScenarioLaws.{ScenariosHaveDrafts}
use Rattle.convoy_scenario.specs.Targets.{with_target}
use Rattle.convoy_scenario.specs.WellFormed.{IsScenario}
use Rattle.convoy_packets.specs.Packets.{packets_of}
use Rattle.convoy_packets.specs.Assignment.{IsAssignment, Schedule, delay_of, ranges_of}
use Rattle.convoy_sim.specs.Times.{arrive, settle}
use Rattle.convoy_sim.specs.Moments.{arrival_rank, commit_rank, moments_of}
use Rattle.convoy_sim.specs.Stamps.{clocks_of, final_stamp, local_stamp}
use Rattle.convoy_sim.specs.Delivery.{deliver, holds_back, latency_at, latency_of}
use Rattle.convoy_sim.specs.Greatest.{IsReached, IsUpper}
use Rattle.convoy_branch.specs.Options.{Settings}
use Rattle.convoy_survey.specs.declared.finding.Finding.{Finding}
use Rattle.convoy_survey.specs.declared.finding.Finding.TheVariants.{Greatest, Open, OutOfMemory}
use Rattle.convoy_survey.specs.Findings.{IsFinding, least_of, most_of}
use Rattle.convoy_orders.specs.GreatestAt.{IsLate, IsUpperAt}
use Rattle.convoy_orders.specs.Relisted.{RelistedDraftsAreRenumbered, RelistedDraftsGiveScenarios, number_in}
use Rattle.convoy_orders.proofs.SameOrder.{same_order}
use Rattle.convoy_orders.proofs.Targets.{asked_for}
use Rattle.convoy_best_order.specs.declared.spread.Spread.{Spread}
use Rattle.convoy_best_order.specs.declared.target.Target.{Target}
use Rattle.convoy_best_order.specs.Orders.{IsOrder, names_of}
use Rattle.convoy_best_order.specs.Spreads.{IsSpread}
use Rattle.convoy_best_order.specs.Targets.{MayBeTarget, asked_of}
use Rattle.convoy_best_order.proofs.Relisting.{in_order, of_one_draft}

-- a scenario with another target is one
pub well_asked : (scenario : Scenario) (target : Target) → IsScenario scenario → MayBeTarget scenario target → IsScenario (asked_of scenario target)
well_asked scenario target well may = record {
  delay_low = well.delay_low;
  delay_high = well.delay_high;
  delay_whole = well.delay_whole;
  tick = well.tick;
  groups_low = well.groups_low;
  groups_high = well.groups_high;
  places_high = well.places_high;
  multicasts_low = well.multicasts_low;
  multicasts_high = well.multicasts_high;
  group_names = well.group_names;
  group_names_differ = well.group_names_differ;
  place_names = well.place_names;
  place_names_differ = well.place_names_differ;
  places_apart = well.places_apart;
  message_names_differ = well.message_names_differ;
  links = well.links;
  ascending = well.ascending;
  messages = well.messages;
  target = may.known;
  addressed = may.addressed;
  room = may.room;
}

-- ---- one scenario with two targets
same_latency : (plan : Scenario) (m g : ℕ) (schedule : Schedule) → latency_of (with_target plan m g) schedule ≡ latency_at plan schedule m g
unfolding packets_of delay_of arrive settle arrival_rank commit_rank moments_of clocks_of local_stamp final_stamp holds_back deliver latency_at latency_of
same_latency plan m g schedule = refl

assigned : (plan : Scenario) (m g : ℕ) (schedule : Schedule) → IsAssignment (with_target plan m g) schedule → IsAssignment plan schedule
unfolding packets_of ranges_of
assigned plan m g schedule is = record {
  delays = is.delays;
  order = same_order plan (with_target plan m g) refl refl schedule.order is.order;
}

assigned_too : (plan : Scenario) (m g : ℕ) (schedule : Schedule) → IsAssignment plan schedule → IsAssignment (with_target plan m g) schedule
unfolding packets_of ranges_of
assigned_too plan m g schedule is = record {
  delays = is.delays;
  order = same_order (with_target plan m g) plan refl refl schedule.order is.order;
}

late_at : (plan : Scenario) (m g least latency : ℕ) → least ≤ latency → IsReached (with_target plan m g) latency → IsLate plan m g least
late_at plan m g least latency low run =
    (run.0, assigned plan m g run.0 run.1, subst (λ n. least ≤ n) (sym run.2 ∙ same_latency plan m g run.0) low)

-- some schedule is so late, or later
abbrev pub IsReachedPast : Scenario → ℕ → Type 0
IsReachedPast scenario least = (latency : ℕ) × IsReached scenario latency × (least ≤ latency)

reached_past : (plan : Scenario) (m g least : ℕ) → IsLate plan m g least → IsReachedPast (with_target plan m g) least
reached_past plan m g least run =
    (latency_at plan run.0 m g, (run.0, assigned_too plan m g run.0 run.1, same_latency plan m g run.0), run.2)

-- ---- in an order
module _ (have : ScenariosHaveDrafts) (give : RelistedDraftsGiveScenarios) (renumbered : RelistedDraftsAreRenumbered)
    (scenario : Scenario) (order : List ℕ) (target : Target) (well : IsScenario scenario) (may : MayBeTarget scenario target) (is : IsOrder scenario order) where
  abbrev asked : Scenario
  asked = asked_of scenario target

  abbrev number : ℕ
  number = number_in (names_of scenario order) scenario.groups target.group

  numbers : ((in_order asked order).target_message ≡ target.message) × ((in_order asked order).target_group ≡ number)
  numbers =
      let same = renumbered (draft_for asked) (names_of asked order) asked (in_order asked order) (of_one_draft have give asked order (well_asked scenario target well may) is) in
      (same.target_message, same.target_group)

  target_in : in_order asked order ≡ with_target (in_order scenario order) target.message number
  target_in =
      subst₂ (λ m g. in_order asked order ≡ with_target (in_order scenario order) m g) numbers.0 numbers.1 refl

  pub late_in : (least latency : ℕ) → least ≤ latency → IsReached (in_order asked order) latency → IsLate (in_order scenario order) target.message number least
  late_in least latency low run =
      late_at (in_order scenario order) target.message number least latency low (subst (λ (s : Scenario). IsReached s latency) target_in run)

  pub reached_in : (least : ℕ) → IsLate (in_order scenario order) target.message number least → IsReachedPast (in_order asked order) least
  reached_in least late =
      subst (λ (s : Scenario). IsReachedPast s least) (sym target_in) (reached_past (in_order scenario order) target.message number least late)

  pub upper_in : (latency : ℕ) → IsUpper (in_order asked order) latency → IsUpperAt (in_order scenario order) target.message number latency
  upper_in latency upper =
      (asked_for (in_order scenario order) target.message number latency).0.0 (subst (λ (s : Scenario). IsUpper s latency) target_in upper)

  pub upper_from : (latency : ℕ) → IsUpperAt (in_order scenario order) target.message number latency → IsUpper (in_order asked order) latency
  upper_from latency upper =
      subst (λ (s : Scenario). IsUpper s latency) (sym target_in) ((asked_for (in_order scenario order) target.message number latency).0.1 upper)

-- ---- what a spread says
pub reached_least : (settings : Settings) (scenario : Scenario) (spread : Spread) → IsSpread settings scenario spread → IsReached scenario spread.least
reached_least settings scenario spread is = by_finding is.finding is.found is.least where
  by_finding : (finding : Finding) → IsFinding settings scenario finding → least_of finding ≡ Some spread.least → IsReached scenario spread.least
  by_finding (Greatest latency cause nodes) found least = subst (IsReached scenario) (same_Some latency spread.least least) found.greatest.reached
  by_finding (Open low most cause) found least =
      subst (IsReached scenario) (same_Some low spread.least least) (found.schedule, found.assigned, found.reached)
  by_finding OutOfMemory found least = absurd found

pub upper_most : (settings : Settings) (scenario : Scenario) (spread : Spread) → IsSpread settings scenario spread → IsUpper scenario spread.most
upper_most settings scenario spread is = by_finding is.finding is.found is.most where
  by_finding : (finding : Finding) → IsFinding settings scenario finding → most_of finding ≡ Some spread.most → IsUpper scenario spread.most
  by_finding (Greatest latency cause nodes) found most = subst (IsUpper scenario) (same_Some latency spread.most most) found.greatest.upper
  by_finding (Open low high cause) found most = subst (IsUpper scenario) (same_Some high spread.most most) found.upper
  by_finding OutOfMemory found most = absurd found
