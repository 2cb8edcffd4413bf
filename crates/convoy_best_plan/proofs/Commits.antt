-- With the groups in any order a message is as late at a group as its commit is there where all takes as long as it may.
use Rattle.std.proofs.Common.{◌≡◌, ℕ, ◌+◌, ◌-◌, ◌≤◌, ◌==◌, Bool, true, false, cond, not, ◌&&◌, List, map, get_or, Option, Some, None, is_some, refl, sym, ap, ap₂, ◌∙◌, arith}
use Rattle.std.proofs.lemmas.Bool.{true≢false}
use Rattle.std.proofs.lemmas.List.{get_or-map, length-map}
use Rattle.std.proofs.lemmas.List.Elements.{All-map}
use Rattle.std.proofs.lemmas.Option.{get_or_from_slice_get, slice_get_within}
use Rattle.convoy_scenario.specs.declared.sender.Sender.TheVariants.{Group}
use Rattle.convoy_scenario.specs.Naming.{draft_for}
use Rattle.convoy_scenario.specs.Scenario.{GoesTo, Scenario, message_at, range_between, stamp_takes_time, takes_time}
use Rattle.convoy_scenario.specs.ScenarioLaws.{DraftsGiveScenarios, ScenariosHaveDrafts}
use Rattle.convoy_scenario.specs.WellFormed.{IsScenario}
use Rattle.convoy_packets.specs.declared.packet.Packet.{Packet}
use Rattle.convoy_packets.specs.declared.packet.Packet.TheVariants.{Multicast, Propose}
use Rattle.convoy_packets.specs.Assignment.{AreWithin, IsAssignment, Schedule, delay_of, range_of, ranges_of}
use Rattle.convoy_packets.specs.Packets.{packets_of, place_of}
use Rattle.convoy_packets.specs.ScheduleLaws.{is_sent}
use Rattle.convoy_packets.specs.Table.{IsRange, greatest_delays, greatest_of}
use Rattle.convoy_packets.proofs.Orders.{fixed_is_order}
use Rattle.convoy_packets.proofs.Places.{stands_where_found}
use Rattle.convoy_packets.proofs.Ranges.{AreWithin-greatest, delay_at_place, no_time_if_unsent, range_lawful}
use Rattle.convoy_packets.proofs.Sent.{found_if_sent}
use Rattle.convoy_sim.specs.Delivery.{latency_at, latency_of}
use Rattle.convoy_sim.specs.Greatest.{IsReached}
use Rattle.convoy_sim.specs.ProtocolLaws.{DeliveredAfterCommit}
use Rattle.convoy_sim.specs.Times.{arrive, issue, propose_arrive, settle}
use Rattle.convoy_sim.proofs.Addressed.{goes_from_in}
use Rattle.convoy_sim.proofs.Membership.{greatest_most, in_greatest}
use Rattle.convoy_ceiling.specs.Ceiling.{delays_between, longest_by, longest_to_commit, stamp_delays}
use Rattle.convoy_orders.specs.Relisted.{RelistedDraftsAreRenumbered, RelistedDraftsGiveScenarios, number_in, relisted}
use Rattle.convoy_orders.specs.Renumbered.{IsRenumbered}
use Rattle.convoy_orders.proofs.Ceilings.{same_to_commit}
use Rattle.convoy_scenario.specs.declared.sender.Sender.{Sender}
use Rattle.convoy_best_order.specs.declared.target.Target.{Target}
use Rattle.convoy_best_order.specs.Orders.{IsOrder, names_of}
use Rattle.convoy_best_order.specs.Targets.{MayBeTarget, asked_of}
use Rattle.convoy_best_order.proofs.Asking.{well_asked}
use Rattle.convoy_best_order.proofs.Relisting.{in_order, is_listed, of_one_draft}

-- ---- the schedule of the greatest delays
greatest_run : Scenario → Schedule
greatest_run plan = greatest_of (ranges_of plan)

greatest_within : (plan : Scenario) → IsScenario plan → AreWithin (ranges_of plan) (greatest_delays (ranges_of plan))
unfolding ranges_of
greatest_within plan is =
    AreWithin-greatest (ranges_of plan) (All-map IsRange (range_of plan) (packets_of plan) (λ k d l. range_lawful plan (get_or (packets_of plan) k d) is))

greatest_assigned : (plan : Scenario) → IsScenario plan → IsAssignment plan (greatest_run plan)
unfolding greatest_run
greatest_assigned plan is = record { delays = greatest_within plan is; order = fixed_is_order plan }

-- each packet that is sent takes as long as it may
takes_most : (plan : Scenario) (p : Packet) → is_sent plan p ≡ true → delay_of plan (greatest_run plan) p ≡ (range_of plan p).1
unfolding greatest_run ranges_of
takes_most plan p sent = by_place (place_of p (packets_of plan)) refl where
  by_place : (o : Option ℕ) → place_of p (packets_of plan) ≡ o → delay_of plan (greatest_run plan) p ≡ (range_of plan p).1
  by_place None e = absurd (true≢false (sym sent ∙ sym (found_if_sent plan p) ∙ ap is_some e))
  by_place (Some i) e =
      let stands = stands_where_found (packets_of plan) i p e in
      let here = slice_get_within (packets_of plan) i p stands in
      let same : get_or (packets_of plan) i p ≡ p = get_or_from_slice_get (packets_of plan) i p p stands in
      let long = length-map (packets_of plan) (range_of plan) in
      delay_at_place plan (greatest_run plan) p i e
      ∙ get_or-map (λ (range : ℕ × ℕ). range.1) (map (range_of plan) (packets_of plan)) i (range_of plan p) 0 (omega (arith, here, long))
      ∙ ap (λ (range : ℕ × ℕ). range.1) (get_or-map (range_of plan) (packets_of plan) i p (range_of plan p) here ∙ ap (range_of plan) same)

-- so does each way; what takes no time is not sent
way_takes : (plan : Scenario) (p : Packet) (takes : Bool) (range : ℕ × ℕ) → is_sent plan p ≡ takes → range_of plan p ≡ range
    → delay_of plan (greatest_run plan) p ≡ (cond takes range (0, 0)).1
way_takes plan p true range sent is = takes_most plan p sent ∙ ap (λ (r : ℕ × ℕ). r.1) is
way_takes plan p false range sent is = no_time_if_unsent plan (greatest_run plan) p (ap not sent)

module _ (plan : Scenario) (m g : ℕ) (goes : GoesTo plan m g) where
  abbrev run : Schedule
  run = greatest_run plan

  by_way : (h : ℕ) → GoesTo plan m h → propose_arrive plan run m g h ≡ issue plan run m + longest_by plan (message_at plan m).sender g h
  unfolding arrive
  by_way h to_h =
      let sender : Sender = (message_at plan m).sender in
      let first : delay_of plan run (Multicast m h) ≡ (delays_between plan sender h).1 =
      way_takes plan (Multicast m h) (takes_time plan sender h) (range_between plan sender h) (ap (λ b. b && takes_time plan sender h) to_h) refl in
      let second : delay_of plan run (Propose m h g) ≡ (stamp_delays plan h g).1 =
      way_takes plan (Propose m h g) (stamp_takes_time plan h g) (range_between plan (Group h) g) (ap₂ (λ a b. a && b && stamp_takes_time plan h g) to_h goes) refl in
      omega (arith, first, second)

  commits_late : longest_to_commit plan m g ≤ settle plan run m g - issue plan run m
  unfolding settle
  commits_late =
      greatest_most (longest_by plan (message_at plan m).sender g) (settle plan run m g - issue plan run m) (message_at plan m).destinations
      (λ h i.
      let way = by_way h (goes_from_in plan m h i) in
      let most = in_greatest (propose_arrive plan run m g) h (message_at plan m).destinations i in
      omega (arith, way, most))

  late : DeliveredAfterCommit → IsScenario plan → longest_to_commit plan m g ≤ latency_at plan run m g
  unfolding latency_at
  late after well =
      let commit = commits_late in
      let past = after plan run well m g goes in
      omega (arith, commit, past)

-- ---- with the groups in an order
module _ (have : ScenariosHaveDrafts) (given : DraftsGiveScenarios) (give : RelistedDraftsGiveScenarios) (renumbered : RelistedDraftsAreRenumbered) (after : DeliveredAfterCommit)
    (scenario : Scenario) (target : Target) (well : IsScenario scenario) (may : MayBeTarget scenario target) (order : List ℕ) (is : IsOrder scenario order) where
  abbrev asked : Scenario
  asked = asked_of scenario target

  abbrev instance : Scenario
  instance = in_order asked order

  asked_well : IsScenario asked
  asked_well = well_asked scenario target well may

  same : IsRenumbered (number_in (names_of asked order) asked.groups) (number_in asked.groups (names_of asked order)) asked instance
  same = renumbered (draft_for asked) (names_of asked order) asked instance (of_one_draft have give asked order asked_well is)

  instance_well : IsScenario instance
  instance_well = given (relisted (names_of asked order) (draft_for asked)) instance (is_listed have give asked order asked_well is)

  -- the schedule of the greatest delays is so late in each order
  pub commit_reached : (latency : ℕ) × IsReached instance latency × (longest_to_commit scenario target.message target.group ≤ latency)
  unfolding latency_of
  commit_reached =
      let goes : GoesTo instance instance.target_message instance.target_group = instance_well.addressed in
      let low = late instance instance.target_message instance.target_group goes after instance_well in
      let there : longest_to_commit instance instance.target_message instance.target_group ≡ longest_to_commit asked target.message target.group =
      ap₂ (longest_to_commit instance) same.target_message same.target_group
      ∙ same_to_commit (number_in (names_of asked order) asked.groups) (number_in asked.groups (names_of asked order)) asked instance same target.message target.group in
      (latency_of instance (greatest_run instance), (greatest_run instance, greatest_assigned instance instance_well, refl), omega (arith, low, there))
