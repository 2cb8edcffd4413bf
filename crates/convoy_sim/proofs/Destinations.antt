-- What is known of messages and their destinations, and how far ticks are.
use Rattle.std.proofs.Common.{◌≡◌, ℕ, ◌<◌, ◌≤◌, List, length, get_or, sym, subst, arith}
use Rattle.convoy_scenario.specs.Scenario.{Scenario, no_message, message_at}
use Rattle.convoy_scenario.specs.WellFormed.{IsScenario}
use Rattle.convoy_packets.specs.Assignment.{Schedule, IsAssignment}
use Rattle.convoy_sim.specs.Times.{issue, arrive, settle}
use Rattle.convoy_scenario.specs.Scenario.{GoesTo}
use Rattle.convoy_sim.proofs.Membership.{all-in}
use Rattle.convoy_sim.proofs.Addressed.{in_of_goes, number_of_goes}
use Rattle.convoy_sim.proofs.ScenarioMoments.{multicast_at, traffic_of}
use Rattle.convoy_sim.proofs.Issues.{within_its_wait}
use Rattle.convoy_sim.proofs.PacketDelays.{arrives_within, committed_within}
use Rattle.convoy_packets.proofs.Lists.{length-increasing-le}

module _ (plan : Scenario) (well : IsScenario plan) where
  -- each destination is a group of the scenario
  pub known_at : (m : ℕ) → m < length plan.multicasts → (k : ℕ) → k < length (message_at plan m).destinations
      → get_or (message_at plan m).destinations k 0 < length plan.groups
  known_at m l k h = (multicast_at plan (traffic_of plan well) m l).known k 0 h

  pub item_known : (m : ℕ) → m < length plan.multicasts → (items : List ℕ) → items ≡ (message_at plan m).destinations
      → (k : ℕ) → k < length items → get_or items k 0 < length plan.groups
  item_known m l items e k h =
      subst (λ xs. (i : ℕ) → i < length xs → get_or xs i 0 < length plan.groups) (sym e) (known_at m l) k h

  pub item_below : (m : ℕ) → m < length plan.multicasts → (items : List ℕ) → items ≡ (message_at plan m).destinations
      → (k : ℕ) → k < length items → get_or items k 0 < 8
  item_below m l items e k h =
      let here = item_known m l items e k h in
      let most = well.groups_high in
      omega arith

  pub group_known : (m g : ℕ) → GoesTo plan m g → g < length plan.groups
  group_known m g h =
      all-in (λ k. k < length plan.groups) g (message_at plan m).destinations
      (multicast_at plan (traffic_of plan well) m (number_of_goes plan m g h)).known (in_of_goes plan m g h)

  pub group_below : (m g : ℕ) → GoesTo plan m g → g < 8
  group_below m g h =
      let here = group_known m g h in
      let most = well.groups_high in
      omega arith

  pub few_destinations : (m : ℕ) → m < length plan.multicasts → length (message_at plan m).destinations ≤ 8
  few_destinations m l =
      let message = multicast_at plan (traffic_of plan well) m l in
      let few = length-increasing-le (message_at plan m).destinations (length plan.groups) message.ascending message.known in
      let most = well.groups_high in
      omega arith

  -- no message is issued, none comes and none is committed past the limits
  pub issued_soon : (schedule : Schedule) → IsAssignment plan schedule → (m : ℕ) → m < length plan.multicasts
      → issue plan schedule m ≤ 1065535
  issued_soon schedule within m l =
      let message = well.messages m no_message l in
      let soon = within_its_wait plan schedule within m in
      omega (arith, message.at, message.wait)

  pub comes_soon : (schedule : Schedule) → IsAssignment plan schedule → (m g : ℕ) → m < length plan.multicasts
      → arrive plan schedule m g ≤ 1131070
  comes_soon schedule within m g l =
      let issued = issued_soon schedule within m l in
      let soon = arrives_within plan schedule well within m g in
      let most = well.delay_high in
      omega arith

  pub settles_soon : (schedule : Schedule) → IsAssignment plan schedule → (m g : ℕ) → m < length plan.multicasts
      → settle plan schedule m g ≤ 1196605
  settles_soon schedule within m g l =
      let issued = issued_soon schedule within m l in
      let soon = committed_within plan schedule well within m g in
      let most = well.delay_high in
      omega arith
