-- Worked rows: a scenario in which the target may wait, its widened scenario, and what would be told if only half of it were widened.
use Rattle.std.proofs.Common.{◌≡◌, ℕ, true, false, [], ◌∷◌, replicate, codes, refl}
use Rattle.convoy_draft.specs.declared.time.Time.TheVariants.{Ticks}
use Rattle.convoy_scenario.specs.declared.sender.Sender.TheVariants.{Client, Group}
use Rattle.convoy_scenario.specs.Scenario.{Scenario}
use Rattle.convoy_scenario.specs.Targets.{targets_of}
use Rattle.convoy_packets.specs.Packets.{packets_of}
use Rattle.convoy_packets.specs.Order.{no_order}
use Rattle.convoy_packets.specs.Assignment.{delay_of, in_fixed_order, ranges_of}
use Rattle.convoy_sim.specs.Times.{arrive, settle}
use Rattle.convoy_sim.specs.Moments.{arrival_rank, commit_rank, moments_of}
use Rattle.convoy_sim.specs.Stamps.{clocks_of, local_stamp, final_stamp}
use Rattle.convoy_sim.specs.Delivery.{holds_back, deliver, latency_at, latency_of}
use Rattle.convoy_intervals.specs.Boxes.{root_of}
use Rattle.convoy_intervals.specs.Bounds.{plain_bound}
use Rattle.convoy_stamps.specs.Reach.{reach_of}
use Rattle.convoy_stamps.specs.StampBounds.{stamp_bound}
use Rattle.convoy_regions.specs.Regions.{root_region}
use Rattle.convoy_sure.specs.SureLeads.{leads_of, sure_time}
use Rattle.convoy_leads.specs.Leads.{is_led}
use Rattle.convoy_leads.specs.Closing.{closes_by_leads}
use Rattle.convoy_narrowing.specs.Narrowing.{closes_region}
use Rattle.convoy_scenario.proofs.RowScenarios.{message, of_two}
use Rattle.convoy_origin.specs.FromOrigin.{closes_from_origin, plain_from_origin, stamp_from_origin}
use Rattle.convoy_scenario.specs.Widened.{widened}
use Rattle.convoy_origin.specs.Widened.{widened_schedule}
use Rattle.convoy_origin.specs.WidenedBoxes.{range_in, widened_box}
use Rattle.convoy_origin.specs.WidenedRegions.{widened_region}

-- x from a client to b at tick 0, t from a client to a and b, issued at tick 0 or 1, and y from a to a and b at tick 6
unfoldable open_start : Scenario
open_start =
    of_two Ticks 3 (message (codes "x") (Client 0) (1 ∷ []) 0 ∷ record (message (codes "t") (Client 0) (0 ∷ 1 ∷ []) 0) { longest_wait = 1 }
    ∷ message (codes "y") (Group 0) (0 ∷ 1 ∷ []) 6 ∷ []) 1 0

-- where t is issued at tick 1 it is delivered 11 ticks later ..
late_start : latency_of open_start (in_fixed_order (1 ∷ 1 ∷ replicate 7 3)) ≡ 11
unfolding open_start message packets_of delay_of arrive settle arrival_rank commit_rank no_order moments_of clocks_of local_stamp final_stamp holds_back deliver latency_at latency_of
late_start = refl

-- .. and where it is issued at tick 0, y still comes before its commit, and it is delivered 12 ticks later
early_start : latency_of open_start (in_fixed_order (1 ∷ 0 ∷ replicate 7 3)) ≡ 12
unfolding open_start message packets_of delay_of arrive settle arrival_rank commit_rank no_order moments_of clocks_of local_stamp final_stamp holds_back deliver latency_at latency_of
early_start = refl

-- in the widened scenario t is issued at tick 1, and x and y may wait for a tick: there x and y wait for the tick for which t did not
moved_start : (widened_schedule open_start (in_fixed_order (1 ∷ 0 ∷ replicate 7 3))).delays ≡ 1 ∷ 1 ∷ 3 ∷ 3 ∷ 3 ∷ 3 ∷ 1 ∷ 3 ∷ 3 ∷ 3 ∷ []
unfolding open_start message packets_of delay_of widened widened_schedule
moved_start = refl

moved_latency : latency_of (widened open_start) (in_fixed_order (1 ∷ 1 ∷ 3 ∷ 3 ∷ 3 ∷ 3 ∷ 1 ∷ 3 ∷ 3 ∷ 3 ∷ [])) ≡ 12
unfolding open_start message packets_of delay_of arrive settle arrival_rank commit_rank no_order moments_of clocks_of local_stamp final_stamp holds_back deliver latency_at latency_of widened
moved_latency = refl

-- the box in which t is issued at tick 0: in the widened one x and y wait for a tick
open_box : widened_box open_start ((1, 3) ∷ (0, 0) ∷ replicate 7 (1, 3)) ≡ (1, 1) ∷ (1, 3) ∷ (1, 3) ∷ (1, 3) ∷ (1, 3) ∷ (1, 3) ∷ (1, 1) ∷ (1, 3) ∷ (1, 3) ∷ (1, 3) ∷ []
unfolding open_start message packets_of widened widened_box range_in
open_box = refl

-- ---- over the widened root each bound is 12, which is attained
plain_of_widened : plain_bound (widened open_start) (widened_box open_start (root_of open_start)) ≡ 12
unfolding open_start message packets_of ranges_of delay_of arrive settle plain_bound widened widened_box range_in
plain_of_widened = refl

stamp_of_widened : stamp_bound (widened open_start) (widened_box open_start (root_of open_start)) ≡ 12
unfolding open_start message packets_of ranges_of delay_of arrive settle reach_of stamp_bound widened widened_box range_in
stamp_of_widened = refl

leads_of_widened : closes_region (widened open_start) (widened_region open_start (root_region open_start)) 12 ≡ true
unfolding open_start message packets_of ranges_of delay_of arrive settle leads_of sure_time is_led closes_by_leads closes_region widened widened_box range_in
leads_of_widened = refl

widened_stays_open : closes_region (widened open_start) (widened_region open_start (root_region open_start)) 11 ≡ false
unfolding open_start message packets_of ranges_of delay_of arrive settle leads_of sure_time is_led closes_by_leads closes_region widened widened_box range_in
widened_stays_open = refl

-- ---- so each bound of the root, counted from t's issue whenever that is, is 12
plain_told : plain_from_origin open_start (root_of open_start) ≡ 12
unfolding open_start message packets_of ranges_of delay_of arrive settle plain_bound widened widened_box range_in plain_from_origin
plain_told = refl

stamp_told : stamp_from_origin open_start (root_of open_start) ≡ 12
unfolding open_start message packets_of ranges_of delay_of arrive settle reach_of stamp_bound widened widened_box range_in stamp_from_origin
stamp_told = refl

leads_told : closes_from_origin open_start (root_region open_start) 12 ≡ true
unfolding open_start message packets_of ranges_of delay_of arrive settle leads_of sure_time is_led closes_by_leads closes_region widened widened_box range_in closes_from_origin
leads_told = refl

root_stays_open : closes_from_origin open_start (root_region open_start) 11 ≡ false
unfolding open_start message packets_of ranges_of delay_of arrive settle leads_of sure_time is_led closes_by_leads closes_region widened widened_box range_in closes_from_origin
root_stays_open = refl

-- ---- with t at tick 1, and x and y at their ticks alone, each would be 11, which is exceeded
unfoldable others_as_they_are : Scenario
others_as_they_are =
    of_two Ticks 3 (message (codes "x") (Client 0) (1 ∷ []) 0 ∷ message (codes "t") (Client 0) (0 ∷ 1 ∷ []) 1
    ∷ message (codes "y") (Group 0) (0 ∷ 1 ∷ []) 6 ∷ []) 1 0

plain_too_low : plain_bound others_as_they_are (root_of others_as_they_are) ≡ 11
unfolding others_as_they_are message packets_of ranges_of delay_of arrive settle plain_bound
plain_too_low = refl

stamp_too_low : stamp_bound others_as_they_are (root_of others_as_they_are) ≡ 11
unfolding others_as_they_are message packets_of ranges_of delay_of arrive settle reach_of stamp_bound
stamp_too_low = refl

leads_too_low : closes_region others_as_they_are (root_region others_as_they_are) 11 ≡ true
unfolding others_as_they_are message packets_of ranges_of delay_of arrive settle leads_of sure_time is_led closes_by_leads closes_region
leads_too_low = refl

-- ---- a box in which t is issued at tick 1, and one in which it is issued at tick 0: that a message may wait is told from the other end of t's range
plain_of_late : plain_bound (widened open_start) (widened_box open_start ((1, 3) ∷ (1, 1) ∷ replicate 7 (1, 3))) ≡ 11
unfolding open_start message packets_of delay_of arrive settle plain_bound widened widened_box range_in
plain_of_late = refl

plain_of_early : plain_bound (widened open_start) (widened_box open_start ((1, 3) ∷ (0, 0) ∷ replicate 7 (1, 3))) ≡ 12
unfolding open_start message packets_of delay_of arrive settle plain_bound widened widened_box range_in
plain_of_early = refl

-- ---- other targets, and the widened scenario: x is issued at tick 0, t may wait so long from then, and y so long from tick 6
abbrev both_wait : ℕ → ℕ → Scenario
both_wait y t =
    of_two Ticks 3 (message (codes "x") (Client 0) (1 ∷ []) 0 ∷ record (message (codes "t") (Client 0) (0 ∷ 1 ∷ []) 0) { longest_wait = t }
    ∷ record (message (codes "y") (Group 0) (0 ∷ 1 ∷ []) 6) { longest_wait = y } ∷ []) 1 0

-- x alone has room where the windows of t and y are too long together
few_targets : targets_of (record (both_wait 3 65533) { target_message = 0; target_group = 1 }) ≡ (0, 1) ∷ []
unfolding message
few_targets = refl

all_targets : targets_of (both_wait 3 65532) ≡ (0, 1) ∷ (1, 0) ∷ (1, 1) ∷ (2, 0) ∷ (2, 1) ∷ []
unfolding message
all_targets = refl

-- t is issued at 2, and each other message may wait 2 ticks longer
target_at_its_end : widened (both_wait 3 2)
    ≡ of_two Ticks 3 (record (message (codes "x") (Client 0) (1 ∷ []) 0) { longest_wait = 2 } ∷ message (codes "t") (Client 0) (0 ∷ 1 ∷ []) 2
    ∷ record (message (codes "y") (Group 0) (0 ∷ 1 ∷ []) 6) { longest_wait = 5 } ∷ []) 1 0
unfolding widened message
target_at_its_end = refl
