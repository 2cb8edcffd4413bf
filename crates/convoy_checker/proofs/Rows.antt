-- Worked rows of what checking answers, computed from the definitions alone.
use Rattle.std.specs.Prelude.{Ok, Err}
use Rattle.std.proofs.Common.{◌≡◌, ℕ, List, [], ◌∷◌, codes, replicate, refl}
use Rattle.convoy_draft.specs.declared.time.Time.TheVariants.{Ticks, Real}
use Rattle.convoy_scenario.specs.Scenario.{Scenario}
use Rattle.convoy_scenario.specs.declared.sender.Sender.TheVariants.{Client, Group}
use Rattle.convoy_scenario.proofs.RowScenarios.{message, base_with, of_two, swapped, tied}
use Rattle.convoy_packets.specs.Packets.{packets_of}
use Rattle.convoy_packets.specs.Assignment.{delay_of, in_fixed_order, ranges_of}
use Rattle.convoy_packets.specs.Order.{no_order}
use Rattle.convoy_packets.specs.OrderLists.{marks_of, order_of}
use Rattle.convoy_sim.specs.Times.{arrive, settle}
use Rattle.convoy_sim.specs.Moments.{arrival_rank, commit_rank, moments_of}
use Rattle.convoy_sim.specs.Stamps.{clocks_of, local_stamp, final_stamp}
use Rattle.convoy_sim.specs.Delivery.{holds_back, deliver, latency_at, latency_of}
use Rattle.convoy_intervals.specs.Bounds.{plain_bound}
use Rattle.convoy_regions.specs.Stages.{stages_of}
use Rattle.convoy_stamps.specs.Reach.{reach_of}
use Rattle.convoy_stamps.specs.StampBounds.{stamp_bound}
use Rattle.convoy_sure.specs.SureLeads.{leads_of, sure_time}
use Rattle.convoy_leads.specs.Leads.{is_led}
use Rattle.convoy_leads.specs.Closing.{closes_by_leads}
use Rattle.convoy_narrowing.specs.Narrowing.{closes_region}
use Rattle.convoy_scenario.specs.Widened.{widened}
use Rattle.convoy_origin.specs.WidenedBoxes.{range_in, widened_box}
use Rattle.convoy_origin.specs.FromOrigin.{closes_from_origin, plain_from_origin, stamp_from_origin}
use Rattle.convoy_certificate.specs.Certificate.{Certificate}
use Rattle.convoy_certificate.specs.declared.node.Node.{Node}
use Rattle.convoy_certificate.specs.declared.node.Node.TheVariants.{Split, Order, Bound, Point, Stamp, Lead}
use Rattle.convoy_checker.specs.declared.refused.Refused.TheVariants as refused
use Rattle.convoy_checker.specs.Checks.{checked}

-- the certificate whose schedule gives each of the eight packets its greatest delay
all_greatest : Scenario → ℕ → List Node → Certificate
all_greatest plan latency nodes =
    record { scenario = plan; latency = latency; schedule = in_fixed_order (replicate 8 plan.delay); nodes = nodes }

one_bound : checked (all_greatest (base_with 3 6) 12 (Bound ∷ [])) ≡ Ok 12
unfolding base_with all_greatest message packets_of ranges_of delay_of arrive settle arrival_rank commit_rank no_order moments_of clocks_of local_stamp final_stamp holds_back deliver latency_at latency_of plain_bound widened widened_box range_in plain_from_origin checked
one_bound = refl

other_latency : checked (all_greatest (base_with 3 6) 11 (Bound ∷ [])) ≡ Err (refused.Latency 12)
unfolding base_with all_greatest message packets_of ranges_of delay_of arrive settle arrival_rank commit_rank no_order moments_of clocks_of local_stamp final_stamp holds_back deliver latency_at latency_of plain_bound widened widened_box range_in plain_from_origin checked
other_latency = refl

a_bound_too_many : checked (all_greatest (base_with 3 6) 12 (Bound ∷ Bound ∷ [])) ≡ Err refused.TreeCount
unfolding base_with all_greatest message packets_of ranges_of delay_of arrive settle arrival_rank commit_rank no_order moments_of clocks_of local_stamp final_stamp holds_back deliver latency_at latency_of plain_bound widened widened_box range_in plain_from_origin checked
a_bound_too_many = refl

a_half_too_few : checked (all_greatest (base_with 3 6) 12 (Split 0 1 ∷ Bound ∷ [])) ≡ Err refused.TreeCount
unfolding base_with all_greatest message packets_of ranges_of delay_of arrive settle arrival_rank commit_rank no_order moments_of clocks_of local_stamp final_stamp holds_back deliver latency_at latency_of plain_bound widened widened_box range_in plain_from_origin checked
a_half_too_few = refl

no_nodes : checked (all_greatest (base_with 3 6) 12 []) ≡ Err refused.TreeCount
unfolding base_with all_greatest message packets_of ranges_of delay_of arrive settle arrival_rank commit_rank no_order moments_of clocks_of local_stamp final_stamp holds_back deliver latency_at latency_of plain_bound widened widened_box range_in plain_from_origin checked
no_nodes = refl

a_split : checked (all_greatest (base_with 3 6) 12 (Split 0 1 ∷ Bound ∷ Bound ∷ [])) ≡ Ok 12
unfolding base_with all_greatest message packets_of ranges_of delay_of arrive settle arrival_rank commit_rank no_order moments_of clocks_of local_stamp final_stamp holds_back deliver latency_at latency_of plain_bound widened widened_box range_in plain_from_origin checked
a_split = refl

no_point : checked (all_greatest (base_with 3 6) 12 (Point ∷ [])) ≡ Err (refused.PointLeaf 0)
unfolding base_with all_greatest message packets_of ranges_of delay_of arrive settle arrival_rank commit_rank no_order moments_of clocks_of local_stamp final_stamp holds_back deliver latency_at latency_of plain_bound widened widened_box range_in plain_from_origin checked
no_point = refl

bound_above : checked (all_greatest swapped 6 (Bound ∷ [])) ≡ Err (refused.BoundLeaf 0 12)
unfolding swapped all_greatest message packets_of ranges_of delay_of arrive settle arrival_rank commit_rank no_order moments_of clocks_of local_stamp final_stamp holds_back deliver latency_at latency_of plain_bound widened widened_box range_in plain_from_origin checked
bound_above = refl

one_point : checked (all_greatest (base_with 1 2) 4 (Point ∷ [])) ≡ Ok 4
unfolding base_with all_greatest message packets_of ranges_of delay_of arrive settle arrival_rank commit_rank no_order moments_of clocks_of local_stamp final_stamp holds_back deliver latency_at latency_of plain_bound widened widened_box range_in plain_from_origin checked
one_point = refl

no_split_of_a_point : checked (all_greatest (base_with 1 2) 4 (Split 0 1 ∷ Point ∷ Point ∷ [])) ≡ Err (refused.Split 0)
unfolding base_with all_greatest message packets_of ranges_of delay_of arrive settle arrival_rank commit_rank no_order moments_of clocks_of local_stamp final_stamp holds_back deliver latency_at latency_of plain_bound widened widened_box range_in plain_from_origin checked
no_split_of_a_point = refl

one_lead : checked (all_greatest (base_with 3 6) 12 (Lead 12 ∷ [])) ≡ Ok 12
unfolding base_with all_greatest message packets_of ranges_of delay_of arrive settle arrival_rank commit_rank no_order moments_of clocks_of local_stamp final_stamp holds_back deliver latency_at latency_of leads_of sure_time is_led closes_by_leads closes_region widened widened_box range_in closes_from_origin checked
one_lead = refl

-- a lead leaf is judged by the latency that it names
lead_for_less : checked (all_greatest (base_with 3 6) 12 (Lead 11 ∷ [])) ≡ Err (refused.LeadLeaf 0)
unfolding base_with all_greatest message packets_of ranges_of delay_of arrive settle arrival_rank commit_rank no_order moments_of clocks_of local_stamp final_stamp holds_back deliver latency_at latency_of leads_of sure_time is_led closes_by_leads closes_region widened widened_box range_in closes_from_origin checked
lead_for_less = refl

lead_for_more : checked (all_greatest (base_with 3 6) 12 (Lead 13 ∷ [])) ≡ Err (refused.LeadLeaf 0)
unfolding base_with all_greatest message packets_of ranges_of delay_of arrive settle arrival_rank commit_rank no_order moments_of clocks_of local_stamp final_stamp holds_back deliver latency_at latency_of leads_of sure_time is_led closes_by_leads closes_region widened widened_box range_in closes_from_origin checked
lead_for_more = refl

leads_of_halves : checked (all_greatest (base_with 3 6) 12 (Split 7 2 ∷ Lead 11 ∷ Lead 12 ∷ [])) ≡ Ok 12
unfolding base_with all_greatest message packets_of ranges_of delay_of arrive settle arrival_rank commit_rank no_order moments_of clocks_of local_stamp final_stamp holds_back deliver latency_at latency_of leads_of sure_time is_led closes_by_leads closes_region widened widened_box range_in closes_from_origin checked
leads_of_halves = refl

leads_turned : checked (all_greatest (base_with 3 6) 12 (Split 7 2 ∷ Lead 12 ∷ Lead 11 ∷ [])) ≡ Err (refused.LeadLeaf 2)
unfolding base_with all_greatest message packets_of ranges_of delay_of arrive settle arrival_rank commit_rank no_order moments_of clocks_of local_stamp final_stamp holds_back deliver latency_at latency_of leads_of sure_time is_led closes_by_leads closes_region widened widened_box range_in closes_from_origin checked
leads_turned = refl

lead_of_swapped : checked (all_greatest swapped 6 (Lead 6 ∷ [])) ≡ Ok 6
unfolding swapped all_greatest message packets_of ranges_of delay_of arrive settle arrival_rank commit_rank no_order moments_of clocks_of local_stamp final_stamp holds_back deliver latency_at latency_of leads_of sure_time is_led closes_by_leads closes_region widened widened_box range_in closes_from_origin checked
lead_of_swapped = refl

-- in real time the same, but that a point with a tie that is open, and the stamp bound, close no region
in_real_time : Scenario → Scenario
in_real_time plan = record plan { time = Real }

real_lead : checked (all_greatest (in_real_time (base_with 3 6)) 12 (Lead 12 ∷ [])) ≡ Ok 12
unfolding in_real_time base_with all_greatest message packets_of ranges_of delay_of arrive settle arrival_rank commit_rank no_order moments_of clocks_of local_stamp final_stamp holds_back deliver latency_at latency_of leads_of sure_time is_led closes_by_leads closes_region widened widened_box range_in closes_from_origin checked
real_lead = refl

no_real_point : checked (all_greatest (in_real_time (base_with 1 2)) 4 (Point ∷ [])) ≡ Err (refused.PointLeaf 0)
unfolding stages_of in_real_time base_with all_greatest message packets_of ranges_of delay_of arrive settle arrival_rank commit_rank no_order moments_of clocks_of local_stamp final_stamp holds_back deliver latency_at latency_of plain_bound widened widened_box range_in plain_from_origin checked
no_real_point = refl

-- the certificate with these ranks and one bound leaf
with_ranks : List ℕ → ℕ → Certificate
with_ranks ranks latency = record {
  scenario = tied;
  latency = latency;
  schedule = record { delays = replicate 8 1; order = order_of tied ranks };
  nodes = Bound ∷ [];
}

-- where t comes to b after x, y delays it
late_at_b : checked (with_ranks (0 ∷ 0 ∷ 1 ∷ 0 ∷ 0 ∷ 0 ∷ 0 ∷ 0 ∷ 0 ∷ 0 ∷ []) 4) ≡ Ok 4
unfolding with_ranks tied message marks_of packets_of ranges_of delay_of arrive settle arrival_rank commit_rank no_order moments_of clocks_of local_stamp final_stamp holds_back deliver latency_at latency_of plain_bound widened widened_box range_in plain_from_origin checked
late_at_b = refl

first_at_b : checked (with_ranks [] 4) ≡ Err (refused.Latency 2)
unfolding with_ranks tied message marks_of packets_of ranges_of delay_of arrive settle arrival_rank commit_rank no_order moments_of clocks_of local_stamp final_stamp holds_back deliver latency_at latency_of plain_bound widened widened_box range_in plain_from_origin checked
first_at_b = refl

-- in real time t and x come to their group in one tick: either may come first, and before or after the commit of the other
with_ties : List Node → Certificate
with_ties nodes = record {
  scenario = of_two Real 1 (message (codes "t") (Client 0) (0 ∷ []) 0 ∷ message (codes "x") (Client 0) (0 ∷ []) 0 ∷ []) 0 0;
  latency = 1;
  schedule = in_fixed_order (replicate 2 1);
  nodes = nodes;
}

ties_decided : checked (with_ties (Order 0 2 ∷ Order 1 2 ∷ Point ∷ Point ∷ Order 0 3 ∷ Point ∷ Point ∷ [])) ≡ Ok 1
unfolding with_ties stages_of message marks_of packets_of ranges_of delay_of arrive settle arrival_rank commit_rank no_order moments_of clocks_of local_stamp final_stamp holds_back deliver latency_at latency_of plain_bound widened widened_box range_in plain_from_origin checked
ties_decided = refl

tie_is_open : checked (with_ties (Point ∷ [])) ≡ Err (refused.PointLeaf 0)
unfolding with_ties stages_of message marks_of packets_of ranges_of delay_of arrive settle arrival_rank commit_rank no_order moments_of clocks_of local_stamp final_stamp holds_back deliver latency_at latency_of plain_bound widened widened_box range_in plain_from_origin checked
tie_is_open = refl

-- no order is decided twice, and none of stages of two groups
no_order_twice : checked (with_ties (Order 0 2 ∷ Order 0 2 ∷ Point ∷ Point ∷ Point ∷ [])) ≡ Err (refused.Split 1)
unfolding with_ties stages_of message marks_of packets_of ranges_of delay_of arrive settle arrival_rank commit_rank no_order moments_of clocks_of local_stamp final_stamp holds_back deliver latency_at latency_of plain_bound widened widened_box range_in plain_from_origin checked
no_order_twice = refl

-- x from a client to b at tick 0, t from a client to a and b, issued at tick 0 or 1, and y from a to a and b at tick 6; the latency of t is counted from its issue, and is 12 where it is issued at tick 0
open_start : List Node → Certificate
open_start nodes = record {
  scenario = of_two Ticks 3 (message (codes "x") (Client 0) (1 ∷ []) 0 ∷ record (message (codes "t") (Client 0) (0 ∷ 1 ∷ []) 0) { longest_wait = 1 }
      ∷ message (codes "y") (Group 0) (0 ∷ 1 ∷ []) 6 ∷ []) 1 0;
  latency = 12;
  schedule = in_fixed_order (1 ∷ 0 ∷ replicate 7 3);
  nodes = nodes;
}

bound_from_issue : checked (open_start (Bound ∷ [])) ≡ Ok 12
unfolding open_start message packets_of ranges_of delay_of arrive settle arrival_rank commit_rank no_order moments_of clocks_of local_stamp final_stamp holds_back deliver latency_at latency_of plain_bound widened widened_box range_in plain_from_origin checked
bound_from_issue = refl

stamps_from_issue : checked (open_start (Stamp ∷ [])) ≡ Ok 12
unfolding open_start message packets_of ranges_of delay_of arrive settle arrival_rank commit_rank no_order moments_of clocks_of local_stamp final_stamp holds_back deliver latency_at latency_of reach_of stamp_bound widened widened_box range_in stamp_from_origin checked
stamps_from_issue = refl

leads_from_issue : checked (open_start (Lead 12 ∷ [])) ≡ Ok 12
unfolding open_start message packets_of ranges_of delay_of arrive settle arrival_rank commit_rank no_order moments_of clocks_of local_stamp final_stamp holds_back deliver latency_at latency_of leads_of sure_time is_led closes_by_leads closes_region widened widened_box range_in closes_from_origin checked
leads_from_issue = refl

-- the half in which t is issued at tick 1 has no latency above 11
late_half : checked (open_start (Split 1 0 ∷ Bound ∷ Lead 11 ∷ [])) ≡ Ok 12
unfolding open_start message packets_of ranges_of delay_of arrive settle arrival_rank commit_rank no_order moments_of clocks_of local_stamp final_stamp holds_back deliver latency_at latency_of plain_bound leads_of sure_time is_led closes_by_leads closes_region widened widened_box range_in plain_from_origin closes_from_origin checked
late_half = refl

early_half : checked (open_start (Split 1 0 ∷ Lead 11 ∷ Bound ∷ [])) ≡ Err (refused.LeadLeaf 1)
unfolding open_start message packets_of ranges_of delay_of arrive settle arrival_rank commit_rank no_order moments_of clocks_of local_stamp final_stamp holds_back deliver latency_at latency_of plain_bound leads_of sure_time is_led closes_by_leads closes_region widened widened_box range_in plain_from_origin closes_from_origin checked
early_half = refl
