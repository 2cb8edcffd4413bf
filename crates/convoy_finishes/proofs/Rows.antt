-- Worked rows of finishes, computed from the definitions alone.
use Rattle.std.proofs.Common.{◌≡◌, true, false, [], ◌∷◌, replicate, refl}
use Rattle.convoy_packets.specs.Packets.{packets_of}
use Rattle.convoy_packets.specs.Order.{no_order}
use Rattle.convoy_packets.specs.Assignment.{delay_of, in_fixed_order, ranges_of}
use Rattle.convoy_sim.specs.Times.{arrive, settle}
use Rattle.convoy_sim.specs.Moments.{arrival_rank, commit_rank, moments_of}
use Rattle.convoy_sim.specs.Stamps.{clocks_of, local_stamp, final_stamp}
use Rattle.convoy_scenario.specs.Widened.{widened}
use Rattle.convoy_scenario.proofs.RowScenarios.{base, base_with, message}
use Rattle.convoy_sure.specs.SureLeads.{leads_of, sure_time}
use Rattle.convoy_leads.specs.Leads.{is_led}
use Rattle.convoy_finishes.specs.Finishes.{finish_latency, way_at}
use Rattle.convoy_finishes.specs.WhiteBox.{white_box_ways}
use Rattle.convoy_finishes.specs.FinishClosing.{closes_finishing, plain_finish_bound}

-- in the base scenario, where a packet takes up to 3 ticks between the groups and 1 tick inside them, what comes to b is answered at a by b's replicas after 1 + 3 ticks, and by its own after 3 + 1
way_by_b : way_at (white_box_ways base (1 ∷ 1 ∷ [])) 1 1 ≡ 4
unfolding base_with message white_box_ways
way_by_b = refl

-- and what comes to a by b's replicas after 3 + 3 ticks
way_by_a : way_at (white_box_ways base (1 ∷ 1 ∷ [])) 1 0 ≡ 6
unfolding base_with message white_box_ways
way_by_a = refl

-- with the greatest delays y is finished at a at tick 13: it comes to b at tick 9, and all have answered 4 ticks later
base_finishes : finish_latency base (white_box_ways base (1 ∷ 1 ∷ [])) (in_fixed_order (replicate 8 3)) ≡ 13
unfolding base_with message packets_of delay_of arrive settle arrival_rank commit_rank no_order moments_of clocks_of local_stamp final_stamp finish_latency white_box_ways
base_finishes = refl

-- where packets take up to 5 ticks inside a group, it is at tick 17
base_slow_inside : finish_latency base (white_box_ways base (5 ∷ 5 ∷ [])) (in_fixed_order (replicate 8 3)) ≡ 17
unfolding base_with message packets_of delay_of arrive settle arrival_rank commit_rank no_order moments_of clocks_of local_stamp final_stamp finish_latency white_box_ways
base_slow_inside = refl

-- where no answers are waited for, a message is finished as it is committed
base_without_answers : finish_latency base [] (in_fixed_order (replicate 8 3)) ≡ 12
unfolding base_with message packets_of delay_of arrive settle arrival_rank commit_rank no_order moments_of clocks_of local_stamp final_stamp finish_latency
base_without_answers = refl

-- it is the greatest latency
base_closes : closes_finishing base (white_box_ways base (1 ∷ 1 ∷ [])) 13 ≡ true
unfolding base_with message packets_of ranges_of delay_of arrive settle leads_of sure_time is_led closes_finishing white_box_ways widened
base_closes = refl

base_stays_open : closes_finishing base (white_box_ways base (1 ∷ 1 ∷ [])) 12 ≡ false
unfolding base_with message packets_of ranges_of delay_of arrive settle leads_of sure_time is_led closes_finishing white_box_ways widened
base_stays_open = refl

base_plain : plain_finish_bound base (white_box_ways base (1 ∷ 1 ∷ [])) ≡ 13
unfolding base_with message packets_of ranges_of delay_of arrive settle leads_of sure_time is_led plain_finish_bound white_box_ways widened
base_plain = refl
