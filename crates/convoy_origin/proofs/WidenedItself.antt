-- Where the target does not wait, each region is its own widened region.
use Rattle.std.proofs.Common.{◌≡◌, ℕ, ◌<◌, length, get_or, map, refl, ap, ap₂, ◌∙◌, arith}
use Rattle.std.proofs.lemmas.List.{get_or-map, get_or_default, length-map, same_lists}
use Rattle.std.proofs.lemmas.Option.{slice_get-get_or}
use Rattle.convoy_scenario.specs.Scenario.{Scenario}
use Rattle.convoy_scenario.specs.WellFormed.{IsScenario}
use Rattle.convoy_packets.specs.declared.packet.Packet.{Packet}
use Rattle.convoy_packets.specs.declared.packet.Packet.TheVariants.{Wait, Multicast, Propose}
use Rattle.convoy_packets.specs.Packets.{packets_of}
use Rattle.convoy_packets.specs.ScheduleLaws.{PacketsStandOnce}
use Rattle.convoy_intervals.specs.Boxes.{Box, IsBox}
use Rattle.convoy_intervals.proofs.PacketDelays.{length-box}
use Rattle.convoy_scenario.specs.Widened.{target_wait}
use Rattle.convoy_origin.specs.WidenedBoxes.{range_in, widened_box, widened_range}
use Rattle.convoy_origin.specs.WidenedRegions.{StandOnce, WidenedRegionIsItself}
use Rattle.convoy_origin.proofs.LaterRuns.{map_same_in}
use Rattle.convoy_origin.proofs.WidenedBoxes.{inside_wait, range_at_place}
use Rattle.convoy_scenario.proofs.WidenedLemmas.{widened_itself}

-- the ranges of a box are those of the packets, in their order
pub box_again : (plan : Scenario) (ranges : Box) → StandOnce plan → IsBox plan ranges → map (range_in plan ranges) (packets_of plan) ≡ ranges
box_again plan ranges once is =
    let long = length-box plan ranges is in
    let made = length-map (packets_of plan) (range_in plan ranges) in
    same_lists (map (range_in plan ranges) (packets_of plan)) ranges (omega arith)
    (λ i d l. let here : i < length (packets_of plan) = omega arith in
    let p : Packet = get_or (packets_of plan) i (Wait 0) in
    get_or-map (range_in plan ranges) (packets_of plan) i (Wait 0) d here
    ∙ range_at_place plan ranges p i (once i p (slice_get-get_or (packets_of plan) i (Wait 0) here))
    ∙ get_or_default ranges i (0, 0) d (omega arith))

module _ (once : PacketsStandOnce) (plan : Scenario) (ranges : Box) (none : target_wait plan ≡ 0) (well : IsScenario plan) (is : IsBox plan ranges) where
  range_itself : (p : Packet) → widened_range plan ranges p ≡ range_in plan ranges p
  range_itself (Wait m) =
      let targets = inside_wait plan ranges plan.target_message is in
      let first = targets.0 in
      let last = targets.1 in
      let fixed = none in
      ap₂ (λ (x y : ℕ). (x, y)) (omega arith) (omega arith)
  range_itself (Multicast m g) = refl
  range_itself (Propose m h g) = refl

  box_itself : widened_box plan ranges ≡ ranges
  unfolding widened_box
  box_itself =
      ap (λ s. map (widened_range plan ranges) (packets_of s)) (widened_itself plan none)
      ∙ map_same_in (widened_range plan ranges) (range_in plan ranges) (packets_of plan) (λ p i. range_itself p)
      ∙ box_again plan ranges (λ i p stands. once plan i p well stands) is

pub region_itself : PacketsStandOnce → WidenedRegionIsItself
region_itself once plan region none well is = ap (λ ranges. record region { ranges = ranges }) (box_itself once plan region.ranges none well is.inside)
