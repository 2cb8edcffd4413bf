-- What checking a certificate answers: its latency if it is valid, and else its first fault.
use Rattle.std.specs.Prelude.{true, false, ℕ, ◌+◌, ◌==◌, nat_le, Bool, ◌&&◌, if◌then◌else◌, List, [], ◌∷◌, ◌++◌, Option, Some, None, Result, Ok, Err}
use Rattle.std.specs.Option.{option_or}
use Rattle.convoy_draft.specs.declared.time.Time.{Time}
use Rattle.convoy_draft.specs.declared.time.Time.TheVariants.{Ticks, Real}
use Rattle.convoy_scenario.specs.Scenario.{Scenario}
use Rattle.convoy_sim.specs.Delivery.{latency_of}
use Rattle.convoy_intervals.specs.Boxes.{can_split}
use Rattle.convoy_origin.specs.FromOrigin.{closes_from_origin, plain_from_origin, stamp_from_origin}
use Rattle.convoy_regions.specs.Regions.{Region, can_order, is_decided, root_region, run_of}
use Rattle.convoy_certificate.specs.Certificate.{Certificate}
use Rattle.convoy_certificate.specs.declared.node.Node.{Node}
use Rattle.convoy_certificate.specs.declared.node.Node.TheVariants.{Split, Order, Bound, Point, Stamp, Lead}
use Rattle.convoy_checker.specs.declared.refused.Refused.{Refused}
use Rattle.convoy_checker.specs.declared.refused.Refused.TheVariants as refused
use Rattle.convoy_checker.specs.Trees.{regions_below}

-- no fault if the test holds, and else this one
abbrev pub fault_unless : Bool → Refused → Option Refused
fault_unless holds fault = if holds then None else Some fault

-- whether time goes in whole ticks
abbrev pub in_ticks : Time → Bool
in_ticks Ticks = true
in_ticks Real = false

-- The fault of a node over its region, if it has one. The arguments: the scenario, the latency of the certificate, the
-- number of the node, from 0, the node, and its region. The tests say what the statements of `Leaves` say: that `can_split`
-- does is a law of `convoy_intervals` (`tests_decide`).
abbrev pub node_fault : Scenario → ℕ → ℕ → Node → Region → Option Refused
node_fault scenario latency number (Split packet at) region = fault_unless (can_split region.ranges packet at) (refused.Split number)
node_fault scenario latency number (Order first second) region = fault_unless (can_order scenario region first second) (refused.Split number)
node_fault scenario latency number Bound region =
    let bound = plain_from_origin scenario region.ranges in fault_unless (nat_le bound latency) (refused.BoundLeaf number bound)
node_fault scenario latency number Point region =
    fault_unless (is_decided scenario region && nat_le (latency_of scenario (run_of scenario region)) latency) (refused.PointLeaf number)
node_fault scenario latency number Stamp region =
    let bound = stamp_from_origin scenario region.ranges in fault_unless (in_ticks scenario.time && nat_le bound latency) (refused.StampLeaf number bound)
node_fault scenario latency number (Lead named) region =
    fault_unless (nat_le named latency && closes_from_origin scenario region named) (refused.LeadLeaf number)

-- The first fault of the nodes from that number on, over the regions that are left there, each for a node to come; after
-- all nodes and regions, `TreeCount` if the one ended before the other.
abbrev pub first_fault : Scenario → ℕ → ℕ → List Region → List Node → Option Refused
first_fault scenario latency number [] [] = None
first_fault scenario latency number (region ∷ regions) (node ∷ nodes) =
    option_or (node_fault scenario latency number node region)
    (first_fault scenario latency (number + 1) (regions_below scenario node region ++ regions) nodes)
first_fault scenario latency number regions nodes = Some refused.TreeCount

-- the answer to a certificate of which the first fault of its tree is given: its latency if there is none
abbrev pub verdict : Certificate → Option Refused → Result ℕ Refused
verdict certificate None = Ok certificate.latency
verdict certificate (Some fault) = Err fault

-- The latency of a valid certificate, and else its first fault: that of the schedule's latency comes before those of the
-- tree.
unfoldable pub checked : Certificate → Result ℕ Refused
checked certificate =
    let simulated = latency_of certificate.scenario certificate.schedule in
    let root = root_region certificate.scenario in
    if simulated == certificate.latency
    then verdict certificate (first_fault certificate.scenario certificate.latency 0 (root ∷ []) certificate.nodes)
    else Err (refused.Latency simulated)
