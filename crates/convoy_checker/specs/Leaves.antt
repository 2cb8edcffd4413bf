-- What each kind of leaf, and a split, says of its region, for the latency that the certificate states.
use Rattle.std.specs.Prelude.{◌≡◌, ℕ, ◌≤◌, IsTrue}
use Rattle.convoy_draft.specs.declared.time.Time.TheVariants.{Ticks}
use Rattle.convoy_scenario.specs.Scenario.{Scenario}
use Rattle.convoy_sim.specs.Delivery.{latency_of}
use Rattle.convoy_certificate.specs.declared.node.Node.{Node}
use Rattle.convoy_certificate.specs.declared.node.Node.TheVariants.{Split, Order, Bound, Point, Stamp, Lead}
use Rattle.convoy_intervals.specs.Boxes.{CanSplit}
use Rattle.convoy_origin.specs.FromOrigin.{closes_from_origin, plain_from_origin, stamp_from_origin}
use Rattle.convoy_regions.specs.Regions.{Region, can_order, is_decided, run_of}

-- the plain bound of the region's ranges is at most the stated latency
abbrev pub ClosesByBound : Scenario → ℕ → Region → Type 0
ClosesByBound scenario latency region = plain_from_origin scenario region.ranges ≤ latency

-- each packet has one delay, and in real time the precedences decide all ties; the latency of the one run that is left is at most the stated one
abbrev pub ClosesByPoint : Scenario → ℕ → Region → Type 0
ClosesByPoint scenario latency region = IsTrue (is_decided scenario region) × (latency_of scenario (run_of scenario region) ≤ latency)

-- in whole ticks the stamp bound of the region's ranges is at most the stated latency
abbrev pub ClosesByStamps : Scenario → ℕ → Region → Type 0
ClosesByStamps scenario latency region = (scenario.time ≡ Ticks) × (stamp_from_origin scenario region.ranges ≤ latency)

-- leads close the region for the latency
abbrev pub ClosesByLeads : Scenario → ℕ → Region → Type 0
ClosesByLeads scenario latency region = IsTrue (closes_from_origin scenario region latency)

-- the node is right over the region: the region can be split so, or the leaf closes it; a lead leaf does so for the latency
-- that it names, which is at most the stated one
abbrev pub IsRight : Scenario → ℕ → Node → Region → Type 0
IsRight scenario latency (Split packet at) region = CanSplit region.ranges packet at
IsRight scenario latency (Order first second) region = IsTrue (can_order scenario region first second)
IsRight scenario latency Bound region = ClosesByBound scenario latency region
IsRight scenario latency Point region = ClosesByPoint scenario latency region
IsRight scenario latency Stamp region = ClosesByStamps scenario latency region
IsRight scenario latency (Lead named) region = (named ≤ latency) × ClosesByLeads scenario named region
