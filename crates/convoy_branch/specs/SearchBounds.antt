-- The regions that a search closes for a latency, by the bounds of their ranges or by leads, counted from the issue of the target whenever that is.
use Rattle.std.specs.Prelude.{ℕ, nat_le, Bool, ◌||◌, if◌then◌else◌, Option, Some, None}
use Rattle.convoy_scenario.specs.Scenario.{Scenario}
use Rattle.convoy_draft.specs.declared.time.Time.{Time}
use Rattle.convoy_draft.specs.declared.time.Time.TheVariants.{Ticks, Real}
use Rattle.convoy_certificate.specs.declared.certificate.TheConstants.{MOST_LEADS, MOST_NODES}
use Rattle.convoy_certificate.specs.declared.node.Node.{Node}
use Rattle.convoy_certificate.specs.declared.node.Node.TheVariants as nodes
use Rattle.convoy_intervals.specs.Boxes.{Box}
use Rattle.convoy_regions.specs.Regions.{Region}
use Rattle.convoy_origin.specs.FromOrigin.{closes_from_origin, plain_from_origin, stamp_from_origin}
use Rattle.convoy_branch.specs.declared.bounds.Bounds.{Bounds}
use Rattle.convoy_branch.specs.declared.bounds.Bounds.TheVariants.{Plain, Stamp, Lead}

-- of a stamp bound and a plain bound, that of a search that asks for stamp bounds: in real time stamps bound nothing, and it is the plain one
abbrev pub bound_in : Time → ℕ → ℕ → ℕ
bound_in Ticks stamp plain = stamp
bound_in Real stamp plain = plain

-- that of a box
abbrev pub least_bound : Scenario → Box → ℕ
least_bound scenario box = bound_in scenario.time (stamp_from_origin scenario box) (plain_from_origin scenario box)

-- whether a search closes the region for a latency: the bound of its ranges is at most that, or, in a search by leads, these close it
abbrev pub closes_for : Bounds → Scenario → Region → ℕ → Bool
closes_for Plain scenario region latency = nat_le (plain_from_origin scenario region.ranges) latency
closes_for Stamp scenario region latency = nat_le (least_bound scenario region.ranges) latency
closes_for Lead scenario region latency = nat_le (least_bound scenario region.ranges) latency || closes_from_origin scenario region latency

-- the leaf with which a search closes a region for a latency where the plain bound of its ranges is above that: by the least bound that it asks for, and by whether leads close it
abbrev pub further_leaf : Bounds → ℕ → Bool → ℕ → Option Node
further_leaf Plain least leads latency = None
further_leaf Stamp least leads latency = if nat_le least latency then Some nodes.Stamp else None
further_leaf Lead least leads latency =
    if nat_le least latency then Some nodes.Stamp
    else if leads then Some (nodes.Lead latency)
    else None

-- the leaf with which it does so by the plain bound, too: the first of those for which it asks
abbrev pub leaf_by : Bounds → ℕ → ℕ → Bool → ℕ → Option Node
leaf_by bounds plain least leads latency = if nat_le plain latency then Some nodes.Bound else further_leaf bounds least leads latency

-- the leaf with which a search closes the region for a latency
abbrev pub leaf_for : Bounds → Scenario → Region → ℕ → Option Node
leaf_for bounds scenario region latency =
    leaf_by bounds (plain_from_origin scenario region.ranges) (least_bound scenario region.ranges) (closes_from_origin scenario region latency) latency

-- how many nodes of a search by those bounds can be read in any case: by leads each of them may be a lead leaf
abbrev pub most_nodes : Bounds → ℕ
most_nodes Plain = MOST_NODES
most_nodes Stamp = MOST_NODES
most_nodes Lead = MOST_LEADS
