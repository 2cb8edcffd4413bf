-- How much work it is to check a certificate, in steps. Those of a node are counted from the node and its region alone, before the node is looked at. They are the most that there may be, and no promise of a yes rests on them.
use Rattle.std.specs.Prelude.{ℕ, ◌+◌, ◌-◌, ◌*◌, ◌==◌, nat_lt, nat_le, min, Bool, true, if◌then◌else◌, List, [], ◌∷◌, ◌++◌, length, Option, Some, None, Result, Ok}
use Rattle.std.specs.List.{filter, sum_by}
use Rattle.std.specs.Option.{is_some}
use Rattle.std.specs.Result.{result_map_both}
use Rattle.convoy_draft.specs.declared.time.Time.{Time}
use Rattle.convoy_draft.specs.declared.time.Time.TheVariants.{Ticks, Real}
use Rattle.convoy_scenario.specs.Scenario.{Scenario, message_at}
use Rattle.convoy_packets.specs.Packets.{packets_of}
use Rattle.convoy_sim.specs.Delivery.{latency_of}
use Rattle.convoy_intervals.specs.Bounds.{Tables}
use Rattle.convoy_regions.specs.Stages.{Precedence}
use Rattle.convoy_regions.specs.Regions.{Region, root_region}
use Rattle.convoy_stamps.specs.declared.pair.Pair.{Pair}
use Rattle.convoy_stamps.specs.Reach.{pairs_of}
use Rattle.convoy_sure.specs.SureLeads.{pair_count}
use Rattle.convoy_sure.specs.Windows.{tables_by, windows_of}
use Rattle.convoy_scenario.specs.Widened.{widened}
use Rattle.convoy_origin.specs.WidenedRegions.{widened_region}
use Rattle.convoy_certificate.specs.Certificate.{Certificate}
use Rattle.convoy_certificate.specs.declared.node.Node.{Node}
use Rattle.convoy_certificate.specs.declared.node.Node.TheVariants.{Split, Order, Bound, Point, Stamp, Lead}
use Rattle.convoy_checker.specs.declared.refused.Refused.{Refused}
use Rattle.convoy_checker.specs.Checks.{checked, node_fault}
use Rattle.convoy_checker.specs.Trees.{regions_below}

-- at how many of so many ticks leads look for starts at most: three for each pair of the scenario
abbrev pub ticks_seen : ℕ → ℕ → ℕ
ticks_seen pairs ticks = min (3 * pairs) ticks

-- a pair in one test of leads: a step for itself, and one for each look at a tick at which its message may be committed at its group, up to the last one at which the target may be committed at its own
abbrev pub pair_steps : Scenario → Tables → Pair → ℕ
pair_steps scenario tables pair =
    let committed = tables.greatest_settling scenario.target_message scenario.target_group in
    let last = min committed (tables.greatest_settling pair.message pair.group) in
    1 + ticks_seen (pair_count scenario) (last + 1 - tables.least_settling pair.message pair.group)

-- one test of leads goes over all pairs
abbrev pub test_steps : Scenario → Tables → ℕ
test_steps scenario tables = sum_by (pair_steps scenario tables) (pairs_of scenario)

-- the message of the pair may be committed at the target's group after that latency: each group whose stamp may keep it so long is tested
abbrev pub is_late : Scenario → Tables → ℕ → Pair → Bool
is_late scenario tables latency pair =
    nat_lt ((message_at scenario scenario.target_message).at + latency) (tables.greatest_settling pair.message scenario.target_group)

-- how many tests of leads there are at most: for each such pair two, and two for each of the target's groups
abbrev pub test_count : Scenario → Tables → ℕ → ℕ
test_count scenario tables latency =
    length (filter (is_late scenario tables latency) (pairs_of scenario))
    * (2 + 2 * length (message_at scenario scenario.target_message).destinations)

-- one test of ties goes in real time over all pairs, for each of them over all pairs, and over all precedences
abbrev pub tie_steps : Time → Scenario → Region → ℕ
tie_steps Ticks scenario region = 0
tie_steps Real scenario region = pair_count scenario * pair_count scenario + length region.before

-- of how many windows leads are asked: of those of the box, and where there is a precedence, of those of the region
abbrev pub windows_asked : List Precedence → ℕ
windows_asked before = min 2 (1 + length before)

-- the steps of a lead leaf that names that latency: one for any node, for each pair and for each precedence, and then those of all tests, twice where there is a precedence
abbrev pub lead_steps : Scenario → Region → ℕ → ℕ
lead_steps scenario region latency =
    let tables = (tables_by (windows_of scenario region.ranges)).times in
    1 + pair_count scenario + length region.before + windows_asked region.before * (test_count scenario tables latency * test_steps scenario tables)

-- the steps of a node: one for any node, which is all for a split by a delay and for the plain bound; beside that for a split by an order one for each precedence; for a point one for each packet and each wait, and those of a test of ties; for the stamp bound one for each pair of the target with each pair; and for leads those of the widened region, of which leads are asked
abbrev pub node_steps : Scenario → Node → Region → ℕ
node_steps scenario (Split packet at) region = 1
node_steps scenario (Order first second) region = 1 + length region.before
node_steps scenario Bound region = 1
node_steps scenario Point region = 1 + length (packets_of scenario) + tie_steps scenario.time scenario region
node_steps scenario Stamp region = 1 + length (message_at scenario scenario.target_message).destinations * pair_count scenario
node_steps scenario (Lead latency) region = lead_steps (widened scenario) (widened_region scenario region) latency

-- the steps of the nodes from that number on, over the regions that are left there, up to the first that has a fault
abbrev pub steps_to_fault : Scenario → ℕ → ℕ → List Region → List Node → ℕ
steps_to_fault scenario latency number (region ∷ regions) (node ∷ nodes) =
    node_steps scenario node region
    + (if is_some (node_fault scenario latency number node region) then 0
    else steps_to_fault scenario latency (number + 1) (regions_below scenario node region ++ regions) nodes)
steps_to_fault scenario latency number regions nodes = 0

-- the steps of a certificate: none where its schedule has another latency than the stated one
unfoldable pub steps_of : Certificate → ℕ
steps_of certificate =
    if latency_of certificate.scenario certificate.schedule == certificate.latency
    then steps_to_fault certificate.scenario certificate.latency 0 (root_region certificate.scenario ∷ []) certificate.nodes
    else 0

-- so many steps may be taken, where there is that limit, if any
abbrev pub allows : Option ℕ → ℕ → Bool
allows None steps = true
allows (Some limit) steps = nat_le steps limit

-- what checking answers that may take no more steps: none where the certificate takes more, and else what it answers without a limit
abbrev pub checked_within : Option ℕ → Certificate → Result (Option ℕ) Refused
checked_within limit certificate =
    if allows limit (steps_of certificate)
    then result_map_both (λ latency. Some latency) (λ fault. fault) (checked certificate)
    else Ok None
