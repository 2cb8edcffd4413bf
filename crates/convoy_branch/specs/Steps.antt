-- A step of a search: what it does with one region, where the latency of the best record is known.
use Rattle.std.specs.Prelude.{◌≡◌, ◌≢◌, ℕ, ◌≤◌, ◌<◌, ◌^◌, nat_le, Bool, true, false, IsTrue, ◌||◌, if◌then◌else◌, [], ◌∷◌, Option, Some, None, IfSome}
use Rattle.convoy_scenario.specs.Scenario.{Scenario}
use Rattle.convoy_sim.specs.Delivery.{latency_of}
use Rattle.convoy_sim.specs.Record.{Record, attained_by}
use Rattle.convoy_certificate.specs.Certificate.{IsNode}
use Rattle.convoy_certificate.specs.declared.node.Node.{Node}
use Rattle.convoy_certificate.specs.declared.node.Node.TheVariants as nodes
use Rattle.convoy_intervals.specs.Boxes.{CanSplit}
use Rattle.convoy_regions.specs.Branches.{Branch}
use Rattle.convoy_regions.specs.Regions.{Region, can_order, is_decided, run_of}
use Rattle.convoy_checker.specs.Leaves.{ClosesByBound, ClosesByLeads, ClosesByStamps}
use Rattle.convoy_checker.specs.Trees.{regions_below}
use Rattle.convoy_origin.specs.FromOrigin.{plain_from_origin}
use Rattle.convoy_branch.specs.declared.bounds.Bounds.{Bounds}
use Rattle.convoy_branch.specs.declared.bounds.Bounds.TheVariants as bounds_of
use Rattle.convoy_branch.specs.declared.step.Step.{Step}
use Rattle.convoy_branch.specs.declared.step.Turn.{Turn}
use Rattle.convoy_branch.specs.declared.step.Turn.TheVariants.{Closed, Halves}
use Rattle.convoy_branch.specs.SearchBounds.{closes_for, least_bound}

-- The record of the region's run, where its latency is above the one seen. Where the search closes the region at once, no schedule is tried.
abbrev pub found_in : Bounds → Scenario → Region → ℕ → Option Record
found_in bounds scenario region seen =
    if closes_for bounds scenario region seen || nat_le (latency_of scenario (run_of scenario region)) seen
    then None
    else Some (attained_by scenario (run_of scenario region))

-- where the region is told to be tried, the latency of its run is at most that one
abbrev pub IsTriedIf : Scenario → Region → Bool → ℕ → Type 0
IsTriedIf scenario region tried seen = IsTrue tried → latency_of scenario (run_of scenario region) ≤ seen

-- a record of the scenario, of a latency above the one known
pub record IsBetter (scenario : Scenario) (known : ℕ) (found : Record) : Type 0 where
  pub of_scenario : found.scenario ≡ scenario
  pub above : known < found.latency

-- What a step may find, where a record of that latency was seen: nothing where the search closes the region at once, and else a better record or nothing; but for a search by leads just the record of the region's run.
pub record IsFound (bounds : Bounds) (scenario : Scenario) (region : Region) (seen : ℕ) (found : Option Record) : Type 0 where
  pub closed : closes_for bounds scenario region seen ≡ true → found ≡ None
  pub better : IfSome found (IsBetter scenario seen)
  pub greatest : bounds ≢ bounds_of.Lead → found ≡ found_in bounds scenario region seen

-- the greatest latency that is known after a step
abbrev pub known_after : ℕ → Option Record → ℕ
known_after seen None = seen
known_after seen (Some found) = found.latency

-- the search does not close the region for the latency known, and the latency of its run is known
pub record StaysOpen (bounds : Bounds) (scenario : Scenario) (region : Region) (known : ℕ) : Type 0 where
  pub not_closed : closes_for bounds scenario region known ≡ false
  pub tried : latency_of scenario (run_of scenario region) ≤ known

-- the search asks for stamp bounds, and that of the region closes it where the plain bound does not
pub record NeedsStamps (bounds : Bounds) (scenario : Scenario) (region : Region) (known : ℕ) : Type 0 where
  pub asked : bounds ≢ bounds_of.Plain
  pub plain : known < plain_from_origin scenario region.ranges
  pub stamps : ClosesByStamps scenario known region

-- the search goes by leads, which close the region where its bound does not; a node may name the latency
pub record NeedsLeads (bounds : Bounds) (scenario : Scenario) (region : Region) (known : ℕ) : Type 0 where
  pub asked : bounds ≡ bounds_of.Lead
  pub bound : known < least_bound scenario region.ranges
  pub leads : ClosesByLeads scenario known region
  pub named : known < 2 ^ 32

-- a node that splits the region: by the delay of a packet, or by the order of two stages
abbrev pub IsSplitOf : Scenario → Node → Region → Type 0
IsSplitOf scenario (nodes.Split packet at) region = CanSplit region.ranges packet at
IsSplitOf scenario (nodes.Order first second) region = IsNode scenario (nodes.Order first second) × IsTrue (can_order scenario region first second)
IsSplitOf scenario leaf region = ⊥

-- the halves of a region that stays open, by a node that splits it: the first and the second, in the order of the tree; whether the run of the second is known to have no greater latency is told
pub record AreHalves (bounds : Bounds) (scenario : Scenario) (region : Region) (known : ℕ) (split : Node) (first second : Branch) (tried : Bool) : Type 0 where
  pub stays : StaysOpen bounds scenario region known
  pub part : IsSplitOf scenario split region
  pub halves : regions_below scenario split region ≡ first.region ∷ second.region ∷ []
  pub first_of : first.scenario ≡ scenario
  pub second_of : second.scenario ≡ scenario
  pub is_tried : IsTriedIf scenario second.region tried known

-- what becomes of a region for which a ticket is spent: a leaf that closes it for the latency known, as a point only where nothing else does, or else its halves
abbrev pub IsTurn : Bounds → Scenario → Region → ℕ → Turn → Type 0
IsTurn bounds scenario region known (Closed nodes.Bound) = ClosesByBound scenario known region
IsTurn bounds scenario region known (Closed nodes.Stamp) = NeedsStamps bounds scenario region known
IsTurn bounds scenario region known (Closed (nodes.Lead latency)) = (latency ≡ known) × NeedsLeads bounds scenario region known
IsTurn bounds scenario region known (Closed nodes.Point) = StaysOpen bounds scenario region known × IsTrue (is_decided scenario region)
IsTurn bounds scenario region known (Closed split) = ⊥
IsTurn bounds scenario region known (Halves split first second tried) = AreHalves bounds scenario region known split first second tried

-- a step over the region, where a record of that latency was seen
pub record IsStep (bounds : Bounds) (scenario : Scenario) (region : Region) (seen : ℕ) (step : Step) : Type 0 where
  pub found : IsFound bounds scenario region seen step.found
  pub turn : IsTurn bounds scenario region (known_after seen step.found) step.turn
