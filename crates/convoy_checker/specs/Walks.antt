-- A walk over a tree, from one region that is left to the next. A region is left if all splits above it have been met, and its
-- own node has not. The walk keeps one region, the current one, and a list of changes that make it each of the other regions
-- that are left in turn. A change *opens* if the region, once so changed, is one that is left; else it is a step on the way to one, as a packet may have to
-- get its old range back first, or a precedence to go.
use Rattle.std.specs.Prelude.{◌≡◌, ◌≤◌, ◌<◌, Bool, false, IsTrue, if◌then◌else◌, List, [], ◌∷◌, ◌++◌, length, reverse, slice_set}
use Rattle.std.specs.List.{All}
use Rattle.convoy_scenario.specs.Scenario.{Scenario}
use Rattle.convoy_certificate.specs.declared.node.Node.{Node}
use Rattle.convoy_certificate.specs.declared.node.Node.TheVariants.{Split, Order}
use Rattle.convoy_intervals.specs.Boxes.{Box, CanSplit}
use Rattle.convoy_regions.specs.Regions.{Region, can_order}
use Rattle.convoy_regions.specs.Stages.{Precedence}
use Rattle.convoy_checker.specs.declared.open_region.Step.{Step}
use Rattle.convoy_checker.specs.declared.open_region.Step.TheVariants.{Range, Turned, Without}
use Rattle.convoy_checker.specs.declared.walk.Change.{Change}
use Rattle.convoy_checker.specs.Trees.{regions_below}

-- the precedences, of which the last one is turned round
abbrev pub turned : List Precedence → List Precedence
turned [] = []
turned (pair ∷ []) = (pair.1, pair.0) ∷ []
turned (pair ∷ other ∷ before) = pair ∷ turned (other ∷ before)

-- the precedences but the last one
abbrev pub without_last : List Precedence → List Precedence
without_last [] = []
without_last (pair ∷ []) = []
without_last (pair ∷ other ∷ before) = pair ∷ without_last (other ∷ before)

-- what a step makes of a region: it gives a packet another range, or turns the last precedence round, or takes it away
abbrev pub changed : Region → Step → Region
changed region (Range packet range) = record region { ranges = slice_set region.ranges packet range }
changed region Turned = record region { before = turned region.before }
changed region Without = record region { before = without_last region.before }

-- the regions that are left by the changes that open, one change after the other, from that region on
abbrev pub opened : Region → List Change → List Region
opened current [] = []
opened current (change ∷ changes) =
    let next = changed current change.step in
    if change.opens then next ∷ opened next changes else opened next changes

-- the regions that are left in a walk: the one at which it stands, and those of its changes, the last change of the list
-- first; none once the walk is over
abbrev pub regions_of : Bool → Region → List Change → List Region
regions_of stands current changes = if stands then current ∷ opened current (reverse changes) else []

-- the step gives a packet of the box a range with at least one delay in it, or none at all
abbrev pub IsStepOf : Box → Step → Type 0
IsStepOf ranges (Range packet range) = (packet < length ranges) × (range.0 ≤ range.1)
IsStepOf ranges step = Unit {0}

-- what holds of each walk: its changes are changes of its region, and there is none once it is over
pub record IsWalk (stands : Bool) (current : Region) (changes : List Change) : Type 0 where
  pub each : All (λ change. IsStepOf current.ranges change.step) changes
  pub over : stands ≡ false → changes ≡ []

-- there is a first region, of which that holds
abbrev pub OfFirst : (Region → Type 0) → List Region → Type 0
OfFirst Holds [] = ⊥
OfFirst Holds (region ∷ regions) = Holds region

-- the node can stand here: a split needs a first region that can be split so, and a leaf may always stand
abbrev pub CanStand : Scenario → Node → List Region → Type 0
CanStand scenario (Split packet at) regions = OfFirst (λ region. CanSplit region.ranges packet at) regions
CanStand scenario (Order first second) regions = OfFirst (λ region. IsTrue (can_order scenario region first second)) regions
CanStand scenario leaf regions = Unit {0}

-- the regions with some in place of the first
abbrev pub below_first : (Region → List Region) → List Region → List Region
below_first below [] = []
below_first below (region ∷ regions) = below region ++ regions

-- the regions that are left once that node has been met: those below it come before the others
abbrev pub regions_after : Scenario → Node → List Region → List Region
regions_after scenario node regions = below_first (regions_below scenario node) regions
