-- Trees over regions, as lists of nodes in prefix order.
use Rattle.std.specs.Prelude.{List, [], ◌∷◌, ◌++◌}
use Rattle.convoy_scenario.specs.Scenario.{Scenario}
use Rattle.convoy_certificate.specs.declared.node.Node.{Node}
use Rattle.convoy_certificate.specs.declared.node.Node.TheVariants.{Split, Order}
use Rattle.convoy_regions.specs.Regions.{Region, first_half, lower_half, second_half, upper_half}

-- The regions below a node that stands over a region: the halves of a split by a delay, the lower one first, or by an order, that with the first stage first before the other. A leaf has none.
abbrev pub regions_below : Scenario → Node → Region → List Region
regions_below scenario (Split packet at) region = lower_half region packet at ∷ upper_half region packet at ∷ []
regions_below scenario (Order first second) region = first_half scenario region first second ∷ second_half scenario region first second ∷ []
regions_below scenario leaf region = []

-- The nodes are whole trees, one over each of the regions and in their order, and nothing more: the first node stands over
-- the first region and fits it, and next come the trees over the regions below it. `N` is the type of nodes, `below` gives the
-- regions below a node, and `Fits` says what a node has to meet over its region. With no region and no node left this holds
-- (`Unit {0}`); if one of the lists ends first it does not (`⊥`).
abbrev pub AreTrees : {N : Type 0} → (N → Region → List Region) → (N → Region → Type 0) → List Region → List N → Type 0
AreTrees below Fits [] [] = Unit {0}
AreTrees below Fits (region ∷ regions) (node ∷ nodes) =
    Fits node region × AreTrees below Fits (below node region ++ regions) nodes
AreTrees below Fits regions nodes = ⊥
