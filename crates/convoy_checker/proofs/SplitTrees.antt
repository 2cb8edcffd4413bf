-- A tree that begins with a split: the split, and the trees over its halves.
use Rattle.std.specs.Prelude.{◌↔◌, ℕ, List, [], ◌∷◌}
use Rattle.std.proofs.Common.{sym, subst}
use Rattle.convoy_scenario.specs.Scenario.{Scenario}
use Rattle.convoy_intervals.specs.Boxes.{CanSplit}
use Rattle.convoy_regions.specs.Regions.{Region, lower_half, upper_half}
use Rattle.convoy_certificate.specs.declared.node.Node.{Node}
use Rattle.convoy_certificate.specs.declared.node.Node.TheVariants.{Split}
use Rattle.convoy_checker.specs.Leaves.{IsRight}
use Rattle.convoy_checker.specs.Trees.{AreTrees, regions_below}
use Rattle.convoy_checker.specs.Validity.{AreHalfTrees, IsTreeOver}
use Rattle.convoy_checker.proofs.TreeLaws.{AreTrees-append, AreTrees-split}

module _ (scenario : Scenario) (latency : ℕ) (region : Region) (packet at : ℕ) where
  halves_of_trees : (nodes : List Node) → AreTrees (regions_below scenario) (IsRight scenario latency) (lower_half region packet at ∷ upper_half region packet at ∷ []) nodes → AreHalfTrees scenario latency region packet at nodes
  halves_of_trees nodes trees =
      let parts = AreTrees-split (regions_below scenario) (IsRight scenario latency) (lower_half region packet at ∷ []) (upper_half region packet at ∷ []) nodes trees in
      record {
        lower = parts.first;
        upper = parts.rest;
        whole = parts.whole;
        lower_tree = parts.first_trees;
        upper_tree = parts.rest_trees;
      }

  trees_of_halves : (nodes : List Node) → AreHalfTrees scenario latency region packet at nodes → AreTrees (regions_below scenario) (IsRight scenario latency) (lower_half region packet at ∷ upper_half region packet at ∷ []) nodes
  trees_of_halves nodes halves =
      subst (λ (ns : List Node). AreTrees (regions_below scenario) (IsRight scenario latency) (lower_half region packet at ∷ upper_half region packet at ∷ []) ns) (sym halves.whole) (AreTrees-append (regions_below scenario) (IsRight scenario latency) (lower_half region packet at ∷ []) (upper_half region packet at ∷ []) halves.lower halves.upper halves.lower_tree halves.upper_tree)

  pub split_is_two_trees : (nodes : List Node) → IsTreeOver scenario latency region (Split packet at ∷ nodes) ↔ CanSplit region.ranges packet at × AreHalfTrees scenario latency region packet at nodes
  split_is_two_trees nodes =
      (λ tree. (tree.0, halves_of_trees nodes tree.1), λ both. (both.0, trees_of_halves nodes both.1))
