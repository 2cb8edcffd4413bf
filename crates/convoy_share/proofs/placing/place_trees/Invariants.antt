use Rattle.std.proofs.Common.{ℕ, List, length, reverse}
use Rattle.convoy_scenario.specs.Scenario.{Scenario}
use Rattle.convoy_regions.specs.Regions.{Region}
use Rattle.convoy_branch.specs.declared.bounds.Bounds.{Bounds}
use Rattle.convoy_share_deque.specs.declared.task.Task.{Task}
use Rattle.convoy_share.specs.Filling.{IsPlacing}
use Rattle.convoy_share.specs.Subtrees.{Subtree}
use Rattle.convoy_share.proofs.placing.place_trees.Given as goal

abbrev pub invariant-loop-tree : goal.invariant-loop-tree
invariant-loop-tree l =
    (bounds : Bounds) (scenario : Scenario) (seen : ℕ) (put : List Region) (all : List Subtree) (taken : List Task) → IsPlacing bounds scenario seen put all l.fn.slots.items taken l.fn.trees.items → (tasks : List Task) × IsPlacing bounds scenario seen put all l.slots.items tasks (reverse l.trees.items)

abbrev pub decreases-loop-tree : goal.decreases-loop-tree
decreases-loop-tree l = length l.trees.items
