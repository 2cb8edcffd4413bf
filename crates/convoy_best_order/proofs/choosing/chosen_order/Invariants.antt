use Rattle.std.proofs.Common.{◌++◌, length, IsTrue}
use Rattle.std.specs.List.{All}
use Rattle.convoy_best_order.specs.Best.{AreReasons}
use Rattle.convoy_best_order.specs.Choices.{AreHeldBy}
use Rattle.convoy_best_order.specs.Orders.{IsOrder}
use Rattle.convoy_best_order.specs.Targets.{has_target}
use Rattle.convoy_best_order.proofs.choosing.chosen_order.Given as goal

-- the groups ahead and those that are left are all groups, at each that is left is a target, the reasons are some, and each target ahead keeps what they say
abbrev pub invariant-loop-alloc : goal.invariant-loop-alloc
invariant-loop-alloc g l = record {
  order : IsOrder l.scenario (l.ahead.items ++ l.left.items);
  some : All (λ group. IsTrue (has_target l.targets group)) l.left.items;
  reasons : AreReasons l.options l.span l.scenario l.targets l.strongest.items;
  held : AreHeldBy l.options l.span l.scenario l.targets l.strongest.items l.ahead.items l.left.items;
}

abbrev pub decreases-loop-alloc : goal.decreases-loop-alloc
decreases-loop-alloc g l = length l.left.items
