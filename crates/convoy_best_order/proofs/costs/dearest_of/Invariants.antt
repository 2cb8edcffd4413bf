use Rattle.std.proofs.Common.{◌≡◌, is_some, take, IfSome}
use Rattle.std.specs.List.{list_any}
use Rattle.convoy_best_order.specs.Choices.{AreKeptBy, IsDearest}
use Rattle.convoy_best_order.specs.Targets.{is_at}
use Rattle.convoy_best_order.proofs.costs.dearest_of.Given as goal

-- there is one if one of the targets so far is at the group, it is one of these, and these keep its most
abbrev pub invariant-loop-place : goal.invariant-loop-place
invariant-loop-place g l = record {
  some : is_some l.dearest ≡ list_any (is_at l.group) (take l.place l.targets);
  dearest : IfSome l.dearest (IsDearest l.options l.span l.scenario l.targets l.order l.group);
  kept : AreKeptBy l.span l.scenario l.order l.group l.dearest (take l.place l.targets);
}
