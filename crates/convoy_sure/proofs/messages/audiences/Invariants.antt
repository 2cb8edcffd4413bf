use Rattle.std.proofs.Common.{◌≡◌, map}
use Rattle.std.specs.List.{range_with_len}
use Rattle.convoy_sim.specs.Delivery.{addressed_to}
use Rattle.convoy_sure.proofs.messages.audiences.Given as goal

abbrev pub invariant-loop-group : goal.invariant-loop-group
invariant-loop-group l = l.lists.items ≡ map (addressed_to l.scenario) (range_with_len 0 l.group)
