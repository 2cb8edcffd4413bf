use Rattle.std.proofs.Common.{◌≡◌, take}
use Rattle.convoy_scenario.proofs.scenario.copy_multicasts.Given as goal

abbrev pub invariant-loop-multicast : goal.invariant-loop-multicast
invariant-loop-multicast l = l.copies.items ≡ take l.multicast-index l.multicasts
