use Rattle.std.proofs.Common.{◌≡◌, map, flat_map}
use Rattle.std.specs.List.{range_with_len}
use Rattle.convoy_scenario.specs.Scenario.{message_at}
use Rattle.convoy_stamps.specs.Reach.{pair_of}
use Rattle.convoy_stamps.proofs.reach.pairs_of.Given as goal

abbrev pub invariant-loop-message : goal.invariant-loop-message
invariant-loop-message l =
    l.pairs.items ≡ flat_map (λ m. map (pair_of m) (message_at l.scenario m).destinations) (range_with_len 0 l.message)
