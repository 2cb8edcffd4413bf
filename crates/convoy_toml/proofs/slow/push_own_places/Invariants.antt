use Rattle.std.proofs.Common.{◌≡◌, ◌++◌, take, flat_map}
use Rattle.convoy_toml.specs.Slow.{own_place}
use Rattle.convoy_toml.proofs.slow.push_own_places.Given as goal

abbrev pub invariant-loop-multicast : goal.invariant-loop-multicast
invariant-loop-multicast l = l.places.items ≡ l.initial.places.items ++ flat_map own_place (take l.multicast-index l.multicasts)
