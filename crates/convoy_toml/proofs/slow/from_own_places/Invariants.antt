use Rattle.std.proofs.Common.{◌≡◌, map}
use Rattle.convoy_toml.specs.Slow.{from_own_place}
use Rattle.convoy_toml.proofs.slow.from_own_places.Given as goal

abbrev pub invariant-loop-multicast : goal.invariant-loop-multicast
invariant-loop-multicast l = l.moved.items ≡ map from_own_place l.yielded
