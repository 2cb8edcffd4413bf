use Rattle.std.proofs.Common.{◌≡◌, ◌++◌, flat_map, take}
use Rattle.convoy_toml.specs.Times.{times_of_message}
use Rattle.convoy_toml.proofs.times.push_issues.Given as goal

abbrev pub invariant-loop-multicast : goal.invariant-loop-multicast
invariant-loop-multicast l = l.times.items ≡ l.initial.times.items ++ flat_map times_of_message (take l.multicast-index l.multicasts)
