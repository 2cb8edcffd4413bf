use Rattle.std.proofs.Common.{◌≡◌, ◌++◌, take, option_map}
use Rattle.convoy_toml.specs.Ways.{ways_from}
use Rattle.convoy_toml.proofs.ways.push_from.Given as goal

abbrev pub invariant-loop-to : goal.invariant-loop-to
invariant-loop-to l = l.ways.items ≡ l.initial.ways.items ++ ways_from (take l.to-index l.groups) (option_map (λ name. name.now) l.sender)
