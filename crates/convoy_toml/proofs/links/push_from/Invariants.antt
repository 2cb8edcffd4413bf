use Rattle.std.proofs.Common.{◌≡◌, ◌++◌, take, option_map}
use Rattle.convoy_toml.specs.Links.{links_from}
use Rattle.convoy_toml.proofs.links.push_from.Given as goal

abbrev pub invariant-loop-group : goal.invariant-loop-group
invariant-loop-group l = l.links.items ≡ l.initial.links.items ++ links_from l.bundle (option_map (λ name. name.now) l.sender) (take l.group-index l.to)
