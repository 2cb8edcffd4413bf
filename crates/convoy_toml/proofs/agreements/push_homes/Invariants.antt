use Rattle.std.proofs.Common.{◌≡◌, ◌++◌, map, take}
use Rattle.convoy_toml.specs.Agreements.{home_link}
use Rattle.convoy_toml.proofs.agreements.push_homes.Given as goal

abbrev pub invariant-loop-group : goal.invariant-loop-group
invariant-loop-group l = l.links.items ≡ l.initial.links.items ++ map (home_link l.agreement) (take l.group-index l.agreement.groups)
