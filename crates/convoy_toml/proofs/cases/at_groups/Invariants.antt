use Rattle.std.proofs.Common.{◌≡◌, take}
use Rattle.convoy_toml.specs.Cases.{at_groups}
use Rattle.convoy_toml.proofs.cases.at_groups.Given as goal

abbrev pub invariant-loop-group : goal.invariant-loop-group
invariant-loop-group l = l.targets.items ≡ at_groups l.message (take l.group-index l.groups)
