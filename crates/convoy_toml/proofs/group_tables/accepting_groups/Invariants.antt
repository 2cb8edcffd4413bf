use Rattle.std.proofs.Common.{◌≡◌, take}
use Rattle.convoy_toml.specs.Shape.{accepting_groups}
use Rattle.convoy_toml.proofs.group_tables.accepting_groups.Given as goal

abbrev pub invariant-loop-acceptance : goal.invariant-loop-acceptance
invariant-loop-acceptance l = l.names.items ≡ accepting_groups (take l.acceptance-index l.acceptances)
