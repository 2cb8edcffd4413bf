use Rattle.std.proofs.Common.{◌≡◌, take}
use Rattle.convoy_scenario.proofs.naming.draft_groups.Given as goal

abbrev pub invariant-loop-group : goal.invariant-loop-group
invariant-loop-group l = l.names.items ≡ take l.group l.scenario.groups
