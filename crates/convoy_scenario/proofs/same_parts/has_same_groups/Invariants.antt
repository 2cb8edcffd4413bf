use Rattle.std.proofs.Common.{◌≡◌, take}
use Rattle.convoy_scenario.proofs.same_parts.has_same_groups.Given as goal

-- the names so far are the same
abbrev pub invariant-loop-group : goal.invariant-loop-group
invariant-loop-group l = take l.group l.other.groups ≡ take l.group l.wanted.groups
