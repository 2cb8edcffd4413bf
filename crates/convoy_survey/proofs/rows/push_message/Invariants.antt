use Rattle.std.proofs.Common.{◌≡◌, ◌++◌, map, take}
use Rattle.std.specs.List.{All}
use Rattle.convoy_survey.specs.Surveys.{IsTargetPair}
use Rattle.convoy_survey.proofs.rows.push_message.Given as goal

-- the targets so far are those before and those of the groups so far
abbrev pub invariant-loop-group : goal.invariant-loop-group
invariant-loop-group l = record {
  targets : l.targets.items ≡ l.initial.targets.items ++ map (λ h. (l.message, h)) (take l.group-index l.group-items);
  lawful : All (IsTargetPair l.scenario) l.targets.items;
}
