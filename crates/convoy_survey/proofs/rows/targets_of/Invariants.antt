use Rattle.std.proofs.Common.{◌≡◌}
use Rattle.std.specs.List.{All, flat_map, range_with_len}
use Rattle.convoy_scenario.specs.Targets.{targets_at}
use Rattle.convoy_survey.specs.Surveys.{IsTargetPair}
use Rattle.convoy_survey.proofs.rows.targets_of.Given as goal

-- the targets so far are those of the messages so far
abbrev pub invariant-loop-message : goal.invariant-loop-message
invariant-loop-message l = record {
  targets : l.targets.items ≡ flat_map (targets_at l.scenario) (range_with_len 0 l.message);
  lawful : All (IsTargetPair l.scenario) l.targets.items;
}
