use Rattle.std.proofs.Common.{◌≡◌, false, take}
use Rattle.convoy_draft.specs.Checks.{is_among}
use Rattle.convoy_survey.proofs.ceiling_answer.is_group.Given as goal

-- none of the groups so far has the name
abbrev pub invariant-loop-group : goal.invariant-loop-group
invariant-loop-group l = is_among l.name (take l.group l.scenario.groups) ≡ false
