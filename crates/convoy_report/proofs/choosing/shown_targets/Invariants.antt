use Rattle.std.proofs.Common.{◌≡◌, ◌∷◌, filter, map, take}
use Rattle.convoy_survey.specs.Findings.{target_of}
use Rattle.convoy_report.specs.Reports.{is_shown_besides}
use Rattle.convoy_report.proofs.choosing.shown_targets.Given as goal

-- the target, and those of the rows so far that are shown besides
abbrev pub invariant-loop-row : goal.invariant-loop-row
invariant-loop-row l =
    l.targets.items
    ≡ (l.scenario.target_message, l.scenario.target_group)
    ∷ map target_of (filter (is_shown_besides l.scenario l.deadlines) (take l.row-index l.rows))
