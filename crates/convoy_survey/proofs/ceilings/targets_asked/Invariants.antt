use Rattle.std.proofs.Common.{◌≡◌, filter, option_map, take}
use Rattle.convoy_survey.specs.Ceilings.{is_asked}
use Rattle.convoy_survey.proofs.ceilings.targets_asked.Given as goal

-- of the targets so far those that are asked for are kept
abbrev pub invariant-loop-target : goal.invariant-loop-target
invariant-loop-target l = l.kept.items
    ≡ filter (λ target. is_asked l.scenario (option_map (λ name. name.now) l.asked) target.1) (take l.target-index l.target-items)
