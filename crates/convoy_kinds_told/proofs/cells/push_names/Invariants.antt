use Rattle.std.proofs.Common.{◌≡◌, ◌++◌, take, string_bytes}
use Rattle.std.specs.List.{flat_map}
use Rattle.convoy_lines.specs.Texts.{spaced}
use Rattle.convoy_scenario.specs.Scenario.{group_name_at}
use Rattle.convoy_kinds_told.proofs.cells.push_names.Given as goal

-- what was there, and the names so far
abbrev pub invariant-loop-group : goal.invariant-loop-group
invariant-loop-group l =
    string_bytes l.text ≡ string_bytes l.initial.text ++ flat_map (λ g. spaced (group_name_at l.setting g)) (take l.group-index l.groups)
