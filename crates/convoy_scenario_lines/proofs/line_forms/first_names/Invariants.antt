use Rattle.std.proofs.Common.{◌≡◌, ◌≤◌, ◌++◌, map, take, length}
use Rattle.convoy_scenario_lines.specs.Keeping.{kept_names}
use Rattle.convoy_scenario_lines.specs.LineForms.{name_of}
use Rattle.convoy_scenario_lines.proofs.line_forms.first_names.Given as goal

abbrev pub invariant-loop-word : goal.invariant-loop-word
invariant-loop-word l = record {
  kept : take 9 (l.names.items ++ map name_of l.words) ≡ kept_names (map name_of l.fn.words);
  few : length l.names.items ≤ 9;
}

abbrev pub decreases-loop-word : goal.decreases-loop-word
decreases-loop-word l = length l.words
