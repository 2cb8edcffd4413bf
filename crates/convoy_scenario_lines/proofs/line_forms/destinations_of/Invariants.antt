use Rattle.std.proofs.Common.{◌≡◌, ◌≤◌, map, length}
use Rattle.convoy_scenario_lines.specs.Keeping.{kept_destinations}
use Rattle.convoy_scenario_lines.specs.LineForms.{name_of}
use Rattle.convoy_scenario_lines.proofs.KeptNames.{keeps}
use Rattle.convoy_scenario_lines.proofs.line_forms.destinations_of.Given as goal

abbrev pub invariant-loop-word : goal.invariant-loop-word
invariant-loop-word l = record {
  kept : keeps l.groups l.names.items (map name_of l.words) ≡ kept_destinations l.groups (map name_of l.fn.words);
  few : length l.names.items ≤ 9;
}

abbrev pub decreases-loop-word : goal.decreases-loop-word
decreases-loop-word l = length l.words
