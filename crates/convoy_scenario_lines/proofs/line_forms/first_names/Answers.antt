use Rattle.std.proofs.Common.{map, arith}
use Rattle.convoy_scenario_lines.specs.LineForms.{name_of}
use Rattle.convoy_scenario_lines.proofs.KeptNames.{first_enough}
use Rattle.convoy_scenario_lines.proofs.line_forms.first_names.Goals as goal

pub returns-then-len-eq-MOST_KEPT_NAMES : goal.returns-then-len-eq-MOST_KEPT_NAMES
returns-then-len-eq-MOST_KEPT_NAMES c =
    first_enough c.loop-word.names.items (map name_of c.loop-word.words) _ (omega arith) c.loop-word.invariant.few c.loop-word.invariant.kept
