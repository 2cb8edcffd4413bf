use Rattle.std.proofs.lemmas.List.Elements.{All-from_recursion}
use Rattle.convoy_lines.specs.LineLaws.{IsLine}
use Rattle.convoy_scenario_lines.specs.ScenarioLines.{scenario_lines}
use Rattle.convoy_scenario_lines.proofs.ScenarioAgain.{scenario_lines_are}
use Rattle.convoy_scenario_lines.proofs.scenario_line_laws.scenario_lines_are_lines.Goals as goal

pub returns : goal.returns
returns c version plan is = All-from_recursion IsLine (scenario_lines version plan) (scenario_lines_are version plan is)
