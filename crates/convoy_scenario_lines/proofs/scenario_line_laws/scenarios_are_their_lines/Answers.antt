use Rattle.std.proofs.Common.{ap, ap₂, ◌∙◌, Ok}
use Rattle.convoy_scenario_lines.specs.LineReading.{scenario_at}
use Rattle.convoy_scenario_lines.proofs.ScenarioAgain.{scenario_again}
use Rattle.convoy_scenario_lines.proofs.ScenarioTakes.{scenario_takes}
use Rattle.convoy_scenario_lines.proofs.scenario_line_laws.scenarios_are_their_lines.Goals as goal

pub returns : goal.returns
returns c version plan place past = (
  scenario_takes version place (plan, past),
  λ stands.
      let between = stands.2 in
      ap₂ (λ ended rest. scenario_at version (record { ended = ended; rest = rest; number = place.number })) between.ended between.rest
      ∙ scenario_again version plan place.number past.rest past.ended stands.0 stands.1
      ∙ ap (λ n. Ok (plan, record { ended = past.ended; rest = past.rest; number = n })) between.number,
)
