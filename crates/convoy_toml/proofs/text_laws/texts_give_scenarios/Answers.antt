use Rattle.convoy_toml.proofs.GivenTexts.{of_text}
use Rattle.convoy_toml.proofs.text_laws.texts_give_scenarios.Goals as goal

pub returns : goal.returns
returns c asked text scenario = of_text c.drafts_give_scenarios.ensures c.around_is_scenario.ensures asked text scenario
