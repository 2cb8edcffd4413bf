use Rattle.convoy_plan_ceilings.proofs.Chosen.{chosen_holds}
use Rattle.convoy_plan_ceilings.proofs.ceiling_choice_laws.chosen_ceiling_holds.Goals as goal

pub returns : goal.returns
returns c = chosen_holds c.drafts_give_scenarios.ensures c.ceiling_holds.ensures
