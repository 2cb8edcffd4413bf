use Rattle.convoy_plan_ceilings.proofs.Chosen.{no_ceiling_less}
use Rattle.convoy_plan_ceilings.proofs.ceiling_choice_laws.no_ceiling_is_less.Goals as goal

pub returns : goal.returns
returns c = no_ceiling_less
