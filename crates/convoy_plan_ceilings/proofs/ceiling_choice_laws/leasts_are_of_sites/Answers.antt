use Rattle.convoy_plan_ceilings.proofs.OfLeasts.{leasts_of_sites}
use Rattle.convoy_plan_ceilings.proofs.ceiling_choice_laws.leasts_are_of_sites.Goals as goal

pub returns : goal.returns
returns c = leasts_of_sites
