use Rattle.convoy_plans.proofs.Homes.{no_links_to_themselves}
use Rattle.convoy_plans.proofs.plan_laws.groups_have_no_links_to_themselves.Goals as goal

pub returns : goal.returns
returns c = no_links_to_themselves
