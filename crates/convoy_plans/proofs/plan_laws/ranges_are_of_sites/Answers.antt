use Rattle.convoy_plans.proofs.OfSites.{ranges_of_sites}
use Rattle.convoy_plans.proofs.plan_laws.ranges_are_of_sites.Goals as goal

pub returns : goal.returns
returns c = ranges_of_sites
