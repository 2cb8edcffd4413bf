use Rattle.std.proofs.Common.{arith}
use Rattle.std.proofs.lemmas.Grind.{common_steps}
use Rattle.convoy_plans.proofs.Loops.{filter_range_more}
use Rattle.convoy_plans.proofs.numbers.client_sites.Goals as goal

pub loop-site-preserved : goal.loop-site-preserved
loop-site-preserved c = grind (arith, common_steps, filter_range_more)
