use Rattle.convoy_plans.proofs.Counting.{few_more}
use Rattle.convoy_plans.proofs.checks.are_few.Goals as goal

pub loop-sites-preserved : goal.loop-sites-preserved
loop-sites-preserved c =
    few_more c.args.housed.now c.loop-sites.sites-index c.loop-sites.count c.times-count.result c.sites-item.result c.loop-sites-test.true c.sites-item.is c.times-count.ensures c.loop-sites.invariant
