use Rattle.std.proofs.Common.{arith}
use Rattle.convoy_plan_checker.proofs.Delays.{most_low}
use Rattle.convoy_plan_checker.proofs.commits.most_between.Goals as goal

pub overflow_cast-result : goal.overflow_cast-result
overflow_cast-result c =
    omega (arith, most_low c.args.plan.now c.most-most.ensures.lawful c.args.from c.args.to, c.most-most.ensures.value)
