use Rattle.std.proofs.Common.{arith}
use Rattle.std.proofs.lemmas.Grind.{common_steps}
use Rattle.convoy_stamps.proofs.Loops.{filter_range_more}
use Rattle.convoy_plan_checker.proofs.lateness.others.Goals as goal

pub loop-group-preserved : goal.loop-group-preserved
loop-group-preserved c = grind (arith, common_steps, filter_range_more)
