use Rattle.std.proofs.Common.{sym}
use Rattle.convoy_best_plan.proofs.excluding.is_past.Goals as goal

pub returns : goal.returns
returns c = λ yes. (c.latency-latency.result, (c.args.schedule.now, c.requires, sym c.latency-latency.ensures.value), c.is_past_by.ensures yes)
