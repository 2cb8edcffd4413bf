use Rattle.convoy_fits.proofs.Fine.{time_is_real}
use Rattle.convoy_fits.proofs.judging.judge_run.Goals as goal

pub order_by-requires : goal.order_by-requires
order_by-requires c = time_is_real c.args.trace.now.factor c.args.scenario.now c.args.finer.now c.requires.finer
