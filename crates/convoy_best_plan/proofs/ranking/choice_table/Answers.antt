use Rattle.std.proofs.Common.{◌≡◌, IfOk, Option, subst}
use Rattle.convoy_times.specs.declared.measure.Measure.{Measure}
use Rattle.convoy_best_plan.specs.PlanTexts.{choice_table, plan_table}
use Rattle.convoy_best_plan.proofs.ranking.choice_table.Goals as goal

pub returns : goal.returns
unfolding choice_table
returns c =
    subst (λ (m : Option Measure). IfOk c.plan_table.result (λ table. table ≡ plan_table c.args.format c.args.with_reasons m c.args.plan.now c.args.planned.now)) c.measure_of-measure.ensures
    c.plan_table.ensures
