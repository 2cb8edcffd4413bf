use Rattle.std.proofs.Common.{◌≡◌, IfOk, Option, subst}
use Rattle.convoy_tables.specs.declared.format.Format.TheVariants.{Text}
use Rattle.convoy_times.specs.declared.measure.Measure.{Measure}
use Rattle.convoy_best_plan.specs.PlanTexts.{block, plan_text}
use Rattle.convoy_best_plan.proofs.ranking.block.Goals as goal

pub returns : goal.returns
unfolding block
returns c =
    subst (λ (m : Option Measure). IfOk c.plan_text.result (λ text. text.items ≡ plan_text Text c.args.with_reasons m c.args.plan.now c.args.planned.now)) c.measure_of-measure.ensures
    c.plan_text.ensures
