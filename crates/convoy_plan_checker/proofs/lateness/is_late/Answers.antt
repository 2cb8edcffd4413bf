use Rattle.std.proofs.Common.{◌∙◌, arith}
use Rattle.convoy_best_plan.specs.Floors.{excess_at}
use Rattle.convoy_plan_checker.proofs.Stepping.{late_then}
use Rattle.convoy_plan_checker.proofs.lateness.is_late.Goals as goal

pub returns : goal.returns
returns c =
    late_then c.args.scenario.now c.args.targets.now (excess_at c.args.floor c.args.total) c.args.groups.now c.args.witness.now _ c.deref.result.now c.is_late_in.result
    (omega (arith, c.if-witness-targets.false)) (c.deref.ensures.value ∙ c.in_ok-order.ensures) c.is_late_in.ensures
