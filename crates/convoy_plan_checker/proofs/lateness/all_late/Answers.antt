use Rattle.std.proofs.Common.{sym, ◌∙◌}
use Rattle.convoy_best_plan.specs.Floors.{excess_at}
use Rattle.convoy_plan_checker.specs.Lateness.{is_late}
use Rattle.convoy_plan_checker.proofs.Stepping.{goes_on, stops}
use Rattle.convoy_plan_checker.proofs.lateness.all_late.Goals as goal

pub returns-then-not-branch : goal.returns-then-not-branch
returns-then-not-branch c =
    stops (is_late c.args.scenario.now c.args.targets.now (excess_at c.args.floor c.args.total) c.args.groups.now) c.args.witnesses.now c.loop-witness.witness-index
    c.witness-item.result c.loop-witness-test.true c.witness-item.is c.loop-witness.invariant (sym c.in_ok-is_late.ensures ∙ c.if-not-branch.true)

pub loop-witness-preserved : goal.loop-witness-preserved
loop-witness-preserved c =
    goes_on (is_late c.args.scenario.now c.args.targets.now (excess_at c.args.floor c.args.total) c.args.groups.now) c.args.witnesses.now c.loop-witness.witness-index
    c.witness-item.result c.loop-witness-test.true c.witness-item.is c.loop-witness.invariant (sym c.in_ok-is_late.ensures ∙ c.if-not-branch.false)
