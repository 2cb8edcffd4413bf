use Rattle.std.proofs.lemmas.Result.{err_from_is_err_and}
use Rattle.convoy_plans.specs.Checks.{group_checks, site_checks}
use Rattle.convoy_plans.proofs.Judged.{judge_fault, judge_rest}
use Rattle.convoy_plans.proofs.checks.check_references.Goals as goal

pub returns-in_err-check_groups : goal.returns-in_err-check_groups
returns-in_err-check_groups c =
    let returned = err_from_is_err_and c.from_residual.result c.from_residual.ensures.1 in
    rw (returned.1, returned.2) (judge_fault (group_checks c.args.plan.now c.args.settled.now) (site_checks c.args.plan.now c.args.places.now) _ c.in_err-check_groups.ensures)

pub returns : goal.returns
returns c = judge_rest (group_checks c.args.plan.now c.args.settled.now) (site_checks c.args.plan.now c.args.places.now) _ c.in_ok-check_groups.ensures c.check_sites.ensures
