use Rattle.std.proofs.Common.{◌++◌}
use Rattle.std.proofs.lemmas.Result.{err_from_is_err_and}
use Rattle.convoy_plans.specs.Checks.{group_checks, limit_checks, name_checks, site_checks}
use Rattle.convoy_plans.proofs.Judged.{judge_fault, judge_rest}
use Rattle.convoy_plans.proofs.checks.check_all.Goals as goal

pub returns-in_err-check_limits : goal.returns-in_err-check_limits
returns-in_err-check_limits c =
    let returned = err_from_is_err_and c.from_residual.result c.from_residual.ensures.1 in
    rw (returned.1, returned.2)
    (judge_fault (limit_checks c.args.plan.now c.args.draft.now c.args.housed.now)
    (name_checks c.args.plan.now c.args.draft.now c.args.places.now c.args.settled.now ++ (group_checks c.args.plan.now c.args.settled.now ++ site_checks c.args.plan.now c.args.places.now)) _
    c.in_err-check_limits.ensures)

pub returns : goal.returns
returns c =
    judge_rest (limit_checks c.args.plan.now c.args.draft.now c.args.housed.now)
    (name_checks c.args.plan.now c.args.draft.now c.args.places.now c.args.settled.now ++ (group_checks c.args.plan.now c.args.settled.now ++ site_checks c.args.plan.now c.args.places.now)) _
    c.in_ok-check_limits.ensures c.check_all_names.ensures
