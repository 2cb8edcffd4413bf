use Rattle.std.proofs.Common.{◌++◌}
use Rattle.std.proofs.lemmas.Result.{err_from_is_err_and}
use Rattle.convoy_plans.specs.Checks.{group_checks, name_checks, site_checks}
use Rattle.convoy_plans.proofs.Judged.{judge_fault, judge_rest}
use Rattle.convoy_plans.proofs.checks.check_all_names.Goals as goal

pub returns-in_err-check_names : goal.returns-in_err-check_names
returns-in_err-check_names c =
    let returned = err_from_is_err_and c.from_residual.result c.from_residual.ensures.1 in
    rw (returned.1, returned.2)
    (judge_fault (name_checks c.args.plan.now c.args.draft.now c.args.places.now c.args.settled.now) (group_checks c.args.plan.now c.args.settled.now ++ site_checks c.args.plan.now c.args.places.now) _
    c.in_err-check_names.ensures)

pub returns : goal.returns
returns c =
    judge_rest (name_checks c.args.plan.now c.args.draft.now c.args.places.now c.args.settled.now) (group_checks c.args.plan.now c.args.settled.now ++ site_checks c.args.plan.now c.args.places.now) _
    c.in_ok-check_names.ensures c.check_references.ensures
