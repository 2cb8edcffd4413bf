use Rattle.std.proofs.Common.{◌++◌}
use Rattle.std.proofs.lemmas.Result.{err_from_is_err_and}
use Rattle.convoy_draft.specs.Checks.{limit_checks, name_checks, reference_checks}
use Rattle.convoy_draft.proofs.Judged.{judge_fault, judge_rest}
use Rattle.convoy_draft.proofs.checks.check.Goals as goal

pub returns-in_err-check_limits : goal.returns-in_err-check_limits
returns-in_err-check_limits c =
    let draft = c.args.draft.now in
    let returned = err_from_is_err_and c.from_residual.result c.from_residual.ensures.1 in
    rw (returned.1, returned.2) (judge_fault (limit_checks draft) (name_checks draft ++ reference_checks draft) _ c.in_err-check_limits.ensures)

pub returns-in_err-check_names : goal.returns-in_err-check_names
returns-in_err-check_names c =
    let draft = c.args.draft.now in
    let returned = err_from_is_err_and c.from_residual-in_err-check_names.result c.from_residual-in_err-check_names.ensures.1 in
    rw (returned.1, returned.2) (judge_rest (limit_checks draft) (name_checks draft ++ reference_checks draft) _ c.in_ok-check_limits.ensures (judge_fault (name_checks draft) (reference_checks draft) _ c.in_err-check_names.ensures))

pub returns : goal.returns
returns c =
    let draft = c.args.draft.now in
    judge_rest (limit_checks draft) (name_checks draft ++ reference_checks draft) _ c.in_ok-check_limits.ensures (judge_rest (name_checks draft) (reference_checks draft) _ c.in_ok-check_names.ensures c.check_references.ensures)
