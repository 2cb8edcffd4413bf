use Rattle.std.proofs.Common.{◌<◌, arith}
use Rattle.std.proofs.lemmas.Result.{err_from_is_err_and}
use Rattle.convoy_case_survey.proofs.MoreCases.{cases_more, one_faulty}
use Rattle.convoy_case_survey.proofs.answering.survey_all.Goals as goal

pub returns-in_err-case : goal.returns-in_err-case
returns-in_err-case g c =
    let within : c.loop-number.number < c.args.count = omega arith in
    let returned = err_from_is_err_and c.from_residual.result c.from_residual.ensures.1 in
    rw (returned.1, returned.2) (one_faulty c.args.asked.now c.args.count c.args.text.now c.loop-number.number _ within c.in_err-case.ensures)

pub loop-number-preserved : goal.loop-number-preserved
loop-number-preserved g c =
    cases_more c.args.format c.args.asked.now c.args.options.now c.args.text.now c.loop-number.number c.loop-number.cases.items _ c.in_ok-case.case
    c.loop-number.invariant c.in_ok-case.ensures c.in_ok-push_case.ensures
