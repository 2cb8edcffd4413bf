use Rattle.std.proofs.Common.{◌<◌, length, arith}
use Rattle.std.proofs.lemmas.Result.{err_from_is_err_and}
use Rattle.convoy_case_answers.proofs.AllFound.{all_more, one_refused}
use Rattle.convoy_case_answers.proofs.finding.find_all.Goals as goal

pub returns-in_err-found : goal.returns-in_err-found
returns-in_err-found g c =
    let within : c.loop-number.number < length c.args.cases.now = omega arith in
    let returned = err_from_is_err_and c.from_residual.result c.from_residual.ensures.1 in
    rw (returned.1, returned.2) (one_refused c.args.late.now c.args.cases.now c.args.text.now c.loop-number.number c.index-cases-number.result _ within c.index-cases-number.is c.in_err-found.ensures)

pub loop-number-preserved : goal.loop-number-preserved
loop-number-preserved g c =
    let within : c.loop-number.number < length c.args.cases.now = omega arith in
    all_more c.args.late.now c.args.cases.now c.args.options.now c.args.text.now c.loop-number.number c.index-cases-number.result c.loop-number.founds.items _ c.in_ok-found.found
    within c.index-cases-number.is c.loop-number.invariant c.in_ok-found.ensures c.in_ok-push_found.ensures
