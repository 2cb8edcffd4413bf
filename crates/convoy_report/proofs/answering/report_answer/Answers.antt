use Rattle.std.proofs.Common.{inl, inr, refl}
use Rattle.std.proofs.lemmas.Result.{err_from_is_err_and}
use Rattle.convoy_report.proofs.answering.report_answer.Goals as goal

pub returns-in_err-page : goal.returns-in_err-page
returns-in_err-page g c =
    let returned = err_from_is_err_and c.from_residual-in_err-page.result c.from_residual-in_err-page.ensures.1 in
    rw (returned.1, returned.2) (inr refl)

pub returns : goal.returns
returns g c =
    inl
    (record {
      report = c.in_ok-report.report;
      map = c.as_bytes.result.now;
      told = c.in_ok-report.ensures;
      written = rw (c.about.ensures.text, c.in_ok-page.ensures) refl;
      ends = rw (c.about.ensures.done, c.end_of-done.ensures, c.deref-3.ensures.value, c.deref-4.ensures.value) refl;
    })
