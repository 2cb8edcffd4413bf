use Rattle.std.proofs.Common.{inl, inr, refl}
use Rattle.std.proofs.lemmas.Result.{err_from_is_err_and}
use Rattle.convoy_commands.proofs.Acceptance.{open_written, proof_written}
use Rattle.convoy_commands.proofs.analyse.analyse_answer.Goals as goal

pub returns-in-Proved : goal.returns-in-Proved
returns-in-Proved g c =
    inl
    (inl
    (proof_written _ _ _ _ _ _ c.texts_are_read.ensures c.texts_are_short.ensures c.checked_is_valid.ensures c.valid_is_greatest.ensures _ _ _
    (rw c.certificate.view_is at c.certificate.invariant) (rw c.in-Proved.is at c.in_ok-read.ensures.0) c.limit-limit.ensures.lawful.few_tickets
    c.in_ok-text_of-in-Proved.ensures
    (rw (c.latency-latency.ensures, c.in_ok-read.ensures.2) at c.judged.ensures)))

pub returns : goal.returns
returns g c =
    inl
    (inr
    (open_written _ _ _ _ _ _ c.in-Open.best c.in-Open.upper c.in-Open.tickets c.in-Open.by_worker
    (rw c.best.view_is at c.best.invariant) (rw c.in-Open.is at c.in_ok-read.ensures.0)
    (rw c.scenario.ensures at c.in_ok-open_text-in-Open.ensures)
    (rw (c.latency.ensures.value, c.in_ok-read.ensures.2) at c.judged-in-Open.ensures)))

pub returns-in_err-text_of-in-Proved : goal.returns-in_err-text_of-in-Proved
returns-in_err-text_of-in-Proved g c =
    let returned = err_from_is_err_and c.from_residual-in_err-text_of-in-Proved.result c.from_residual-in_err-text_of-in-Proved.ensures.1 in
    inr (rw (returned.1, returned.2) refl)
