use Rattle.std.proofs.Common.{Vec, ℕ, inl, ap, ◌∙◌}
use Rattle.std.specs.declared.alloc.Global.{Global}
use Rattle.std.proofs.lemmas.Result.{err_from_is_err_and}
use Rattle.convoy_what_if.proofs.Broken.{broken}
use Rattle.convoy_what_if.proofs.Told.{told}
use Rattle.convoy_what_if.proofs.answering.what_if_answer.Goals as goal

pub returns : goal.returns
returns g c =
    inl
    (told c.args.format c.args.shows_all c.args.asked.now c.args.options.now c.args.text.now _ _
    c.in_ok-input.input.scenario c.in_ok-instance.instance c.into_scenario-scenario.result
    c.in_ok-rows.rows.items c.deref-2.result.now c.deref-3.result.now
    c.unit.result c.in_ok-input.input.unit c.of-2.result c.of-times.result c.deref.result.now c.target_message.result c.deadline_at-deadline.result
    c.in_ok-input.ensures.read c.in_ok-instance.ensures c.into_scenario-scenario.ensures.value c.into_scenario-scenario.ensures.lawful c.in_ok-rows.ensures.tried
    c.deref-2.ensures.value c.deref-3.ensures.value c.unit.ensures c.in_ok-input.ensures.unit c.of-2.ensures c.of-times.ensures
    (c.deref.ensures.value ∙ c.in_ok-input.ensures.deadlines) c.target_message.ensures.value c.deadline_at-deadline.ensures
    (ap (λ (bytes : Vec ℕ Global). bytes.items) c.about_greatest.ensures.text ∙ c.in_ok-text.ensures) (c.about_greatest.ensures.done ∙ c.end_of-done.ensures))

pub returns-in_err-rows : goal.returns-in_err-rows
returns-in_err-rows g c =
    let returned = err_from_is_err_and c.from_residual-in_err-rows.result c.from_residual-in_err-rows.ensures.1 in
    rw (returned.1, returned.2)
    (broken c.args.asked.now c.args.text.now c.in_ok-input.input.scenario c.in_ok-instance.instance _ c.in_ok-input.ensures.read c.in_ok-instance.ensures
    c.in_err-rows.ensures.err)
