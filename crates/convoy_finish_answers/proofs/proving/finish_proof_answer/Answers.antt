use Rattle.std.proofs.Common.{inl, rules}
use Rattle.convoy_finish_answers.proofs.Proved.{told_so}
use Rattle.convoy_finish_answers.proofs.proving.finish_proof_answer.Goals as goal

pub returns : goal.returns
returns g c =
    inl
    (rw (c.about.ensures.done, c.about.ensures.text)
    (told_so c.args.asked.now c.args.options.now c.args.text.now c.in_ok-scenario.field-0 c.of-measure.result c.deadline_at-deadline.result c.deref.result.now c.target_message.result
    c.in_ok-instance.instance c.in_ok-sought.sought c.certificate_of-certificate.result
    (search rules) (search rules) (search rules) (search rules) c.deadline_at-deadline.ensures
    (search rules) (search rules)
    (search rules) c.certificate_of-certificate.ensures.scenario c.certificate_of-certificate.ensures.latency c.certificate_of-certificate.ensures.schedule
    c.in_ok-end.end c.judged-done.result c.in_ok-end.text.items (search rules) (search rules)))
