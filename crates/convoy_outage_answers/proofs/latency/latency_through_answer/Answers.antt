use Rattle.std.proofs.Common.{inl, sym, ◌∙◌}
use Rattle.convoy_outage_answers.proofs.LatencyTexts.{latency_told}
use Rattle.convoy_outage_answers.proofs.latency.latency_through_answer.Goals as goal

pub returns : goal.returns
returns g c =
    inl
    (latency_told c.args.with_ceiling c.args.outage c.args.asked.now c.args.options.now c.in_ok-input.input.unit c.of-measure.result
    c.deadline_at-deadline.result c.outside_told-outside.result c.in_ok-input.input.deadlines.items c.in_ok-input.input.shares.items
    c.args.text.now c.in_ok-text.text.items c.in_ok-input.input.scenario c.in_ok-instance.instance
    c.target_message.result c.in_ok-span.span c.in-Some.least c.in_ok-through.through c.in_ok-finding.finding c.finding_end.result c.judged.result
    c.in_ok-input.ensures.read c.in_ok-input.ensures.unit c.in_ok-input.ensures.deadlines c.in_ok-input.ensures.shares
    (rw c.unit.ensures at c.of-measure.ensures) c.target_message.ensures.value (rw c.deref.ensures.value at c.deadline_at-deadline.ensures)
    c.in_ok-span.ensures.told c.in_ok-instance.ensures c.scenario-scenario.ensures.lawful (rw c.deref-2.ensures.value at c.outside_told-outside.ensures)
    c.in_ok-finding.ensures (sym c.least.ensures ∙ c.in-Some.is)
    c.in_ok-through.ensures.safe c.in_ok-through.ensures.low
    (rw c.scenario-scenario.ensures.value at c.in_ok-text.ensures)
    c.finding_end.ensures c.judged.ensures)
