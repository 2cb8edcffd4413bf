use Rattle.std.proofs.Common.{inl}
use Rattle.convoy_commands.proofs.CeilingTexts.{ceiling_told, deadline_in}
use Rattle.convoy_commands.proofs.ceiling.ceiling_answer.Goals as goal

pub returns : goal.returns
returns c =
    inl
    (ceiling_told c.args.outage c.args.asked.now c.args.unit c.in_ok-input.input.unit c.of-measure.result c.deadline_at-deadline.result c.in_ok-through.through _ _ c.in_ok-input.input.scenario c.in_ok-found.found.traffic c.in_ok-found.found.record
    c.target_message-message.result c.target_group-group.result c.target_ceiling-ceiling.result c.latency-latency.result c.unwrap_or-most.result c.ending.result c.judged-done.result
    c.in_ok-input.ensures.read c.in_ok-input.ensures.unit c.of-measure.ensures
    (deadline_in c.args.asked.now c.args.text.now c.in_ok-input.input.scenario _ _ _ c.in_ok-input.ensures.deadlines c.target_message-message.ensures.value
    (rw c.deref.ensures.value at c.deadline_at-deadline.ensures))
    c.target_ceiling-ceiling.ensures.lawful c.target_ceiling-ceiling.ensures.safe
    c.target_message-message.ensures.value c.target_group-group.ensures.value c.in_ok-through.ensures.told
    c.in_ok-found.ensures.found c.in_ok-found.ensures.within c.target_ceiling-ceiling.ensures.value c.latency-latency.ensures.value c.unwrap_or-most.ensures
    c.in_ok-text.ensures c.ending.ensures c.judged-done.ensures)
