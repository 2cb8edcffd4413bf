use Rattle.std.proofs.Common.{sym, ◌∙◌}
use Rattle.convoy_best_plan.proofs.excluding.is_found_past.Goals as goal

pub returns : goal.returns
returns c = λ yes.
    let attained = c.latency-latency.ensures.attained in
    (c.latency-latency.result, (c.args.found.now.schedule, attained.assignment, sym (c.latency-latency.ensures.value ∙ attained.latency)), c.is_past_by.ensures yes)
