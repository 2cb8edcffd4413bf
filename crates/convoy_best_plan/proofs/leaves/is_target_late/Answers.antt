use Rattle.convoy_best_plan.proofs.leaves.is_target_late.Goals as goal

pub returns : goal.returns
returns c = λ yes. record {
  latency = c.commit_known-latency.result;
  latency_low = c.commit_known-latency.ensures;
  past = c.is_past_by.ensures yes;
}
