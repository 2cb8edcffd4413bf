use Rattle.convoy_plan_ceilings.proofs.bounds.is_high.Goals as goal

pub returns : goal.returns
returns c = λ yes. record {
  ceiling = c.ceiling_known-ceiling.result;
  ceiling_low = c.ceiling_known-ceiling.ensures;
  past = c.is_past_by.ensures yes;
}
