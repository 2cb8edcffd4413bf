use Rattle.std.proofs.Common.{inl}
use Rattle.convoy_best_plan.proofs.ReadPlans.{read_by}
use Rattle.convoy_plan_ceilings.proofs.answering.ceiling_placing_answer.Goals as goal

pub returns : goal.returns
returns c =
    inl
    (record {
      plan = c.in_ok-plan.plan;
      chosen = c.in-Some.chosen;
      told = record {
        read = read_by _ _ _ c.in_ok-plan.ensures.value;
        least = rw c.in-Some.is at c.in_ok-chosen.ensures;
      };
      written = c.in_ok-text.ensures;
      ends = c.end_of-done.ensures;
    })
