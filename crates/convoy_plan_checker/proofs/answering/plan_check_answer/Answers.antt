use Rattle.std.proofs.Common.{inl, refl, subst}
use Rattle.convoy_best_plan.proofs.ReadPlans.{read_by}
use Rattle.convoy_plan_checker.specs.PlanCheckAnswers.{IsParted}
use Rattle.convoy_plan_checker.proofs.answering.plan_check_answer.Goals as goal

pub returns-in-Ok : goal.returns-in-Ok
returns-in-Ok c =
    inl
    (inl
    (record {
      plan = c.in_ok-plan.plan;
      certificate = c.in-Ok.field-0;
      stands = record {
        above = c.parts_of.result.0.now;
        parted = subst (IsParted c.args.text.now c.parts_of.result.0.now) c.in-Ok.ensures.text c.parts_of.ensures;
        read = read_by _ _ _ c.in_ok-plan.ensures.value;
      };
      valid = c.in-Ok.ensures.valid;
      best = c.in-Ok.ensures.best;
      written = rw (c.written.ensures.text, c.in_ok-line-in-Ok.ensures.items) refl;
      ends = c.written.ensures.done;
    }))
