use Rattle.std.proofs.Common.{inl, inr, refl}
use Rattle.convoy_best_plan.proofs.InTurn.{none_placed}
use Rattle.convoy_best_plan.proofs.ReadPlans.{read_by}
use Rattle.convoy_best_plan.proofs.answering.best_answer.Goals as goal

pub returns-in-None : goal.returns-in-None
returns-in-None g c =
    inl
    (inr
    (record {
      plan = c.in_ok-plan.plan;
      read = read_by _ _ _ c.in_ok-plan.ensures.value;
      none = none_placed c.in_ok-plan.plan (rw c.in-None.is at c.in_ok-planned.ensures);
      told = refl;
    }))

pub returns : goal.returns
returns g c =
    inl
    (record {
      plan = c.in_ok-plan.plan;
      planned = c.in-Some.planned;
      told = record {
        read = read_by _ _ _ c.in_ok-plan.ensures.value;
        best = rw c.in-Some.is at c.in_ok-planned.ensures;
      };
      written = rw (c.about.ensures.text, c.in_ok-text.ensures, c.as_told-planned.ensures, c.of-measure.ensures, c.unit.ensures, c.unit-2.ensures) refl;
      ends = rw (c.about.ensures.done, c.end_of-done.ensures, c.as_told-planned.ensures) refl;
    })
