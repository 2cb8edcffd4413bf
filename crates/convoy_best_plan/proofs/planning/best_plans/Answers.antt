use Rattle.std.proofs.Common.{List, [], Option, Some, sym, subst, arith}
use Rattle.convoy_best_plan.specs.declared.planned.Planned.{Planned}
use Rattle.convoy_best_plan.specs.BestPlans.{AreAllTold, AreInTurn, IsBestPlan, IsPlanned}
use Rattle.convoy_best_plan.proofs.InTurn.{longer, one_more}
use Rattle.convoy_best_plan.proofs.planning.best_plans.Goals as goal

pub loop-alloc-preserved : goal.loop-alloc-preserved
loop-alloc-preserved g c =
    let found : IsPlanned c.args.options.now c.args.wanted c.args.plan.now c.deref.result.now (Some c.in-Some.planned) =
    subst (λ (o : Option Planned). IsPlanned c.args.options.now c.args.wanted c.args.plan.now c.deref.result.now o) c.in-Some.is c.in_ok-planned.ensures in
    let best : IsBestPlan c.args.options.now c.args.wanted c.args.plan.now c.loop-alloc.all.items c.in-Some.planned =
    subst (λ (ps : List Planned). IsBestPlan c.args.options.now c.args.wanted c.args.plan.now ps c.in-Some.planned) c.deref.ensures.value found in
    let long = longer c.push.new.self.items c.loop-alloc.all.items c.in-Some.planned c.in_ok-push-in-Some.ensures.items in
    let less = c.loop-alloc-test.true in
    let len = c.len.ensures in
    record {
      in_turn = subst (λ (ps : List Planned). AreInTurn c.args.options.now c.args.wanted c.args.plan.now [] ps) (sym c.in_ok-push-in-Some.ensures.items)
          (one_more c.args.options.now c.args.wanted c.args.plan.now [] c.loop-alloc.all.items c.in-Some.planned c.loop-alloc.invariant.in_turn best);
      few = omega (arith, long, less, len);
    }

pub returns-in-None : goal.returns-in-None
returns-in-None g c =
    let none : AreAllTold c.args.plan.now c.deref.result.now =
    subst (λ (o : Option Planned). IsPlanned c.args.options.now c.args.wanted c.args.plan.now c.deref.result.now o) c.in-None.is c.in_ok-planned.ensures in
    record {
      in_turn = c.loop-alloc.invariant.in_turn;
      few = c.loop-alloc.invariant.few;
      whole = λ less. subst (AreAllTold c.args.plan.now) c.deref.ensures.value none;
    }
