use Rattle.std.proofs.Common.{All, eq-eqb, sym, subst, ◌∙◌, List}
use Rattle.std.proofs.lemmas.Bool.{both_ways}
use Rattle.std.proofs.lemmas.List.Elements.{All-tail}
use Rattle.convoy_best_order.specs.declared.target.Target.{Target}
use Rattle.convoy_best_order.specs.Targets.{MayBeTarget}
use Rattle.convoy_plan_checker.proofs.Stepping.{back_shown, next_shown, none_due}
use Rattle.convoy_plan_checker.proofs.shown.check_shown.Goals as goal

pub returns-in-Err-clause-only : goal.returns-in-Err-clause-only
returns-in-Err-clause-only c = λ all.
    c.in-Err.ensures.only
    (next_shown c.args.scenario.now c.args.order.now c.loop-number.rest.now c.in-Some.tail.now c.in-Some.target.now c.args.shown.now c.loop-number.number
    c.index-shown-number.result c.in-Some.ensures.cases.0 c.loop-number-test.true c.index-shown-number.is (c.loop-number.invariant.only all)).0

pub loop-number-preserved : goal.loop-number-preserved
loop-number-preserved c = record {
  valid = λ others.
      c.loop-number.invariant.valid
      (back_shown c.args.scenario.now c.args.order.now c.loop-number.rest.now c.in-Some.tail.now c.in-Some.target.now c.args.shown.now c.loop-number.number
      c.index-shown-number.result c.in-Some.ensures.cases.0 c.loop-number-test.true c.index-shown-number.is c.in-Ok.ensures.valid others);
  only = λ all.
      (next_shown c.args.scenario.now c.args.order.now c.loop-number.rest.now c.in-Some.tail.now c.in-Some.target.now c.args.shown.now c.loop-number.number
      c.index-shown-number.result c.in-Some.ensures.cases.0 c.loop-number-test.true c.index-shown-number.is (c.loop-number.invariant.only all)).1;
  may = All-tail (MayBeTarget c.args.scenario.now) c.in-Some.target.now c.in-Some.tail.now
      (subst (λ (ts : List Target). All (MayBeTarget c.args.scenario.now) ts) c.in-Some.ensures.cases.0 c.loop-number.invariant.may);
}

pub returns-else-is_empty-clause-only : goal.returns-else-is_empty-clause-only
returns-else-is_empty-clause-only c = λ all.
    absurd
    (both_ways _ (sym c.is_empty.ensures ∙ c.if-is_empty.false)
    (eq-eqb _ 0
    (none_due c.args.scenario.now c.args.order.now c.loop-number.rest.now c.args.shown.now c.loop-number.number c.loop-number-test.false
    (c.loop-number.invariant.only all))))
