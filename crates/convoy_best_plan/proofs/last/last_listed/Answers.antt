use Rattle.std.proofs.Common.{sym, subst, ◌∙◌, arith}
use Rattle.convoy_scenario.specs.Scenario.{Scenario}
use Rattle.convoy_best_order.proofs.Better.{group_known}
use Rattle.convoy_best_plan.specs.Witnesses.{IsLastListed}
use Rattle.convoy_best_plan.proofs.LastListed.{last_made, last_order}
use Rattle.convoy_best_plan.proofs.last.last_listed.Goals as goal

pub with_last-requires : goal.with_last-requires
with_last-requires c =
    let known =
    group_known c.args.scenario.now c.group_count-count.ensures.lawful c.args.target.message c.args.target.group c.requires.addressed in
    omega (arith, known, c.group_count-count.ensures.value)

pub listed-requires : goal.listed-requires
listed-requires c =
    last_order c.args.scenario.now c.in_ok-asked.asked c.args.target c.group_count-count.result _
    (group_known c.args.scenario.now c.group_count-count.ensures.lawful c.args.target.message c.args.target.group c.requires.addressed)
    c.group_count-count.ensures.value c.in_ok-asked.ensures (c.deref.ensures.value ∙ c.in_ok-order.ensures)

pub returns : goal.returns
returns c =
    subst (λ (s : Scenario). IsLastListed c.args.scenario.now c.args.target s) (sym c.in_ok-instance.ensures)
    (last_made c.args.scenario.now c.in_ok-asked.asked c.args.target c.group_count-count.result _
    (group_known c.args.scenario.now c.group_count-count.ensures.lawful c.args.target.message c.args.target.group c.requires.addressed)
    c.group_count-count.ensures.value c.in_ok-asked.ensures (c.deref.ensures.value ∙ c.in_ok-order.ensures) c.in_ok-other.other c.in_ok-other.ensures)
