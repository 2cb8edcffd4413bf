use Rattle.std.proofs.Common.{All, ◌<◌, ℕ, List, Option, length, sym, ap, subst, ◌∙◌}
use Rattle.std.proofs.lemmas.List.Elements.{All-filter}
use Rattle.convoy_best_order.specs.declared.target.Target.{Target}
use Rattle.convoy_best_order.specs.Targets.{MayBeTarget, are_judged, counted, counts, targets_of}
use Rattle.convoy_best_order.proofs.Counting.{some_count}
use Rattle.convoy_best_plan.proofs.targets.targets_by.Goals as goal

pub returns-clause-value : goal.returns-clause-value
returns-clause-value c =
    c.in_ok-counting.ensures
    ∙ ap counted (c.deref.ensures.value ∙ c.in_ok-targets.ensures.value
    ∙ ap (λ (deadlines : List (Option ℕ)). targets_of c.args.wanted deadlines c.args.scenario.now) c.deadlines.ensures)

pub returns-clause-some : goal.returns-clause-some
returns-clause-some c =
    subst (λ (ts : List Target). 0 < length ts) (sym c.in_ok-counting.ensures)
    (some_count c.deref.result.now (subst (λ (ts : List Target). 0 < length ts) (sym c.deref.ensures.value) c.in_ok-targets.ensures.some))

pub returns-clause-lawful : goal.returns-clause-lawful
returns-clause-lawful c =
    let lawful = MayBeTarget c.args.scenario.now in
    subst (λ (ts : List Target). All lawful ts) (sym c.in_ok-counting.ensures)
    (All-filter (counts (are_judged c.deref.result.now)) lawful c.deref.result.now
    (subst (λ (ts : List Target). All lawful ts) (sym c.deref.ensures.value) c.in_ok-targets.ensures.lawful))
