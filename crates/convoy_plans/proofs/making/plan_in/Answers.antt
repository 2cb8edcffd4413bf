use Rattle.std.proofs.Common.{sym, subst, rules, ap, ◌∙◌, List}
use Rattle.convoy_plans.specs.Plans.{IsPlan, client_sites}
use Rattle.convoy_plans.specs.declared.plan.Origin.{Origin}
use Rattle.convoy_plans.proofs.ArePlans.{made_from, made_plan}
use Rattle.convoy_plans.proofs.making.plan_in.Goals as goal

pub invariant_of-result : goal.invariant_of-result
invariant_of-result c =
    subst IsPlan
    (sym
    (made_from c.args.written c.args.tick c.args.unit c.args.bundles.now c.args.deadlines.items _ _ _ _ _ _ _ _ (search rules) (search rules) c.requires.housed c.in_ok-apart.ensures c.in_ok-most.ensures
    c.in_ok-origins.ensures c.in_ok-goes.ensures
    (c.in_ok-clients.ensures ∙ ap (λ (os : List Origin). client_sites os c.args.written.sites) (c.deref.ensures.value ∙ c.in_ok-origins.ensures))))
    (made_plan c.args.written c.args.tick c.args.unit c.args.bundles.now c.args.deadlines.items c.requires.ticks c.requires.some c.requires.differ c.requires.addressed c.requires.sent)

pub returns : goal.returns
returns c =
    made_from c.args.written c.args.tick c.args.unit c.args.bundles.now c.args.deadlines.items _ _ _ _ _ _ _ _ (search rules) (search rules) c.requires.housed c.in_ok-apart.ensures c.in_ok-most.ensures
    c.in_ok-origins.ensures c.in_ok-goes.ensures
    (c.in_ok-clients.ensures ∙ ap (λ (os : List Origin). client_sites os c.args.written.sites) (c.deref.ensures.value ∙ c.in_ok-origins.ensures))
