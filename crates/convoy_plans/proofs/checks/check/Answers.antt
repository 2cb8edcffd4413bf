use Rattle.std.proofs.Common.{◌∙◌, ap₂, inl, List, ℕ}
use Rattle.convoy_plans.specs.Checks.{judge, rules_of}
use Rattle.convoy_plans.proofs.checks.check.Goals as goal

pub returns : goal.returns
returns c =
    let places = c.deref.ensures.value ∙ c.in_ok-places.ensures in
    let settled = c.deref-2.ensures.value ∙ c.in_ok-settled.ensures in
    inl (c.check_all.ensures ∙ ap₂ (λ (ps ss : List (List ℕ)). judge (rules_of c.args.plan.now c.args.draft.now c.args.housed.now ps ss)) places settled)
