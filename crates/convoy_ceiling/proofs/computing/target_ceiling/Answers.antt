use Rattle.std.proofs.Common.{ℕ, subst, ap₂, ◌∙◌}
use Rattle.convoy_ceiling.specs.Ceiling.{IsUpperInTraffic, ceiling_at, ceiling_of}
use Rattle.convoy_ceiling.proofs.computing.target_ceiling.Goals as goal

pub returns-clause-value : goal.returns-clause-value
unfolding ceiling_of
returns-clause-value c =
    c.ceiling.ensures.value ∙ ap₂ (ceiling_at c.args.scenario.now) c.target_message.ensures.value c.target_group.ensures.value

pub returns-clause-safe : goal.returns-clause-safe
returns-clause-safe c =
    let scenario = c.args.scenario.now in
    subst (IsUpperInTraffic scenario scenario.target_message scenario.target_group) (returns-clause-value c)
    (subst (λ (g : ℕ). IsUpperInTraffic scenario scenario.target_message g c.ceiling.result) c.target_group.ensures.value
    (subst (λ (m : ℕ). IsUpperInTraffic scenario m c.target_group.result c.ceiling.result) c.target_message.ensures.value c.ceiling.ensures.holds))
