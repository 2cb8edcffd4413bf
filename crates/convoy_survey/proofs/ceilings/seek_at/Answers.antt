use Rattle.std.proofs.Common.{◌≡◌, ◌≤◌, ℕ, refl, subst, ◌∙◌, ap}
use Rattle.convoy_scenario.specs.Scenario.{Scenario}
use Rattle.convoy_scenario.specs.Targets.{with_target}
use Rattle.convoy_ceiling.specs.Ceiling.{ceiling_at, ceiling_of}
use Rattle.convoy_survey.proofs.ceilings.seek_at.Goals as goal

-- the ceiling of a scenario with that target
of_target : (scenario : Scenario) (m g : ℕ) → ceiling_of (with_target scenario m g) ≡ ceiling_at scenario m g
unfolding ceiling_of ceiling_at
of_target scenario m g = refl

pub returns-clause-within : goal.returns-clause-within
returns-clause-within c =
    let is : ceiling_of c.in_ok-asked.asked ≡ ceiling_at c.args.scenario.now c.args.message c.args.group =
    ap ceiling_of c.in_ok-asked.ensures ∙ of_target c.args.scenario.now c.args.message c.args.group in
    rw c.latency.ensures.value (subst (λ (n : ℕ). c.in_ok-found.found.record.latency ≤ n) is c.in_ok-found.ensures.within)
