use Rattle.std.proofs.Common.{ℕ, Option, is_some, ap}
use Rattle.convoy_best_plan.proofs.excluding.is_served.Goals as goal

pub returns-in_ok-bring_first-in-Some : goal.returns-in_ok-bring_first-in-Some
returns-in_ok-bring_first-in-Some c = λ yes. c.in_ok-hint.ensures (ap (λ (o : Option ℕ). is_some o) c.in-Some.is)
