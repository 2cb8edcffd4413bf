-- What is known of one message that goes to a group is known of all that do.
use Rattle.std.proofs.Common.{◌≡◌, ℕ, ◌<◌, ◌≤◌, true, List, length, Option, arith}
use Rattle.convoy_scenario.specs.Scenario.{Scenario, is_addressed, message_at}
use Rattle.convoy_sim.specs.Delivery.{addressed_to}
use Rattle.convoy_sim.proofs.Membership.{in-filter, in-range, in_greatest}
use Rattle.convoy_plans.specs.Plans.{Plan}
use Rattle.convoy_plan_ceilings.specs.Bounds.{after_known, from_arrival_known}

pub after_most : (plan : Plan) (scenario : Scenario) (leasts sites : List (Option ℕ)) (g n : ℕ) → n < length scenario.multicasts
    → is_addressed (message_at scenario n) g ≡ true → from_arrival_known plan scenario leasts sites g n ≤ after_known plan scenario leasts sites g
after_most plan scenario leasts sites g n within goes =
    in_greatest (from_arrival_known plan scenario leasts sites g) n (addressed_to scenario g)
    (in-filter (λ (k : ℕ). is_addressed (message_at scenario k) g) n _ (in-range n 0 (length scenario.multicasts) (omega arith) (omega (arith, within))) goes)
