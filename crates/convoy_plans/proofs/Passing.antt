-- What holds of a plan as it is written where no rule has a fault.
use Rattle.std.proofs.Common.{◌≡◌, ℕ, ◌<◌, true, nat_le, List, length, Ok, inl, inr, sym, leb-true, arith}
use Rattle.std.specs.List.{list_all}
use Rattle.std.proofs.lemmas.Bool.{and_parts}
use Rattle.convoy_draft.specs.declared.fault.ScenarioFault.TheVariants.{Memory}
use Rattle.convoy_draft.specs.Checks.{all_differ}
use Rattle.convoy_draft.specs.Draft.{Draft}
use Rattle.convoy_scenario.specs.Memory.{IsUnlessMemory}
use Rattle.convoy_plans.specs.declared.fault.PlanFault.TheVariants.{Scenario}
use Rattle.convoy_plans.specs.declared.fault.TheConstants.{MOST_SITES}
use Rattle.convoy_plans.specs.Checks.{are_among, is_sent_from, judge, places_of, rules_of, settled_of}
use Rattle.convoy_plans.specs.Plans.{WrittenPlan}
use Rattle.convoy_plans.proofs.Judged.{all_hold}

pub record Passes (plan : WrittenPlan) : Type 0 where
  pub some : 0 < length plan.sites
  pub differ : all_differ (places_of plan) ≡ true
  pub addressed : list_all (λ message. are_among message.to plan.scenario.groups) plan.scenario.messages ≡ true
  pub sent : list_all (is_sent_from (places_of plan)) plan.scenario.messages ≡ true

passing : (plan : WrittenPlan) (draft : Draft) (housed : List (List ℕ)) → judge (rules_of plan draft housed (places_of plan) (settled_of plan)) ≡ Ok tt → Passes plan
passing plan draft housed h =
    let limits = all_hold (rules_of plan draft housed (places_of plan) (settled_of plan)) h in
    let names = limits.1.1.1.1 in
    let groups = names.1.1.1.1.1.1 in
    let sites = groups.1.1.1.1 in
    let count = and_parts (nat_le 1 (length plan.sites)) (nat_le (length plan.sites) MOST_SITES) limits.0 in
    let low = leb-true _ _ count.0 in
    record {
      some = omega arith;
      differ = names.1.0;
      addressed = groups.1.1.0;
      sent = sites.1.1.1.1.1.0;
    }

pub passes : (plan : WrittenPlan) (draft : Draft) (housed : List (List ℕ)) → IsUnlessMemory (Scenario Memory) (judge (rules_of plan draft housed (places_of plan) (settled_of plan))) (Ok tt) → Passes plan
passes plan draft housed (inl is) = passing plan draft housed (sym is)
passes plan draft housed (inr other) = absurd cc
