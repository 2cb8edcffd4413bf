-- Where some target is too late by its commit alone, no placement with these sites is below the floor.
use Rattle.std.proofs.Common.{◌≡◌, ℕ, ◌<◌, ◌≤◌, Bool, true, false, not, ◌&&◌, List, length, Ok, nat_lt, refl, sym, ap, subst, ltb-true, arith}
use Rattle.std.specs.List.{Contains}
use Rattle.std.proofs.lemmas.Bool.{and_parts, false≢true}
use Rattle.std.proofs.lemmas.List.Elements.{Contains-get_or}
use Rattle.convoy_scenario.specs.Scenario.{Message, Scenario}
use Rattle.convoy_sim.proofs.Addressed.{in_of_goes}
use Rattle.convoy_sim.proofs.Membership.{in_of_contains}
use Rattle.convoy_ceiling.specs.Ceiling.{longest_to_commit}
use Rattle.convoy_plans.specs.Placements.{Completes, scenario_at}
use Rattle.convoy_plans.specs.Plans.{IsPlan, Plan}
use Rattle.convoy_best_order.specs.declared.excess.Excess.{Excess}
use Rattle.convoy_best_order.specs.declared.target.Target.{Target}
use Rattle.convoy_best_order.specs.declared.wanted.Wanted.{Wanted}
use Rattle.convoy_best_order.specs.Excesses.{IsAtMost}
use Rattle.convoy_best_order.specs.Targets.{asked_of, counted, limit_of}
use Rattle.convoy_best_order.proofs.Asking.{well_asked}
use Rattle.convoy_best_order.proofs.Measures.{at_most_of}
use Rattle.convoy_best_order.proofs.Relisting.{in_order, is_listed}
use Rattle.convoy_best_plan.specs.declared.floor.Floor.{Floor}
use Rattle.convoy_best_plan.specs.BestPlans.{IsNotBelow, targets_by}
use Rattle.convoy_best_plan.specs.Floors.{excess_at}
use Rattle.convoy_best_plan.specs.Leaves.{commit_known, total_known}
use Rattle.convoy_best_plan.specs.Totals.{total_of}
use Rattle.convoy_best_plan.proofs.Agreeing.{Agree, agree, message_count, same_targets, well_made}
use Rattle.convoy_best_plan.proofs.Commits.{commit_reached}
use Rattle.convoy_best_plan.proofs.LateAnyhow.{Used, commit_low, goes_known, may_too, same_total, total_low}
use Rattle.convoy_best_plan.proofs.Lower.{reached_total}
use Rattle.convoy_plan_checker.specs.Lateness.{target_at}
use Rattle.convoy_plan_checker.specs.Sites.{Sites}
use Rattle.convoy_plan_checker.specs.Trees.{Claim, is_late_anyhow}
use Rattle.convoy_plan_checker.proofs.Targeted.{may_be}

same_commit : (plan : Plan) (sites : Sites) (scenario other : Scenario) (m g : ℕ) → Agree scenario other
    → commit_known plan other sites m g ≡ commit_known plan scenario sites m g
same_commit plan sites scenario other m g is = ap (λ (ms : List Message). commit_known plan (record other { multicasts = ms }) sites m g) is.multicasts

past_later : (least other : Excess) (early late limit : ℕ) → IsAtMost least other → IsAtMost other (record { latency = early; limit = limit }) → early ≤ late
    → IsAtMost least (record { latency = late; limit = limit })
past_later least other early late limit low past later = omega (arith, low, past, later)

up_to : (a b c d : ℕ) → c ≡ a → c ≤ b → b ≤ d → a ≤ d
up_to a b c d same next last = omega (arith, same, next, last)

not_less : (b : Bool) → not b ≡ true → b ≡ false
not_less false e = refl
not_less true e = absurd (false≢true e)

module _ (used : Used) (wanted : Wanted) (plan : Plan) (is_plan : IsPlan plan) (first : Scenario) (home : List ℕ) (home_made : scenario_at plan home ≡ Ok first)
    (floor : Floor) (sites : Sites) (target : Target) (of_target : (k : ℕ) × (k < length (targets_by wanted plan first)) × (target_at (targets_by wanted plan first) k ≡ target))
    (past : IsAtMost (excess_at floor (total_known plan first sites)) (record { latency = commit_known plan first sites target.message target.group; limit = limit_of target })) where
  pub late_not_below : (placement : List ℕ) → Completes placement sites → IsNotBelow wanted plan floor placement
  late_not_below placement all scenario made order in_order_is =
      let targets : List Target = targets_by wanted plan first in
      let same = agree plan home placement first scenario is_plan home_made made in
      let well_first = well_made plan home first home_made used.given in
      let well = well_made plan placement scenario made used.given in
      let among = subst (λ (t : Target). Contains targets t) of_target.2 (Contains-get_or targets of_target.0 _ of_target.1) in
      let may = may_too first scenario target same (may_be wanted plan first well_first target (in_of_contains target targets among)) in
      let run = commit_reached used.have used.given used.give used.renumbered used.after scenario target well may order in_order_is in
      let many = message_count plan placement scenario made in
      let known : target.message < length plan.written.messages = let below = may.known in omega (arith, below, many) in
      let at_group : target.group < length plan.written.groups =
      goes_known used.ranges used.messages plan is_plan placement sites all scenario made target.message known target.group (in_of_goes scenario target.message target.group may.addressed) in
      let commit = commit_low used.ranges used.messages plan is_plan placement sites all scenario made target.message known target.group at_group in
      let total = total_low used.ranges used.messages plan is_plan placement sites all scenario made many in
      let commit_same = same_commit plan sites first scenario target.message target.group same in
      let total_same = same_total plan sites first scenario same in
      let fewer : total_known plan first sites ≤ total_of scenario = omega (arith, total_same, total) in
      let later = up_to (commit_known plan first sites target.message target.group) (longest_to_commit scenario target.message target.group)
      (commit_known plan scenario sites target.message target.group) run.0 commit_same commit run.2 in
      record {
        target = target;
        of_target = subst (λ (ts : List Target). Contains ts target) (sym (ap counted (same_targets wanted plan.deadlines first scenario same))) among;
        instance = in_order (asked_of scenario target) order;
        made = is_listed used.have used.give (asked_of scenario target) order (well_asked scenario target well may) in_order_is;
        latency = run.0;
        reached = run.1;
        exceeds = past_later (excess_at floor (total_of scenario)) (excess_at floor (total_known plan first sites))
            (commit_known plan first sites target.message target.group) run.0 (limit_of target) (reached_total floor (total_known plan first sites) (total_of scenario) fewer) past later;
      }

-- the same from the test of a node
pub commit_not_below : (used : Used) (plan : Plan) (is_plan : IsPlan plan) (claim : Claim) (home : List ℕ) → scenario_at plan home ≡ Ok claim.scenario
    → claim.targets ≡ targets_by claim.wanted plan claim.scenario → (sites : Sites) (k : ℕ)
    → (nat_lt k (length claim.targets) && is_late_anyhow plan claim sites (target_at claim.targets k)) ≡ true
    → (placement : List ℕ) → Completes placement sites → IsNotBelow claim.wanted plan claim.floor placement
commit_not_below used plan is_plan claim home home_made own sites k is =
    let both = and_parts (nat_lt k (length claim.targets)) (is_late_anyhow plan claim sites (target_at claim.targets k)) is in
    let target : Target = target_at claim.targets k in
    late_not_below used claim.wanted plan is_plan claim.scenario home home_made claim.floor sites target
    (k, subst (λ (ts : List Target). k < length ts) own (ltb-true k (length claim.targets) both.0), ap (λ (ts : List Target). target_at ts k) (sym own))
    (at_most_of (record { latency = commit_known plan claim.scenario sites target.message target.group; limit = limit_of target })
    (excess_at claim.floor (total_known plan claim.scenario sites)) (not_less _ both.1))
