use Rattle.std.proofs.Common.{◌≡◌, ℕ, List, Option, Some, sym, subst}
use Rattle.convoy_plans.specs.Plans.{Plan}
use Rattle.convoy_branch.specs.Options.{Settings}
use Rattle.convoy_best_order.specs.declared.wanted.Wanted.{Wanted}
use Rattle.convoy_best_order.specs.declared.target.Target.{Target}
use Rattle.convoy_best_plan.specs.declared.planned.Planned.{Planned}
use Rattle.convoy_best_plan.specs.BestPlans.{IsNotBelow}
use Rattle.convoy_best_plan.specs.Standings.{HasFallen, IsBestBySome, IsFound, IsOpenByThese, IsOutdone, IsPassed, IsStanding, better}
use Rattle.convoy_best_plan.proofs.Choices.{choice_found, choice_here}
use Rattle.convoy_best_plan.proofs.Found.{better_fallen, better_found, better_passed, fallen_self, outdone_passed}
use Rattle.convoy_best_plan.proofs.visiting.visit_scenario.Goals as goal

-- how the search stands after a placement
record After (settings : Settings) (wanted : Wanted) (plan : Plan) (told : List Planned) (old new : Option Planned) (placement : List ℕ) : Type 0 where
  standing : IsStanding settings wanted plan told new
  fallen : HasFallen old new
  passed : IsPassed wanted plan new placement

-- where the choice stays
kept : (settings : Settings) (wanted : Wanted) (plan : Plan) (told : List Planned) (old new : Option Planned) (placement : List ℕ) → new ≡ old → IsStanding settings wanted plan told old
    → IsPassed wanted plan old placement → After settings wanted plan told old new placement
kept settings wanted plan told old new placement same is passed =
    subst (λ (next : Option Planned). After settings wanted plan told old next placement) (sym same) (record { standing = is; fallen = fallen_self old; passed = passed })

-- where there is one choice more
added : (settings : Settings) (wanted : Wanted) (plan : Plan) (told : List Planned) (old mid new : Option Planned) (found choice : Planned) (placement : List ℕ) → mid ≡ old
    → new ≡ Some (better mid found) → found ≡ choice → IsStanding settings wanted plan told old → IsFound settings wanted plan told choice
    → IsNotBelow wanted plan choice.floor placement → After settings wanted plan told old new placement
added settings wanted plan told old mid new found choice placement same gives as_is is new_one here =
    let next : new ≡ Some (better old choice) = subst (λ (p : Planned). new ≡ Some (better old p)) as_is (subst (λ (m : Option Planned). new ≡ Some (better m found)) same gives) in
    subst (λ (o : Option Planned). After settings wanted plan told old o placement) (sym next)
    (record {
      standing = better_found settings wanted plan told old choice is new_one;
      fallen = better_fallen settings wanted plan told old choice is new_one;
      passed = better_passed settings wanted plan told old choice placement is new_one here;
    })

pub returns-then-outdone : goal.returns-then-outdone
returns-then-outdone g c =
    let outdone : IsOutdone c.args.standing.chosen c.args.scenario c.in_ok-targets.targets.items =
    subst (IsOutdone c.args.standing.chosen c.args.scenario) c.deref.ensures.value (c.in_ok-outdone.ensures.outdone c.if-outdone.true) in
    let after =
    kept c.args.options.now c.args.wanted c.args.plan.now c.args.told.now c.args.standing.chosen c.is_past_here.new.standing.chosen c.args.placement.items c.in_ok-outdone.ensures.chosen
    c.requires.standing
    (outdone_passed c.args.options.now c.args.wanted c.args.plan.now c.args.told.now c.args.standing.chosen c.args.placement.items c.args.scenario c.in_ok-targets.targets.items
    c.requires.standing c.requires.made c.in_ok-targets.ensures.value outdone) in
    record { standing = after.standing; fallen = after.fallen; passed = after.passed }

pub returns : goal.returns
returns g c =
    let best : IsBestBySome c.args.scenario c.in_ok-targets.targets.items c.in_ok-best.best =
    subst (λ (targets : List Target). IsBestBySome c.args.scenario targets c.in_ok-best.best) c.deref-2.ensures.value c.in_ok-best.ensures.best in
    let open_by : IsOpenByThese c.args.options.now c.args.scenario c.in_ok-targets.targets.items c.in_ok-best.best =
    subst (λ (targets : List Target). IsOpenByThese c.args.options.now c.args.scenario targets c.in_ok-best.best) c.deref-2.ensures.value c.in_ok-best.ensures.is_open in
    let found =
    choice_found c.args.wanted c.args.plan.now c.args.told.now c.args.placement c.args.scenario c.in_ok-targets.targets c.in_ok-best.best c.requires.placement c.requires.made
    c.in_ok-targets.ensures.value c.in_ok-targets.ensures.lawful c.requires.new c.args.options.now best open_by in
    let here =
    choice_here c.args.wanted c.args.plan.now c.args.told.now c.args.placement c.args.scenario c.in_ok-targets.targets c.in_ok-best.best c.requires.placement c.requires.made
    c.in_ok-targets.ensures.value c.in_ok-targets.ensures.lawful c.requires.new c.no_order_is_better.ensures c.group_count-count.ensures.lawful best in
    let after =
    added c.args.options.now c.args.wanted c.args.plan.now c.args.told.now c.args.standing.chosen c.is_past_here.new.standing.chosen c.with.result.chosen c.choice_of-found.result _
    c.args.placement.items c.in_ok-outdone.ensures.chosen c.with.ensures c.choice_of-found.ensures c.requires.standing found here in
    record { standing = after.standing; fallen = after.fallen; passed = after.passed }
