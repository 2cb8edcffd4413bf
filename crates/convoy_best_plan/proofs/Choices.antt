-- The choice of a placement with the best order there, and with the best order that is found there again.
use Rattle.std.proofs.Common.{All, ◌≡◌, ◌≤◌, ◌⊎◌, ℕ, List, Vec, Ok, inl, inr, refl, sym, subst, ◌∙◌, arith, None}
use Rattle.std.specs.Global.{Global}
use Rattle.convoy_scenario.specs.Scenario.{Scenario}
use Rattle.convoy_scenario.specs.WellFormed.{IsScenario}
use Rattle.convoy_sim.specs.Greatest.{IsReached, IsUpper}
use Rattle.convoy_sim.proofs.Membership.{all-in, in_of_contains}
use Rattle.convoy_plans.specs.Placements.{IsPlacement, scenario_at}
use Rattle.convoy_plans.specs.Plans.{Plan}
use Rattle.convoy_branch.specs.Options.{Settings}
use Rattle.convoy_best_order.specs.declared.best.Best.{Best}
use Rattle.convoy_best_order.specs.declared.excess.Excess.{Excess}
use Rattle.convoy_best_order.specs.declared.target.Target.{Target}
use Rattle.convoy_best_order.specs.declared.wanted.Wanted.{Wanted}
use Rattle.convoy_best_order.specs.Best.{IsBest}
use Rattle.convoy_best_order.specs.Excesses.{IsAtMost, IsLess, lesser}
use Rattle.convoy_best_order.specs.OrderLaws.{BestOrderKeeps, NoOrderIsBetter}
use Rattle.convoy_best_order.specs.Orders.{listed}
use Rattle.convoy_best_order.specs.Spreads.{MayStayOpen}
use Rattle.convoy_best_order.specs.Targets.{MayBeTarget, asked_of}
use Rattle.convoy_best_plan.specs.declared.floor.Floor.{Floor}
use Rattle.convoy_best_plan.specs.declared.planned.Planned.{Planned}
use Rattle.convoy_best_plan.specs.BestPlans.{IsBestPlan, IsChoice, IsExact, IsExceeded, IsNew, IsNotBelow, IsOpenSomewhere, reach_of, targets_by}
use Rattle.convoy_best_plan.specs.Floors.{IsNoHigher, excess_at, lower}
use Rattle.convoy_best_plan.specs.Standings.{IsBestBySome, IsFound, IsOpenByThese, choice_of}
use Rattle.convoy_best_plan.specs.Totals.{total_of}
use Rattle.convoy_best_plan.proofs.Found.{choice_floor, exceeded_less, not_below_here, not_below_lower, same_made}
use Rattle.convoy_best_plan.proofs.Lower.{after_or, less_or_most, lesser_both, lower_both, most_most, no_higher_after, reached_own, under_or}

-- ---- what no order is below, and what an order keeps
reached_below : (one other : Scenario) (latency most : ℕ) → one ≡ other → IsReached one latency → IsUpper other most → latency ≤ most
reached_below one other latency most same run upper =
    let here : IsUpper one most = subst (λ (s : Scenario). IsUpper s most) (sym same) upper in
    subst (λ n. n ≤ most) run.2 (here run.0 run.1)

between : (least most : Excess) (early late limit : ℕ) → IsAtMost least (record { latency = early; limit = limit }) → early ≤ late
    → IsAtMost (record { latency = late; limit = limit }) most → IsAtMost least most
between least most early late limit low later high = omega (arith, low, later, high)

least_kept : NoOrderIsBetter → BestOrderKeeps → (settings used : Settings) (scenario : Scenario) (targets : List Target) (best earlier : Best) → IsScenario scenario
    → All (MayBeTarget scenario) targets → IsBest settings None scenario targets best → IsBest used None scenario targets earlier → IsAtMost best.least earlier.most
least_kept no_better keeps settings used scenario targets best earlier well may is was =
    let past =
    no_better settings None scenario targets best earlier.order.items well (λ target of_target. all-in (MayBeTarget scenario) target targets may (in_of_contains target targets of_target)) tt is was.order in
    let kept = keeps used None scenario targets earlier past.target was past.of_target in
    let same = same_made (listed (asked_of scenario past.target) earlier.order.items) past.instance kept.instance past.made kept.made in
    between best.least earlier.most past.latency kept.latency _ past.exceeds
    (reached_below past.instance kept.instance past.latency kept.latency same past.reached kept.upper) kept.keeps

-- ---- the choice of a placement
module _ (wanted : Wanted) (plan : Plan) (told : List Planned) (placement : Vec ℕ Global) (scenario : Scenario) (targets : Vec Target Global) (best : Best) (is : IsPlacement plan placement.items)
    (made : scenario_at plan placement.items ≡ Ok scenario) (of_plan : targets.items ≡ targets_by wanted plan scenario) (may : All (MayBeTarget scenario) targets.items) (new : IsNew told placement.items) where
  abbrev choice : Planned
  choice = choice_of placement scenario targets best

  choice_is : (used : Settings) → IsBest used None scenario targets.items best → IsChoice used wanted plan choice
  choice_is used found = record { placement = is; made = made; targets = of_plan; lawful = may; best = found; total = refl }

  choice_low : IsNoHigher choice.floor (reach_of choice)
  choice_low = let low = (lesser_both best.least best.most).1 in inr (low, omega arith)

  -- where it is open whether some order is better
  choice_open : (settings : Settings) → IsBest settings None scenario targets.items best → IsLess best.least best.most → IsOpenSomewhere settings wanted plan told
  choice_open settings found less = record {
    placement = placement.items;
    is = is;
    new = new;
    scenario = scenario;
    made = made;
    may_be = subst (MayStayOpen settings None scenario) of_plan
        (elim found.exact [ inl low ↦ absurd (omega (arith, less, low)) | inr may_be ↦ may_be ]);
  }

  choice_exact : (settings : Settings) → IsOpenByThese settings scenario targets.items best → IsExact settings wanted plan told choice
  choice_exact settings by_these = by_order (lesser_both best.least best.most).2 where
    by_order : IsLess best.least best.most ⊎ IsAtMost best.most (lesser best.least best.most) → IsExact settings wanted plan told choice
    by_order (inl less) = inr (choice_open settings (by_these less) less)
    by_order (inr most) = inl (inr (most, omega arith))

  pub choice_found : (settings : Settings) → IsBestBySome scenario targets.items best → IsOpenByThese settings scenario targets.items best → IsFound settings wanted plan told choice
  choice_found settings found by_these = record { used = found.0; choice = choice_is found.0 found.1; new = new; floor = choice_low; exact = choice_exact settings by_these }

  floor_reached : IsAtMost (excess_at choice.floor (total_of scenario)) best.least
  floor_reached =
      most_most (excess_at choice.floor (total_of scenario)) (lesser best.least best.most) best.least (reached_own choice.floor) (lesser_both best.least best.most).0

  pub choice_here : NoOrderIsBetter → IsScenario scenario → IsBestBySome scenario targets.items best → IsNotBelow wanted plan choice.floor placement.items
  choice_here no_better well found =
      not_below_here wanted plan choice.floor placement.items scenario made
      (subst (λ (ts : List Target). IsExceeded scenario ts (excess_at choice.floor (total_of scenario))) of_plan
      (exceeded_less scenario targets.items (excess_at choice.floor (total_of scenario)) best.least floor_reached
      (λ order in_order.
      no_better found.0 None scenario targets.items best order well
      (λ target of_target. all-in (MayBeTarget scenario) target targets.items may (in_of_contains target targets.items of_target)) tt found.1 in_order)))

-- ---- the order searched again
module _ (no_better : NoOrderIsBetter) (keeps : BestOrderKeeps) (settings : Settings) (wanted : Wanted) (plan : Plan) (told : List Planned) (planned : Planned) (targets : Vec Target Global) (best : Best)
    (is : IsFound settings wanted plan told planned) (well : IsScenario planned.scenario) (of_plan : targets.items ≡ targets_by wanted plan planned.scenario)
    (may : All (MayBeTarget planned.scenario) targets.items) (found : IsBest settings None planned.scenario targets.items best) where
  abbrev again : Planned
  again = choice_of planned.placement planned.scenario targets best

  abbrev both : Floor
  both = lower planned.floor again.floor

  low : IsNoHigher both planned.floor × IsNoHigher both again.floor
  low = lower_both planned.floor again.floor

  least_low : IsAtMost best.least planned.best.most
  least_low =
      least_kept no_better keeps settings is.used planned.scenario targets.items best planned.best well may found
      (subst (λ (ts : List Target). IsBest is.used None planned.scenario ts planned.best) (is.choice.targets ∙ sym of_plan) is.choice.best)

  -- it keeps no more than before
  reach_low : IsNoHigher (reach_of again) (reach_of planned) ⊎ IsOpenSomewhere settings wanted plan told
  reach_low = by_order (less_or_most best.least best.most) where
    by_order : IsLess best.least best.most ⊎ IsAtMost best.most best.least → IsNoHigher (reach_of again) (reach_of planned) ⊎ IsOpenSomewhere settings wanted plan told
    by_order (inl less) = inr (choice_open wanted plan told planned.placement planned.scenario targets best is.choice.placement is.choice.made of_plan may is.new settings found less)
    by_order (inr most) =
        let total = is.choice.total in
        inl (inr (most_most best.most best.least planned.best.most most least_low, omega (arith, total)))

  exact_again : IsNoHigher (reach_of again) both ⊎ IsOpenSomewhere settings wanted plan told
  exact_again =
      under_or (IsOpenSomewhere settings wanted plan told) (reach_of again) planned.floor again.floor
      (after_or (IsOpenSomewhere settings wanted plan told) (reach_of again) (reach_of planned) planned.floor reach_low is.exact)
      (choice_exact wanted plan told planned.placement planned.scenario targets best is.choice.placement is.choice.made of_plan may is.new settings (λ less. found))

  best_again : ((at : List ℕ) → IsPlacement plan at → IsNew told at → IsNotBelow wanted plan planned.floor at) → IsBestPlan settings wanted plan told (record again { floor = both })
  best_again passed = record {
    choice = choice_floor settings wanted plan again both
        (choice_is wanted plan told planned.placement planned.scenario targets best is.choice.placement is.choice.made of_plan may is.new settings found);
    new = is.new;
    floor = no_higher_after both again.floor (reach_of again) low.1
        (choice_low wanted plan told planned.placement planned.scenario targets best is.choice.placement is.choice.made of_plan may is.new);
    exact = exact_again;
    none_below = λ at placed fresh. not_below_lower wanted plan both planned.floor at low.0 (passed at placed fresh);
  }

  pub settled_best : (next : Planned) (floor : Floor) → next ≡ choice_of planned.placement planned.scenario targets best → floor ≡ lower planned.floor next.floor
      → ((at : List ℕ) → IsPlacement plan at → IsNew told at → IsNotBelow wanted plan planned.floor at) → IsBestPlan settings wanted plan told (record next { floor = floor })
  settled_best next floor same is_floor passed =
      subst (λ (f : Floor). IsBestPlan settings wanted plan told (record next { floor = f })) (sym is_floor)
      (subst (λ (p : Planned). IsBestPlan settings wanted plan told (record p { floor = lower planned.floor p.floor })) (sym same) (best_again passed))
