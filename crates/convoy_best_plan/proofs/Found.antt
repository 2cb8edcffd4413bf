-- What stays true of a search as its choice gets better.
use Rattle.std.proofs.Common.{◌≡◌, ◌⊎◌, ℕ, Bool, true, false, cond, List, Option, Some, None, Result, Ok, Err, inl, refl, subst, arith}
use Rattle.convoy_draft.specs.declared.fault.ScenarioFault.{ScenarioFault}
use Rattle.convoy_scenario.specs.Scenario.{Scenario}
use Rattle.convoy_plans.specs.Placements.{scenario_at}
use Rattle.convoy_plans.specs.Plans.{Plan}
use Rattle.convoy_branch.specs.Options.{Settings}
use Rattle.convoy_best_order.specs.declared.excess.Excess.{Excess}
use Rattle.convoy_best_order.specs.declared.target.Target.{Target}
use Rattle.convoy_best_order.specs.declared.wanted.Wanted.{Wanted}
use Rattle.convoy_best_order.specs.Excesses.{IsAtMost}
use Rattle.convoy_best_order.specs.OrderLaws.{IsExceededIn}
use Rattle.convoy_best_plan.specs.declared.floor.Floor.{Floor}
use Rattle.convoy_best_plan.specs.declared.planned.Planned.{Planned}
use Rattle.convoy_best_plan.specs.BestPlans.{HasNoScenario, IsChoice, IsExceeded, IsNotBelow, IsOpenSomewhere, reach_of, targets_by}
use Rattle.convoy_best_plan.specs.Floors.{IsNoHigher, excess_at, is_lower, lower}
use Rattle.convoy_best_plan.specs.Standings.{HasFallen, IsFound, IsOutdone, IsPassed, IsStanding, better}
use Rattle.convoy_best_plan.specs.Totals.{total_of}
use Rattle.convoy_best_plan.proofs.Lower.{after_or, lower_both, no_higher_after, no_higher_of, no_higher_self, no_lower_of, reached_lower, under_or}

-- ---- exceeding
exceeded_in_less : (scenario : Scenario) (targets : List Target) (order : List ℕ) (least more : Excess) → IsAtMost least more
    → IsExceededIn None scenario targets order more → IsExceededIn None scenario targets order least
exceeded_in_less scenario targets order least more low is = record {
  target = is.target;
  of_target = is.of_target;
  instance = is.instance;
  made = is.made;
  latency = is.latency;
  reached = is.reached;
  exceeds = let past = is.exceeds in omega (arith, past, low);
}

pub exceeded_less : (scenario : Scenario) (targets : List Target) (least more : Excess) → IsAtMost least more
    → IsExceeded scenario targets more → IsExceeded scenario targets least
exceeded_less scenario targets least more low is order in_order = exceeded_in_less scenario targets order least more low (is order in_order)

-- what is not below a floor is not below a lower one
pub not_below_lower : (wanted : Wanted) (plan : Plan) (floor other : Floor) (placement : List ℕ) → IsNoHigher floor other
    → IsNotBelow wanted plan other placement → IsNotBelow wanted plan floor placement
not_below_lower wanted plan floor other placement low is scenario made =
    exceeded_less scenario (targets_by wanted plan scenario) (excess_at floor (total_of scenario)) (excess_at other (total_of scenario))
    (reached_lower floor other (total_of scenario) low) (is scenario made)

-- one result is one scenario
pub same_made : (made : Result Scenario ScenarioFault) (one other : Scenario) → made ≡ Ok one → made ≡ Ok other → one ≡ other
same_made (Ok made) one other is too = cc
same_made (Err fault) one other is too = absurd cc

-- where it is shown of the placement's one scenario
pub not_below_here : (wanted : Wanted) (plan : Plan) (floor : Floor) (placement : List ℕ) (scenario : Scenario) → scenario_at plan placement ≡ Ok scenario
    → IsExceeded scenario (targets_by wanted plan scenario) (excess_at floor (total_of scenario)) → IsNotBelow wanted plan floor placement
not_below_here wanted plan floor placement scenario made is other other_made =
    subst (λ (s : Scenario). IsExceeded s (targets_by wanted plan s) (excess_at floor (total_of s)))
    (same_made (scenario_at plan placement) scenario other made other_made) is

-- ---- standing
pub fallen_self : (chosen : Option Planned) → HasFallen chosen chosen
fallen_self None = tt
fallen_self (Some planned) = no_higher_self planned.floor

pub fallen_after : (first second third : Option Planned) → HasFallen first second → HasFallen second third → HasFallen first third
fallen_after None second third one two = tt
fallen_after (Some a) None third one two = absurd one
fallen_after (Some a) (Some b) None one two = absurd two
fallen_after (Some a) (Some b) (Some c) one two = no_higher_after c.floor b.floor a.floor two one

pub passed_after : (wanted : Wanted) (plan : Plan) (first second : Option Planned) (placement : List ℕ) → HasFallen first second
    → IsPassed wanted plan first placement → IsPassed wanted plan second placement
passed_after wanted plan None None placement fallen is = is
passed_after wanted plan None (Some b) placement fallen is = λ scenario made. absurd (is scenario made)
passed_after wanted plan (Some a) None placement fallen is = absurd fallen
passed_after wanted plan (Some a) (Some b) placement fallen is = not_below_lower wanted plan b.floor a.floor placement fallen is

-- what has no scenario is passed
pub passed_without : (wanted : Wanted) (plan : Plan) (chosen : Option Planned) (placement : List ℕ) → HasNoScenario plan placement
    → IsPassed wanted plan chosen placement
passed_without wanted plan None placement none = none
passed_without wanted plan (Some planned) placement none = λ scenario made. absurd (none scenario made)

-- ---- one more choice
-- a choice with another floor is one
pub choice_floor : (settings : Settings) (wanted : Wanted) (plan : Plan) (planned : Planned) (floor : Floor) → IsChoice settings wanted plan planned
    → IsChoice settings wanted plan (record planned { floor = floor })
choice_floor settings wanted plan planned floor is = record {
  placement = is.placement;
  made = is.made;
  targets = is.targets;
  lawful = is.lawful;
  best = is.best;
  total = is.total;
}

found_lower : (settings : Settings) (wanted : Wanted) (plan : Plan) (told : List Planned) (planned : Planned) (floor : Floor) → IsFound settings wanted plan told planned
    → IsNoHigher floor (reach_of planned) → IsNoHigher (reach_of planned) floor ⊎ IsOpenSomewhere settings wanted plan told
    → IsFound settings wanted plan told (record planned { floor = floor })
found_lower settings wanted plan told planned floor is low exact = record {
  used = is.used;
  choice = choice_floor is.used wanted plan planned floor is.choice;
  new = is.new;
  floor = low;
  exact = exact;
}

module _ (settings : Settings) (wanted : Wanted) (plan : Plan) (told : List Planned) (planned found : Planned) (is : IsFound settings wanted plan told planned) (new : IsFound settings wanted plan told found) where
  abbrev both : Floor
  both = lower planned.floor found.floor

  low : IsNoHigher both planned.floor × IsNoHigher both found.floor
  low = lower_both planned.floor found.floor

  -- what is no higher than what both keep is no higher than their floors
  exact_both : (reach : Floor) → IsNoHigher reach (reach_of planned) → IsNoHigher reach (reach_of found) → IsNoHigher reach both ⊎ IsOpenSomewhere settings wanted plan told
  exact_both reach first second =
      under_or (IsOpenSomewhere settings wanted plan told) reach planned.floor found.floor
      (after_or (IsOpenSomewhere settings wanted plan told) reach (reach_of planned) planned.floor (inl first) is.exact)
      (after_or (IsOpenSomewhere settings wanted plan told) reach (reach_of found) found.floor (inl second) new.exact)

  by_test : (test : Bool) → is_lower (reach_of found) (reach_of planned) ≡ test
      → IsFound settings wanted plan told (cond test (record found { floor = both }) (record planned { floor = both }))
      × IsNoHigher (cond test (record found { floor = both }) (record planned { floor = both })).floor planned.floor
      × IsNoHigher (cond test (record found { floor = both }) (record planned { floor = both })).floor found.floor
  by_test true test = (
    found_lower settings wanted plan told found both new (no_higher_after both found.floor (reach_of found) low.1 new.floor)
        (exact_both (reach_of found) (no_higher_of (reach_of found) (reach_of planned) test) (no_higher_self (reach_of found))),
    low.0,
    low.1,
  )
  by_test false test = (
    found_lower settings wanted plan told planned both is (no_higher_after both planned.floor (reach_of planned) low.0 is.floor)
        (exact_both (reach_of planned) (no_higher_self (reach_of planned)) (no_lower_of (reach_of found) (reach_of planned) test)),
    low.0,
    low.1,
  )

  better_both : IsFound settings wanted plan told (better (Some planned) found) × IsNoHigher (better (Some planned) found).floor planned.floor
      × IsNoHigher (better (Some planned) found).floor found.floor
  better_both = by_test (is_lower (reach_of found) (reach_of planned)) refl

pub better_found : (settings : Settings) (wanted : Wanted) (plan : Plan) (told : List Planned) (chosen : Option Planned) (found : Planned) → IsStanding settings wanted plan told chosen
    → IsFound settings wanted plan told found → IsStanding settings wanted plan told (Some (better chosen found))
better_found settings wanted plan told None found is new = new
better_found settings wanted plan told (Some planned) found is new = (better_both settings wanted plan told planned found is new).0

pub better_fallen : (settings : Settings) (wanted : Wanted) (plan : Plan) (told : List Planned) (chosen : Option Planned) (found : Planned) → IsStanding settings wanted plan told chosen
    → IsFound settings wanted plan told found → HasFallen chosen (Some (better chosen found))
better_fallen settings wanted plan told None found is new = tt
better_fallen settings wanted plan told (Some planned) found is new = (better_both settings wanted plan told planned found is new).1

better_low : (settings : Settings) (wanted : Wanted) (plan : Plan) (told : List Planned) (chosen : Option Planned) (found : Planned) → IsStanding settings wanted plan told chosen
    → IsFound settings wanted plan told found → IsNoHigher (better chosen found).floor found.floor
better_low settings wanted plan told None found is new = no_higher_self found.floor
better_low settings wanted plan told (Some planned) found is new = (better_both settings wanted plan told planned found is new).2

pub better_passed : (settings : Settings) (wanted : Wanted) (plan : Plan) (told : List Planned) (chosen : Option Planned) (found : Planned) (placement : List ℕ) → IsStanding settings wanted plan told chosen
    → IsFound settings wanted plan told found → IsNotBelow wanted plan found.floor placement → IsPassed wanted plan (Some (better chosen found)) placement
better_passed settings wanted plan told chosen found placement is new here =
    not_below_lower wanted plan (better chosen found).floor found.floor placement (better_low settings wanted plan told chosen found is new) here

-- ---- a placement that is looked at
pub outdone_passed : (settings : Settings) (wanted : Wanted) (plan : Plan) (told : List Planned) (chosen : Option Planned) (placement : List ℕ) (scenario : Scenario) (targets : List Target) → IsStanding settings wanted plan told chosen
    → scenario_at plan placement ≡ Ok scenario → targets ≡ targets_by wanted plan scenario → IsOutdone chosen scenario targets → IsPassed wanted plan chosen placement
outdone_passed settings wanted plan told None placement scenario targets is made of_plan outdone = absurd outdone
outdone_passed settings wanted plan told (Some planned) placement scenario targets is made of_plan outdone =
    not_below_lower wanted plan planned.floor (reach_of planned) placement is.floor
    (not_below_here wanted plan (reach_of planned) placement scenario made
    (subst (λ (ts : List Target). IsExceeded scenario ts (excess_at (reach_of planned) (total_of scenario))) of_plan outdone))
