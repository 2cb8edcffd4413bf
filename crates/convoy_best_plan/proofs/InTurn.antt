-- The best choices, one after the other.
use Rattle.std.proofs.Common.{◌≡◌, ◌<◌, ℕ, List, [], ◌∷◌, ◌++◌, append_assoc, append-nil, length, get_or, refl, sym, ap, subst, ◌∙◌, ◌+◌, arith}
use Rattle.std.specs.List.{remove}
use Rattle.std.proofs.lemmas.List.{length-append}
use Rattle.convoy_plans.specs.Placements.{IsPlacement}
use Rattle.convoy_plans.specs.Plans.{Plan}
use Rattle.convoy_branch.specs.Options.{Settings}
use Rattle.convoy_best_order.specs.declared.wanted.Wanted.{Wanted}
use Rattle.convoy_best_order.specs.Orders.{IsOrder}
use Rattle.convoy_best_plan.specs.declared.planned.Planned.{Planned}
use Rattle.convoy_best_plan.specs.BestPlans.{AreAllTold, AreBestPlans, AreInTurn, HasNoScenario, IsBestPlan, IsNew}

-- one more stands behind them
pub one_more : (settings : Settings) (wanted : Wanted) (plan : Plan) (told all : List Planned) (planned : Planned) → AreInTurn settings wanted plan told all
    → IsBestPlan settings wanted plan (told ++ all) planned → AreInTurn settings wanted plan told (all ++ planned ∷ [])
one_more settings wanted plan told [] planned in_turn best = (subst (λ (ps : List Planned). IsBestPlan settings wanted plan ps planned) (append-nil told) best, tt)
one_more settings wanted plan told (row ∷ all) planned in_turn best = (
  in_turn.0,
  one_more settings wanted plan (told ++ row ∷ []) all planned in_turn.1
      (subst (λ (ps : List Planned). IsBestPlan settings wanted plan ps planned) (sym (append_assoc told (row ∷ []) all)) best),
)

-- the last of them is the best at the placements that none before it has
last_in_turn : (settings : Settings) (wanted : Wanted) (plan : Plan) (told ahead : List Planned) (planned : Planned)
    → AreInTurn settings wanted plan told (ahead ++ planned ∷ []) → IsBestPlan settings wanted plan (told ++ ahead) planned
last_in_turn settings wanted plan told [] planned in_turn = subst (λ (ps : List Planned). IsBestPlan settings wanted plan ps planned) (sym (append-nil told)) in_turn.0
last_in_turn settings wanted plan told (row ∷ ahead) planned in_turn =
    subst (λ (ps : List Planned). IsBestPlan settings wanted plan ps planned) (append_assoc told (row ∷ []) ahead)
    (last_in_turn settings wanted plan (told ++ row ∷ []) ahead planned in_turn.1)

pub last_order : (settings : Settings) (wanted : Wanted) (plan : Plan) (count : ℕ) (all ahead : List Planned) (planned : Planned)
    → AreBestPlans settings wanted plan count all → all ≡ ahead ++ planned ∷ [] → IsOrder planned.scenario planned.best.order.items
last_order settings wanted plan count all ahead planned is split =
    (last_in_turn settings wanted plan [] ahead planned (subst (λ (ps : List Planned). AreInTurn settings wanted plan [] ps) split is.in_turn)).choice.best.order

-- there is one more then
pub longer : (all before : List Planned) (planned : Planned) → all ≡ before ++ planned ∷ [] → length all ≡ length before + 1
longer all before planned is = ap length is ∙ length-append before (planned ∷ [])

-- where none is told each placement is new
new_of_none : (placement : List ℕ) → IsNew [] placement
new_of_none placement k other less = absurd (omega (arith, less))

-- no placement has a scenario where all that have one are told, and none is
pub none_placed : (plan : Plan) → AreAllTold plan [] → (placement : List ℕ) → IsPlacement plan placement → HasNoScenario plan placement
none_placed plan all placement is = all placement is (new_of_none placement)

-- there is a choice, unless no placement has a scenario
pub none_at_all : (settings : Settings) (wanted : Wanted) (plan : Plan) (count : ℕ) (all : List Planned) → AreBestPlans settings wanted plan count all → 0 < count
    → length all ≡ 0 → (placement : List ℕ) → IsPlacement plan placement → HasNoScenario plan placement
none_at_all settings wanted plan count [] is some none = none_placed plan (is.whole some)
none_at_all settings wanted plan count (row ∷ all) is some none = absurd (omega (arith, none))

-- the first one, and the others
pub first_and_others : (all : List Planned) (first : Planned) → (length all ≡ 0 → ⊥) → first ≡ get_or all 0 first → all ≡ first ∷ remove all 0
first_and_others [] first some is = absurd (some refl)
first_and_others (row ∷ all) first some is = ap (λ (p : Planned). p ∷ all) (sym is)
