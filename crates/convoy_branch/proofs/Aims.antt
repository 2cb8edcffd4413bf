-- The regions that are left where runs are sought from above.
use Rattle.std.specs.Prelude.{◌≡◌, List, [], ◌∷◌, ◌++◌, Option, Some, IfSome, All}
use Rattle.std.proofs.Common.{refl, sym, ap, subst, ◌∙◌}
use Rattle.std.proofs.lemmas.List.Elements.{All-pop, All-push}
use Rattle.convoy_scenario.specs.Scenario.{Scenario}
use Rattle.convoy_regions.specs.Branches.{Branch, branch_of}
use Rattle.convoy_regions.specs.Regions.{Region}

-- both halves are of the scenario of the others
pub all_pushed : (plan : Scenario) (old next new : List Branch) (lower upper : Branch) → next ≡ old ++ lower ∷ [] → new ≡ next ++ upper ∷ [] → lower.scenario ≡ plan → upper.scenario ≡ plan → All (λ left. left.scenario ≡ plan) old → All (λ left. left.scenario ≡ plan) new
all_pushed plan old next new lower upper next_is new_is low high all =
    let P : Branch → Type 0 = λ left. left.scenario ≡ plan in
    let first = subst (λ (ts : List Branch). All P ts) (sym next_is) (All-push P old lower all low) in
    subst (λ (ts : List Branch). All P ts) (sym new_is) (All-push P next upper first high)

-- the same of halves that were found
pub found_pushed : (plan : Scenario) (old next new : List Branch) (lower upper : Branch) (found : Option (Branch × Branch)) → next ≡ old ++ lower ∷ [] → new ≡ next ++ upper ∷ [] → found ≡ Some (lower, upper) → IfSome found (λ halves. (halves.0.scenario ≡ plan) × (halves.1.scenario ≡ plan)) → All (λ left. left.scenario ≡ plan) old → All (λ left. left.scenario ≡ plan) new
found_pushed plan old next new lower upper found next_is new_is is of_plan all =
    let both = subst (λ (o : Option (Branch × Branch)). IfSome o (λ halves. (halves.0.scenario ≡ plan) × (halves.1.scenario ≡ plan))) is of_plan in
    all_pushed plan old next new lower upper next_is new_is both.0 both.1 all

-- the last region that is left, and the others
pub all_popped : (plan now : Scenario) (work rest : List Branch) (branch : Branch) → now ≡ plan → work ≡ rest ++ branch ∷ [] → All (λ left. left.scenario ≡ plan) work → All (λ left. left.scenario ≡ now) rest × (branch.scenario ≡ now)
all_popped plan now work rest branch same popped all =
    let P : Branch → Type 0 = λ left. left.scenario ≡ now in
    let here : All P work = subst (λ (s : Scenario). All (λ left. left.scenario ≡ s) work) (sym same) all in
    All-pop P (rest ++ branch ∷ []) rest (Some branch) refl (subst (λ (ts : List Branch). All P ts) popped here)

-- the halves of a region are of its scenario
pub both_of : (plan scenario : Scenario) (halves : Branch × Branch) (first second : Region) → scenario ≡ plan → halves ≡ (branch_of scenario first, branch_of scenario second) → (halves.0.scenario ≡ plan) × (halves.1.scenario ≡ plan)
both_of plan scenario halves first second same is =
    (ap (λ (p : Branch × Branch). p.0.scenario) is ∙ same, ap (λ (p : Branch × Branch). p.1.scenario) is ∙ same)
