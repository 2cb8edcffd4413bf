-- The scenario with its groups in an order is one.
use Rattle.std.proofs.Common.{◌≡◌, ◌⊎◌, ℕ, ◌+◌, ◌<◌, List, [], length, map, get_or, Result, Ok, Err, inl, inr, subst, ◌∙◌, arith, sym}
use Rattle.std.specs.List.{range_with_len}
use Rattle.std.specs.List.Sorted.{IsPermutation}
use Rattle.std.proofs.lemmas.List.{ext_get_or}
use Rattle.std.proofs.lemmas.List.FromFn.{get_or-map-range_with_len, length-map-range_with_len}
use Rattle.std.proofs.lemmas.List.Sorted.{IsPermutation-map}
use Rattle.convoy_draft.specs.declared.fault.ScenarioFault.{ScenarioFault}
use Rattle.convoy_draft.specs.declared.fault.ScenarioFault.TheVariants.{Memory}
use Rattle.convoy_scenario.specs.Naming.{draft_for}
use Rattle.convoy_scenario.specs.Numbering.{scenario_of}
use Rattle.convoy_scenario.specs.Scenario.{Scenario, group_name_at}
use Rattle.convoy_scenario.specs.ScenarioLaws.{ScenariosHaveDrafts}
use Rattle.convoy_scenario.specs.WellFormed.{IsScenario}
use Rattle.convoy_orders.specs.Relisted.{AreOfOneDraft, RelistedDraftsGiveScenarios, relisted}
use Rattle.convoy_best_order.specs.Orders.{IsOrder, group_numbers, listed, names_of}

-- the elements of a list by their numbers are the list
all_named : {X : Type 0} (xs : List X) (d : X) → map (λ g. get_or xs g d) (range_with_len 0 (length xs)) ≡ xs
all_named {X = X} xs d =
    let f : ℕ → X = λ g. get_or xs g d in
    let long = length-map-range_with_len f 0 (length xs) in
    ext_get_or d (map f (range_with_len 0 (length xs))) xs long
    (λ i l. get_or-map-range_with_len f 0 (length xs) i i d (subst (λ n. i < n) long l) (omega arith))

pub names_permuted : (scenario : Scenario) (order : List ℕ) → IsOrder scenario order → IsPermutation scenario.groups (names_of scenario order)
names_permuted scenario order is =
    subst (λ (names : List (List ℕ)). IsPermutation names (names_of scenario order)) (all_named scenario.groups [])
    (IsPermutation-map (group_name_at scenario) (group_numbers scenario) order is)

-- the scenario that it is
abbrev pub in_order : Scenario → List ℕ → Scenario
in_order scenario order = scenario_of (relisted (names_of scenario order) (draft_for scenario))

module _ (have : ScenariosHaveDrafts) (give : RelistedDraftsGiveScenarios) (scenario : Scenario) (order : List ℕ) (well : IsScenario scenario) (is : IsOrder scenario order) where
  pub is_listed : listed scenario order ≡ Ok (in_order scenario order)
  is_listed = give (draft_for scenario) (names_of scenario order) scenario (have scenario well) (names_permuted scenario order is)

  pub of_one_draft : AreOfOneDraft (draft_for scenario) (names_of scenario order) scenario (in_order scenario order)
  of_one_draft = record { is = have scenario well; other_is = is_listed; same = names_permuted scenario order is }

-- where the scenario is made, only memory is a fault
one_fault : (made : Result Scenario ScenarioFault) (fault other : ScenarioFault) → made ≡ Err fault → made ≡ Err other → fault ≡ other
one_fault (Ok made) fault other is too = absurd cc
one_fault (Err made) fault other is too = cc

not_both : (made : Result Scenario ScenarioFault) (scenario : Scenario) (fault : ScenarioFault) → made ≡ Ok scenario → made ≡ Err fault → ⊥
not_both (Ok made) scenario fault is failed = absurd cc
not_both (Err made) scenario fault is failed = absurd cc

pub memory_alone : (want made : Result Scenario ScenarioFault) (scenario : Scenario) (fault : ScenarioFault) → want ≡ Ok scenario → (made ≡ want) ⊎ (made ≡ Err Memory)
    → made ≡ Err fault → fault ≡ Memory
memory_alone want made scenario fault is (inl same) failed = absurd (not_both made scenario fault (same ∙ is) failed)
memory_alone want made scenario fault is (inr memory) failed = one_fault made fault Memory failed memory

-- what is made is the scenario that is wanted
pub made_ok : (want made : Result Scenario ScenarioFault) (other : Scenario) → (made ≡ want) ⊎ (made ≡ Err Memory) → made ≡ Ok other → want ≡ Ok other
made_ok want made other (inl same) is = sym same ∙ is
made_ok want made other (inr memory) is = absurd (not_both made other Memory is memory)
