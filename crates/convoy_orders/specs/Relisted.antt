-- A draft whose groups are listed in another order.
use Rattle.std.specs.Prelude.{◌≡◌, ℕ, nat_lt, if◌then◌else◌, List, [], length, slice_index_or, Ok}
use Rattle.std.specs.List.Sorted.{IsPermutation}
use Rattle.convoy_draft.specs.Draft.{Draft}
use Rattle.convoy_scenario.specs.Scenario.{Scenario}
use Rattle.convoy_scenario.specs.Numbering.{place, scenario_of, scenario_of_draft}
use Rattle.convoy_orders.specs.Renumbered.{IsRenumbered}

-- the scenario as it is written, with its groups listed so
abbrev pub relisted : List (List ℕ) → Draft → Draft
relisted names draft = record draft { groups = names }

-- the number that a group of one list of names has in another one; a number past the last group stays
abbrev pub number_in : List (List ℕ) → List (List ℕ) → ℕ → ℕ
number_in names groups g = if nat_lt g (length groups) then place (slice_index_or groups g []) names else g

-- the draft gives the one scenario, and with its groups listed by these names the other one
pub record AreOfOneDraft (draft : Draft) (names : List (List ℕ)) (scenario other : Scenario) : Type 0 where
  pub is : scenario_of_draft draft ≡ Ok scenario
  pub other_is : scenario_of_draft (relisted names draft) ≡ Ok other
  pub same : IsPermutation draft.groups names

-- A draft, and the same draft with its groups listed in another order, give two scenarios that are one but for the numbers of the groups.
abbrev pub RelistedDraftsAreRenumbered : Type 0
RelistedDraftsAreRenumbered =
    (draft : Draft) (names : List (List ℕ)) (scenario other : Scenario) → AreOfOneDraft draft names scenario other
    → IsRenumbered (number_in names draft.groups) (number_in draft.groups names) scenario other

-- What keeps the rules for a scenario keeps them with its groups listed in any other order.
abbrev pub RelistedDraftsGiveScenarios : Type 0
RelistedDraftsGiveScenarios =
    (draft : Draft) (names : List (List ℕ)) (scenario : Scenario)
    → scenario_of_draft draft ≡ Ok scenario → IsPermutation draft.groups names
    → scenario_of_draft (relisted names draft) ≡ Ok (scenario_of (relisted names draft))
