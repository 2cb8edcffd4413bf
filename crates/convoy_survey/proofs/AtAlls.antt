-- The rows of one message, and what they say of it at all its groups.
use Rattle.std.proofs.Common.{All, ◌≡◌, ◌≤◌, ℕ, ◌<◌, ◌==◌, true, List, map, filter, length, Option, Some, None, IfSome, get_or, subst, sym, refl, ◌∙◌, arith}
use Rattle.std.specs.List.{Contains}
use Rattle.std.proofs.lemmas.Bool.Decides.{nat_tests}
use Rattle.std.proofs.lemmas.List.Elements.{All-contains, All-contains_itself, All-filter, All-map, All-weaker, filter_passes}
use Rattle.convoy_around.proofs.AroundLemmas.{same_destinations}
use Rattle.convoy_scenario.specs.Scenario.{Scenario, message_at}
use Rattle.convoy_sim.specs.Greatest.{IsReached, IsUpper}
use Rattle.convoy_branch.specs.Options.{Settings}
use Rattle.convoy_survey.specs.declared.finding.Surveyed.{Surveyed}
use Rattle.convoy_survey.specs.AtAll.{least_at_all, most_at_all, rows_of}
use Rattle.convoy_survey.specs.Findings.{Encloses, IsSurveyed, least_of, most_of, scenario_at, target_of}
use Rattle.convoy_survey.specs.SurveyLaws.{EnclosesAtAll, IsAtEach, IsAtOne, RowsAtAllEnclose}
use Rattle.convoy_survey.specs.Surveys.{with_rows}
use Rattle.convoy_survey.proofs.Greatest.{HasNumber, IsAtMost, none_above, one_is}
use Rattle.convoy_survey.proofs.Numbers.{rows_enclose}
use Rattle.convoy_survey.proofs.OneMessage.{All-from_map, groups_of_rows}

-- they are of that message
rows_same : (m : ℕ) (rows : List Surveyed) → All (λ (row : Surveyed). row.message ≡ m) (rows_of m rows)
rows_same m rows =
    All-weaker (λ (row : Surveyed). (row.message == m) ≡ true) (λ (row : Surveyed). row.message ≡ m) (λ row is. grind (arith, nat_tests, is))
    (rows_of m rows) (filter_passes (λ (row : Surveyed). row.message == m) rows)

-- and it is a known one, if that is
pub rows_known : (n m : ℕ) (rows : List Surveyed) → m < n → All (λ (row : Surveyed). row.message < n) (rows_of m rows)
rows_known n m rows less =
    All-weaker (λ (row : Surveyed). row.message ≡ m) (λ (row : Surveyed). row.message < n) (λ row is. omega (arith, less, is))
    (rows_of m rows) (rows_same m rows)

-- one is among them, and so its group among theirs
pub group_among : {X : Type 0} (group : X → ℕ) (rows : List X) (row : X) → Contains rows row → Contains (map group rows) (group row)
group_among {X = X} group rows row among =
    All-contains (λ (r : X). Contains (map group rows) (group r)) rows row
    (All-from_map (Contains (map group rows)) group rows (All-contains_itself (map group rows))) among

-- what none exceeds none exceeds that is at most a greater number
upper_up : (scenario : Scenario) (most : Option ℕ) (n : ℕ) → IfSome most (IsUpper scenario) → IsAtMost n most → IsUpper scenario n
upper_up scenario None n upper below = absurd below
upper_up scenario (Some k) n upper below = λ schedule assigned. let within = upper schedule assigned in omega (arith, within, below)

pub rows_at_all_enclose : RowsAtAllEnclose
rows_at_all_enclose settings span scenario m rows are some = record {
  reached = reached_by (least_at_all kept) refl;
  upper = upper_by (most_at_all kept) refl;
} where
  kept : List Surveyed
  kept = rows_of m rows

  -- with rows it goes to the same groups
  same_groups : (far : Option ℕ) → (message_at (with_rows far scenario) m).destinations ≡ (message_at scenario m).destinations
  same_groups None = refl
  same_groups (Some n) = same_destinations 0 scenario scenario.target_message scenario.target_group m

  groups : map (λ (row : Surveyed). row.group) kept ≡ (message_at scenario m).destinations
  groups = groups_of_rows target_of (with_rows span scenario) m rows are.targets some ∙ same_groups span

  surveyed : All (IsSurveyed settings span scenario) kept
  surveyed = All-filter (λ (row : Surveyed). row.message == m) (IsSurveyed settings span scenario) rows are.told

  enclosed : (row : Surveyed) → IsSurveyed settings span scenario row → row.message ≡ m → Encloses (scenario_at span scenario m row.group) (least_of row.finding) (most_of row.finding)
  enclosed row is same = subst (λ (k : ℕ). Encloses (scenario_at span scenario k row.group) (least_of row.finding) (most_of row.finding)) same (rows_enclose settings span scenario row is)

  reached_in : (n : ℕ) → HasNumber (λ (row : Surveyed). least_of row.finding) kept n → IsAtOne scenario m (λ (g : ℕ). IsReached (scenario_at span scenario m g) n)
  reached_in n has =
      let row : Surveyed = has.one in
      let same : row.message ≡ m = All-contains (λ (r : Surveyed). r.message ≡ m) kept row (rows_same m rows) has.among in
      let encloses = enclosed row (All-contains (IsSurveyed settings span scenario) kept row surveyed has.among) same in
      record {
        group = row.group;
        among = subst (λ (gs : List ℕ). Contains gs row.group) groups (group_among (λ (r : Surveyed). r.group) kept row has.among);
        holds = subst (λ (least : Option ℕ). IfSome least (IsReached (scenario_at span scenario m row.group))) has.is encloses.reached;
      }

  reached_by : (least : Option ℕ) → least_at_all kept ≡ least → IfSome least (λ n. IsAtOne scenario m (λ g. IsReached (scenario_at span scenario m g) n))
  reached_by None is = tt
  reached_by (Some n) is = reached_in n (one_is (λ (row : Surveyed). least_of row.finding) kept n some is)

  upper_by : (most : Option ℕ) → most_at_all kept ≡ most → IfSome most (λ n. IsAtEach scenario m (λ g. IsUpper (scenario_at span scenario m g) n))
  upper_by None is = tt
  upper_by (Some n) is =
      let below = none_above (λ (row : Surveyed). most_of row.finding) kept n is in
      subst (All (λ (g : ℕ). IsUpper (scenario_at span scenario m g) n)) groups
      (All-map (λ (g : ℕ). IsUpper (scenario_at span scenario m g) n) (λ (row : Surveyed). row.group) kept
      (λ i d within.
      let row : Surveyed = get_or kept i d in
      upper_up (scenario_at span scenario m row.group) (most_of row.finding) n
      (enclosed row (surveyed i d within) (rows_same m rows i d within)).upper (below i d within)))
