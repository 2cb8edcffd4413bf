-- Budgets, each by itself.
use Rattle.std.proofs.Common.{◌≡◌, ◌⊎◌, ℕ, inl, Bool, List, [], ◌∷◌, Option, Vec, Result, Ok, Err, IfOk, IfErr, MatchResult, map, ap, subst, sym, ◌∙◌, flat_map}
use Rattle.std.specs.List.{All, AllZip, Contains}
use Rattle.std.proofs.lemmas.List.{map-id}
use Rattle.std.proofs.lemmas.List.Elements.{All-append, All-head, All-map, All-nil, All-tail}
use Rattle.std.specs.declared.alloc.Global.{Global}
use Rattle.convoy_scenario.specs.Scenario.{Scenario}
use Rattle.convoy_branch.specs.Options.{Settings}
use Rattle.convoy_commands.specs.declared.fault.Fault.{Fault}
use Rattle.convoy_commands.specs.declared.fault.Fault.TheVariants.{Memory}
use Rattle.convoy_survey.specs.Findings.{scenario_at}
use Rattle.convoy_rows.proofs.OfKeys.{HasKey, all_rows, all_zip_values, key_of_row, keys_are}
use Rattle.convoy_budget.specs.declared.kinds.Budget.{Budget}
use Rattle.convoy_budget.specs.declared.kinds.Target.{Target}
use Rattle.convoy_budget.specs.declared.kinds.Way.{Way}
use Rattle.convoy_budget.specs.Budgets.{AreBudgets, HasBroken, IsBroken, IsBudget, IsBudgetOf, MayBeKey, MayBeTarget, MayTell, TellsKey, key_of, keys_of}
use Rattle.convoy_budget.specs.Ways.{ways_of}

-- the keys of targets that may be some of a scenario
pub keys_lawful : (scenario : Scenario) (ways : List Way) (targets : List Target) → All (MayBeTarget scenario) targets →
    All (MayBeKey scenario) (flat_map (keys_of ways) targets)
keys_lawful scenario ways [] all = All-nil (MayBeKey scenario)
keys_lawful scenario ways (target ∷ targets) all =
    All-append (MayBeKey scenario) (keys_of ways target) (flat_map (keys_of ways) targets)
    (All-map (MayBeKey scenario) (λ (way : Way). (target, way)) ways (λ k d small. All-head (MayBeTarget scenario) target targets all))
    (keys_lawful scenario ways targets (All-tail (MayBeTarget scenario) target targets all))

module _ (settings : Settings) (of_ceiling : Bool) (span : Option ℕ) (scenario : Scenario) where
  -- a row of the scenario with a target is one of the scenario
  pub told_of : (asked : Scenario) (target : Target) (way : Way) (row : Budget) → asked ≡ scenario_at span scenario target.message target.group →
      key_of row ≡ (target, way) → IsBudgetOf settings of_ceiling asked row → TellsKey settings of_ceiling span scenario (target, way) row
  told_of asked target way row is_asked key is = record {
    of_key = key;
    told = subst (λ (s : Scenario). IsBudgetOf settings of_ceiling s row)
        (is_asked ∙ ap (λ (k : Target × Way). scenario_at span scenario k.0.message k.0.group) (sym key)) is;
  }

  -- what is broken in the scenario with a target is broken with some target
  pub broken_of : (asked : Scenario) (target : Target) (fault : Fault) → asked ≡ scenario_at span scenario target.message target.group → IsBroken asked fault →
      HasBroken span scenario fault ⊎ (fault ≡ Memory)
  broken_of asked target fault is broken = inl (target.message, target.group, subst (λ (s : Scenario). IsBroken s fault) is broken)

  -- where rows came of all keys, they are the budgets
  pub budgets_of : (targets : List Target) (keys : List (Target × Way)) (rows : List Budget) → keys ≡ flat_map (keys_of (ways_of scenario)) targets →
      AllZip (MayTell settings of_ceiling span scenario) keys (map Ok rows) → AreBudgets settings of_ceiling span scenario targets rows
  budgets_of targets keys rows are all =
      let tells = TellsKey settings of_ceiling span scenario in
      let told : AllZip tells keys rows = all_zip_values (MayTell settings of_ceiling span scenario) keys rows all in
      record {
        keys = keys_are tells (λ k. k) key_of keys rows (λ k r is. is.of_key) told ∙ map-id keys ∙ are;
        told = all_rows tells (IsBudget settings of_ceiling span scenario) keys rows (λ k r is. is.told) told;
      }

  -- a fault that came is that of a range that makes no scenario, or memory
  pub broken_among : (keys : List (Target × Way)) (rows : List (Result Budget Fault)) (fault : Fault) → AllZip (MayTell settings of_ceiling span scenario) keys rows →
      Contains rows (Err fault) → HasBroken span scenario fault ⊎ (fault ≡ Memory)
  broken_among keys rows fault all has =
      let key : HasKey (λ k. MayTell settings of_ceiling span scenario k (Err fault)) keys = key_of_row (MayTell settings of_ceiling span scenario) keys rows (Err fault) all has in
      key.holds

  -- both, where one result has all rows, or the first fault
  pub all_told : (targets : List Target) (keys : List (Target × Way)) (rows : List (Result Budget Fault)) (all : Result (Vec Budget Global) Fault) →
      keys ≡ flat_map (keys_of (ways_of scenario)) targets → AllZip (MayTell settings of_ceiling span scenario) keys rows →
      MatchResult all (λ (values : Vec Budget Global). rows ≡ map Ok values.items) (λ fault. Contains rows (Err fault)) →
      IfOk all (λ (values : Vec Budget Global). AreBudgets settings of_ceiling span scenario targets values.items)
      × IfErr all (λ fault. HasBroken span scenario fault ⊎ (fault ≡ Memory))
  all_told targets keys rows (Ok values) are told is =
      (budgets_of targets keys values.items are (subst (λ (rs : List (Result Budget Fault)). AllZip (MayTell settings of_ceiling span scenario) keys rs) is told), tt)
  all_told targets keys rows (Err fault) are told has = (tt, broken_among keys rows fault told has)
