-- What is answered where a range makes no scenario.
use Rattle.std.proofs.Common.{◌≡◌, ◌⊎◌, inl, inr, ℕ, Bool, List, Option, Ok, Err, ap, subst}
use Rattle.convoy_scenario.specs.Scenario.{Scenario}
use Rattle.convoy_toml.specs.declared.asked.Asked.{Asked}
use Rattle.convoy_toml.specs.Around.{span_asked}
use Rattle.convoy_toml.specs.Reading.{scenario_of_text_by}
use Rattle.convoy_branch.specs.Options.{Settings}
use Rattle.convoy_tables.specs.declared.format.Format.{Format}
use Rattle.convoy_commands.specs.declared.fault.Fault.{Fault}
use Rattle.convoy_commands.specs.declared.fault.Fault.TheVariants.{Memory}
use Rattle.convoy_commands.specs.Replies.{SaysUnlessMemory}
use Rattle.convoy_survey.specs.Surveys.{with_rows}
use Rattle.convoy_budget.specs.Answers.{BudgetSays}
use Rattle.convoy_budget.specs.Budgets.{HasBroken}

pub refused : (format : Format) (of_all of_ceiling : Bool) (asked : Asked) (settings : Settings) (text : List ℕ) (span : Option ℕ) (scenario instance : Scenario) (fault : Fault) →
    scenario_of_text_by asked text ≡ Ok scenario → span ≡ span_asked asked.around scenario → instance ≡ with_rows span scenario →
    HasBroken span instance fault ⊎ (fault ≡ Memory) →
    SaysUnlessMemory (BudgetSays format of_all of_ceiling asked settings) text (Err fault)
refused format of_all of_ceiling asked settings text span scenario instance fault read far is (inl broken) =
    inl (inr (inr (record {
      scenario = scenario;
      read = read;
      broken = subst (λ (n : Option ℕ). HasBroken n (with_rows n scenario) fault) far (subst (λ (s : Scenario). HasBroken span s fault) is broken);
    })))
refused format of_all of_ceiling asked settings text span scenario instance fault read far is (inr memory) = inr (ap Err memory)
