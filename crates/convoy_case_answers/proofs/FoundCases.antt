-- What is found of a case, from what its calls answered.
use Rattle.std.proofs.Common.{◌≡◌, ◌⊎◌, ◌+◌, ℕ, List, Option, Ok, unwrap_or, inl, inr, ap, subst, sym, ◌∙◌}
use Rattle.convoy_draft.specs.declared.duration.TimeUnit.{TimeUnit}
use Rattle.convoy_scenario.specs.Scenario.{Scenario}
use Rattle.convoy_scenario.specs.WellFormed.{IsScenario}
use Rattle.convoy_sim.specs.Greatest.{IsReached, IsUpper}
use Rattle.convoy_times.specs.Measures.{measure_by}
use Rattle.convoy_toml.specs.declared.asked.Asked.{Asked}
use Rattle.convoy_toml.specs.declared.outside.LinkShare.{LinkShare}
use Rattle.convoy_toml.specs.Reading.{deadlines_of_text, scenario_of_text_by, shares_of_text, unit_written}
use Rattle.convoy_outside.specs.Sums.{outside_told}
use Rattle.convoy_branch.specs.Options.{Settings}
use Rattle.convoy_branch.specs.Outcomes.{best_of}
use Rattle.convoy_branch.specs.declared.outcome.Outcome.{Outcome}
use Rattle.convoy_commands.specs.declared.fault.Fault.{Fault}
use Rattle.convoy_commands.specs.declared.fault.Fault.TheVariants.{Memory}
use Rattle.convoy_commands.specs.Measured.{measure_of_text}
use Rattle.convoy_commands.specs.Searches.{IsEnd}
use Rattle.convoy_commands.specs.Verdicts.{deadline_at, target_deadline}
use Rattle.convoy_commands.proofs.CeilingTexts.{deadline_in}
use Rattle.convoy_case_answers.specs.declared.found.Found.{Found}
use Rattle.convoy_case_answers.specs.declared.late.Late.{Late}
use Rattle.convoy_case_answers.specs.Founds.{HasWay, IsBackTooLate, IsCaseRefused, IsFound, IsLate, IsLateRefused, is_proved, upper_of}
use Rattle.convoy_case_answers.proofs.Ended.{reached_by, upper_by}

pub late_refused : (late : Late) (asked : Asked) (text : List ℕ) (fault : Fault) → IsLateRefused late asked text fault ⊎ (fault ≡ Memory)
    → IsCaseRefused late asked text fault ⊎ (fault ≡ Memory)
late_refused late asked text fault (inl refused) = inl (inr (inl refused))
late_refused late asked text fault (inr memory) = inr memory

pub back_refused : (late : Late) (asked : Asked) (text : List ℕ) (fault : Fault) → IsBackTooLate fault → IsCaseRefused late asked text fault ⊎ (fault ≡ Memory)
back_refused late asked text fault refused = inl (inr (inr (inr (inr refused))))

pub found_told : (late : Late) (asked : Asked) (settings : Settings) (text : List ℕ) (in_text : Option TimeUnit) (deadlines : List (Option ℕ)) (shares : List LinkShare)
    (plan same : Scenario) (message : ℕ) (outcome : Outcome) (found : Found)
    → scenario_of_text_by asked text ≡ Ok plan → in_text ≡ unit_written text → deadlines ≡ deadlines_of_text asked text → shares ≡ shares_of_text text
    → found.measure ≡ measure_by settings.unit in_text plan → message ≡ plan.target_message → found.deadline ≡ deadline_at deadlines message
    → HasWay asked text plan found.way
    → same ≡ plan → found.scenario ≡ same → IsScenario found.scenario
    → found.outside ≡ outside_told shares same → IsEnd settings same outcome
    → found.least ≡ best_of outcome → found.most ≡ upper_of outcome → found.is_proved ≡ is_proved outcome
    → IsLate late text same (best_of outcome) (upper_of outcome) found.late_least found.late_most
    → found.back_least ≡ found.late_least + unwrap_or found.way 0 → found.back_most ≡ found.late_most + unwrap_or found.way 0
    → IsFound late asked settings text found
found_told late asked settings text in_text deadlines shares plan same message outcome found read written_in are tell measured of_message within way is into lawful outside_is search least most proved late_is back_least back_most = record {
  outcome = outcome;
  read = read ∙ ap Ok (sym whole);
  lawful = lawful;
  searched = searched;
  least = least;
  most = most;
  proved = proved;
  reached = subst (IsReached found.scenario) (sym least) (reached_by settings found.scenario outcome searched);
  upper = subst (IsUpper found.scenario) (sym most) (upper_by settings found.scenario outcome searched);
  kept_back =
      subst (λ (s : Scenario). IsLate late text s found.least found.most found.late_least found.late_most) (sym into)
      (subst (λ (n : ℕ). IsLate late text same n found.most found.late_least found.late_most) (sym least)
      (subst (λ (n : ℕ). IsLate late text same (best_of outcome) n found.late_least found.late_most) (sym most) late_is));
  way = subst (λ (s : Scenario). HasWay asked text s found.way) (sym whole) way;
  back_least = back_least;
  back_most = back_most;
  measure = measured ∙ ap (λ (u : Option TimeUnit). measure_by settings.unit u plan) written_in ∙ ap (λ (s : Scenario). measure_of_text settings.unit text s) (sym whole);
  deadline = deadline_in asked text plan deadlines message found.deadline are of_message within ∙ ap (λ (s : Scenario). target_deadline asked text s) (sym whole);
  outside =
      outside_is ∙ ap (λ (s : Scenario). outside_told shares s) (sym into) ∙ ap (λ (told : List LinkShare). outside_told told found.scenario) tell;
} where
  whole : found.scenario ≡ plan
  whole = into ∙ is

  searched : IsEnd settings found.scenario outcome
  searched = subst (λ (s : Scenario). IsEnd settings s outcome) (sym into) search
