-- The laws of the rows.
use Rattle.std.proofs.Common.{◌≡◌, ℕ, Result, Ok, Err, subst, sym, ◌∙◌}
use Rattle.convoy_draft.specs.declared.fault.ScenarioFault.{ScenarioFault}
use Rattle.convoy_scenario.specs.Scenario.{Scenario}
use Rattle.convoy_sim.specs.Greatest.{IsGreatest}
use Rattle.convoy_branch.specs.Options.{Settings}
use Rattle.convoy_survey.specs.declared.finding.Cause.{Cause}
use Rattle.convoy_survey.specs.declared.finding.Finding.{Finding}
use Rattle.convoy_survey.specs.declared.finding.Finding.TheVariants.{Greatest, OutOfMemory}
use Rattle.convoy_survey.specs.Findings.{Encloses, IsGreatestFound, least_of, most_of}
use Rattle.convoy_survey.proofs.Numbers.{finding_encloses, latency_told, same_scenario}
use Rattle.convoy_what_if.specs.Changes.{changed}
use Rattle.convoy_what_if.specs.declared.tried.Searched.{Searched}
use Rattle.convoy_what_if.specs.declared.tried.Tried.{Tried}
use Rattle.convoy_what_if.specs.ChangeLaws.{RowsAreInOrder, RowsAreLatencies, RowsEnclose}
use Rattle.convoy_what_if.specs.Tries.{IsTried, MayAnswer, TellsAnswer}
use Rattle.convoy_what_if.proofs.Savings.{all_by_savings, changes_by_savings, none_saves_more}

pub rows_are_in_order : RowsAreInOrder
rows_are_in_order settings scenario changes rows are =
    rw (are.placed, ← are.each)
    (record {
      same_changes = changes_by_savings are.tried;
      all_tried = all_by_savings (IsTried settings scenario) are.tried are.all_tried;
      none_saves_more = none_saves_more are.tried;
    })

-- where a greatest latency was found, it is that of the scenario that the change makes
greatest_of : (settings : Settings) (scenario another : Scenario) (row : Tried) (latency nodes : ℕ) (cause : Cause) (answer : Result Searched ScenarioFault) →
    MayAnswer settings scenario row.change answer → TellsAnswer row answer → row.finding ≡ Greatest latency cause nodes →
    changed scenario row.change ≡ Ok another → IsGreatest another latency
greatest_of settings scenario another row latency nodes cause (Ok searched) given told finding made =
    let same : searched.instance ≡ another = same_scenario searched.instance another (sym given.made ∙ made) in
    let is : searched.finding ≡ Greatest latency cause nodes = sym told.found ∙ finding in
    let found : IsGreatestFound searched.instance latency cause nodes = rw is at given.found in
    subst (λ (s : Scenario). IsGreatest s latency) same found.greatest
greatest_of settings scenario another row latency nodes cause (Err fault) given told finding made =
    let other : OutOfMemory ≡ Greatest latency cause nodes = sym told.1.found ∙ finding in
    absurd cc

pub rows_are_latencies : RowsAreLatencies
rows_are_latencies settings other asked scenario another row latency nodes cause text out end is finding made read told =
    latency_told asked other another latency text out end
    (greatest_of settings scenario another row latency nodes cause is.answer is.given is.told finding made) read told

-- what is told encloses the greatest latency of that scenario
answer_encloses : (settings : Settings) (scenario another : Scenario) (row : Tried) (answer : Result Searched ScenarioFault) →
    MayAnswer settings scenario row.change answer → TellsAnswer row answer → changed scenario row.change ≡ Ok another →
    Encloses another (least_of row.finding) (most_of row.finding)
answer_encloses settings scenario another row (Ok searched) given told made =
    let same : searched.instance ≡ another = same_scenario searched.instance another (sym given.made ∙ made) in
    let there = subst (λ (s : Scenario). Encloses s (least_of searched.finding) (most_of searched.finding)) same
    (finding_encloses settings searched.instance searched.finding given.found) in
    subst (λ (finding : Finding). Encloses another (least_of finding) (most_of finding)) (sym told.found) there
answer_encloses settings scenario another row (Err fault) given told made =
    subst (λ (finding : Finding). Encloses another (least_of finding) (most_of finding)) (sym told.1.found)
    (record { reached = tt; upper = tt; between = λ latency greatest. (tt, tt) })

pub rows_enclose : RowsEnclose
rows_enclose settings scenario another row is made = answer_encloses settings scenario another row is.answer is.given is.told made
