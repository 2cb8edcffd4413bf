-- The rows of a survey around its targets: each message has them, whatever the text says of its issue.
use Rattle.std.proofs.Common.{◌≡◌, ℕ, zero, suc, ◌+◌, ◌<◌, ◌++◌, List, map, flat_map, length, Option, Some, None, Result, Ok, IfOk, IfSome, IsTrue, refl, sym, ap, ap₂, subst, ◌∙◌, arith}
use Rattle.std.specs.List.{range_with_len}
use Rattle.std.specs.Result.{result_ok}
use Rattle.std.proofs.lemmas.Bool.{cond-true}
use Rattle.convoy_stamps.proofs.Loops.{flat_map_range_more}
use Rattle.convoy_draft.specs.declared.fault.ScenarioFault.{ScenarioFault}
use Rattle.convoy_around.specs.Around.{around_at, is_span}
use Rattle.convoy_around.specs.AroundLaws.{AroundForgetsTargets, AroundIsScenario}
use Rattle.convoy_around.proofs.AroundLemmas.{many, none_waits, same_destinations}
use Rattle.convoy_scenario.specs.Scenario.{Scenario, message_at}
use Rattle.convoy_scenario.specs.Targets.{may_be_target, targets_at, with_target}
use Rattle.convoy_scenario.specs.WellFormed.{IsScenario}
use Rattle.convoy_scenario.specs.WidenedLaws.{RoomIsDecided, StillTargetsHaveRoom}
use Rattle.convoy_toml.specs.declared.around.Around.{Around}
use Rattle.convoy_toml.specs.declared.asked.Asked.{Asked}
use Rattle.convoy_toml.specs.Around.{span_asked}
use Rattle.convoy_toml.specs.Reading.{scenario_of_text_by}
use Rattle.convoy_toml.specs.TextLaws.{TextsHaveSpans}
use Rattle.convoy_branch.specs.Options.{Settings}
use Rattle.convoy_survey.specs.declared.finding.Surveyed.{Surveyed}
use Rattle.convoy_survey.specs.Findings.{IsFinding, IsRowBy, MayAnswer}
use Rattle.convoy_survey.specs.SurveyLaws.{AroundHasEachTarget}
use Rattle.convoy_survey.specs.Surveys.{AreRowsBy, AreSurveyed, with_rows}

-- ---- the span
-- of a scenario that was read the span is one, where one is asked
pub short_span : TextsHaveSpans → (asked : Asked) (text : List ℕ) (scenario : Scenario) → scenario_of_text_by asked text ≡ Ok scenario →
    IfSome (span_asked asked.around scenario) (λ n. IsTrue (is_span n))
short_span have asked text scenario read = by_around asked.around refl where
  by_around : (around : Option Around) → asked.around ≡ around → IfSome (span_asked around scenario) (λ n. IsTrue (is_span n))
  by_around None is = tt
  by_around (Some by) is =
      let has = have asked text scenario by read is in
      subst (λ (r : Result ℕ ScenarioFault). IfSome (result_ok r) (λ n. IsTrue (is_span n))) (sym has.is) has.short

-- ---- what rows tell
-- the rows of the scenario in which none waits are those of the scenario
pub rows_around : AroundForgetsTargets → (settings : Settings) (span : Option ℕ) (scenario still : Scenario) (rows : List Surveyed) →
    still ≡ with_rows span scenario → AreRowsBy still (MayAnswer settings span still) rows → AreSurveyed settings span scenario rows
rows_around forgets settings None scenario still rows is are = subst (λ (base : Scenario). AreRowsBy base (MayAnswer settings None base) rows) is are
rows_around forgets settings (Some n) scenario still rows is are =
    of_base (subst (λ (base : Scenario). AreRowsBy base (MayAnswer settings (Some n) base) rows) is are)
  where
    base : Scenario
    base = with_rows (Some n) scenario

    row_of : (row : Surveyed) → IsRowBy (MayAnswer settings (Some n) base) row → IsRowBy (MayAnswer settings (Some n) scenario) row
    row_of row told = record {
      answer = told.answer;
      given = subst (λ (asked : Scenario). IfOk told.answer (IsFinding settings asked))
          (forgets n 0 scenario scenario.target_message scenario.target_group row.message row.group) told.given;
      told = told.told;
    }

    of_base : AreRowsBy base (MayAnswer settings (Some n) base) rows → AreSurveyed settings (Some n) scenario rows
    of_base all = record { targets = all.targets; told = λ k d small. row_of _ (all.told k d small) }

-- ---- which rows there are
same_each : (f g : ℕ → List (ℕ × ℕ)) (n : ℕ) → ((m : ℕ) → m < n → f m ≡ g m) → flat_map f (range_with_len 0 n) ≡ flat_map g (range_with_len 0 n)
same_each f g zero same = refl
same_each f g (suc n) same =
    let next : suc n ≡ n + 1 = omega arith in
    subst (λ (k : ℕ). flat_map f (range_with_len 0 k) ≡ flat_map g (range_with_len 0 k)) (sym next)
    (flat_map_range_more f n
    ∙ ap₂ (λ (xs ys : List (ℕ × ℕ)). xs ++ ys) (same_each f g n (λ m l. same m (omega (arith, l)))) (same n (omega arith))
    ∙ sym (flat_map_range_more g n))

pub has_each_target : AroundIsScenario → StillTargetsHaveRoom → RoomIsDecided → AroundHasEachTarget
has_each_target formed still decided span scenario is =
    ap (λ (n : ℕ). flat_map (targets_at base) (range_with_len 0 n)) count
    ∙ same_each (targets_at base) (λ m. map (λ g. (m, g)) (message_at scenario m).destinations) (length scenario.multicasts) each
  where
    base : Scenario
    base = around_at 0 scenario scenario.target_message scenario.target_group

    count : length base.multicasts ≡ length scenario.multicasts
    count = many 0 scenario scenario.target_message scenario.target_group

    well : IsScenario base
    well = formed 0 scenario scenario.target_message scenario.target_group is refl is.target is.addressed

    each : (m : ℕ) → m < length scenario.multicasts → targets_at base m ≡ map (λ g. (m, g)) (message_at scenario m).destinations
    each m l =
        let room = still base m 0 well (omega (arith, l, count)) (none_waits scenario scenario.target_message scenario.target_group m l) in
        cond-true (may_be_target base m) _ _ ((decided (with_target base m 0)).1 room)
        ∙ ap (λ (gs : List ℕ). map (λ g. (m, g)) gs) (same_destinations 0 scenario scenario.target_message scenario.target_group m)
