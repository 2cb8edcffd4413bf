use Rattle.std.proofs.Common.{List, ℕ, ◌∙◌, sym, subst}
use Rattle.std.specs.List.{All}
use Rattle.std.proofs.lemmas.List.{map-id}
use Rattle.convoy_rows.proofs.OfKeys.{all_rows, by_keys, keys_are}
use Rattle.convoy_survey.specs.declared.finding.Surveyed.{Surveyed}
use Rattle.convoy_survey.specs.Findings.{IsRowBy, target_of}
use Rattle.convoy_survey.specs.Surveys.{IsTargetPair, MayAnswerBy, TellsTarget}
use Rattle.convoy_survey.proofs.rows.survey_by.Goals as goal

pub make_each-requires-clause-takes : goal.make_each-requires-clause-takes
make_each-requires-clause-takes g c = λ κs outlive k d small lent watch is w.
    let lawful = subst (λ (targets : List (ℕ × ℕ)). All (IsTargetPair c.args.scenario.now) targets) (sym c.deref.ensures.value) c.in_ok-targets.ensures.lawful in
    c.requires.takes w lent.now.0 lent.now.1 (subst (IsTargetPair c.args.scenario.now) (sym is) (lawful k d small))

pub returns : goal.returns
returns g c =
    let may = MayAnswerBy (goal.F-post g c.args.find.now) in
    let told = by_keys _ (TellsTarget may) _ c.in_ok-rows.rows.items (λ lent watch row made. made) c.in_ok-rows.ensures in
    record {
      targets = keys_are (TellsTarget may) (λ t. t) target_of _ c.in_ok-rows.rows.items (λ t row is. is.of_target) told ∙ map-id c.deref.result.now ∙ c.deref.ensures.value ∙ c.in_ok-targets.ensures.targets;
      told = all_rows (TellsTarget may) (IsRowBy may) _ c.in_ok-rows.rows.items (λ t row is. is.told) told;
    }
