use Rattle.std.proofs.Common.{List, ℕ, ◌∙◌, sym, subst}
use Rattle.std.specs.List.{All}
use Rattle.std.proofs.lemmas.List.{map-id}
use Rattle.convoy_rows.proofs.OfKeys.{all_rows, by_keys, keys_are}
use Rattle.convoy_survey.specs.Ceilings.{IsCeiledBy, TellsCeiling, ceiled_target}
use Rattle.convoy_survey.specs.Surveys.{IsTargetPair}
use Rattle.convoy_survey.proofs.ceilings.ceilings_by.Goals as goal

pub make_each-requires-clause-takes : goal.make_each-requires-clause-takes
make_each-requires-clause-takes g c = λ κs outlive k d small lent watch is.
    let lawful = subst (λ (targets : List (ℕ × ℕ)). All (IsTargetPair c.args.scenario.now) targets) (sym c.deref.ensures.value) c.in_ok-targets.ensures.lawful in
    let target : IsTargetPair c.args.scenario.now lent.now = subst (IsTargetPair c.args.scenario.now) (sym is) (lawful k d small) in
    (target, c.requires.takes lent.now.0 lent.now.1 target)

pub returns : goal.returns
returns g c =
    let tells = TellsCeiling c.args.span c.args.scenario.now (goal.F-post g c.args.seek.now) in
    let told = by_keys _ tells _ c.in_ok-rows.rows.items (λ lent watch row made. made) c.in_ok-rows.ensures in
    record {
      targets = keys_are tells (λ t. t) ceiled_target _ c.in_ok-rows.rows.items (λ t row is. is.of_target) told ∙ map-id c.deref.result.now ∙ c.deref.ensures.value ∙ c.in_ok-targets.ensures.targets;
      told = all_rows tells (IsCeiledBy c.args.span c.args.scenario.now (goal.F-post g c.args.seek.now)) _ c.in_ok-rows.rows.items (λ t row is. is.told) told;
    }
