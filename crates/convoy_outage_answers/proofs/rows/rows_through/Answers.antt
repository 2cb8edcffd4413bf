use Rattle.std.proofs.Common.{◌∙◌, sym, subst}
use Rattle.std.proofs.lemmas.List.{map-id}
use Rattle.convoy_rows.proofs.OfKeys.{all_rows, by_keys, keys_are}
use Rattle.convoy_survey.specs.declared.finding.Surveyed.{Surveyed}
use Rattle.convoy_survey.specs.Findings.{target_of}
use Rattle.convoy_survey.specs.Surveys.{IsTargetPair}
use Rattle.convoy_outage_answers.specs.RowsThrough.{IsRowThrough, TellsThrough}
use Rattle.convoy_outage_answers.proofs.rows.rows_through.Goals as goal

pub make_each-requires-clause-takes : goal.make_each-requires-clause-takes
make_each-requires-clause-takes g c = λ κs outlive k d small lent watch is. (
  subst (λ (row : Surveyed). IsTargetPair c.args.scenario.now (target_of row)) (sym is) (c.requires.targets k d small),
  (c.requires.span, (record { shared = c.type_bounds.sync-R.shared }, record { shared = c.type_bounds.sync-W.shared })),
)

pub returns-clause-rows : goal.returns-clause-rows
returns-clause-rows g c =
    let tells = TellsThrough c.args.outage c.args.span c.args.scenario.now in
    let told = by_keys _ tells c.args.surveyed.now c.in_ok-rows.rows.items (λ lent watch row made. made) c.in_ok-rows.ensures in
    keys_are tells (λ s. s) (λ row. row.surveyed) c.args.surveyed.now c.in_ok-rows.rows.items (λ s row is. is.of_row) told ∙ map-id c.args.surveyed.now

pub returns-clause-told : goal.returns-clause-told
returns-clause-told g c =
    let tells = TellsThrough c.args.outage c.args.span c.args.scenario.now in
    let told = by_keys _ tells c.args.surveyed.now c.in_ok-rows.rows.items (λ lent watch row made. made) c.in_ok-rows.ensures in
    all_rows tells (IsRowThrough c.args.outage c.args.span c.args.scenario.now) c.args.surveyed.now c.in_ok-rows.rows.items (λ s row is. is.told) told
