use Rattle.std.proofs.Common.{All, ◌<◌, List, length, subst, sym, ◌∙◌}
use Rattle.std.proofs.lemmas.List.Elements.{All-map}
use Rattle.convoy_survey.specs.declared.finding.Surveyed.{Surveyed}
use Rattle.convoy_outage_answers.proofs.cells.at_all_cells_through.Goals as goal

pub ceiling_at_all-ceiling-requires : goal.ceiling_at_all-ceiling-requires
ceiling_at_all-ceiling-requires c =
    let known : Surveyed → Type 0 = λ row. row.message < length c.args.scenario.now.multicasts in
    subst (λ (rows : List Surveyed). All known rows) (sym (c.deref-2.ensures.value ∙ c.in_ok-surveyed.ensures))
    (All-map known (λ row. row.surveyed) c.args.rows.now c.requires)
