use Rattle.std.proofs.Common.{ap, ◌∙◌}
use Rattle.convoy_scenario.specs.Numbering.{scenario_of_draft}
use Rattle.convoy_around.specs.Around.{around_at}
use Rattle.convoy_around.proofs.AroundLemmas.{given}
use Rattle.convoy_around.proofs.making.around_at.Goals as goal

pub returns-in-Ok : goal.returns-in-Ok
returns-in-Ok c =
    let plan = c.args.scenario.now in
    let made = around_at c.args.span plan c.args.message c.args.group in
    let formed = c.around_is_scenario.ensures c.args.span plan c.args.message c.args.group c.draft_around.ensures.lawful c.requires.span c.requires.known c.requires.addressed in
    given _ _ made c.in-Ok.other c.from_draft.ensures
    (ap scenario_of_draft c.in_ok-draft.ensures.value ∙ c.scenarios_have_drafts.ensures made formed) c.in-Ok.is
