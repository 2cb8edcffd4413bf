use Rattle.std.proofs.Common.{ap, ◌∙◌}
use Rattle.convoy_scenario.specs.Numbering.{scenario_of_draft}
use Rattle.convoy_outage_runs.specs.Compressed.{compressed}
use Rattle.convoy_outage_runs.proofs.Drafted.{given}
use Rattle.convoy_outage_runs.proofs.compressing.compressed_scenario.Goals as goal

pub returns-in-Ok : goal.returns-in-Ok
returns-in-Ok c =
    let plan = c.args.scenario.now in
    let made = compressed c.args.factor c.args.span plan in
    let formed = c.compressed_is_scenario.ensures c.args.factor c.args.span plan c.draft_compressed.ensures.lawful c.requires.real c.requires.some c.requires.within in
    given _ _ made c.in-Ok.other c.from_draft.ensures
    (ap scenario_of_draft c.in_ok-draft.ensures.value ∙ c.scenarios_have_drafts.ensures made formed) c.in-Ok.is
