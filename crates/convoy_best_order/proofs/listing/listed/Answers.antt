use Rattle.std.proofs.Common.{ap, sym, ◌∙◌}
use Rattle.convoy_scenario.specs.Numbering.{scenario_of_draft}
use Rattle.convoy_best_order.proofs.Relisting.{in_order, is_listed, made_ok, memory_alone}
use Rattle.convoy_best_order.proofs.listing.listed.Goals as goal

pub only_memory-requires : goal.only_memory-requires
only_memory-requires c =
    memory_alone (scenario_of_draft c.in_ok-listed_draft.field-0) c.from_draft.result (in_order c.args.scenario.now c.args.order.now) c.in-Err.fault
    (ap scenario_of_draft c.in_ok-listed_draft.ensures
    ∙ is_listed c.scenarios_have_drafts.ensures c.relisted_drafts_give_scenarios.ensures c.args.scenario.now c.args.order.now c.group_count-lawful.ensures.lawful c.requires)
    c.from_draft.ensures c.in-Err.is

pub returns-in-Ok : goal.returns-in-Ok
returns-in-Ok c =
    ap scenario_of_draft (sym c.in_ok-listed_draft.ensures)
    ∙ made_ok (scenario_of_draft c.in_ok-listed_draft.field-0) c.from_draft.result c.in-Ok.other c.from_draft.ensures c.in-Ok.is
