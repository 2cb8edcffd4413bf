use Rattle.convoy_machine.proofs.Closing.{right_closes}
use Rattle.convoy_machine.proofs.machine_laws.right_leaves_close.Goals as goal

pub returns : goal.returns
returns c = right_closes c.leads_close_for_more.ensures c.widened_is_scenario.ensures c.regions_widen.ensures
