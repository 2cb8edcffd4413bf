use Rattle.convoy_finishes.proofs.WidenedFinishes.{closed_finishing}
use Rattle.convoy_finishes.proofs.finish_laws.closed_finishing.Goals as goal

pub returns : goal.returns
returns c =
    closed_finishing c.closed_finishing_over_windows.ensures c.windows_enclose_members.ensures c.widened_is_scenario.ensures
    c.assignments_widen.ensures c.finishes_widen.ensures
