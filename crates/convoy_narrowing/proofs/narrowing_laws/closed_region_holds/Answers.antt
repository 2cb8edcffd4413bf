use Rattle.convoy_narrowing.proofs.RegionWindows.{closed_region_holds}
use Rattle.convoy_narrowing.proofs.narrowing_laws.closed_region_holds.Goals as goal

pub returns : goal.returns
returns c scenario region schedule latency well lawful member assigned closed =
    closed_region_holds c.narrowed_enclose_members.ensures c.closed_holds_over_windows.ensures c.leads_hold.ensures scenario region schedule latency well lawful member assigned closed
