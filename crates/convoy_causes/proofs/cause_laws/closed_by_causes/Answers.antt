use Rattle.convoy_causes.proofs.NarrowedWindows.{closed_by_causes}
use Rattle.convoy_causes.proofs.cause_laws.closed_by_causes.Goals as goal

pub returns : goal.returns
returns c =
    closed_by_causes (record {
      over = c.closed_over_caused.ensures;
      members = c.windows_enclose_members.ensures;
      by_causes = c.causes_cut.ensures;
      effects = c.effects_cut.ensures;
      deliveries = c.deliveries_cut.ensures;
      ends = c.deliveries_end.ensures;
      late_ends = c.late_deliveries_end.ensures;
      known = c.known_is_scenario.ensures;
    })
