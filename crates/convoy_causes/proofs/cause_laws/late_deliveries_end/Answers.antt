use Rattle.convoy_causes.proofs.Delivered.{late_deliveries_end}
use Rattle.convoy_causes.proofs.cause_laws.late_deliveries_end.Goals as goal

pub returns : goal.returns
returns c =
    late_deliveries_end c.delivered_before.ensures c.causes_cut.ensures (record {
      since = c.cuts_enclose.ensures;
      until = c.cuts_by_arrival_enclose.ensures;
      commit_since = c.cuts_for_commit_enclose.ensures;
      commit_until = c.cuts_by_commit_enclose.ensures;
      after_commit = c.delivered_after_commit.ensures;
      four_delays = c.latency_within_four_delays.ensures;
      not_negative = c.latency_is_never_negative.ensures;
    })
