use Rattle.std.proofs.Common.{◌≡◌, ◌≤◌, map}
use Rattle.std.specs.List.{range_with_len}
use Rattle.convoy_sim.specs.Times.{greatest}
use Rattle.convoy_sim.specs.Delivery.{addressed_to}
use Rattle.convoy_sure.specs.SureLeads.{lead_at, top_of}
use Rattle.convoy_sure.proofs.sure_leads.Scene.sure_time.Given as goal

abbrev pub invariant-loop-group : goal.invariant-loop-group
invariant-loop-group l =
    record {
      so_far : l.most ≡ greatest (map (λ g. top_of (λ z. lead_at l.leads z g) (addressed_to l.self.scenario.now g)) (range_with_len 0 l.group));
      small : l.most ≤ 145;
    }
