use Rattle.std.proofs.Common.{◌≡◌, ◌≤◌, ◌==◌, take, length, filter}
use Rattle.convoy_sure.specs.SureLeads.{lead_at}
use Rattle.convoy_starts.proofs.window.count_unled.Given as goal

abbrev pub invariant-loop-message : goal.invariant-loop-message
invariant-loop-message l =
    record {
      so_far : l.unled ≡ length (filter (λ z. lead_at l.leads z l.group == 0) (take l.message-index l.messages));
      few : l.unled ≤ l.message-index;
    }
