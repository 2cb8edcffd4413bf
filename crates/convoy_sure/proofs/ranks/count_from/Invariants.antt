use Rattle.std.proofs.Common.{◌≡◌, ◌≤◌, take, nat_le, length, filter}
use Rattle.convoy_sure.specs.SureLeads.{lead_at}
use Rattle.convoy_sure.proofs.ranks.count_from.Given as goal

abbrev pub invariant-loop-message : goal.invariant-loop-message
invariant-loop-message l =
    record {
      so_far : l.count ≡ length (filter (λ w. nat_le l.least (lead_at l.leads w l.group)) (take l.message-index l.messages));
      few : l.count ≤ l.message-index;
    }
