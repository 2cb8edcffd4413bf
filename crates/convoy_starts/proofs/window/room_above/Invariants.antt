use Rattle.std.proofs.Common.{◌≡◌, ◌≤◌, ◌+◌, take, length, filter}
use Rattle.convoy_sure.specs.SureLeads.{lead_at}
use Rattle.convoy_starts.specs.Starts.{may_be_above}
use Rattle.convoy_starts.proofs.window.room_above.Given as goal

abbrev pub invariant-loop-message : goal.invariant-loop-message
invariant-loop-message l =
    record {
      so_far : l.room ≡ l.above + length (filter (λ w. may_be_above l.sure l.above (lead_at l.leads w l.group)) (take l.message-index l.messages));
      few : l.room ≤ l.above + l.message-index;
    }
