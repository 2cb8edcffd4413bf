use Rattle.std.proofs.Common.{◌≡◌, ◌≤◌, ◌+◌, ◌-◌, map, fold, min}
use Rattle.std.specs.List.{range_with_len}
use Rattle.convoy_sure.specs.SureLeads.{lead_at}
use Rattle.convoy_starts.specs.Starts.{room_above}
use Rattle.convoy_starts.proofs.window.window.Given as goal

abbrev pub invariant-loop-above : goal.invariant-loop-above
invariant-loop-above l =
    record {
      so_far : l.least ≡ fold min (l.value + l.many) (map (room_above l.sure (λ z. lead_at l.leads z l.group) l.messages) (range_with_len l.value (l.above - l.value)));
      small : l.least ≤ l.value + l.many;
    }
