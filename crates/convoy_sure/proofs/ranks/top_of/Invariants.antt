use Rattle.std.proofs.Common.{◌≡◌, take, map}
use Rattle.convoy_sim.specs.Times.{greatest}
use Rattle.convoy_sure.specs.SureLeads.{lead_at, with_number}
use Rattle.convoy_sure.proofs.ranks.top_of.Given as goal

abbrev pub invariant-loop-message : goal.invariant-loop-message
invariant-loop-message l = l.top ≡ greatest (map (with_number (λ z. lead_at l.leads z l.group) l.messages) (take l.message-index l.messages))
