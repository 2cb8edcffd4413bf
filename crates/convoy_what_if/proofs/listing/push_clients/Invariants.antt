use Rattle.std.proofs.Common.{◌≡◌, ◌++◌}
use Rattle.std.specs.List.{flat_map, range_with_len}
use Rattle.convoy_scenario.specs.declared.sender.Sender.TheVariants.{Client}
use Rattle.convoy_what_if.specs.Changes.{sender_changes}
use Rattle.convoy_what_if.proofs.listing.push_clients.Given as goal

-- the changes so far are those before and those of the places so far
abbrev pub invariant-loop-place : goal.invariant-loop-place
invariant-loop-place l = l.changes.items ≡ l.initial.changes.items ++ flat_map (λ p. sender_changes l.instance (Client p)) (range_with_len 0 l.place)
