use Rattle.std.proofs.Common.{◌≡◌, ◌++◌}
use Rattle.std.specs.List.{flat_map, range_with_len}
use Rattle.convoy_what_if.specs.Changes.{link_changes}
use Rattle.convoy_what_if.proofs.listing.push_sender.Given as goal

-- the changes so far are those before and those of the numbers so far
abbrev pub invariant-loop-to : goal.invariant-loop-to
invariant-loop-to l = l.changes.items ≡ l.initial.changes.items ++ flat_map (link_changes l.instance l.sender) (range_with_len 0 l.to)
