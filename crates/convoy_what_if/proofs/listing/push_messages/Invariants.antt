use Rattle.std.proofs.Common.{◌≡◌, ◌++◌}
use Rattle.std.specs.List.{flat_map, range_with_len}
use Rattle.convoy_what_if.specs.Changes.{message_changes}
use Rattle.convoy_what_if.proofs.listing.push_messages.Given as goal

-- the changes so far are those before and those of the numbers so far
abbrev pub invariant-loop-message : goal.invariant-loop-message
invariant-loop-message l = l.changes.items ≡ l.initial.changes.items ++ flat_map (message_changes l.instance) (range_with_len 0 l.message)
