use Rattle.std.proofs.Common.{◌≡◌, ◌++◌}
use Rattle.std.specs.List.{flat_map, range_with_len}
use Rattle.convoy_scenario.specs.declared.sender.Sender.TheVariants.{Group}
use Rattle.convoy_what_if.specs.Changes.{sender_changes}
use Rattle.convoy_what_if.proofs.listing.push_groups.Given as goal

-- the changes so far are those before and those of the numbers so far
abbrev pub invariant-loop-group : goal.invariant-loop-group
invariant-loop-group l = l.changes.items ≡ l.initial.changes.items ++ flat_map (λ g. sender_changes l.instance (Group g)) (range_with_len 0 l.group)
