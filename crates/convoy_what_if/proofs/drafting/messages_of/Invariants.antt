use Rattle.std.proofs.Common.{◌≡◌}
use Rattle.std.specs.List.{flat_map, range_with_len}
use Rattle.convoy_what_if.specs.Changes.{messages_left}
use Rattle.convoy_what_if.proofs.drafting.messages_of.Given as goal

-- the messages so far that stay
abbrev pub invariant-loop-message : goal.invariant-loop-message
invariant-loop-message l = l.messages.items ≡ flat_map (messages_left l.scenario l.change) (range_with_len 0 l.message)
