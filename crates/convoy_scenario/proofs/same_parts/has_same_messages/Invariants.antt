use Rattle.std.proofs.Common.{◌≡◌, take}
use Rattle.convoy_scenario.proofs.same_parts.has_same_messages.Given as goal

-- the messages so far are the same
abbrev pub invariant-loop-message : goal.invariant-loop-message
invariant-loop-message l = take l.message l.other.multicasts ≡ take l.message l.wanted.multicasts
