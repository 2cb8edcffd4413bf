use Rattle.std.proofs.Common.{◌≡◌, ◌++◌, Some, map, take}
use Rattle.convoy_kinds.specs.Reading.{setting_message}
use Rattle.convoy_kinds.proofs.read.push_messages_from.Given as goal

-- the messages so far are those before and those from the places so far
abbrev pub invariant-loop-place : goal.invariant-loop-place
invariant-loop-place l =
    l.messages.items ≡ l.initial.messages.items ++ map (λ place. setting_message l.setting place (Some place)) (take l.place-index l.places)
