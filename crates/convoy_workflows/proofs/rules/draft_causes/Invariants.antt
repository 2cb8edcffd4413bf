use Rattle.std.proofs.Common.{◌≡◌, None, flat_map, slice_index_or}
use Rattle.std.specs.List.{range_with_len}
use Rattle.convoy_workflows.specs.Rules.{draft_cause}
use Rattle.convoy_workflows.proofs.rules.draft_causes.Given as goal

-- what the messages so far follow
abbrev pub invariant-loop-message : goal.invariant-loop-message
invariant-loop-message l =
    l.numbered.items ≡ flat_map (λ m. draft_cause l.draft.groups l.draft.messages m (slice_index_or l.causes m None)) (range_with_len 0 l.message)
