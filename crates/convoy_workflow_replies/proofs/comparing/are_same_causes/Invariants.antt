use Rattle.std.proofs.Common.{◌≡◌, take}
use Rattle.convoy_workflow_replies.proofs.comparing.are_same_causes.Given as goal

-- what messages follow is the same so far
abbrev pub invariant-loop-i : goal.invariant-loop-i
invariant-loop-i l = take l.i l.others ≡ take l.i l.causes
