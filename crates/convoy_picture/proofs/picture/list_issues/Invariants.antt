use Rattle.std.proofs.Common.{◌≡◌, ◌++◌, ◌-◌, length, map}
use Rattle.std.specs.List.{range_with_len}
use Rattle.convoy_sim.specs.Times.{issue}
use Rattle.convoy_picture.specs.Pictures.{issues_of}
use Rattle.convoy_picture.proofs.picture.list_issues.Given as goal

-- the issues so far and those of the messages that are left are the issues of all messages
abbrev pub invariant-loop-message : goal.invariant-loop-message
invariant-loop-message l =
    l.issues.items ++ map (issue l.instance l.schedule) (range_with_len l.message (length l.instance.multicasts - l.message))
    ≡ issues_of l.instance l.schedule
