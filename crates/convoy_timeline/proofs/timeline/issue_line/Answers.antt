use Rattle.std.proofs.Common.{sym}
use Rattle.convoy_timeline.specs.Timeline.{issue_line}
use Rattle.convoy_timeline.proofs.timeline.issue_line.Goals as goal

pub returns : goal.returns
unfolding issue_line
returns c =
    simp (sym c.sender_of.ensures, sym c.sender_word-sender.ensures, sym c.message_name-name.ensures) c.format.ensures.ok
