use Rattle.std.proofs.Common.{sym}
use Rattle.convoy_timeline.specs.Timeline.{line_of}
use Rattle.convoy_timeline.proofs.timeline.line_of.Goals as goal

pub returns : goal.returns
unfolding line_of
returns c =
    simp (sym c.word-kind.ensures, sym c.group_name-group.ensures, sym c.message_name-message.ensures, sym c.group_name-stamp_group.ensures) c.format.ensures.ok
