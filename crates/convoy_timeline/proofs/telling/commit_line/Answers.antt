use Rattle.std.proofs.Common.{sym}
use Rattle.std.specs.Fmt.{digits}
use Rattle.convoy_timeline.specs.Explanations.{commit_text}
use Rattle.convoy_timeline.proofs.telling.commit_line.Goals as goal

pub returns : goal.returns
unfolding commit_text digits
returns c =
    let group = rw c.target_group.ensures.value at c.group_name-group.ensures in
    simp (sym group, sym c.group_name-giver.ensures, sym c.in_ok-stamp.ensures, sym c.in_ok-tied.ensures) c.format.ensures.ok
