use Rattle.convoy_report.specs.Pages.{end_text}
use Rattle.convoy_report.proofs.sections.push_end.Goals as goal

pub returns : goal.returns
unfolding end_text
returns c = rw (c.deref.ensures.value, c.in_ok-digest.ensures, c.as_bytes.ensures.value) at c.push_pieces.ensures
