use Rattle.convoy_report.specs.Pages.{start_text}
use Rattle.convoy_report.proofs.sections.push_start.Goals as goal

pub returns : goal.returns
unfolding start_text
returns c = rw (c.as_bytes.ensures.value, c.as_bytes-2.ensures.value) at c.push_pieces.ensures
