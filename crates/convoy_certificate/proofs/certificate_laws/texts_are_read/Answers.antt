use Rattle.convoy_certificate.proofs.Again.{certificate_again}
use Rattle.convoy_certificate.proofs.certificate_laws.texts_are_read.Goals as goal

pub returns : goal.returns
returns c = certificate_again c.scenario_lines_are_lines.ensures c.scenarios_are_their_lines.ensures
