use Rattle.convoy_certificate.proofs.Again.{is_unique}
use Rattle.convoy_certificate.proofs.certificate_laws.texts_differ.Goals as goal

pub returns : goal.returns
returns c = is_unique c.scenario_lines_are_lines.ensures c.scenarios_are_their_lines.ensures
