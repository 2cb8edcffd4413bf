use Rattle.convoy_certificate.proofs.Taken.{certificate_takes}
use Rattle.convoy_certificate.proofs.certificate_laws.texts_are_kept.Goals as goal

pub returns : goal.returns
returns c = certificate_takes c.scenarios_are_their_lines.ensures
