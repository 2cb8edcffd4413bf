use Rattle.convoy_certificate.proofs.Lengths.{certificate_length}
use Rattle.convoy_certificate.proofs.certificate_laws.texts_are_short.Goals as goal

pub returns : goal.returns
returns c = certificate_length
