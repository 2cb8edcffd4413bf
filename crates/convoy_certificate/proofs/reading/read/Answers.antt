use Rattle.convoy_certificate.proofs.Again.{is_read}
use Rattle.convoy_certificate.proofs.Taken.{is_found}
use Rattle.convoy_certificate.proofs.reading.read.Goals as goal

pub returns-clause-found : goal.returns-clause-found
returns-clause-found c = is_found c.texts_are_kept.ensures c.args.text.now c.read_all.result c.read_all.ensures

pub returns-clause-only : goal.returns-clause-only
returns-clause-only c certificate is spelled = is_read c.texts_are_read.ensures c.args.text.now certificate c.read_all.result is spelled c.read_all.ensures
