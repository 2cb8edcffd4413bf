use Rattle.convoy_certificate.proofs.certificate_lines.node_in.Goals as goal

pub returns-then-eq-clause-lawful : goal.returns-then-eq-clause-lawful
returns-then-eq-clause-lawful c = c.split_in.ensures.lawful c.args.time
