use Rattle.convoy_checker.proofs.tree_laws.valid_is_greatest.Goals as goal

pub returns : goal.returns
returns c certificate lawful valid = record {
  reached = (certificate.schedule, lawful.assigned, valid.latency);
  upper = c.trees_cover.ensures certificate.scenario certificate.latency certificate.nodes lawful.scenario valid.tree;
}
