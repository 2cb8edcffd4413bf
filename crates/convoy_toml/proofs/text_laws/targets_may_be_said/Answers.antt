use Rattle.convoy_toml.proofs.SaidTargets.{said}
use Rattle.convoy_toml.proofs.text_laws.targets_may_be_said.Goals as goal

pub returns : goal.returns
returns c = said
