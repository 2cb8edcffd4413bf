use Rattle.convoy_toml.proofs.AgreedLinks.{all_lengthened}
use Rattle.convoy_toml.proofs.text_laws.agreements_lengthen_links.Goals as goal

pub returns : goal.returns
returns c = all_lengthened
