use Rattle.convoy_toml.proofs.GivenTexts.{has_span}
use Rattle.convoy_toml.proofs.text_laws.texts_have_spans.Goals as goal

pub returns : goal.returns
returns c = has_span
