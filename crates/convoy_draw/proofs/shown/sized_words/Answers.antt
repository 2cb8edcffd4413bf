use Rattle.std.proofs.Common.{append_assoc, rules}
use Rattle.convoy_draw.proofs.shown.sized_words.Goals as goal

pub returns : goal.returns
returns c = simp append_assoc (search rules)
