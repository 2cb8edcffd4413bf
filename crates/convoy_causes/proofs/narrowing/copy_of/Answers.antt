use Rattle.std.proofs.Common.{◌∙◌}
use Rattle.convoy_causes.proofs.Effects.{same_windows}
use Rattle.convoy_causes.proofs.narrowing.copy_of.Goals as goal

pub returns : goal.returns
returns c = c.in_ok-same.ensures ∙ same_windows c.args.windows.now 0 0
