use Rattle.std.proofs.Common.{rules}
use Rattle.convoy_around.proofs.AroundLemmas.{drafted}
use Rattle.convoy_around.proofs.making.draft_around.Goals as goal

pub returns-clause-value : goal.returns-clause-value
returns-clause-value c = drafted c.args.span c.args.scenario.now c.args.message c.args.group c.requires.known _ (search rules)
