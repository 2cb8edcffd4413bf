use Rattle.std.proofs.Common.{◌∙◌}
use Rattle.convoy_sure.specs.Windows.{tables_by}
use Rattle.convoy_leads.proofs.Rivals.{rival_known}
use Rattle.convoy_leads.proofs.facts.Facts.first_open.Goals as goal

pub open_late-requires-clause-message : goal.open_late-requires-clause-message
open_late-requires-clause-message c =
    rival_known c.args.self.now.scenario.now (tables_by c.args.windows.now).times c.numbers-n-items.result.now c.loop-n.n-index
    (c.numbers-n-items.ensures.value ∙ c.rivals-rivals.ensures) c.loop-n-test.true
