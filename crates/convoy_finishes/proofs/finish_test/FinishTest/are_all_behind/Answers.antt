use Rattle.std.proofs.Common.{◌∙◌}
use Rattle.convoy_sure.specs.Windows.{tables_by}
use Rattle.convoy_leads.proofs.Rivals.{rival_known}
use Rattle.convoy_finishes.proofs.finish_test.FinishTest.are_all_behind.Goals as goal

pub is_behind-requires : goal.is_behind-requires
is_behind-requires c =
    rival_known c.args.self.now.instance.now (tables_by c.args.self.now.leads.windows).times c.numbers-rival-items.result.now c.loop-rival.rival-index
    (c.numbers-rival-items.ensures.value ∙ c.rivals-rivals.ensures) c.loop-rival-test.true
