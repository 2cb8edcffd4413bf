use Rattle.std.proofs.Common.{ℕ, List, ap, ◌∙◌}
use Rattle.convoy_sure.specs.SureLeads.{lead_at}
use Rattle.convoy_starts.specs.Starts.{window}
use Rattle.convoy_starts.proofs.setting.Setting.clock_alone.Goals as goal

pub returns-clause-value : goal.returns-clause-value
returns-clause-value c =
    c.window.ensures.value
    ∙ ap (λ (zs : List ℕ). window c.args.self.now.sure.now.time (λ z. lead_at c.args.self.now.sure.now.leads z c.args.group) zs 0) c.arrivals_since-arrivals.ensures
