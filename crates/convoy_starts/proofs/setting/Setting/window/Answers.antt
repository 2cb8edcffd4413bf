use Rattle.std.proofs.Common.{ℕ, List, ap, ◌∙◌}
use Rattle.convoy_sure.specs.SureLeads.{lead_at}
use Rattle.convoy_starts.specs.Starts.{window}
use Rattle.convoy_starts.proofs.setting.Setting.window.Goals as goal

pub returns-clause-value : goal.returns-clause-value
returns-clause-value c =
    let f = λ (leads zs : List ℕ) (time : ℕ). window time (λ z. lead_at leads z c.args.group) zs c.args.value in
    c.window.ensures.value
    ∙ ap (λ (leads : List ℕ). f leads c.numbers.result.now c.time.result) c.leads.ensures.leads
    ∙ ap (λ (zs : List ℕ). f c.args.self.now.sure.now.leads zs c.time.result) c.numbers.ensures.value
    ∙ ap (λ (time : ℕ). f c.args.self.now.sure.now.leads c.args.messages.now time) c.time.ensures.value
