use Rattle.std.proofs.Common.{ℕ, List, nat_lt, filter, ap, ◌∙◌}
use Rattle.convoy_sure.specs.Windows.{tables_by}
use Rattle.convoy_starts.proofs.setting.Setting.sure_later.Goals as goal

pub returns : goal.returns
returns c = c.those_later.ensures ∙ ap (λ (zs : List ℕ). filter (λ z. nat_lt c.args.tick ((tables_by c.args.self.now.windows.now).times.least_arrival z c.args.group)) zs) c.addressed_to.ensures.list
