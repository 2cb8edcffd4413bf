use Rattle.std.proofs.Common.{◌≡◌, ap, ◌∙◌}
use Rattle.convoy_draft.specs.declared.time.Time.{Time}
use Rattle.convoy_sure.specs.Windows.{tables_by}
use Rattle.convoy_starts.specs.Starts.{first_past, last_arrival, starts_before}
use Rattle.convoy_starts.specs.Tests.{is_less_by}
use Rattle.convoy_starts.proofs.setting.Setting.is_led_by.Goals as goal

pub returns : goal.returns
returns c =
    let scenario = c.args.self.now.scenario.now in
    let tables = tables_by c.args.self.now.windows.now in
    let sure = c.args.self.now.sure.now in
    c.is_less_elsewhere.ensures
    ∙ ap (is_less_by scenario tables.times sure) (c.deref.ensures.value ∙ c.in_ok-write_starts.ensures ∙ ap (starts_before scenario tables sure c.args.self.now.barring) end) where
      end : c.first_past-end.result ≡ first_past c.args.self.now.scenario.now.time (last_arrival c.args.self.now.scenario.now (tables_by c.args.self.now.windows.now).times)
      end =
          c.first_past-end.ensures
          ∙ ap (first_past c.args.self.now.time) c.last_arrival.ensures.value
          ∙ ap (λ (time : Time). first_past time (last_arrival c.args.self.now.scenario.now (tables_by c.args.self.now.windows.now).times)) c.args.self.now.kind
