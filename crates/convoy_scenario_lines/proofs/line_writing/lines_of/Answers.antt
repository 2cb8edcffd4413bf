use Rattle.std.proofs.Common.{◌≡◌, ◌++◌, ℕ, Option, ap, ◌∙◌, codes}
use Rattle.convoy_lines.specs.Texts.{ended, number_line, text_of}
use Rattle.convoy_draft.specs.declared.time.Time.{Time}
use Rattle.convoy_scenario_lines.specs.ScenarioLines.{time_lines, tick_lines}
use Rattle.convoy_scenario_lines.proofs.Texts.{in_pieces}
use Rattle.convoy_scenario_lines.proofs.line_writing.lines_of.Goals as goal

pub returns : goal.returns
returns c =
    let same : c.from.result ≡ c.args.scenario.now.delay = c.from.ensures ∙ c.delay.ensures.value in
    in_pieces c.args.version c.args.scenario.now _ _ _ _ _ _ _ _ _ c.new-text.ensures.items
    (c.in_ok-push_time.ensures ∙ ap (λ (t : Time). c.new-text.result.items ++ text_of (time_lines c.args.version t)) c.time.ensures.value)
    (c.in_ok-push_tick.ensures ∙ ap (λ (t : Option ℕ). c.push_time.new.text.items ++ text_of (tick_lines t)) c.tick.ensures.value)
    (c.in_ok-push_number_line.ensures ∙ ap (λ (n : ℕ). c.push_tick.new.text.items ++ ended (number_line (codes "delay") n)) same)
    c.in_ok-push_groups.ensures c.in_ok-push_places.ensures c.in_ok-push_links.ensures c.in_ok-push_multicasts.ensures c.in_ok-push_target.ensures
