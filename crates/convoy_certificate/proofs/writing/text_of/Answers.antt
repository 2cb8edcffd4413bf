use Rattle.std.proofs.Common.{◌++◌, ap, ◌∙◌}
use Rattle.convoy_lines.specs.Texts.{ended}
use Rattle.convoy_certificate.specs.declared.version.Version.{Version}
use Rattle.convoy_scenario_lines.specs.declared.version.Version.{Version as LinesVersion}
use Rattle.convoy_scenario_lines.specs.ScenarioLines.{scenario_text}
use Rattle.convoy_certificate.specs.Text.{lines_version, version_line}
use Rattle.convoy_certificate.proofs.Pieces.{in_pieces}
use Rattle.convoy_certificate.proofs.writing.text_of.Goals as goal

pub returns : goal.returns
returns c =
    in_pieces c.args.certificate.now _ _ _ _ c.scenario-scenario.ensures c.latency.ensures c.schedule.ensures.value c.nodes.ensures.value _ _ _ _ _ _
    (c.in_ok-text.ensures.items ∙ c.version_line.ensures ∙ ap (λ (v : Version). ended (version_line v)) c.version-version.ensures)
    (c.in_ok-write_lines.ensures.ok ∙ ap (λ (v : LinesVersion). c.in_ok-text.text.items ++ scenario_text v c.scenario-scenario.result.now) (c.of_lines.ensures ∙ ap lines_version c.version-version.ensures)) c.in_ok-push_number_line.ensures c.in_ok-push_schedule.ensures c.in_ok-push_nodes.ensures c.in_ok-extend_from_slice.ensures.items
