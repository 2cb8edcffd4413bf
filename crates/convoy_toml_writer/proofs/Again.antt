-- What is written of a scenario with a schedule is read as both.
use Rattle.std.proofs.Common.{◌≡◌, List, [], ◌∷◌, length, map, pos, Some, None, is_some, Result, Ok, refl, ap, ◌∙◌, arith}
use Rattle.convoy_lines.specs.Results.{◌>>=◌}
use Rattle.convoy_draft.specs.declared.fault.ScenarioFault.{ScenarioFault}
use Rattle.convoy_draft.specs.declared.time.Time.{Time}
use Rattle.convoy_draft.specs.declared.time.Time.TheVariants.{Ticks, Real}
use Rattle.convoy_draft.specs.Draft.{Draft}
use Rattle.convoy_scenario.specs.ScenarioLaws.{LinksAreFew, ScenariosHaveDrafts}
use Rattle.convoy_scenario.specs.Numbering.{scenario_of_draft}
use Rattle.convoy_scenario.specs.Naming.{draft_for}
use Rattle.convoy_scenario.specs.Scenario.{Message, Scenario}
use Rattle.convoy_packets.specs.ScheduleLaws.{RanksAreOneEach}
use Rattle.convoy_toml.specs.Deadlines.{deadlines_of_written}
use Rattle.convoy_toml.specs.Reading.{InputView, as_written, need_ranges, input_of_text, input_of_table, input_of_written}
use Rattle.convoy_toml.specs.Shape.{Written}
use Rattle.convoy_toml_writer.specs.Text.{toml_text}
use Rattle.convoy_toml_writer.specs.WrittenTextLaws.{TextsAreRead, input_for, ranks_for}
use Rattle.convoy_toml_writer.proofs.Drafted.{draft_same, none_written}
use Rattle.convoy_toml_writer.proofs.Parsed.{text_read}
use Rattle.convoy_toml_writer.proofs.Shaped.{document_shaped, written_least, written_scenario}
use Rattle.convoy_toml_writer.proofs.Writable.{tick_readable, tick_short, writable}

-- the laws of the crates below that it takes
pub record Grounds : Type 0 where
  pub drafts : ScenariosHaveDrafts
  pub links : LinksAreFew
  pub ranks : RanksAreOneEach

-- the range of each packet that travels is written: where time is real, by the least delay of what goes by no link
ranges_there : (time : Time) (draft : Draft) → draft.time ≡ time → need_ranges (is_some (written_least time)) draft ≡ Ok tt
ranges_there Ticks draft e = rw e refl
ranges_there Real draft e = rw e refl

pub texts_again : Grounds → TextsAreRead
texts_again grounds scenario schedule is assigned =
    by_messages scenario.multicasts refl
  where
    written : Written
    written = record { scenario = written_scenario scenario; schedule = Some (map pos schedule.delays); order = ranks_for scenario schedule.order }

    ranged : Draft → Scenario → Result Scenario ScenarioFault
    ranged draft s = need_ranges (is_some (written_least scenario.time)) draft >>= λ _. Ok s

    given : Scenario → Result InputView ScenarioFault
    given s = deadlines_of_written None (written_scenario scenario) >>= λ deadlines. Ok (record { scenario = s; schedule = Some (map pos schedule.delays); order = ranks_for scenario schedule.order })

    by_messages : (messages : List Message) → scenario.multicasts ≡ messages → input_of_text (toml_text scenario schedule) ≡ Ok (input_for scenario schedule)
    by_messages [] none = absurd (omega (arith, is.multicasts_low, ap length none))
    by_messages (message ∷ messages) some =
        let read = text_read scenario schedule (writable scenario schedule is assigned (grounds.ranks scenario schedule.order assigned.order).1) (tick_short scenario is) in
        let shaped = document_shaped scenario schedule message messages some (tick_readable scenario is) in
        let drafted = draft_same scenario is.delay_low (grounds.links scenario is) in
        let numbered = grounds.drafts scenario is in
        ap (λ r. r >>= input_of_table as_written) read ∙ ap (λ r. r >>= input_of_written as_written) shaped
        ∙ ap (λ r. r >>= (λ draft. scenario_of_draft draft >>= ranged draft) >>= given) drafted
        ∙ ap (λ r. r >>= ranged (draft_for scenario) >>= given) numbered
        ∙ ap (λ r. r >>= (λ _. Ok scenario) >>= given) (ranges_there scenario.time (draft_for scenario) refl)
        ∙ ap (λ r. r >>= (λ _. Ok (input_for scenario schedule))) (none_written scenario)
