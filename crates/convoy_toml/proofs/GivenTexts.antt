-- What is read of a text is a well-formed scenario, and has a span where all is asked around its target.
use Rattle.std.proofs.Common.{◌≡◌, ℕ, Bool, true, false, cond, List, Option, Some, None, Result, Ok, Err, is_some, refl, ap, subst, ◌∙◌}
use Rattle.convoy_lines.specs.Results.{◌>>=◌}
use Rattle.convoy_draft.specs.declared.fault.ScenarioFault.{ScenarioFault}
use Rattle.convoy_draft.specs.declared.fault.ScenarioFault.TheVariants.{OverLimit}
use Rattle.convoy_draft.specs.declared.fault.Limit.TheVariants.{Until}
use Rattle.convoy_draft.specs.Draft.{Draft}
use Rattle.convoy_scenario.specs.ScenarioLaws.{DraftsGiveScenarios}
use Rattle.convoy_scenario.specs.Numbering.{scenario_of_draft}
use Rattle.convoy_scenario.specs.Scenario.{Scenario}
use Rattle.convoy_scenario.specs.WellFormed.{IsScenario}
use Rattle.convoy_around.specs.AroundLaws.{AroundIsScenario}
use Rattle.convoy_around.specs.Around.{around, around_at, is_span}
use Rattle.convoy_toml.specs.declared.around.Around.{Around}
use Rattle.convoy_toml.specs.declared.around.Around.TheVariants.{Greatest, By}
use Rattle.convoy_toml.specs.declared.asked.Asked.{Asked}
use Rattle.convoy_toml.specs.Around.{asked_around, span_of}
use Rattle.convoy_toml.specs.Deadlines.{deadlines_of_written}
use Rattle.convoy_toml.specs.Reading.{InputView, table_of_text, need_ranges, input_of_written, input_of_table, input_of_text_by, scenario_of_input, scenario_of_text_by, scenario_of_written}
use Rattle.convoy_toml.specs.Shape.{Written, WrittenScenario}
use Rattle.convoy_toml.specs.Slow.{written_of_table}
use Rattle.convoy_toml.specs.TextLaws.{HasSpan, TextsHaveSpans}
use Rattle.convoy_toml.specs.Times.{draft_of_written}

after_ok : {A B : Type 0} (r : Result A ScenarioFault) (f : A → Result B ScenarioFault) (y : B) → (r >>= f) ≡ Ok y → (x : A) × (r ≡ Ok x) × (f x ≡ Ok y)
after_ok (Ok x) f y e = (x, refl, e)
after_ok (Err fault) f y e = absurd cc

input_has : (given : Result InputView ScenarioFault) (scenario : Scenario) → scenario_of_input given ≡ Ok scenario → (input : InputView) × (given ≡ Ok input) × (input.scenario ≡ scenario)
input_has (Ok input) scenario e =
    let is : ◌≡◌ {A = Result Scenario ScenarioFault} (Ok input.scenario) (Ok scenario) = e in
    (input, refl, cc)
input_has (Err fault) scenario e = absurd cc

-- what is given where this is written, and this is asked about
abbrev input_about : Written → Scenario → Result InputView ScenarioFault
input_about written scenario = Ok (record { scenario = scenario; schedule = written.schedule; order = written.order })

-- what is given where this is written, and the scenario is this
abbrev input_of_scenario : Asked → Written → Scenario → Result InputView ScenarioFault
input_of_scenario asked written scenario =
    deadlines_of_written asked.at_most written.scenario >>= λ deadlines. asked_around asked.around scenario >>= input_about written

-- the scenario of a draft, where ranges are written
abbrev ranged : Bool → Draft → Scenario → Result Scenario ScenarioFault
ranged has_least draft scenario = need_ranges has_least draft >>= λ ranges. Ok scenario

of_draft : (drafts : DraftsGiveScenarios) (has_least : Bool) (draft : Draft) (scenario : Scenario) → (scenario_of_draft draft >>= ranged has_least draft) ≡ Ok scenario → IsScenario scenario
of_draft drafts has_least draft scenario e =
    let given = after_ok (scenario_of_draft draft) (ranged has_least draft) scenario e in
    let there = after_ok (need_ranges has_least draft) (λ ranges. Ok given.0) scenario given.2 in
    let is : ◌≡◌ {A = Result Scenario ScenarioFault} (Ok given.0) (Ok scenario) = there.2 in
    let same : given.0 ≡ scenario = cc in
    subst IsScenario same (drafts draft given.0 given.1)

of_written : (drafts : DraftsGiveScenarios) (written : WrittenScenario) (scenario : Scenario) → scenario_of_written written ≡ Ok scenario → IsScenario scenario
of_written drafts written scenario e =
    let draft = after_ok (draft_of_written written) (λ d. scenario_of_draft d >>= ranged (is_some written.least) d) scenario e in
    of_draft drafts (is_some written.least) draft.0 scenario draft.2

-- the scenario around a target is well formed
around_formed : (arounds : AroundIsScenario) (span : ℕ) (scenario made : Scenario) → IsScenario scenario → around span scenario ≡ Ok made → IsScenario made
around_formed arounds span scenario made is e = by_span (is_span span) refl e where
  by_span : (b : Bool) → is_span span ≡ b
      → ◌≡◌ {A = Result Scenario ScenarioFault} (cond b (Ok (around_at span scenario scenario.target_message scenario.target_group)) (Err (OverLimit Until))) (Ok made)
      → IsScenario made
  by_span true short e =
      let same : around_at span scenario scenario.target_message scenario.target_group ≡ made = cc in
      subst IsScenario same (arounds span scenario scenario.target_message scenario.target_group is short is.target is.addressed)
  by_span false long e = absurd cc

about_formed : (arounds : AroundIsScenario) (asked : Option Around) (scenario made : Scenario) → IsScenario scenario → asked_around asked scenario ≡ Ok made → IsScenario made
about_formed arounds None scenario made is e = let same : scenario ≡ made = cc in subst IsScenario same is
about_formed arounds (Some by) scenario made is e =
    let span = after_ok (span_of scenario by) (λ n. around n scenario) made e in
    around_formed arounds span.0 scenario made is span.2

-- ---- its span
-- around the target a scenario has the ticks of the same spans
span_stays : (span : ℕ) (scenario : Scenario) (m g : ℕ) (by : Around) → span_of (around_at span scenario m g) by ≡ span_of scenario by
unfolding around_at
span_stays span scenario m g Greatest = refl
span_stays span scenario m g (By time) = refl

around_has : (span : ℕ) (scenario made : Scenario) (by : Around) → span_of scenario by ≡ Ok span → around span scenario ≡ Ok made → HasSpan made by
around_has span scenario made by told e = by_span (is_span span) refl e where
  by_span : (b : Bool) → is_span span ≡ b
      → ◌≡◌ {A = Result Scenario ScenarioFault} (cond b (Ok (around_at span scenario scenario.target_message scenario.target_group)) (Err (OverLimit Until))) (Ok made)
      → HasSpan made by
  by_span true short e =
      let same : around_at span scenario scenario.target_message scenario.target_group ≡ made = cc in
      let stays : span_of made by ≡ span_of scenario by =
      subst (λ (s : Scenario). span_of s by ≡ span_of scenario by) same (span_stays span scenario scenario.target_message scenario.target_group by) in
      record { span = span; is = stays ∙ told; short = short }
  by_span false long e = absurd cc

about_has : (asked : Option Around) (scenario made : Scenario) (by : Around) → asked ≡ Some by → asked_around asked scenario ≡ Ok made → HasSpan made by
about_has asked scenario made by is e =
    let around_it : asked_around (Some by) scenario ≡ Ok made = subst (λ (a : Option Around). asked_around a scenario ≡ Ok made) is e in
    let span = after_ok (span_of scenario by) (λ n. around n scenario) made around_it in
    around_has span.0 scenario made by span.1 span.2

-- ---- what a text gives
-- what is given where this is written is about a scenario that is made of the one that is written
record IsAbout (asked : Asked) (input : InputView) : Type 0 where
  plain : Scenario
  written : Written
  told : scenario_of_written written.scenario ≡ Ok plain
  about : asked_around asked.around plain ≡ Ok input.scenario

about_input : (asked : Asked) (text : List ℕ) (input : InputView) → input_of_text_by asked text ≡ Ok input → IsAbout asked input
about_input asked text input e =
    let table = after_ok (table_of_text text) (input_of_table asked) input e in
    let written = after_ok (written_of_table asked table.0) (input_of_written asked) input table.2 in
    let given = after_ok (scenario_of_written written.0.scenario) (input_of_scenario asked written.0) input written.2 in
    let timed = after_ok (deadlines_of_written asked.at_most written.0.scenario) (λ deadlines. asked_around asked.around given.0 >>= input_about written.0) input given.2 in
    let about = after_ok (asked_around asked.around given.0) (input_about written.0) input timed.2 in
    let is : ◌≡◌ {A = Result InputView ScenarioFault} (Ok (record { scenario = about.0; schedule = written.0.schedule; order = written.0.order })) (Ok input) = about.2 in
    let same : record { scenario = about.0; schedule = written.0.schedule; order = written.0.order } ≡ input = cc in
    record {
      plain = given.0;
      written = written.0;
      told = given.1;
      about = about.1 ∙ ap (λ (i : InputView). Ok i.scenario) same;
    }

pub has_span : TextsHaveSpans
has_span asked text scenario by e around_it =
    let has = input_has (input_of_text_by asked text) scenario e in
    let is = about_input asked text has.0 has.1 in
    subst (λ (s : Scenario). HasSpan s by) has.2 (about_has asked.around is.plain has.0.scenario by around_it is.about)

of_input : (drafts : DraftsGiveScenarios) (arounds : AroundIsScenario) (asked : Asked) (text : List ℕ) (input : InputView) → input_of_text_by asked text ≡ Ok input → IsScenario input.scenario
of_input drafts arounds asked text input e =
    let is = about_input asked text input e in
    about_formed arounds asked.around is.plain input.scenario (of_written drafts is.written.scenario is.plain is.told) is.about

pub of_text : (drafts : DraftsGiveScenarios) (arounds : AroundIsScenario) (asked : Asked) (text : List ℕ) (scenario : Scenario) → scenario_of_text_by asked text ≡ Ok scenario → IsScenario scenario
of_text drafts arounds asked text scenario e =
    let has = input_has (input_of_text_by asked text) scenario e in
    subst IsScenario has.2 (of_input drafts arounds asked text has.0 has.1)
