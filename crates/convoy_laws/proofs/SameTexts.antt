-- Two texts that say the same, the one in finer ticks: their scenarios have the same greatest latency in time.
use Rattle.std.proofs.Common.{◌≡◌, ℕ, ◌*◌, ◌≤◌, leb-true, nat_le, ◌&&◌, true, List, Option, Some, None, is_some, option_map, ℤ, Result, Ok, Err, refl, sym, ap, subst, ◌∙◌}
use Rattle.std.proofs.lemmas.Bool.{and_parts}
use Rattle.convoy_lines.specs.Results.{◌>>=◌}
use Rattle.convoy_draft.specs.declared.fault.ScenarioFault.{ScenarioFault}
use Rattle.convoy_draft.specs.declared.fault.ScenarioFault.TheVariants.{NoRange}
use Rattle.convoy_draft.specs.declared.duration.TheConstants.{LONGEST_DURATION, MOST_UNITS}
use Rattle.convoy_draft.specs.declared.time.Time.{Time}
use Rattle.convoy_draft.specs.declared.time.Time.TheVariants.{Real}
use Rattle.convoy_draft.specs.Checks.{checks, judge}
use Rattle.convoy_draft.specs.Draft.{Draft}
use Rattle.convoy_draft.specs.Durations.{count_of}
use Rattle.convoy_draft.specs.Limits.{is_tick}
use Rattle.convoy_scenario.specs.ScenarioLaws.{DraftsGiveScenarios, OrderKeepsRanges, OrderKeepsWhatTakesTime}
use Rattle.convoy_scenario.specs.Numbering.{scenario_of, scenario_of_draft}
use Rattle.convoy_scenario.specs.Scenario.{Scenario}
use Rattle.convoy_scenario.specs.Room.{has_room}
use Rattle.convoy_scenario.proofs.GivenScenarios.{given as given_by, passed}
use Rattle.convoy_scenario.proofs.NumberedLemmas.{passes}
use Rattle.convoy_toml.specs.Reading.{InputView, as_written, input_of_table, input_of_text, input_of_written, need_ranges, scenario_of_input, scenario_of_text, scenario_of_written, table_of_text}
use Rattle.convoy_toml.specs.Deadlines.{deadlines_of_written}
use Rattle.convoy_toml.specs.Shape.{Written, WrittenScenario}
use Rattle.convoy_toml.specs.Slow.{written_of_table}
use Rattle.convoy_toml.specs.Times.{draft_of_written, need_least, tick_of}
use Rattle.convoy_toml.specs.Ways.{has_ranges, with_least}
use Rattle.convoy_toml.proofs.FinerDrafts.{after_ok, drafts_finer, finer_ticks, of_tick, plain_draft, same_ok, tick_kept}
use Rattle.convoy_laws.specs.FinerTexts.{GreatestOfFinerTexts, HaveSameGreatest, written_of_text}
use Rattle.convoy_laws.specs.FinerTicks.{GreatestInFinerTicks, GreatestIsWhole, ScenariosAreRoundable}
use Rattle.convoy_laws.proofs.FinerScenarios.{AreRead, finer_draft, is_finer, least_keeps, same_ranges, when_ok}

-- the laws that it takes
pub record Grounds : Type 0 where
  pub in_finer : GreatestInFinerTicks
  pub in_whole : GreatestIsWhole
  pub keeps : OrderKeepsRanges
  pub takes : OrderKeepsWhatTakesTime
  pub drafts : DraftsGiveScenarios
  pub roundable : ScenariosAreRoundable

-- ---- what is read of a text

-- the draft from which a text's scenario is made
record IsGiven (written : WrittenScenario) (scenario : Scenario) : Type 0 where
  draft : Draft
  drafted : draft_of_written written ≡ Ok draft
  made : scenario_of_draft draft ≡ Ok scenario
  ranged : has_ranges (is_some written.least) draft ≡ true

input_has : (given : Result InputView ScenarioFault) (scenario : Scenario) → scenario_of_input given ≡ Ok scenario → (input : InputView) × (given ≡ Ok input) × (input.scenario ≡ scenario)
input_has (Ok input) scenario e = (input, refl, same_ok input.scenario scenario e)
input_has (Err fault) scenario e = absurd cc

of_written : (written : Written) (scenario : Scenario) → scenario_of_input (input_of_written as_written written) ≡ Ok scenario → IsGiven written.scenario scenario
of_written written scenario e =
    let view : Scenario → InputView = λ s. record { scenario = s; schedule = written.schedule; order = written.order } in
    let ranges : Draft → Result (Unit {0}) ScenarioFault = need_ranges (is_some written.scenario.least) in
    let dated : Scenario → Result InputView ScenarioFault = λ s. deadlines_of_written None written.scenario >>= λ deadlines. Ok (view s) in
    let input = input_has (input_of_written as_written written) scenario e in
    let whole = after_ok (scenario_of_written written.scenario) dated input.0 input.1 in
    let draft = after_ok (draft_of_written written.scenario) (λ d. scenario_of_draft d >>= λ s. ranges d >>= λ u. Ok s) whole.0 whole.1 in
    let made = after_ok (scenario_of_draft draft.0) (λ s. ranges draft.0 >>= λ u. Ok s) whole.0 draft.2 in
    let ranged = after_ok (ranges draft.0) (λ u. Ok made.0) whole.0 made.2 in
    let kept = after_ok (deadlines_of_written None written.scenario) (λ deadlines. Ok (view whole.0)) input.0 whole.2 in
    let same : made.0 ≡ scenario = same_ok made.0 whole.0 ranged.2 ∙ (ap (λ (i : InputView). i.scenario) (same_ok (view whole.0) input.0 kept.2) ∙ input.2) in
    record { draft = draft.0; drafted = draft.1; made = made.1 ∙ ap Ok same; ranged = when_ok (has_ranges (is_some written.scenario.least) draft.0) NoRange ranged.0 ranged.1 }

given : (text : List ℕ) (written : Written) (scenario : Scenario) → written_of_text text ≡ Ok written → scenario_of_text text ≡ Ok scenario → IsGiven written.scenario scenario
given text written scenario is e =
    let table = after_ok (table_of_text text) (written_of_table as_written) written is in
    let same : input_of_text text ≡ input_of_written as_written written = ap (λ r. r >>= input_of_table as_written) table.1 ∙ ap (λ r. r >>= input_of_written as_written) table.2 in
    of_written written scenario (ap scenario_of_input (sym same) ∙ e)

-- ---- the two scenarios

tick_some : (time : Time) (tick : ℕ) → time ≡ Real → is_tick time (Some tick) ≡ true → 1 ≤ tick
tick_some time tick real e =
    let in_real : is_tick Real (Some tick) ≡ true = rw real at e in
    leb-true 1 tick (and_parts (nat_le 1 tick) (nat_le tick LONGEST_DURATION) (and_parts (nat_le 1 tick && nat_le tick LONGEST_DURATION) (nat_le (count_of tick) MOST_UNITS) in_real).0).0

-- what is proved of drafts that are made by a least delay of what goes by no link holds of what they give
same_greatest : (grounds : Grounds) (times tick : ℕ) (plain : Draft) (least : Option ℤ) → (are : AreRead times tick plain least)
    → HaveSameGreatest times (scenario_of (record plain { links = (with_least least plain).links })) (scenario_of (record (finer_draft times tick plain) { links = (with_least (option_map (finer_ticks times) least) (finer_draft times tick plain)).links }))
same_greatest grounds times tick plain least are =
    let draft : Draft = record plain { links = (with_least least plain).links } in
    let scenario = scenario_of draft in
    let fine_draft : Draft = record (finer_draft times tick plain) { links = (with_least (option_map (finer_ticks times) least) (finer_draft times tick plain)).links } in
    let finer = scenario_of fine_draft in
    let made : scenario_of_draft draft ≡ Ok scenario = given_by draft are.holds are.room in
    let well = grounds.roundable scenario (grounds.drafts draft scenario made) in
    let is = is_finer grounds.keeps grounds.takes times tick plain least are in
    let same = same_ranges grounds.keeps grounds.takes times tick plain least are in
    record {
      in_finer = λ latency. grounds.in_finer times scenario finer latency well are.real are.real is same;
      in_whole = λ greatest. grounds.in_whole times scenario finer greatest well are.real are.real is same;
    }

-- the draft in ticks of a length that is known
in_ticks : (written : WrittenScenario) (tick : Option ℕ) (draft : Draft) → tick_of written ≡ Ok tick → draft_of_written written ≡ Ok draft → of_tick written tick ≡ Ok draft
in_ticks written tick draft counts drafted = ap (λ r. r >>= of_tick written) (sym counts) ∙ drafted

-- a draft with the links that are added to another is that one but for its links
only_links : (least : Option ℤ) (plain draft : Draft) → draft ≡ with_least least plain → draft ≡ record plain { links = (with_least least plain).links }
only_links least plain draft is = is ∙ least_keeps least plain

pub texts_same : Grounds → GreatestOfFinerTexts
texts_same grounds times text finer_text scenario finer say e f real =
    let written = say.written.scenario in
    let tick = say.tick in
    let here = given text say.written scenario say.is_written e in
    let there = given finer_text say.finer_written finer say.finer_is_written f in
    let ticked = in_ticks written (Some (times * tick)) here.draft say.counts here.drafted in
    let finer_ticked = in_ticks say.finer_written.scenario (Some tick) there.draft say.finer_counts there.drafted in
    let also : of_tick written (Some tick) ≡ Ok there.draft = subst (λ (w : WrittenScenario). of_tick w (Some tick) ≡ Ok there.draft) say.same finer_ticked in
    let p = passed (judge (checks here.draft)) (scenario_of here.draft) scenario here.made in
    let q = passed (judge (checks there.draft)) (scenario_of there.draft) finer there.made in
    let kept = tick_kept written (Some (times * tick)) here.draft ticked in
    let finer_kept = tick_kept written (Some tick) there.draft also in
    let draft_real : here.draft.time ≡ Real = ap (λ (s : Scenario). s.time) p.1 ∙ real in
    let written_real : written.time ≡ Real = sym kept.0 ∙ draft_real in
    let there_real : there.draft.time ≡ Real = finer_kept.0 ∙ written_real in
    let has_tick : is_tick there.draft.time (Some tick) ≡ true = ap (is_tick there.draft.time) (sym finer_kept.1) ∙ (passes there.draft q.0).tick in
    let lasts = tick_some there.draft.time tick there_real has_tick in
    let are = drafts_finer written times tick here.draft there.draft written_real say.some lasts say.lasting ticked also in
    let made = are.made in
    let plain = plain_draft written (Some (times * tick)) made.delay made.links made.messages in
    let more = option_map (finer_ticks times) made.least in
    let draft_is : here.draft ≡ record plain { links = (with_least made.least plain).links } = only_links made.least plain here.draft made.is in
    let finer_is : there.draft ≡ record (finer_draft times tick plain) { links = (with_least more (finer_draft times tick plain)).links } = only_links more (finer_draft times tick plain) there.draft are.finer_is in
    let ranged : has_ranges (is_some made.least) (with_least made.least plain) ≡ true =
    subst (λ (d : Draft). has_ranges (is_some made.least) d ≡ true) made.is (made.ranged here.ranged) in
    let read : AreRead times tick plain made.least = record {
      some = say.some;
      real = written_real;
      low = subst (λ (t : Time). need_least t made.delay made.least ≡ Ok tt) written_real made.within;
      fine_low = subst (λ (t : Time). need_least t (finer_ticks times made.delay) more ≡ Ok tt) written_real are.finer_within;
      ranged = ranged;
      holds = subst (λ (d : Draft). judge (checks d) ≡ Ok tt) draft_is p.0;
      fine_holds = subst (λ (d : Draft). judge (checks d) ≡ Ok tt) finer_is q.0;
      room = subst (λ (d : Draft). has_room (scenario_of d) ≡ true) draft_is p.2;
      fine_room = subst (λ (d : Draft). has_room (scenario_of d) ≡ true) finer_is q.2;
    } in
    let both = same_greatest grounds times tick plain made.least read in
    let first = subst (λ (d : Draft). HaveSameGreatest times (scenario_of d) (scenario_of (record (finer_draft times tick plain) { links = (with_least more (finer_draft times tick plain)).links }))) (sym draft_is) both in
    let second = subst (λ (d : Draft). HaveSameGreatest times (scenario_of here.draft) (scenario_of d)) (sym finer_is) first in
    subst (λ (s : Scenario). HaveSameGreatest times scenario s) q.1 (subst (λ (s : Scenario). HaveSameGreatest times s (scenario_of there.draft)) p.1 second)
