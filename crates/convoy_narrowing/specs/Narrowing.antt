-- Windows of a region: those of its box, narrowed by its precedences. A stage that comes before another is in no later tick.
use Rattle.std.specs.Prelude.{ℕ, ◌+◌, min, Bool, ◌||◌, List}
use Rattle.std.specs.List.{fold}
use Rattle.convoy_draft.specs.declared.limits.TheConstants.{GREATEST_UNTIL}
use Rattle.convoy_scenario.specs.Scenario.{Scenario}
use Rattle.convoy_sim.specs.declared.moment.MomentKind.{MomentKind}
use Rattle.convoy_sim.specs.declared.moment.MomentKind.TheVariants.{Arrival, Commit}
use Rattle.convoy_sim.specs.Times.{Tick}
use Rattle.convoy_sure.specs.Windows.{Windows, tables_by, windows_of, with_arrival, with_arrival_by, with_commit, with_commit_by}
use Rattle.convoy_leads.specs.Closing.{closes_by_leads, closes_over}
use Rattle.convoy_regions.specs.declared.stage.Stage.{Stage}
use Rattle.convoy_regions.specs.Stages.{Precedence}
use Rattle.convoy_regions.specs.Regions.{Region}

-- the least and the greatest tick of the arrival of message m at group g, or of its commit there
abbrev pub least_by : MomentKind → Windows → ℕ → ℕ → Tick
least_by Arrival windows m g = (tables_by windows).times.least_arrival m g
least_by Commit windows m g = (tables_by windows).times.least_settling m g

abbrev pub greatest_by : MomentKind → Windows → ℕ → ℕ → Tick
greatest_by Arrival windows m g = (tables_by windows).times.greatest_arrival m g
greatest_by Commit windows m g = (tables_by windows).times.greatest_settling m g

-- the windows cut: that arrival or commit is at that tick or later; no message arrives past the last tick of all
abbrev pub since_by : MomentKind → Scenario → Windows → ℕ → ℕ → Tick → Windows
since_by Arrival scenario windows m g tick = with_arrival scenario windows m g (min (GREATEST_UNTIL + 65535) tick)
since_by Commit scenario windows m g tick = with_commit windows m g tick

-- the windows cut: it is by that tick
abbrev pub until_by : MomentKind → Scenario → Windows → ℕ → ℕ → Tick → Windows
until_by Arrival scenario windows m g tick = with_arrival_by scenario windows m g tick
until_by Commit scenario windows m g tick = with_commit_by scenario windows m g tick

-- the same of a stage
abbrev pub least_tick : Windows → Stage → Tick
least_tick windows stage = least_by stage.kind windows stage.message stage.group

abbrev pub greatest_tick : Windows → Stage → Tick
greatest_tick windows stage = greatest_by stage.kind windows stage.message stage.group

abbrev pub since : Scenario → Windows → Stage → Tick → Windows
since scenario windows stage tick = since_by stage.kind scenario windows stage.message stage.group tick

abbrev pub until : Scenario → Windows → Stage → Tick → Windows
until scenario windows stage tick = until_by stage.kind scenario windows stage.message stage.group tick

-- the windows narrowed by a precedence: its second stage is in no earlier tick than its first may be, and the first is in no later one than the second may be
abbrev pub narrowed_by : Scenario → Windows → Precedence → Windows
narrowed_by scenario windows pair =
    let later = since scenario windows pair.1 (least_tick windows pair.0) in
    until scenario later pair.0 (greatest_tick later pair.1)

-- the windows narrowed by each precedence in turn
abbrev pub narrowed_over : Scenario → Windows → List Precedence → Windows
narrowed_over scenario windows before = fold (narrowed_by scenario) windows before

-- the windows of a region: those of its box, narrowed twice by its precedences
abbrev pub narrowed : Scenario → Region → Windows
narrowed scenario region = narrowed_over scenario (narrowed_over scenario (windows_of scenario region.ranges) region.before) region.before

-- the windows of the region are closed for the latency
abbrev pub closes_narrowed : Scenario → Region → ℕ → Bool
closes_narrowed scenario region latency = closes_over scenario (narrowed scenario region) latency

-- the region is closed for the latency by leads, over the windows of its box or over its own: no member has a greater one
unfoldable pub closes_region : Scenario → Region → ℕ → Bool
closes_region scenario region latency = closes_by_leads scenario region.ranges latency || closes_narrowed scenario region latency
