-- Scenarios that differ from another in the range of one way.
use Rattle.std.specs.Prelude.{ℕ, ◌+◌, ◌-◌, max, pos, if◌then◌else◌, map, Result}
use Rattle.convoy_draft.specs.declared.fault.ScenarioFault.{ScenarioFault}
use Rattle.convoy_draft.specs.Draft.{Draft, DraftLink}
use Rattle.convoy_draft.specs.Limits.{greatest_delay}
use Rattle.convoy_scenario.specs.Naming.{draft_for, draft_link}
use Rattle.convoy_scenario.specs.Numbering.{scenario_of_draft}
use Rattle.convoy_scenario.specs.Scenario.{Scenario, own_stamps_take_time, range_between}
use Rattle.convoy_budget.specs.declared.kinds.Side.{Side}
use Rattle.convoy_budget.specs.declared.kinds.Side.TheVariants.{Later, Earlier}
use Rattle.convoy_budget.specs.declared.kinds.Way.{Way}
use Rattle.convoy_budget.specs.declared.kinds.Widening.{Widening}
use Rattle.convoy_budget.specs.Ways.{all_ways, is_same_way}

-- the least and the greatest delay of a way
abbrev pub range_of_way : Scenario → Way → ℕ × ℕ
range_of_way scenario way = range_between scenario way.sender way.to

-- the link of another way, where the one has that range and the others have theirs; each is for stamps as it is
abbrev pub link_on : Scenario → Way → ℕ × ℕ → Way → DraftLink
link_on scenario way range other = with_its (if is_same_way way other then range else range_of_way scenario other) where
  with_its : ℕ × ℕ → DraftLink
  with_its its = draft_link scenario (record { sender = other.sender; to = other.to; least = its.0; most = its.1; stamps = own_stamps_take_time scenario other.sender other.to })

-- the scenario by names, in which each way has a link with its range, that one with this range, and D is no less than its most: so no other way gets another range
abbrev pub ranged_draft : Scenario → Way → ℕ × ℕ → Draft
ranged_draft scenario way range = record {
  time = (draft_for scenario).time;
  tick = (draft_for scenario).tick;
  delay = pos (max scenario.delay range.1);
  groups = (draft_for scenario).groups;
  places = (draft_for scenario).places;
  links = map (link_on scenario way range) (all_ways scenario);
  messages = (draft_for scenario).messages;
  target_message = (draft_for scenario).target_message;
  target_group = (draft_for scenario).target_group;
}

-- the scenario with this range of the way, and all others as they are
abbrev pub with_range : Scenario → Way → ℕ × ℕ → Result Scenario ScenarioFault
with_range scenario way range = scenario_of_draft (ranged_draft scenario way range)

-- a range of that breadth in place of this one: from its least on, or up to its most
abbrev pub range_at : Side → ℕ × ℕ → ℕ → ℕ × ℕ
range_at Later range breadth = (range.0, range.0 + breadth)
range_at Earlier range breadth = (range.1 - breadth, range.1)

-- the breadth of the widest such range, where the greatest delay that may be written is so much
abbrev pub breadth_at_end : Side → ℕ → ℕ × ℕ → ℕ
breadth_at_end Later greatest range = greatest - range.0
breadth_at_end Earlier greatest range = range.1 - 1

-- the breadth of the range as it is
abbrev pub breadth_of : ℕ × ℕ → ℕ
breadth_of range = range.1 - range.0

-- the scenario in which the range of the way has that breadth
abbrev pub widened : Scenario → Widening → ℕ → Result Scenario ScenarioFault
widened scenario widening breadth =
    with_range scenario widening.way (range_at widening.side (range_of_way scenario widening.way) breadth)

-- the greatest breadth that may be written for it
abbrev pub widest : Scenario → Widening → ℕ
widest scenario widening = breadth_at_end widening.side (greatest_delay scenario.time) (range_of_way scenario widening.way)
