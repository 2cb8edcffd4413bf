-- What is written of a scenario's ceilings.
use Rattle.std.specs.Prelude.{◌≡◌, ◌⊎◌, ℕ, ◌==◌, max, IsTrue, IsFalse, Bool, true, false, List, [], ◌∷◌, ◌++◌, filter, fold, map, Option, Some, None, is_none, is_some, unwrap_or, Ok, Err, codes}
use Rattle.std.specs.List.{flat_map, list_any}
use Rattle.convoy_draft.specs.declared.duration.TimeUnit.{TimeUnit}
use Rattle.convoy_draft.specs.declared.fault.ScenarioFault.TheVariants.{UnknownGroup}
use Rattle.convoy_scenario.specs.Scenario.{Scenario, message_numbers}
use Rattle.convoy_scenario.specs.WellFormed.{IsScenario}
use Rattle.convoy_outages.specs.declared.outage.Outage.{Outage}
use Rattle.convoy_outages.specs.Spans.{span_asked}
use Rattle.convoy_toml.specs.declared.asked.Asked.{Asked}
use Rattle.convoy_toml.specs.Reading.{deadlines_of_text, scenario_of_text_by}
use Rattle.convoy_tables.specs.declared.format.Format.{Format}
use Rattle.convoy_tables.specs.Formats.{table_text}
use Rattle.convoy_tables.specs.Tables.{Cell, Table, number, word}
use Rattle.convoy_commands.specs.declared.fault.Fault.{Fault}
use Rattle.convoy_commands.specs.declared.fault.Fault.TheVariants as faults
use Rattle.convoy_commands.specs.declared.done.Done.{Done}
use Rattle.convoy_commands.specs.Ceilings.{IsOutageRefused}
use Rattle.convoy_commands.specs.Measured.{measure_of_text}
use Rattle.convoy_commands.specs.Replies.{Rule}
use Rattle.convoy_commands.specs.Ends.{end_by}
use Rattle.convoy_commands.specs.Searches.{IsFaultyBy}
use Rattle.convoy_commands.specs.Verdicts.{deadline_at}
use Rattle.convoy_commands.specs.declared.verdict.Verdict.{Verdict}
use Rattle.convoy_survey.specs.declared.ceiled.Ceiled.{Ceiled}
use Rattle.convoy_survey.specs.declared.times.Times.{Times}
use Rattle.convoy_survey.specs.AtAll.{greatest_known}
use Rattle.convoy_survey.specs.Cells.{at_all_target_cells, target_cells, target_columns}
use Rattle.convoy_survey.specs.Ceilings.{AreCeiled, falls_short, has_group, is_unsought, upper_of}
use Rattle.convoy_survey.specs.Judgements.{is_beyond, is_open_by, judged_cells, judged_columns, verdict_at}
use Rattle.convoy_survey.specs.Times.{count_cell, time_cell, time_pair, times_of, where_told}

-- the names of the columns of the numbers, by whether outages are asked for
abbrev pub number_columns : Bool → Times → List Cell
number_columns false times =
    word (codes "ceiling") ∷ word (codes "attained") ∷ []
    ++ where_told times (word (codes "ceiling_time") ∷ word (codes "attained_time") ∷ word (codes "unit") ∷ [])
number_columns true times =
    word (codes "ceiling") ∷ word (codes "outage_ceiling") ∷ word (codes "attained") ∷ []
    ++ where_told times (word (codes "ceiling_time") ∷ word (codes "outage_ceiling_time") ∷ word (codes "attained_time") ∷ word (codes "unit") ∷ [])

-- the names of the columns
abbrev pub ceiling_columns : Bool → Times → List (Option ℕ) → List Cell
ceiling_columns with_outages times deadlines = target_columns ++ (number_columns with_outages times ++ judged_columns deadlines times)

-- a ceiling, that through outages where there is one, and the greatest latency that traffic was found to attain, in ticks and as times
abbrev pub numbers_cells : Times → ℕ → Option ℕ → Option ℕ → List Cell
numbers_cells times ceiling None attained = number ceiling ∷ count_cell attained ∷ time_pair times (Some ceiling) attained
numbers_cells times ceiling (Some through) attained =
    number ceiling ∷ number through ∷ count_cell attained
    ∷ (where_told times (time_cell times.measure (Some ceiling) ∷ []) ++ time_pair times (Some through) attained)

-- the cells of a row: what traffic may cost is at least the latency that it was found to attain, and at most the ceiling, or that through outages where these are asked for, and is judged so by the deadline of its message where there are deadlines
abbrev pub ceiling_cells : Times → List (Option ℕ) → Scenario → Ceiled → List Cell
ceiling_cells times deadlines scenario row =
    target_cells scenario row.message row.group
    ++ (numbers_cells times row.ceiling row.through row.attained ++ judged_cells deadlines times row.message row.attained (Some (upper_of row)))

-- the rows of a message
abbrev pub ceiled_of : ℕ → List Ceiled → List Ceiled
ceiled_of m rows = filter (λ row. row.message == m) rows

-- the greatest ceiling of a message's rows
abbrev pub greatest_ceiling : List Ceiled → ℕ
greatest_ceiling rows = fold max 0 (map (λ row. row.ceiling) rows)

-- the greatest ceiling through outages, where its rows have such
abbrev pub greatest_through : List Ceiled → Option ℕ
greatest_through rows = greatest_known (map (λ row. row.through) rows)

-- what no latency of them is above
abbrev pub greatest_upper : List Ceiled → ℕ
greatest_upper rows = unwrap_or (greatest_through rows) (greatest_ceiling rows)

-- the greatest latency that traffic was found to attain at one of its groups, where it was sought at all of them
abbrev pub greatest_attained : List Ceiled → Option ℕ
greatest_attained rows = greatest_known (map (λ row. row.attained) rows)

-- the cells of the row of a message at all the groups that it goes to, of which these are its rows
abbrev pub ceiling_at_all_cells : Times → List (Option ℕ) → Scenario → ℕ → List Ceiled → List Cell
ceiling_at_all_cells times deadlines scenario m rows =
    at_all_target_cells scenario m
    ++ (numbers_cells times (greatest_ceiling rows) (greatest_through rows) (greatest_attained rows)
    ++ judged_cells deadlines times m (greatest_attained rows) (Some (greatest_upper rows)))

-- the rows of the table for the rows of a message, if it has any: each of them, and below them the message at all its groups
abbrev pub ceiled_lines : Times → List (Option ℕ) → Scenario → List Ceiled → List (List Cell)
ceiled_lines times deadlines scenario [] = []
ceiled_lines times deadlines scenario (row ∷ rows) =
    map (ceiling_cells times deadlines scenario) (row ∷ rows) ++ ceiling_at_all_cells times deadlines scenario row.message (row ∷ rows) ∷ []

-- the rows of the table: those of one message after those of another, where they are at all groups, else each row alone
abbrev pub ceiling_lines : Bool → Times → List (Option ℕ) → Scenario → List Ceiled → List (List Cell)
ceiling_lines true times deadlines scenario rows = flat_map (λ m. ceiled_lines times deadlines scenario (ceiled_of m rows)) (message_numbers scenario)
ceiling_lines false times deadlines scenario rows = map (ceiling_cells times deadlines scenario) rows

-- the table of these rows, which are at all groups or at one, and with outages or without, by the deadlines of the messages
abbrev pub table_of_ceilings : Bool → Bool → Times → List (Option ℕ) → Scenario → List Ceiled → Table
table_of_ceilings at_all_groups with_outages times deadlines scenario rows = record {
  columns = ceiling_columns with_outages times deadlines;
  rows = ceiling_lines at_all_groups times deadlines scenario rows;
}

-- the verdict on a row, where its message has a deadline
abbrev pub ceiled_verdict : List (Option ℕ) → Ceiled → Option Verdict
ceiled_verdict deadlines row = verdict_at (deadline_at deadlines row.message) row.attained (Some (upper_of row))

-- the row is beyond the deadline of its message
abbrev pub is_ceiled_beyond : List (Option ℕ) → Ceiled → Bool
is_ceiled_beyond deadlines row = is_beyond (ceiled_verdict deadlines row)

-- the row is open: it is not known whether it keeps the deadline of its message, or where that has none its ceiling is not attained
abbrev pub is_ceiled_open : List (Option ℕ) → Ceiled → Bool
is_ceiled_open deadlines row = is_open_by (ceiled_verdict deadlines row) (falls_short row)

-- how the telling of these rows ends: one beyond its deadline comes before one for which memory ran out, and that before one that is open
abbrev pub end_of_ceilings : List (Option ℕ) → List Ceiled → Done
end_of_ceilings deadlines rows =
    end_by (list_any (is_ceiled_beyond deadlines) rows) (list_any is_unsought rows) (list_any (is_ceiled_open deadlines) rows)

-- THE HEADLINE. What is written is the table, in this format and with times in this unit where it is asked for, of the ceilings of all targets of the scenario that was read, where that is asked, and of each message at all its groups, or of those at the group that is named, with the ceilings through outages where these are asked for, judged by the deadlines of its messages, and the end is told by its rows.
pub record IsCeilingTable (format : Format) (outage : Option Outage) (asked : Asked) (unit : Option TimeUnit) (group : Option (List ℕ)) (text : List ℕ) (end : Done) (out : List ℕ) : Type 0 where
  pub scenario : Scenario
  pub span : Option ℕ
  pub rows : List Ceiled
  pub read : scenario_of_text_by asked text ≡ Ok scenario
  pub lawful : IsScenario scenario
  pub named : IsTrue (has_group scenario group)
  pub asked_for : span_asked outage scenario ≡ Ok span
  pub ceiled : AreCeiled span scenario group rows
  pub written : out
      ≡ table_text format
      (table_of_ceilings (is_none group) (is_some span) (times_of format (measure_of_text unit text scenario)) (deadlines_of_text asked text) scenario rows)
  pub ends : end ≡ end_of_ceilings (deadlines_of_text asked text) rows

-- The scenario was read, and none of its groups has the name of the one that is asked for.
pub record IsGroupUnknown (asked : Asked) (group : Option (List ℕ)) (text : List ℕ) (fault : Fault) : Type 0 where
  pub scenario : Scenario
  pub read : scenario_of_text_by asked text ≡ Ok scenario
  pub unknown : IsFalse (has_group scenario group)
  pub told : fault ≡ faults.Scenario UnknownGroup

-- what may be answered for a text where the ceilings of all targets are asked for, or of those at one group
abbrev pub CeilingsSay : Format → Option Outage → Asked → Option TimeUnit → Option (List ℕ) → Rule
CeilingsSay format outage asked unit group text (Ok (end, out)) = IsCeilingTable format outage asked unit group text end out
CeilingsSay format outage asked unit group text (Err fault) =
    IsFaultyBy asked text fault ⊎ (IsGroupUnknown asked group text fault ⊎ IsOutageRefused outage asked text fault)
