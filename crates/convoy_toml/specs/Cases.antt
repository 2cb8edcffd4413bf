-- The cases of a text: in which of them who sends each message that several may send, and at which groups its target is asked about.
use Rattle.std.specs.Prelude.{ℕ, ◌+◌, ◌*◌, min, if◌then◌else◌, List, [], ◌∷◌, map, find, Option, Some, None, unwrap_or, Result, Ok, Err}
use Rattle.std.specs.Option.{option_map_or}
use Rattle.std.specs.Result.{result_ok}
use Rattle.std.specs.Str.{bytes_eq}
use Rattle.toml.specs.Data.{Members, as_table}
use Rattle.convoy_lines.specs.Results.{◌>>=◌}
use Rattle.convoy_draft.specs.declared.fault.Key.TheVariants.{Multicast}
use Rattle.convoy_draft.specs.declared.fault.ScenarioFault.{ScenarioFault}
use Rattle.convoy_toml.specs.declared.asked.Asked.{Asked}
use Rattle.convoy_toml.specs.declared.cases.TheConstants.{MOST_CASES}
use Rattle.convoy_toml.specs.Reading.{table_of_text}
use Rattle.convoy_toml.specs.Shape.{Written, WrittenMessage, WrittenScenario, WrittenTarget, all_groups, need_all, sender_count, shape_of_table}

-- a number of cases, of which no more than one above the most is counted
abbrev pub counted_cases : ℕ → ℕ
counted_cases cases = min cases (MOST_CASES + 1)

-- so many cases before messages, and of each as many as there are ways to choose who sends them
abbrev pub cases_from : ℕ → List Members → ℕ
cases_from cases [] = cases
cases_from cases (table ∷ tables) = cases_from (counted_cases (cases * sender_count table)) tables

-- how many cases a scenario's table has: 1 where each message has one sender
abbrev pub cases_of_table : Members → ℕ
cases_of_table table = cases_from 1 (unwrap_or (result_ok (need_all Multicast as_table table)) [])

-- how many cases a text has: 1 where it is no table
abbrev pub cases_of_text : List ℕ → ℕ
cases_of_text text = option_map_or cases_of_table (result_ok (table_of_text text)) 1

-- the groups that the first message of that name goes to
abbrev pub groups_of_message : WrittenScenario → List ℕ → List (List ℕ)
groups_of_message scenario name = option_map_or (λ message. message.to) (find (λ message. bytes_eq message.name name) scenario.messages) []

-- a message at each of the groups
abbrev pub at_groups : List ℕ → List (List ℕ) → List WrittenTarget
at_groups message groups = map (λ group. record { message = message; group = group }) groups

-- the targets, or that one where there are none
abbrev pub or_itself : List WrittenTarget → WrittenTarget → List WrittenTarget
or_itself [] target = target ∷ []
or_itself (first ∷ others) target = first ∷ others

-- the target of a scenario, or where it is asked about at all groups of its message one for each of them
abbrev pub targets_of_written : WrittenScenario → List WrittenTarget
targets_of_written scenario =
    or_itself
    (if bytes_eq scenario.target_group all_groups
    then at_groups scenario.target_message (groups_of_message scenario scenario.target_message)
    else [])
    (record { message = scenario.target_message; group = scenario.target_group })

-- the targets of a text, where that is asked
abbrev pub targets_of_text : Asked → List ℕ → Result (List WrittenTarget) ScenarioFault
targets_of_text asked text = do
  table ← table_of_text text
  written ← shape_of_table asked table
  Ok (targets_of_written written.scenario)
