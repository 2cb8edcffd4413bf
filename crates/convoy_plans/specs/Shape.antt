-- What a plan's table has to hold beside a scenario's, key by key: what is written there, or the first key that is at fault.
use Rattle.std.specs.Borrow.{Bor}
use Rattle.std.specs.BTreeMap.{BTreeMap}
use Rattle.toml.specs.View.{table_view}
use Rattle.toml.specs.declared.value.Value.{Value}
use Rattle.std.specs.Prelude.{Vec, String, map, ℕ, Bool, true, ◌&&◌, if◌then◌else◌, List, [], ◌∷◌, Option, Some, None, option_map, option_and_then, ok_or, unwrap_or, codes, Result, Ok, Err}
use Rattle.std.specs.declared.alloc.Global.{Global}
use Rattle.std.specs.List.{list_any}
use Rattle.std.specs.Result.{result_map_both}
use Rattle.std.specs.Str.{bytes_eq}
use Rattle.toml.specs.Data.{Data, Members, no_members, member, get_member, as_str, as_array, as_table}
use Rattle.convoy_lines.specs.Results.{◌>>=◌}
use Rattle.convoy_draft.specs.declared.fault.Key.TheVariants.{Unknown}
use Rattle.convoy_draft.specs.declared.fault.ScenarioFault.{ScenarioFault}
use Rattle.convoy_draft.specs.declared.fault.ScenarioFault.TheVariants as scenario
use Rattle.convoy_toml.specs.declared.target.TargetKey.{TargetKey}
use Rattle.convoy_toml.specs.Shape.{all_of, as_names}
use Rattle.convoy_toml.specs.Slow.{scenario_without_slow}
use Rattle.convoy_plans.specs.declared.fault.PlanFault.{PlanFault}
use Rattle.convoy_plans.specs.declared.fault.PlanFault.TheVariants.{Scenario, Shape}
use Rattle.convoy_plans.specs.declared.fault.PlanKey.{PlanKey}
use Rattle.convoy_plans.specs.declared.fault.PlanKey.TheVariants.{Sites, Group, Name, Apart}
use Rattle.convoy_plans.specs.Plans.{Home, WrittenPlan}

-- the word for a key that only plans have
abbrev pub plan_word : PlanKey → List ℕ
plan_word Sites = codes "sites"
plan_word Group = codes "group"
plan_word Name = codes "name"
plan_word Apart = codes "apart"

-- a fault of the scenario is one of the plan
abbrev pub of_scenario : {A : Type 0} → Result A ScenarioFault → Result A PlanFault
of_scenario result = result_map_both (λ value. value) Scenario result

-- the value of a key that has to be there, of its kind
abbrev pub need : {A : Type 0} → PlanKey → (Data → Option A) → Members → Result A PlanFault
need key kind table = ok_or (option_and_then kind (get_member (plan_word key) table)) (Shape key)

-- the value of a key that may be absent, of its kind
abbrev pub wish : {A : Type 0} → PlanKey → (Data → Option A) → Members → Result (Option A) PlanFault
wish {A} key kind table = if_there (get_member (plan_word key) table) where
  if_there : Option Data → Result (Option A) PlanFault
  if_there None = Ok None
  if_there (Some d) = ok_or (option_map Some (kind d)) (Shape key)

-- the texts in an array
abbrev pub as_texts : Data → Option (List (List ℕ))
as_texts value = option_and_then (all_of as_str) (as_array value)

-- the tables in an array
abbrev pub as_tables : Data → Option (List Members)
as_tables value = option_and_then (all_of as_table) (as_array value)

-- the lists of texts in an array
abbrev pub as_lists : Data → Option (List (List (List ℕ)))
as_lists value = option_and_then (all_of as_texts) (as_array value)

-- each key of the table is one of these words
abbrev pub has_only : List (List ℕ) → Members → Bool
has_only words no_members = true
has_only words (member word d rest) = list_any (λ known. bytes_eq known word) words && has_only words rest

-- an unknown key is a fault
abbrev pub need_only : List (List ℕ) → Members → Result (Unit {0}) PlanFault
need_only words table = if has_only words table then Ok tt else Err (Scenario (scenario.Shape Unknown))

-- the words for the keys of a group's table
abbrev pub home_words : List (List ℕ)
home_words = codes "name" ∷ codes "sites" ∷ []

-- the words for the keys of a plan
abbrev pub plan_words : List (List ℕ)
plan_words =
    codes "time" ∷ codes "tick" ∷ codes "delay" ∷ codes "least" ∷ codes "groups" ∷ codes "multicast" ∷ codes "target" ∷ codes "link"
    ∷ codes "sites" ∷ codes "group" ∷ codes "apart" ∷ []

-- the table of a group
abbrev pub home_of_table : Members → Result Home PlanFault
home_of_table table = do
  name ← need Name as_str table
  sites ← need Sites as_names table
  _ ← need_only home_words table
  Ok (record { name = name; sites = sites })

-- the tables of the groups, unless one is at fault
abbrev pub homes_of : List Members → Result (List Home) PlanFault
homes_of [] = Ok []
homes_of (table ∷ tables) = do
  home ← home_of_table table
  homes ← homes_of tables
  Ok (home ∷ homes)

-- the lists of groups that are to be apart; none where the key is absent
abbrev pub apart_of_table : Members → Result (List (List (List ℕ))) PlanFault
apart_of_table table = wish Apart as_lists table >>= λ lists. Ok (unwrap_or lists [])

-- what is written in a plan's table, which has no other key
abbrev pub plan_of_table : TargetKey → Members → Result WrittenPlan PlanFault
plan_of_table key table = do
  scenario ← of_scenario (scenario_without_slow key table)
  sites ← need Sites as_texts table
  tables ← need Group as_tables table
  homes ← homes_of tables
  apart ← apart_of_table table
  _ ← need_only plan_words table
  Ok (record { scenario = scenario; sites = sites; homes = homes; apart = apart })

-- how a call's answer is seen: a vector as the list that it holds
abbrev pub listed : {A E : Type 0} → Result (Vec A Global) E → Result (List A) E
listed (Ok xs) = Ok xs.items
listed (Err fault) = Err fault

-- and a vector of tables as the list of their members
abbrev pub tables_listed : {E : Type 0} → Result (Vec (Bor (BTreeMap (String Global) Value)) Global) E → Result (List Members) E
tables_listed (Ok tables) = Ok (map (λ t. table_view t.now) tables.items)
tables_listed (Err fault) = Err fault
