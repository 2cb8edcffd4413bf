-- What a workflow text has beside what a scenario text has too, key by key: what is written there, or the first key that is at fault.
use Rattle.std.specs.Borrow.{Bor}
use Rattle.std.specs.BTreeMap.{BTreeMap}
use Rattle.std.specs.Prelude.{Vec, String, map, ℕ, Bool, true, ◌&&◌, if◌then◌else◌, List, [], ◌∷◌, Option, Some, None, is_some, option_map, option_and_then, ok_or, unwrap_or, codes, Result, Ok, Err}
use Rattle.std.specs.declared.alloc.Global.{Global}
use Rattle.std.specs.List.{list_any}
use Rattle.std.specs.Result.{result_map_both}
use Rattle.std.specs.Str.{bytes_eq}
use Rattle.toml.specs.Data.{Data, Members, no_members, member, get_member, as_str, as_table}
use Rattle.toml.specs.View.{table_view}
use Rattle.toml.specs.declared.value.Value.{Value}
use Rattle.convoy_lines.specs.Results.{◌>>=◌}
use Rattle.convoy_draft.specs.declared.fault.Key.TheVariants.{At, From, Group, Message, Multicast, Name, Target, To, Unknown, Until, Within}
use Rattle.convoy_draft.specs.declared.fault.ScenarioFault.{ScenarioFault}
use Rattle.convoy_draft.specs.declared.fault.ScenarioFault.TheVariants as faults
use Rattle.convoy_draft.specs.declared.time.Time.{Time}
use Rattle.convoy_draft.specs.Keys.{key_word}
use Rattle.convoy_toml.specs.declared.target.TargetKey.{TargetKey}
use Rattle.convoy_toml.specs.declared.target.TargetKey.TheVariants.{Named, Required, Optional}
use Rattle.convoy_toml.specs.Shape.{WrittenMessage, WrittenScenario, WrittenTarget, as_when, first_target, need, need_all, setting_of_table, wish}
use Rattle.convoy_causes.specs.declared.event.Event.{Event}
use Rattle.convoy_causes.specs.declared.event.Event.TheVariants.{Issue, Arrival, Commit, Delivery}
use Rattle.convoy_workflow_words.specs.Words.{workflow_word}
use Rattle.convoy_workflow_words.specs.declared.fault.WorkflowFault.{WorkflowFault}
use Rattle.convoy_workflow_words.specs.declared.fault.WorkflowFault.TheVariants.{Scenario, Shape}
use Rattle.convoy_workflow_words.specs.declared.fault.WorkflowKey.{WorkflowKey}
use Rattle.convoy_workflow_words.specs.declared.fault.WorkflowKey.TheVariants.{After, On}

-- what a message follows as it is written: the name of another message, and an event of that
pub record WrittenCause : Type 0 where
  pub message : List ℕ
  pub event : Event

-- a message as it is written, and what it follows, if it follows another: then its times count from that
pub record WrittenStep : Type 0 where
  pub message : WrittenMessage
  pub cause : Option WrittenCause

-- a target as it is written: the message and the group, and the message from whose issue the time counts, where one is written
pub record WrittenAim : Type 0 where
  pub message : List ℕ
  pub group : List ℕ
  pub origin : Option (List ℕ)

-- a workflow as it is written: its messages, groups and links as a scenario, in which the times of a message that follows another count from that; of each message what it follows, if it follows another; and the message from whose issue the time counts, where one is written
pub record WrittenWorkflow : Type 0 where
  pub scenario : WrittenScenario
  pub causes : List (Option WrittenCause)
  pub origin : Option (List ℕ)

-- a fault of the scenario is one of the workflow
abbrev pub of_scenario : {A : Type 0} → Result A ScenarioFault → Result A WorkflowFault
of_scenario result = result_map_both (λ value. value) Scenario result

-- the event that a word names
abbrev pub event_named : List ℕ → Option Event
event_named word =
    if bytes_eq word (codes "issue") then Some Issue
    else if bytes_eq word (codes "arrival") then Some Arrival
    else if bytes_eq word (codes "commit") then Some Commit
    else if bytes_eq word (codes "delivery") then Some Delivery
    else None

-- the event that a value names
abbrev pub as_event : Data → Option Event
as_event value = option_and_then event_named (as_str value)

-- the value of a key that only workflow texts have, and that may be absent, of its kind
abbrev pub wish_own : {A : Type 0} → WorkflowKey → (Data → Option A) → Members → Result (Option A) WorkflowFault
wish_own {A} key kind table = if_there (get_member (workflow_word key) table) where
  if_there : Option Data → Result (Option A) WorkflowFault
  if_there None = Ok None
  if_there (Some d) = ok_or (option_map Some (kind d)) (Shape key)

-- what a message follows: an event is named only of a message that is followed, and is its issue where none is named
abbrev pub cause_between : Option (List ℕ) → Option Event → Result (Option WrittenCause) WorkflowFault
cause_between None None = Ok None
cause_between None (Some event) = Err (Shape On)
cause_between (Some message) event = Ok (Some (record { message = message; event = unwrap_or event Issue }))

-- what the message of a table follows
abbrev pub cause_of_table : Members → Result (Option WrittenCause) WorkflowFault
cause_of_table table = do
  message ← wish_own After as_str table
  event ← wish_own On as_event table
  cause_between message event

-- each key of the table is one of these
abbrev pub has_only : List (List ℕ) → Members → Bool
has_only words no_members = true
has_only words (member word d rest) = list_any (λ known. bytes_eq known word) words && has_only words rest

-- an unknown key is a fault
abbrev pub need_only : List (List ℕ) → Members → Result (Unit {0}) WorkflowFault
need_only words table = if has_only words table then Ok tt else Err (Scenario (faults.Shape Unknown))

-- the words for the keys of a message, of a target, and of the whole text
abbrev pub message_words : List (List ℕ)
message_words = codes "name" ∷ codes "from" ∷ codes "to" ∷ codes "at" ∷ codes "until" ∷ codes "within" ∷ codes "after" ∷ codes "on" ∷ []

abbrev pub target_words : List (List ℕ)
target_words = codes "message" ∷ codes "group" ∷ codes "from" ∷ []

abbrev pub text_words : List (List ℕ)
text_words = codes "time" ∷ codes "tick" ∷ codes "delay" ∷ codes "least" ∷ codes "groups" ∷ codes "places" ∷ codes "multicast" ∷ codes "target" ∷ codes "link" ∷ codes "group" ∷ []

-- a message as it is written, whatever else stands in its table
abbrev pub message_of_table : Time → Members → Result WrittenMessage WorkflowFault
message_of_table time table = do
  name ← of_scenario (need Name as_str table)
  sender ← of_scenario (wish From as_str table)
  to ← of_scenario (need_all To as_str table)
  at ← of_scenario (need At (as_when time) table)
  until ← of_scenario (wish Until (as_when time) table)
  within ← of_scenario (wish Within (as_when time) table)
  Ok (record { name = name; sender = sender; to = to; at = at; until = until; within = within; longer = None })

-- a message as it is written, and what it follows
abbrev pub step_of_table : Time → Members → Result WrittenStep WorkflowFault
step_of_table time table = do
  message ← message_of_table time table
  cause ← cause_of_table table
  _ ← need_only message_words table
  Ok (record { message = message; cause = cause })

-- the messages, unless one is at fault
abbrev pub steps_of_tables : Time → List Members → Result (List WrittenStep) WorkflowFault
steps_of_tables time [] = Ok []
steps_of_tables time (table ∷ tables) = do
  step ← step_of_table time table
  steps ← steps_of_tables time tables
  Ok (step ∷ steps)

-- the messages of steps, and what each of them follows
abbrev pub messages_of_steps : List WrittenStep → List WrittenMessage
messages_of_steps steps = map (λ step. step.message) steps

abbrev pub causes_of_steps : List WrittenStep → List (Option WrittenCause)
causes_of_steps steps = map (λ step. step.cause) steps

-- the target that is written in a table
abbrev pub written_aim : Members → Result WrittenAim WorkflowFault
written_aim table = do
  target ← of_scenario (need Target as_table table)
  message ← of_scenario (need Message as_str target)
  group ← of_scenario (need Group as_str target)
  origin ← of_scenario (wish From as_str target)
  _ ← need_only target_words target
  Ok (record { message = message; group = group; origin = origin })

-- a target whose time counts from its own issue
abbrev pub own_aim : WrittenTarget → WrittenAim
own_aim target = record { message = target.message; group = target.group; origin = None }

-- the target of a table: what is written, or the first target where that may be left out and is, or the one that is named beside it
abbrev pub aim_of_table : TargetKey → Members → List (List ℕ) → List WrittenMessage → Result WrittenAim WorkflowFault
aim_of_table Required table groups messages = written_aim table
aim_of_table Optional table groups messages =
    if is_some (get_member (key_word Target) table) then written_aim table else Ok (own_aim (first_target groups messages))
aim_of_table (Named message group) table groups messages = Ok (record { message = message; group = group; origin = None })

-- the setting with these messages and this target
abbrev pub with_messages : WrittenScenario → List WrittenMessage → WrittenAim → WrittenScenario
with_messages setting messages aim = record setting { messages = messages; target_message = aim.message; target_group = aim.group }

-- what is written in the table of a text, which has no other key
abbrev pub written_of_table : TargetKey → Members → Result WrittenWorkflow WorkflowFault
written_of_table key table = do
  setting ← of_scenario (setting_of_table table)
  tables ← of_scenario (need_all Multicast as_table table)
  steps ← steps_of_tables setting.time tables
  aim ← aim_of_table key table setting.groups (messages_of_steps steps)
  _ ← need_only text_words table
  Ok (record { scenario = with_messages setting (messages_of_steps steps) aim; causes = causes_of_steps steps; origin = aim.origin })

-- how a call's answer is seen: a vector as the list that it holds
abbrev pub listed : {A E : Type 0} → Result (Vec A Global) E → Result (List A) E
listed (Ok xs) = Ok xs.items
listed (Err fault) = Err fault

-- and a vector of tables as the list of their members
abbrev pub tables_listed : {E : Type 0} → Result (Vec (Bor (BTreeMap (String Global) Value)) Global) E → Result (List Members) E
tables_listed (Ok tables) = Ok (map (λ t. table_view t.now) tables.items)
tables_listed (Err fault) = Err fault
