-- The kinds of a text.
use Rattle.std.specs.Prelude.{ℕ, pos, Bool, false, is_none, if◌then◌else◌, List, [], ◌∷◌, map, filter, slice_index_or, Option, Some, None, Result, Ok, Err}
use Rattle.std.specs.List.{list_any, slice_get}
use Rattle.toml.specs.Data.{Members}
use Rattle.convoy_lines.specs.Results.{◌>>=◌}
use Rattle.convoy_toml.specs.Reading.{scenario_of_written, table_of_text}
use Rattle.convoy_draft.specs.declared.duration.TimeUnit.{TimeUnit}
use Rattle.convoy_draft.specs.Checks.{is_among, is_count}
use Rattle.convoy_draft.specs.Names.{client_word}
use Rattle.convoy_toml.specs.Shape.{WrittenMessage, WrittenScenario, unit_of_table}
use Rattle.convoy_toml.specs.Times.{tick_of}
use Rattle.convoy_toml.specs.declared.written.WrittenTime.TheVariants.{Count}
use Rattle.convoy_kinds.specs.declared.fault.KindsFault.{KindsFault}
use Rattle.convoy_kinds.specs.declared.fault.KindsFault.TheVariants.{OverLimit}
use Rattle.convoy_kinds.specs.declared.fault.KindsLimit.TheVariants as limits
use Rattle.convoy_kinds.specs.declared.limits.TheConstants.{MOST_KINDS}
use Rattle.convoy_kinds.specs.Checks.{checks, judge}
use Rattle.convoy_kinds.specs.Kinds.{Kind, Kinds}
use Rattle.convoy_kinds.specs.Numbering.{kinds_from, table_names}
use Rattle.convoy_kinds.specs.Shape.{WrittenKind, WrittenKinds, of_scenario, written_of_table}

-- the name is one of those that send
abbrev pub names_sender : List ℕ → Option (List (List ℕ)) → Bool
names_sender name None = false
names_sender name (Some names) = is_among name names

-- the messages of some table come from what has the name
abbrev pub sends : List WrittenKind → List ℕ → Bool
sends tables name = list_any (λ table. names_sender name table.senders) tables

-- who sends the first message of the setting: a client of no named place where some table is one of these, else the first group
abbrev pub setting_sender : WrittenKinds → Option (List ℕ)
setting_sender written = if list_any (λ table. is_none table.senders) written.tables then None else slice_get written.setting.groups 0

-- a message of the setting, under that name: it goes to all groups
abbrev pub setting_message : WrittenScenario → List ℕ → Option (List ℕ) → WrittenMessage
setting_message setting name sender = record {
  name = name;
  sender = sender;
  to = setting.groups;
  at = Count (pos 0);
  until = None;
  within = None;
  longer = None;
}

-- the messages of the setting, so that between all groups, and from clients wherever these send, ranges have to be known: the first one, under a name that no place has, and one from each place that sends, under its name
abbrev pub setting_messages : WrittenKinds → List WrittenMessage
setting_messages written =
    setting_message written.setting client_word (setting_sender written)
    ∷ map (λ place. setting_message written.setting place (Some place)) (filter (sends written.tables) written.setting.places)

-- what the kinds share as a scenario with these messages, where a tick has this length
abbrev pub written_setting : WrittenKinds → Option ℕ → WrittenScenario
written_setting written tick = record written.setting {
  tick = tick;
  messages = setting_messages written;
  target_message = client_word;
  target_group = slice_index_or written.setting.groups 0 [];
}

-- the kinds of tables that keep the rules, among groups and places of these names
abbrev pub checked_kinds : List (List ℕ) → List (List ℕ) → List WrittenKind → Result (List Kind) KindsFault
checked_kinds groups places tables = do
  _ ← judge (checks groups places (table_names tables) tables)
  Ok (kinds_from 0 groups places tables)

-- the kinds, if there are as many as there may be
abbrev pub counted : Kinds → Result Kinds KindsFault
counted kinds = if is_count MOST_KINDS kinds.kinds then Ok kinds else Err (OverLimit limits.Kinds)

-- the kinds of what is written, with this unit of D: what they share first, with its times in ticks, then the rules for tables
abbrev pub kinds_of_written : Option TimeUnit → WrittenKinds → Result Kinds KindsFault
kinds_of_written unit written = do
  tick ← of_scenario (tick_of written.setting)
  setting ← of_scenario (scenario_of_written (written_setting written tick))
  kinds ← checked_kinds setting.groups setting.places written.tables
  counted (record { setting = setting; unit = unit; tables = table_names written.tables; kinds = kinds })

-- what a table gives: its shape first, then what is said of that
abbrev pub kinds_of_members : Members → Result Kinds KindsFault
kinds_of_members table = written_of_table table >>= kinds_of_written (unit_of_table table)

-- what a text gives
abbrev pub kinds_of_text : List ℕ → Result Kinds KindsFault
kinds_of_text text = of_scenario (table_of_text text) >>= kinds_of_members
