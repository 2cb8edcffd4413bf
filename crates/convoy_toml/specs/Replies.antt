-- The word of a group that comes back to a client, where a text asks for that.
use Rattle.std.specs.Prelude.{ℕ, pos, if◌then◌else◌, List, Option, Some, None, option_map, unwrap_or, codes, Result, Ok, Err}
use Rattle.std.specs.Option.{option_map_or}
use Rattle.std.specs.Result.{result_ok}
use Rattle.std.specs.Str.{bytes_eq}
use Rattle.toml.specs.Data.{Members, as_str, as_table}
use Rattle.convoy_lines.specs.Results.{◌>>=◌}
use Rattle.convoy_draft.specs.declared.fault.Key.TheVariants.{Reply, Target}
use Rattle.convoy_draft.specs.declared.fault.ScenarioFault.{ScenarioFault}
use Rattle.convoy_draft.specs.declared.fault.ScenarioFault.TheVariants.{UnknownGroup}
use Rattle.convoy_draft.specs.Checks.{is_among}
use Rattle.convoy_toml.specs.declared.asked.Asked.{Asked}
use Rattle.convoy_toml.specs.declared.written.WrittenRange.{WrittenRange}
use Rattle.convoy_toml.specs.declared.written.WrittenTime.{WrittenTime}
use Rattle.convoy_toml.specs.declared.written.WrittenTime.TheVariants.{Count}
use Rattle.convoy_toml.specs.Reading.{table_of_text}
use Rattle.convoy_toml.specs.Shape.{Written, WrittenScenario, need, shape_of_table, wish}
use Rattle.convoy_toml.specs.Slow.{range_along}
use Rattle.convoy_toml.specs.Ways.{Way}

-- the client to which the word of the target's group comes back, where the table of the target names one
abbrev pub client_of_table : Members → Option (List ℕ)
client_of_table table = unwrap_or (result_ok (need Target as_table table >>= wish Reply as_str)) None

-- the word for the clients of no named place
abbrev pub client_word : List ℕ
client_word = codes "client"

-- the way by which a group's word comes back to a client: to a group it is that of a packet there; and to clients that are no group, to which nothing is sent, that of a packet from them, of which the range holds both ways
abbrev pub way_back : WrittenScenario → List ℕ → List ℕ → Result Way ScenarioFault
way_back scenario group client =
    if is_among client scenario.groups then Ok (record { sender = Some group; to = client })
    else if is_among client scenario.places then Ok (record { sender = Some client; to = group })
    else if bytes_eq client client_word then Ok (record { sender = None; to = group })
    else Err UnknownGroup

-- how long a word takes at most on a way with that range: no time where there is none, from a group to itself
abbrev pub most_of_way : Option WrittenRange → WrittenTime
most_of_way range = option_map_or (λ r. r.most) range (Count (pos 0))

-- how long the group's word takes to the client at most, as it is written
abbrev pub time_back : WrittenScenario → List ℕ → List ℕ → Result WrittenTime ScenarioFault
time_back scenario group client = do
  way ← way_back scenario group client
  range ← range_along scenario way
  Ok (most_of_way range)

-- how long the word of the target's group takes to the client, where one is named
abbrev pub reply_of_written : WrittenScenario → Option (List ℕ) → Result (Option WrittenTime) ScenarioFault
reply_of_written scenario None = Ok None
reply_of_written scenario (Some client) = time_back scenario scenario.target_group client >>= λ time. Ok (Some time)

-- how long the word of the target's group takes at most to the client that a text names, as it is written there, where that is asked; none where it names none
abbrev pub reply_of_text : Asked → List ℕ → Result (Option WrittenTime) ScenarioFault
reply_of_text asked text = do
  table ← table_of_text text
  written ← shape_of_table asked table
  reply_of_written written.scenario (client_of_table table)
