-- What a reader keeps of a line with more names than there may be groups, or places. Such a line is one of no scenario, and what is kept of it has the fault of the whole.
use Rattle.std.specs.Prelude.{ℕ, not, if◌then◌else◌, List, [], ◌∷◌, map, take, Option, Some, None, option_map, codes, find, Result, Ok}
use Rattle.convoy_scenario_lines.specs.declared.line_forms.TheConstants.{MOST_KEPT_NAMES}
use Rattle.convoy_scenario_lines.specs.declared.line_fault.Expected.TheVariants.{Delay, Groups, Places, Link, Multicast, Target}
use Rattle.convoy_scenario_lines.specs.declared.line_fault.LineFault.{LineFault}
use Rattle.convoy_scenario_lines.specs.declared.version.Version.{Version}
use Rattle.convoy_lines.specs.Labels.{number_in}
use Rattle.convoy_lines.specs.Places.{Place, upcoming}
use Rattle.convoy_lines.specs.Results.{◌>>=◌}
use Rattle.convoy_draft.specs.Checks.{is_among}
use Rattle.convoy_draft.specs.Draft.{DraftMessage}
use Rattle.convoy_scenario_lines.specs.LineForms.{names_in, multicast_in, target_in}
use Rattle.convoy_scenario_lines.specs.LineReading.{form_at, time_at, tick_at, is_places_due, links_at, messages_at, draft_of, told, first_misplaced_link, first_unordered, where_ordered}
use Rattle.convoy_scenario.specs.Numbering.{scenario_of_draft}
use Rattle.convoy_scenario.specs.Scenario.{Scenario}

-- of the names of groups, or of places: the first ones
abbrev pub kept_names : List (List ℕ) → List (List ℕ)
kept_names names = take MOST_KEPT_NAMES names

-- the first of the names that is none of the groups
abbrev pub first_unknown : List (List ℕ) → List (List ℕ) → Option (List ℕ)
first_unknown groups names = find (λ name. not (is_among name groups)) names

-- that name alone, or, where there is none, the first ones
abbrev pub alone_or_first : List (List ℕ) → Option (List ℕ) → List (List ℕ)
alone_or_first names None = kept_names names
alone_or_first names (Some name) = name ∷ []

-- of the destinations of a message: the first that is none of the groups, or else the first ones
abbrev pub kept_destinations : List (List ℕ) → List (List ℕ) → List (List ℕ)
kept_destinations groups to = alone_or_first to (first_unknown groups to)

-- of a message: all but its destinations as it is
abbrev pub kept_message : List (List ℕ) → DraftMessage → DraftMessage
kept_message groups message = record { name = message.name; sender = message.sender; to = kept_destinations groups message.to; at = message.at; until = message.until }

-- the names that are kept of a line that begins with that word
abbrev pub kept_names_in : List ℕ → List ℕ → Option (List (List ℕ))
kept_names_in label line = option_map kept_names (names_in label line)

-- the places that are kept of the next line, where it begins with `places`
abbrev pub kept_places_at : Version → Place → Result (List (List ℕ) × Place) LineFault
kept_places_at version place =
    if is_places_due version (upcoming place) then form_at Places (kept_names_in (codes "places")) place
    else Ok ([], place)

-- the message that is kept of a line `multicast`
abbrev pub kept_multicast_in : Version → List (List ℕ) → List ℕ → Option DraftMessage
kept_multicast_in version groups line = option_map (kept_message groups) (multicast_in version line)

-- the messages that are kept of the lines `multicast` that come next, after so many
abbrev pub kept_messages_at : Version → List (List ℕ) → ℕ → Place → Result (List DraftMessage × Place) LineFault
kept_messages_at version groups count place = messages_at version count place >>= λ messages. Ok (map (kept_message groups) messages.0, messages.1)

-- What the next lines give with what is kept of them: it is what they give whole.
unfoldable pub kept_scenario_at : Version → Place → Result (Scenario × Place) LineFault
kept_scenario_at version place = do
  time ← time_at version place
  tick ← tick_at version time.1
  delay ← form_at Delay (number_in (codes "delay")) tick.1
  groups ← form_at Groups (kept_names_in (codes "groups")) delay.1
  places ← kept_places_at version groups.1
  links ← links_at version 0 places.1
  messages ← kept_messages_at version groups.0 0 links.1
  target ← form_at Target target_in messages.1
  scenario ← told (scenario_of_draft (draft_of time.0 tick.0 delay.0 groups.0 places.0 links.0 messages.0 target.0))
  linked ← where_ordered Link (first_misplaced_link places.1.number (draft_of time.0 tick.0 delay.0 groups.0 places.0 links.0 messages.0 target.0)) scenario
  ordered ← where_ordered Multicast (first_unordered groups.0 links.1.number messages.0) linked
  Ok (ordered, target.1)
