-- What reading the lines of a scenario answers: the scenario, or the first fault in the order of the lines.
use Rattle.std.specs.Prelude.{ℕ, pos, ◌+◌, ◌==◌, Bool, false, ◌&&◌, ◌||◌, not, if◌then◌else◌, List, [], ◌∷◌, filter, codes, Option, Some, None, ok_or, Result, Ok, Err}
use Rattle.std.specs.Cmp.Lexicographic.{pointwise}
use Rattle.std.specs.Str.{bytes_eq}
use Rattle.convoy_lines.specs.Places.{Place, line_at, past_line, upcoming}
use Rattle.convoy_lines.specs.Results.{◌>>=◌}
use Rattle.convoy_draft.specs.declared.fault.ScenarioFault.{ScenarioFault}
use Rattle.convoy_draft.specs.declared.fault.ScenarioFault.TheVariants.{OverLimit}
use Rattle.convoy_draft.specs.declared.fault.Limit.TheVariants as limit
use Rattle.convoy_draft.specs.declared.limits.TheConstants.{MOST_LINKS, MOST_MULTICASTS}
use Rattle.convoy_scenario_lines.specs.declared.line_fault.Expected.{Expected}
use Rattle.convoy_scenario_lines.specs.declared.line_fault.Expected.TheVariants.{Time, Tick, Delay, Groups, Places, Link, Multicast, Target}
use Rattle.convoy_scenario_lines.specs.declared.line_fault.LineFault.{LineFault}
use Rattle.convoy_scenario_lines.specs.declared.line_fault.LineFault.TheVariants as faults
use Rattle.convoy_scenario_lines.specs.declared.version.Version.{Version}
use Rattle.convoy_scenario_lines.specs.declared.version.Version.TheVariants.{One, Two, Three}
use Rattle.convoy_draft.specs.declared.time.Time.{Time as AnyTime}
use Rattle.convoy_draft.specs.declared.time.Time.TheVariants.{Ticks}
use Rattle.convoy_draft.specs.Checks.{is_among}
use Rattle.convoy_draft.specs.Draft.{Draft, DraftLink, DraftMessage}
use Rattle.convoy_lines.specs.Labels.{begins_with, number_in}
use Rattle.convoy_scenario_lines.specs.LineForms.{time_in, tick_in, groups_in, places_in, link_in, multicast_in, target_in}
use Rattle.convoy_lines.specs.Words.{words_of}
use Rattle.convoy_scenario.specs.Numbering.{delay_of_draft, links_of_draft, scenario_of_draft}
use Rattle.convoy_scenario.specs.Scenario.{Link as AnyLink, Scenario}
use Rattle.convoy_scenario.specs.WellFormed.{follows, is_whole}

-- what the next line says, if it is there, ended and of its form
abbrev pub form_at : {A : Type 0} → Expected → (List ℕ → Option A) → Place → Result (A × Place) LineFault
form_at expected form place = do
  line ← ok_or (line_at place) (faults.Line place.number expected)
  value ← ok_or (form line) (faults.Line place.number expected)
  Ok (value, past_line place)

-- how time goes: by the next line in version 3, and in whole ticks in the others
abbrev pub time_at : Version → Place → Result (AnyTime × Place) LineFault
time_at One place = Ok (Ticks, place)
time_at Two place = Ok (Ticks, place)
time_at Three place = form_at Time time_in place

-- a line `tick` is due: the version has such lines, and what comes next begins with that word
abbrev pub is_tick_due : Version → List ℕ → Bool
is_tick_due One line = false
is_tick_due Two line = false
is_tick_due Three line = begins_with (codes "tick") (words_of line)

-- how long a tick lasts: by the next line, where it begins with `tick`
abbrev pub tick_at : Version → Place → Result (Option ℕ × Place) LineFault
tick_at version place =
    if is_tick_due version (upcoming place) then (do
      tick ← form_at Tick tick_in place
      Ok (Some tick.0, tick.1))
    else Ok (None, place)

-- a line `places` is due: the version has such lines, and what comes next begins with that word
abbrev pub is_places_due : Version → List ℕ → Bool
is_places_due One line = false
is_places_due Two line = false
is_places_due Three line = begins_with (codes "places") (words_of line)

-- the names of the places: those of the next line, where it begins with `places`, and else none
abbrev pub places_at : Version → Place → Result (List (List ℕ) × Place) LineFault
places_at version place =
    if is_places_due version (upcoming place) then form_at Places places_in place
    else Ok ([], place)

-- a line `link` is due: the version has such lines, and what comes next begins with that word
abbrev pub is_link_due : Version → List ℕ → Bool
is_link_due One line = false
is_link_due Two line = begins_with (codes "link") (words_of line)
is_link_due Three line = begins_with (codes "link") (words_of line)

-- The links of the lines `link` that come next, after so many: each line that begins with that word has to be one.
unfoldable pub links_in : Version → ℕ → ℕ → List ℕ → List (List ℕ) → Result (List DraftLink × Place) LineFault
links_in version count number rest [] =
    if is_link_due version rest then Err (faults.Line number Link)
    else Ok ([], record { ended = []; rest = rest; number = number })
links_in version count number rest (line ∷ lines) =
    if is_link_due version line then (do
      link ← ok_or (link_in version line) (faults.Line number Link)
      more ← if count == MOST_LINKS then Err (faults.Scenario (OverLimit limit.Link)) else links_in version (count + 1) (number + 1) rest lines
      Ok (link ∷ more.0, more.1))
    else Ok ([], record { ended = line ∷ lines; rest = rest; number = number })

abbrev pub links_at : Version → ℕ → Place → Result (List DraftLink × Place) LineFault
links_at version count place = links_in version count place.number place.rest place.ended

-- a line `multicast` is due: it is the first of them, or what comes next begins with that word
abbrev pub is_multicast_due : ℕ → List ℕ → Bool
is_multicast_due count line = count == 0 || begins_with (codes "multicast") (words_of line)

-- The messages of the lines `multicast` that come next, after so many: the first line has to be one, and each that begins with that word.
unfoldable pub messages_in : Version → ℕ → ℕ → List ℕ → List (List ℕ) → Result (List DraftMessage × Place) LineFault
messages_in version count number rest [] =
    if is_multicast_due count rest then Err (faults.Line number Multicast)
    else Ok ([], record { ended = []; rest = rest; number = number })
messages_in version count number rest (line ∷ lines) =
    if is_multicast_due count line then (do
      message ← ok_or (multicast_in version line) (faults.Line number Multicast)
      more ← if count == MOST_MULTICASTS then Err (faults.Scenario (OverLimit limit.Multicasts)) else messages_in version (count + 1) (number + 1) rest lines
      Ok (message ∷ more.0, more.1))
    else Ok ([], record { ended = line ∷ lines; rest = rest; number = number })

abbrev pub messages_at : Version → ℕ → Place → Result (List DraftMessage × Place) LineFault
messages_at version count place = messages_in version count place.number place.rest place.ended

-- the draft of what the lines say
abbrev pub draft_of : AnyTime → Option ℕ → ℕ → List (List ℕ) → List (List ℕ) → List DraftLink → List DraftMessage → List ℕ × List ℕ → Draft
draft_of time tick delay groups places links messages target =
    record { time = time; tick = tick; delay = pos delay; groups = groups; places = places; links = links; messages = messages; target_message = target.0; target_group = target.1 }

-- the fault of a scenario, told of lines
abbrev pub told : Result Scenario ScenarioFault → Result Scenario LineFault
told (Ok scenario) = Ok scenario
told (Err fault) = Err (faults.Scenario fault)

-- the destinations stand in the order of the groups: they are the groups that are named, in their order
abbrev pub is_ordered : List (List ℕ) → DraftMessage → Bool
is_ordered groups message = pointwise bytes_eq message.to (filter (λ group. is_among group message.to) groups)

-- the number of the first line whose destinations do not, where the first of the lines has this number
abbrev pub first_unordered : List (List ℕ) → ℕ → List DraftMessage → Option ℕ
first_unordered groups number [] = None
first_unordered groups number (message ∷ messages) =
    if is_ordered groups message then first_unordered groups (number + 1) messages else Some number

-- the number of the first line whose link does not follow the one before it, or leads to another place with the whole range, where the first of the lines has this number
abbrev pub first_misplaced : ℕ → Option AnyLink → ℕ → List AnyLink → Option ℕ
first_misplaced delay before number [] = None
first_misplaced delay before number (link ∷ links) =
    if follows before link && not (is_whole delay link) then first_misplaced delay (Some link) (number + 1) links else Some number

-- the number of the first line `link` of the draft that is out of order or says nothing
abbrev pub first_misplaced_link : ℕ → Draft → Option ℕ
first_misplaced_link number draft = first_misplaced (delay_of_draft draft) None number (links_of_draft draft)

-- the scenario, where no line is out of order; else that line is not as expected
abbrev pub where_ordered : Expected → Option ℕ → Scenario → Result Scenario LineFault
where_ordered expected None scenario = Ok scenario
where_ordered expected (Some number) scenario = Err (faults.Line number expected)

-- The scenario of the next lines, up to `target`, as that version has them, and the place after them; else the first fault.
unfoldable pub scenario_at : Version → Place → Result (Scenario × Place) LineFault
scenario_at version place = do
  time ← time_at version place
  tick ← tick_at version time.1
  delay ← form_at Delay (number_in (codes "delay")) tick.1
  groups ← form_at Groups groups_in delay.1
  places ← places_at version groups.1
  links ← links_at version 0 places.1
  messages ← messages_at version 0 links.1
  target ← form_at Target target_in messages.1
  scenario ← told (scenario_of_draft (draft_of time.0 tick.0 delay.0 groups.0 places.0 links.0 messages.0 target.0))
  linked ← where_ordered Link (first_misplaced_link places.1.number (draft_of time.0 tick.0 delay.0 groups.0 places.0 links.0 messages.0 target.0)) scenario
  ordered ← where_ordered Multicast (first_unordered groups.0 links.1.number messages.0) linked
  Ok (ordered, target.1)
