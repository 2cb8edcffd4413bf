-- Worked rows: the texts that are written of a scenario in real time, of one in which a message may wait, and of one whose clients are at places; and what they are read as.
use Rattle.std.proofs.Common.{◌≡◌, ℕ, false, List, [], ◌∷◌, codes, Some, Ok, refl, replicate}
use Rattle.std.specs.Fmt.{digits}
use Rattle.std.specs.Str.{chars, is_utf8}
use Rattle.toml.proofs.OnLiterals.{toml_on_literals}
use Rattle.convoy_scenario.specs.declared.sender.Sender.TheVariants.{Client, Group}
use Rattle.convoy_draft.specs.declared.time.Time.TheVariants.{Ticks, Real}
use Rattle.convoy_draft.specs.Durations.{duration_of}
use Rattle.convoy_scenario.specs.Scenario.{Scenario}
use Rattle.convoy_scenario.proofs.RowScenarios.{of_two}
use Rattle.convoy_packets.specs.Assignment.{Schedule, in_fixed_order}
use Rattle.convoy_packets.specs.Order.{Order, no_order}
use Rattle.convoy_packets.specs.OrderLists.{marks_of}
use Rattle.convoy_toml.specs.Reading.{input_of_text}
use Rattle.convoy_toml.specs.Shape.{link_of_table}
use Rattle.convoy_toml_writer.specs.Text.{head_text, link_text, lists_text, message_text, order_text, places_text, sender_text, target_text, tick_text, toml_text, until_text}
use Rattle.convoy_toml_writer.specs.WrittenTextLaws.{input_for}

-- two groups with a link each way and one of the clients, a message of a client, and one of a group
abbrev scenario : Scenario
scenario = record (of_two Real 40 (record { name = codes "t"; sender = Client 0; destinations = 0 ∷ 1 ∷ []; at = 0; longest_wait = 0 }
    ∷ record { name = codes "y"; sender = Group 0; destinations = 1 ∷ []; at = 12; longest_wait = 0 } ∷ []) 0 1) {
      tick = Some 50_000;
      groups = codes "a" ∷ codes "b-2" ∷ [];
      links = record { sender = Client 0; to = 0; least = 2; most = 3; stamps = false } ∷ record { sender = Group 0; to = 1; least = 4; most = 40; stamps = false } ∷ [];
    }

-- the commit of the first message at the second group comes last in its tick
abbrev order : Order
order = record { arrivals = 0 ∷ 0 ∷ replicate 126 0; commits = 0 ∷ 7 ∷ replicate 126 0 }

abbrev schedule : Schedule
schedule = record { delays = 2 ∷ 5 ∷ 4 ∷ 40 ∷ 40 ∷ []; order = order }

abbrev text : List ℕ
text = codes "time = \"real\"\ntick = \"50 us\"\ndelay = 40\nleast = 1\ngroups = [\"a\", \"b-2\"]\nschedule = [2, 5, 4, 40, 40]\norder = [0, 0, 0, 7, 0, 0]\n\n[[link]]\nto = \"a\"\nleast = 2\nmost = 3\n\n[[link]]\nfrom = \"a\"\nto = \"b-2\"\nleast = 4\nmost = 40\n\n[[multicast]]\nname = \"t\"\nto = [\"a\", \"b-2\"]\nat = 0\n\n[[multicast]]\nname = \"y\"\nfrom = \"a\"\nto = [\"b-2\"]\nat = 12\n\n[target]\nmessage = \"t\"\ngroup = \"b-2\"\n"

written : toml_text scenario schedule ≡ text
unfolding toml_text head_text tick_text places_text lists_text order_text link_text until_text message_text sender_text target_text digits marks_of
written = refl

read : input_of_text text ≡ Ok (input_for scenario schedule)
unfolding toml_on_literals is_utf8 chars link_of_table duration_of marks_of
read = refl

-- in whole ticks, with a message that may be issued from tick 2 to tick 10
abbrev window : Scenario
window =
    of_two Ticks 3 (record { name = codes "t"; sender = Client 0; destinations = 0 ∷ []; at = 0; longest_wait = 0 }
    ∷ record { name = codes "y"; sender = Group 0; destinations = 1 ∷ []; at = 2; longest_wait = 8 } ∷ []) 0 0

-- it waits seven ticks
abbrev waiting : Schedule
waiting = in_fixed_order (3 ∷ 7 ∷ 1 ∷ [])

abbrev window_text : List ℕ
window_text = codes "delay = 3\ngroups = [\"a\", \"b\"]\nschedule = [3, 7, 1]\n\n[[multicast]]\nname = \"t\"\nto = [\"a\"]\nat = 0\n\n[[multicast]]\nname = \"y\"\nfrom = \"a\"\nto = [\"b\"]\nat = 2\nuntil = 10\n\n[target]\nmessage = \"t\"\ngroup = \"a\"\n"

window_written : toml_text window waiting ≡ window_text
unfolding toml_text head_text tick_text places_text lists_text order_text until_text message_text sender_text target_text digits no_order
window_written = refl

window_read : input_of_text window_text ≡ Ok (input_for window waiting)
unfolding toml_on_literals is_utf8 chars no_order
window_read = refl

-- in whole ticks, with clients at two places: one of them sends, and a link leads from the other
abbrev placed : Scenario
placed = record (of_two Ticks 3 (record { name = codes "t"; sender = Client 2; destinations = 0 ∷ 1 ∷ []; at = 0; longest_wait = 0 } ∷ []) 0 0) {
  places = codes "eu-west" ∷ codes "us" ∷ [];
  links = record { sender = Client 1; to = 0; least = 2; most = 3; stamps = false } ∷ [];
}

abbrev placed_schedule : Schedule
placed_schedule = in_fixed_order (3 ∷ 2 ∷ 1 ∷ 1 ∷ [])

abbrev placed_text : List ℕ
placed_text = codes "delay = 3\ngroups = [\"a\", \"b\"]\nplaces = [\"eu-west\", \"us\"]\nschedule = [3, 2, 1, 1]\n\n[[link]]\nfrom = \"eu-west\"\nto = \"a\"\nleast = 2\nmost = 3\n\n[[multicast]]\nname = \"t\"\nfrom = \"us\"\nto = [\"a\", \"b\"]\nat = 0\n\n[target]\nmessage = \"t\"\ngroup = \"a\"\n"

placed_written : toml_text placed placed_schedule ≡ placed_text
unfolding toml_text head_text tick_text places_text lists_text order_text link_text until_text message_text sender_text target_text digits no_order
placed_written = refl

placed_read : input_of_text placed_text ≡ Ok (input_for placed placed_schedule)
unfolding toml_on_literals is_utf8 chars link_of_table no_order
placed_read = refl
