-- Worked rows: scenarios whose clients are at named places.
use Rattle.std.proofs.Common.{◌≡◌, refl, false, true, pos, [], ◌∷◌, map, None, ℕ, List, Result, Ok, Err, codes}
use Rattle.toml.specs.Data.{Data, no_items, item, Members, no_members, member, string, integer, boolean, array, table}
use Rattle.toml.specs.View.{items_of}
use Rattle.convoy_lines.specs.Results.{◌>>=◌}
use Rattle.convoy_draft.specs.declared.fault.Key.TheVariants as key
use Rattle.convoy_draft.specs.declared.fault.Limit.TheVariants as limit
use Rattle.convoy_draft.specs.declared.fault.ScenarioFault.{ScenarioFault}
use Rattle.convoy_draft.specs.declared.fault.ScenarioFault.TheVariants.{BadName, DoubleName, NoRange, OverLimit, Shape, UnknownGroup}
use Rattle.convoy_draft.specs.declared.time.Time.TheVariants.{Ticks}
use Rattle.convoy_scenario.specs.declared.sender.Sender.{Sender}
use Rattle.convoy_scenario.specs.declared.sender.Sender.TheVariants.{Client, Group}
use Rattle.convoy_scenario.specs.Scenario.{Link, Scenario}
use Rattle.convoy_toml.specs.Reading.{as_written, input_of_table, scenario_of_input}
use Rattle.convoy_toml.specs.Shape.{agreement_of_table, link_of_table}

abbrev a : List ℕ
a = codes "a"

abbrev eu : List ℕ
eu = codes "eu"

abbrev us : List ℕ
us = codes "us"

-- ---- tables

abbrev texts : List (List ℕ) → Data
texts names = array (items_of (map string names))

-- the places of clients, before further members
abbrev at_places : List (List ℕ) → Members → Members
at_places places more = member (codes "places") (texts places) more

-- a message from there to these groups
abbrev message_table : List ℕ → List (List ℕ) → Data
message_table from to =
    table (member (codes "at") (integer (pos 0)) (member (codes "from") (string from) (member (codes "name") (string (codes "t")) (member (codes "to") (texts to) no_members))))

-- a table of links from there to there that take so long
abbrev link_table : Data → Data → ℕ → ℕ → Data
link_table from to least most =
    table (member (codes "from") from (member (codes "least") (integer (pos least)) (member (codes "most") (integer (pos most)) (member (codes "to") to no_members))))

abbrev linked : List Data → Members → Members
linked links more = member (codes "link") (array (items_of links)) more

-- the groups a and b, a greatest delay of 5 ticks, a message from there to these groups, with its latency asked at a, and further members
abbrev top : List ℕ → List (List ℕ) → Members → Members
top from to more =
    member (codes "delay") (integer (pos 5)) (member (codes "groups") (texts (a ∷ codes "b" ∷ []))
    (member (codes "multicast") (array (item (message_table from to) no_items))
    (member (codes "target") (table (member (codes "group") (string a) (member (codes "message") (string (codes "t")) no_members))) more)))

abbrev real : Members → Members
real more = member (codes "time") (string (codes "real")) more

abbrev scenario_of_table : Members → Result Scenario ScenarioFault
scenario_of_table members = scenario_of_input (input_of_table as_written members)

abbrev links_read : Members → Result (List Link) ScenarioFault
links_read members = scenario_of_table members >>= λ scenario. Ok scenario.links

abbrev link : Sender → ℕ → ℕ → ℕ → Link
link sender to least most = record { sender = sender; to = to; least = least; most = most; stamps = false }

-- ---- scenarios

-- in ticks, a client at the second place sends a message, and a link leads from each place
two_places : scenario_of_table (top us (a ∷ []) (at_places (eu ∷ us ∷ []) (linked (link_table (string us) (string a) 2 3 ∷ link_table (string eu) (string a) 1 2 ∷ []) no_members))) ≡ Ok (record {
  time = Ticks;
  tick = None;
  delay = 5;
  groups = a ∷ codes "b" ∷ [];
  places = eu ∷ us ∷ [];
  links = link (Client 1) 0 1 2 ∷ link (Client 2) 0 2 3 ∷ [];
  multicasts = record { name = codes "t"; sender = Client 2; destinations = 0 ∷ []; at = 0; longest_wait = 0 } ∷ [];
  target_message = 0;
  target_group = 0;
})
unfolding link_of_table
two_places = refl

-- several senders in one table: a place, a group, and one more place
several_senders : links_read (top eu (a ∷ []) (at_places (eu ∷ us ∷ []) (linked (link_table (texts (us ∷ codes "b" ∷ eu ∷ [])) (string a) 1 2 ∷ []) no_members)))
    ≡ Ok (link (Client 1) 0 1 2 ∷ link (Client 2) 0 1 2 ∷ link (Group 1) 0 1 2 ∷ [])
unfolding link_of_table
several_senders = refl

message_to_place : scenario_of_table (top eu (a ∷ eu ∷ []) (at_places (eu ∷ []) no_members)) ≡ Err UnknownGroup
message_to_place = refl

link_to_place : scenario_of_table (top eu (a ∷ []) (at_places (eu ∷ []) (linked (link_table (string a) (string eu) 1 2 ∷ []) no_members))) ≡ Err UnknownGroup
unfolding link_of_table
link_to_place = refl

-- a place has no ways back
back_to_place : scenario_of_table (top eu (a ∷ []) (at_places (eu ∷ [])
    (linked (table (member (codes "both") (boolean true) (member (codes "from") (string eu) (member (codes "least") (integer (pos 1)) (member (codes "most") (integer (pos 2)) (member (codes "to") (string a) no_members))))) ∷ []) no_members))) ≡ Err UnknownGroup
unfolding link_of_table
back_to_place = refl

from_no_place : scenario_of_table (top us (a ∷ []) (at_places (eu ∷ []) no_members)) ≡ Err UnknownGroup
from_no_place = refl

-- no replicas of a place agree
agreeing_place : scenario_of_table (top eu (a ∷ []) (at_places (eu ∷ [])
    (member (codes "group") (array (item (table (member (codes "agree") (array (item (integer (pos 1)) (item (integer (pos 2)) no_items))) (member (codes "name") (string eu) no_members))) no_items)) no_members))) ≡ Err UnknownGroup
unfolding agreement_of_table
agreeing_place = refl

-- ---- names and numbers

-- places with one letter each
abbrev letters : List (List ℕ)
letters = map (λ c. c ∷ []) (codes "cdefghij")

eight_places : scenario_of_table (top (codes "j") (a ∷ []) (at_places letters no_members)) >>= (λ scenario. Ok scenario.places) ≡ Ok letters
eight_places = refl

nine_places : scenario_of_table (top (codes "j") (a ∷ []) (at_places (codes "k" ∷ letters) no_members)) ≡ Err (OverLimit limit.Places)
nine_places = refl

no_place : scenario_of_table (top a (a ∷ []) (at_places [] no_members)) ≡ scenario_of_table (top a (a ∷ []) no_members)
no_place = refl

named_as_group : scenario_of_table (top eu (a ∷ []) (at_places (eu ∷ a ∷ []) no_members)) ≡ Err DoubleName
named_as_group = refl

named_twice : scenario_of_table (top eu (a ∷ []) (at_places (eu ∷ us ∷ eu ∷ []) no_members)) ≡ Err DoubleName
named_twice = refl

named_client : scenario_of_table (top eu (a ∷ []) (at_places (eu ∷ codes "client" ∷ []) no_members)) ≡ Err BadName
named_client = refl

-- ---- ranges of what goes by no link

-- replicas of a need 2 to 4 ticks: what comes from the place takes these, and what the text says that it takes without a link
agreement_from_place : links_read (top eu (a ∷ []) (at_places (eu ∷ us ∷ [])
    (member (codes "group") (array (item (table (member (codes "agree") (array (item (integer (pos 2)) (item (integer (pos 4)) no_items))) (member (codes "name") (string a) no_members))) no_items)) no_members)))
    ≡ Ok (link (Client 1) 0 3 9 ∷ link (Group 0) 0 2 4 ∷ [])
unfolding agreement_of_table
agreement_from_place = refl

-- in real time, a range from the place has to be written, and no other one is that
no_range : scenario_of_table (real (top eu (a ∷ []) (at_places (eu ∷ us ∷ []) no_members))) ≡ Err NoRange
no_range = refl

range_from_other_place : scenario_of_table (real (top eu (a ∷ []) (at_places (eu ∷ us ∷ []) (linked (link_table (string us) (string a) 1 2 ∷ []) no_members)))) ≡ Err NoRange
unfolding link_of_table
range_from_other_place = refl

range_from_clients : scenario_of_table (real (top eu (a ∷ []) (at_places (eu ∷ [])
    (linked (table (member (codes "least") (integer (pos 1)) (member (codes "most") (integer (pos 2)) (member (codes "to") (string a) no_members))) ∷ []) no_members)))) ≡ Err NoRange
unfolding link_of_table
range_from_clients = refl

range_from_place : links_read (real (top eu (a ∷ []) (at_places (eu ∷ us ∷ []) (linked (link_table (string eu) (string a) 2 5 ∷ []) no_members)))) ≡ Ok (link (Client 1) 0 2 5 ∷ [])
unfolding link_of_table
range_from_place = refl

least_from_place : links_read (real (top us (a ∷ codes "b" ∷ []) (at_places (eu ∷ us ∷ []) (member (codes "least") (integer (pos 2)) no_members))))
    ≡ Ok (link (Client 2) 0 2 5 ∷ link (Client 2) 1 2 5 ∷ link (Group 0) 1 2 5 ∷ link (Group 1) 0 2 5 ∷ [])
least_from_place = refl

-- ---- shapes

places_no_array : scenario_of_table (top eu (a ∷ []) (member (codes "places") (string eu) no_members)) ≡ Err (Shape key.Places)
places_no_array = refl

places_of_numbers : scenario_of_table (top eu (a ∷ []) (member (codes "places") (array (item (string eu) (item (integer (pos 1)) no_items))) no_members)) ≡ Err (Shape key.Places)
places_of_numbers = refl

-- their fault comes after that of groups, and before that of messages
groups_first : scenario_of_table (member (codes "delay") (integer (pos 5)) (member (codes "places") (integer (pos 1)) no_members)) ≡ Err (Shape key.Groups)
groups_first = refl

places_before_messages : scenario_of_table (member (codes "delay") (integer (pos 5)) (member (codes "groups") (texts (a ∷ [])) (member (codes "places") (integer (pos 1)) no_members))) ≡ Err (Shape key.Places)
places_before_messages = refl
