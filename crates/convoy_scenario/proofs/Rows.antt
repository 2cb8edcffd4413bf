-- Worked rows: what the definitions give for some drafts.
use Rattle.std.proofs.Common.{◌≡◌, refl, true, false, ℕ, pos, negsuc, List, [], ◌∷◌, replicate, Option, Some, None, Ok, Err, codes}
use Rattle.convoy_draft.specs.declared.fault.ScenarioFault.TheVariants.{OverLimit, BadName, DoubleName, UnknownGroup, NoDestination, DoubleDestination, UnknownTarget, TargetNotAddressed}
use Rattle.convoy_draft.specs.declared.fault.Limit.TheVariants as limit
use Rattle.convoy_scenario.specs.declared.sender.Sender.TheVariants.{Client, Group}
use Rattle.convoy_draft.specs.declared.time.Time.TheVariants.{Ticks, Real}
use Rattle.convoy_scenario.specs.Scenario.{Scenario, range_between, takes_time}
use Rattle.convoy_draft.specs.Draft.{Draft, DraftLink}
use Rattle.convoy_scenario.specs.Numbering.{in_order, scenario_of_draft}
use Rattle.convoy_scenario.proofs.RowScenarios.{of_two}

-- three ticks at most; x to b, t to b and a, y from a to both; t at a
abbrev base : Draft
base = record {
  time = Ticks;
  tick = None;
  delay = pos 3;
  groups = codes "a" ∷ codes "b" ∷ [];
  places = [];
  links = [];
  messages =
      record { name = codes "x"; sender = None; to = codes "b" ∷ []; at = pos 0; until = pos 0 }
      ∷ record { name = codes "t"; sender = None; to = codes "b" ∷ codes "a" ∷ []; at = pos 0; until = pos 0 }
      ∷ record { name = codes "y"; sender = Some (codes "a"); to = codes "a" ∷ codes "b" ∷ []; at = pos 6; until = pos 6 }
      ∷ [];
  target_message = codes "t";
  target_group = codes "a";
}

-- the scenario of it, in which y and t may wait so long
abbrev base_scenario_where_both_wait : ℕ → ℕ → Scenario
base_scenario_where_both_wait y t =
    of_two Ticks 3 (record { name = codes "x"; sender = Client 0; destinations = 1 ∷ []; at = 0; longest_wait = 0 }
    ∷ record { name = codes "t"; sender = Client 0; destinations = 0 ∷ 1 ∷ []; at = 0; longest_wait = t }
    ∷ record { name = codes "y"; sender = Group 0; destinations = 0 ∷ 1 ∷ []; at = 6; longest_wait = y }
    ∷ []) 1 0

abbrev base_scenario : Scenario
base_scenario = base_scenario_where_both_wait 0 0

base_numbered : scenario_of_draft base ≡ Ok base_scenario
base_numbered = refl

real_numbered : scenario_of_draft (record base { time = Real }) ≡ Ok (record base_scenario { time = Real })
real_numbered = refl

-- one message
abbrev lone : List ℕ → List (List ℕ) → Draft
lone name to = record base { messages = record { name = name; sender = None; to = to; at = pos 0; until = pos 0 } ∷ [] }

delay_low : scenario_of_draft (record base { delay = pos 0 }) ≡ Err (OverLimit limit.Delay)
delay_low = refl

delay_negative : scenario_of_draft (record base { delay = negsuc 4 }) ≡ Err (OverLimit limit.Delay)
delay_negative = refl

delay_high : scenario_of_draft (record base { delay = pos 17; groups = [] }) ≡ Err (OverLimit limit.Delay)
delay_high = refl

no_groups : scenario_of_draft (record base { groups = []; messages = [] }) ≡ Err (OverLimit limit.Groups)
no_groups = refl

no_messages : scenario_of_draft (record base { groups = codes "client" ∷ []; messages = [] }) ≡ Err (OverLimit limit.Multicasts)
no_messages = refl

bad_group : scenario_of_draft (record base { groups = codes "client" ∷ codes "client" ∷ [] }) ≡ Err BadName
bad_group = refl

bad_message : scenario_of_draft (lone (codes "T") (codes "a" ∷ [])) ≡ Err BadName
bad_message = refl

double_group : scenario_of_draft (record base { groups = codes "a" ∷ codes "a" ∷ [] }) ≡ Err DoubleName
double_group = refl

unknown_sender : scenario_of_draft (record base { messages = record { name = codes "t"; sender = Some (codes "client"); to = []; at = pos 0; until = pos 0 } ∷ [] }) ≡ Err UnknownGroup
unknown_sender = refl

unknown_destination : scenario_of_draft (lone (codes "t") (codes "a" ∷ codes "c" ∷ [])) ≡ Err UnknownGroup
unknown_destination = refl

unknown_target_group : scenario_of_draft (record base { target_group = codes "c"; target_message = codes "c" }) ≡ Err UnknownGroup
unknown_target_group = refl

no_destination : scenario_of_draft (lone (codes "t") []) ≡ Err NoDestination
no_destination = refl

double_destination : scenario_of_draft (lone (codes "t") (codes "a" ∷ codes "a" ∷ [])) ≡ Err DoubleDestination
double_destination = refl

unknown_target : scenario_of_draft (lone (codes "x") (codes "a" ∷ [])) ≡ Err UnknownTarget
unknown_target = refl

not_addressed : scenario_of_draft (lone (codes "t") (codes "b" ∷ [])) ≡ Err TargetNotAddressed
not_addressed = refl

-- ---- waits

-- the base in which y is issued at a tick from 6 to that one, and t from tick 0 to that one
abbrev waiting : ℕ → ℕ → Draft
waiting y t = record base {
  messages =
      record { name = codes "x"; sender = None; to = codes "b" ∷ []; at = pos 0; until = pos 0 }
      ∷ record { name = codes "t"; sender = None; to = codes "b" ∷ codes "a" ∷ []; at = pos 0; until = pos t }
      ∷ record { name = codes "y"; sender = Some (codes "a"); to = codes "a" ∷ codes "b" ∷ []; at = pos 6; until = pos y }
      ∷ [];
}

wait_numbered : scenario_of_draft (waiting 9 0) ≡ Ok (base_scenario_where_both_wait 3 0)
wait_numbered = refl

until_before_at : scenario_of_draft (waiting 5 0) ≡ Err (OverLimit limit.Until)
until_before_at = refl

until_too_far : scenario_of_draft (waiting 65542 0) ≡ Err (OverLimit limit.Until)
until_too_far = refl

-- the target may wait, as long as its window and that of each other message are not too long together
target_waits : scenario_of_draft (waiting 9 65532) ≡ Ok (base_scenario_where_both_wait 3 65532)
target_waits = refl

target_has_no_room : scenario_of_draft (waiting 9 65533) ≡ Err (OverLimit limit.Until)
target_has_no_room = refl

-- the target's window ends at the last tick at which a message may be issued, or past it
abbrev late : ℕ → Draft
late t = record base { messages = record { name = codes "t"; sender = None; to = codes "b" ∷ codes "a" ∷ []; at = pos 1000000; until = pos t } ∷ [] }

target_ends_past_the_last_tick : scenario_of_draft (late 1000001) ≡ Err (OverLimit limit.Until)
target_ends_past_the_last_tick = refl

-- ---- links

-- the base with these links
abbrev linked : List DraftLink → Draft
linked links = record base { links = links }

-- from a client or a group to a group, with a range
abbrev link : Option (List ℕ) → List ℕ → ℕ → ℕ → DraftLink
link sender to least most = record { sender = sender; to = to; least = pos least; most = pos most; stamps = false }

links_numbered : scenario_of_draft (linked (link (Some (codes "b")) (codes "a") 1 1 ∷ link (Some (codes "a")) (codes "b") 1 3 ∷ link None (codes "b") 2 3 ∷ [])) ≡ Ok (record base_scenario {
  links = record { sender = Client 0; to = 1; least = 2; most = 3; stamps = false } ∷ record { sender = Group 1; to = 0; least = 1; most = 1; stamps = false } ∷ [];
})
links_numbered = refl

link_beyond : scenario_of_draft (linked (link (Some (codes "b")) (codes "a") 1 4 ∷ [])) ≡ Err (OverLimit limit.Link)
link_beyond = refl

link_turned : scenario_of_draft (linked (link (Some (codes "c")) (codes "c") 3 2 ∷ [])) ≡ Err (OverLimit limit.Link)
link_turned = refl

link_twice : scenario_of_draft (linked (link None (codes "c") 1 2 ∷ link None (codes "c") 1 1 ∷ [])) ≡ Err DoubleName
link_twice = refl

link_of_client_by_name : scenario_of_draft (linked (link (Some (codes "client")) (codes "a") 1 2 ∷ [])) ≡ Err UnknownGroup
link_of_client_by_name = refl

link_to_nowhere : scenario_of_draft (linked (link None (codes "c") 1 2 ∷ [])) ≡ Err UnknownGroup
link_to_nowhere = refl

-- what a group sends itself takes time by a link to itself alone, which stays also where it has the range of what has no link
link_to_itself : (takes_time (record base_scenario { links = record { sender = Group 0; to = 0; least = 1; most = 3; stamps = false } ∷ [] }) (Group 0) 0 ≡ true)
    × (takes_time base_scenario (Group 0) 0 ≡ false)
    × (in_order 3 (record { sender = Group 0; to = 0; least = 1; most = 3; stamps = false } ∷ record { sender = Group 0; to = 1; least = 1; most = 3; stamps = false } ∷ [])
    ≡ record { sender = Group 0; to = 0; least = 1; most = 3; stamps = false } ∷ [])
link_to_itself = (refl, refl, refl)

ranges_between : (range_between (record base_scenario { links = record { sender = Client 0; to = 1; least = 2; most = 3; stamps = false } ∷ record { sender = Group 1; to = 0; least = 1; most = 1; stamps = false } ∷ [] }) (Group 1) 0 ≡ (1, 1))
    × (range_between (record base_scenario { links = record { sender = Client 0; to = 1; least = 2; most = 3; stamps = false } ∷ record { sender = Group 1; to = 0; least = 1; most = 1; stamps = false } ∷ [] }) (Group 0) 1 ≡ (1, 3))
ranges_between = (refl, refl)

-- a tick in whole ticks, and D above 16 there
tick_in_ticks : scenario_of_draft (record base { tick = Some 1000 }) ≡ Err (OverLimit limit.Tick)
tick_in_ticks = refl

no_tick_at_all : scenario_of_draft (record base { time = Real; tick = Some 0 }) ≡ Err (OverLimit limit.Tick)
no_tick_at_all = refl

long_delay : scenario_of_draft (record base { time = Real; delay = pos 65535 }) ≡ Ok (record base_scenario { time = Real; delay = 65535 })
long_delay = refl

-- ---- places

-- the base draft with two places, where x is sent from the second, t from the first and y by a client at none
abbrev placed : Draft
placed = record base {
  places = codes "eu" ∷ codes "us" ∷ [];
  links = record { sender = Some (codes "us"); to = codes "b"; least = pos 2; most = pos 2; stamps = false }
      ∷ record { sender = Some (codes "b"); to = codes "a"; least = pos 1; most = pos 1; stamps = false }
      ∷ record { sender = None; to = codes "b"; least = pos 2; most = pos 3; stamps = false }
      ∷ [];
  messages =
      record { name = codes "x"; sender = Some (codes "us"); to = codes "b" ∷ []; at = pos 0; until = pos 0 }
      ∷ record { name = codes "t"; sender = Some (codes "eu"); to = codes "b" ∷ codes "a" ∷ []; at = pos 0; until = pos 0 }
      ∷ record { name = codes "y"; sender = None; to = codes "a" ∷ codes "b" ∷ []; at = pos 6; until = pos 6 }
      ∷ [];
}

-- clients at places are numbered from 1, and their links stand before those of groups
placed_numbered : scenario_of_draft placed ≡ Ok (record base_scenario {
  places = codes "eu" ∷ codes "us" ∷ [];
  links = record { sender = Client 0; to = 1; least = 2; most = 3; stamps = false }
      ∷ record { sender = Client 2; to = 1; least = 2; most = 2; stamps = false }
      ∷ record { sender = Group 1; to = 0; least = 1; most = 1; stamps = false }
      ∷ [];
  multicasts = record { name = codes "x"; sender = Client 2; destinations = 1 ∷ []; at = 0; longest_wait = 0 }
      ∷ record { name = codes "t"; sender = Client 1; destinations = 0 ∷ 1 ∷ []; at = 0; longest_wait = 0 }
      ∷ record { name = codes "y"; sender = Client 0; destinations = 0 ∷ 1 ∷ []; at = 6; longest_wait = 0 }
      ∷ [];
})
placed_numbered = refl

-- nothing goes to a place, neither a message nor a link
place_addressed : scenario_of_draft (record placed { messages = record { name = codes "t"; sender = None; to = codes "eu" ∷ []; at = pos 0; until = pos 0 } ∷ [] }) ≡ Err UnknownGroup
place_addressed = refl

place_linked : scenario_of_draft (record placed { links = record { sender = None; to = codes "us"; least = pos 1; most = pos 1; stamps = false } ∷ [] }) ≡ Err UnknownGroup
place_linked = refl

place_asked : scenario_of_draft (record placed { target_group = codes "eu" }) ≡ Err UnknownGroup
place_asked = refl

-- a place has a name of its own, which is not client
double_place : scenario_of_draft (record placed { places = codes "eu" ∷ codes "eu" ∷ [] }) ≡ Err DoubleName
double_place = refl

group_as_place : scenario_of_draft (record placed { places = codes "a" ∷ [] }) ≡ Err DoubleName
group_as_place = refl

bad_place : scenario_of_draft (record placed { places = codes "client" ∷ [] }) ≡ Err BadName
bad_place = refl

many_places : scenario_of_draft (record placed { places = replicate 9 (codes "eu") }) ≡ Err (OverLimit limit.Places)
many_places = refl
