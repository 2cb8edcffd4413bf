-- The placements of a plan's groups, and the scenario of each.
use Rattle.std.specs.Prelude.{◌≡◌, ◌≢◌, ◌⊎◌, ℕ, ◌≤◌, Bool, false, if◌then◌else◌, List, [], ◌∷◌, ◌++◌, map, flat_map, find, drop, length, slice_index_or, Option, Some, None, option_map, Result, IsTrue}
use Rattle.std.specs.List.{range_with_len, slice_get}
use Rattle.std.specs.Option.{option_map_or}
use Rattle.std.specs.Str.{bytes_eq}
use Rattle.convoy_draft.specs.declared.fault.ScenarioFault.{ScenarioFault}
use Rattle.convoy_draft.specs.Checks.{is_named_alike}
use Rattle.convoy_scenario.specs.Scenario.{Scenario}
use Rattle.convoy_toml.specs.Reading.{scenario_of_written}
use Rattle.convoy_toml.specs.Shape.{WrittenLink, WrittenMessage, WrittenScenario}
use Rattle.convoy_plans.specs.Plans.{Plan, group_name, has, is_apart, site_name, sites_of}
use Rattle.convoy_plans.specs.Ranges.{leads}

-- PLACEMENTS
-- a placement is a list of sites by the numbers of the groups: the site of one
abbrev pub site_at : List ℕ → ℕ → ℕ
site_at placement g = slice_index_or placement g 0

-- a placement of the plan: each group is at one of its sites, and no two are at one site that are to be apart
pub record IsPlacement (plan : Plan) (placement : List ℕ) : Type 0 where
  pub whole : length placement ≡ length plan.housed
  pub housed : (g : ℕ) → IsTrue (has (site_at placement g) (sites_of plan g)) ⊎ (length plan.housed ≤ g)
  pub apart : (g h : ℕ) → IsTrue (is_apart plan g h) → site_at placement g ≢ site_at placement h

-- the placement has each group at the site at which the partial one, a list of sites by group, has it already
abbrev pub Completes : List ℕ → List (Option ℕ) → Type 0
Completes placement partial = (g s : ℕ) → slice_index_or partial g None ≡ Some s → site_at placement g ≡ s

-- CLIENTS
-- the first of the sites from which clients send some message: its clients are those of the scenario
abbrev pub first_client : Plan → Option ℕ
first_client plan = slice_get plan.clients 0

-- the others of these: each is a group of the scenario, to which nothing goes
abbrev pub further_clients : Plan → List ℕ
further_clients plan = drop 1 plan.clients

-- the name is that of the first of these sites
abbrev pub is_first : Plan → List ℕ → Bool
is_first plan name = option_map_or (λ s. bytes_eq name (site_name plan s)) (first_client plan) false

-- who sends in the scenario what is written to be sent from there
abbrev pub sender_in : Plan → Option (List ℕ) → Option (List ℕ)
sender_in plan None = None
sender_in plan (Some name) = if is_first plan name then None else Some name

-- a message of the scenario
abbrev pub message_in : Plan → WrittenMessage → WrittenMessage
message_in plan message = record message { sender = sender_in plan message.sender }

-- the groups of the scenario: those of the plan, and then the other sites of clients
abbrev pub groups_in : Plan → List (List ℕ)
groups_in plan = plan.written.groups ++ map (site_name plan) (further_clients plan)

-- LINKS
-- a place from which something is sent: its name in the scenario, none for clients, and its site
pub record Spot : Type 0 where
  pub name : Option (List ℕ)
  pub site : ℕ

-- the numbers of the plan's groups
abbrev pub group_numbers : Plan → List ℕ
group_numbers plan = range_with_len 0 (length plan.written.groups)

-- the clients, at the first site from which they send
abbrev pub client_spots : Option ℕ → List Spot
client_spots None = []
client_spots (Some s) = record { name = None; site = s } ∷ []

-- a group, where it is
abbrev pub group_spot : Plan → List ℕ → ℕ → Spot
group_spot plan placement g = record { name = Some (group_name plan g); site = site_at placement g }

-- the clients at another site
abbrev pub further_spot : Plan → ℕ → Spot
further_spot plan s = record { name = Some (site_name plan s); site = s }

-- all places from which something is sent: the clients, the groups, and the clients at other sites
abbrev pub spots : Plan → List ℕ → List Spot
spots plan placement =
    client_spots (first_client plan)
    ++ map (group_spot plan placement) (group_numbers plan)
    ++ map (further_spot plan) (further_clients plan)

-- a link from the place to the group with the range of a table, if there is one
abbrev pub link_along : Spot → List ℕ → Option WrittenLink → List WrittenLink
link_along spot to None = []
link_along spot to (Some link) = record {
  ends = record { senders = option_map (λ name. name ∷ []) spot.name; to = to ∷ []; both = false };
  least = link.least;
  most = link.most;
  stamps = false;
} ∷ []

-- the first table whose links lead from the one site to the other
abbrev pub table_between : Plan → ℕ → ℕ → Option WrittenLink
table_between plan a b = find (λ link. leads link.ends (site_name plan a) (site_name plan b)) plan.written.links

-- the table whose range a link from the place to the group has: none where the place is the group itself
abbrev pub table_to : Plan → List ℕ → Spot → ℕ → Option WrittenLink
table_to plan placement spot g =
    if is_named_alike spot.name (Some (group_name plan g)) then None else table_between plan spot.site (site_at placement g)

-- the link from the place to a group other than itself, if a range is written from site to site
abbrev pub link_to : Plan → List ℕ → Spot → ℕ → List WrittenLink
link_to plan placement spot g = link_along spot (group_name plan g) (table_to plan placement spot g)

-- the links from the place to the groups
abbrev pub links_from : Plan → List ℕ → Spot → List WrittenLink
links_from plan placement spot = flat_map (link_to plan placement spot) (group_numbers plan)

-- all links of the scenario
abbrev pub links_at : Plan → List ℕ → List WrittenLink
links_at plan placement = flat_map (links_from plan placement) (spots plan placement)

-- SCENARIOS
-- the scenario of a placement, as it would be written: no clients of it are at named places
abbrev pub written_at : Plan → List ℕ → WrittenScenario
written_at plan placement = record plan.written {
  tick = plan.tick;
  groups = groups_in plan;
  places = [];
  agreements = [];
  links = links_at plan placement;
  messages = map (message_in plan) plan.written.messages;
}

-- the scenario of a placement, or why there is none
abbrev pub scenario_at : Plan → List ℕ → Result Scenario ScenarioFault
scenario_at plan placement = scenario_of_written (written_at plan placement)
