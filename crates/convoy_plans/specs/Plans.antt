-- What a plan is: a scenario as it is written, whose links and senders name sites, with the sites at which each group may be.
use Rattle.std.specs.Prelude.{◌≡◌, ℕ, ◌<◌, ◌==◌, Bool, false, ◌&&◌, not, List, [], ◌++◌, map, filter, length, slice_index_or, Option, Some, None, Ok, All, IsTrue}
use Rattle.std.specs.List.{list_all, list_any, range_with_len}
use Rattle.convoy_draft.specs.declared.duration.TimeUnit.{TimeUnit}
use Rattle.convoy_draft.specs.Checks.{all_differ, is_among}
use Rattle.convoy_scenario.specs.Numbering.{numbers_of}
use Rattle.convoy_toml.specs.Links.{Bundle}
use Rattle.convoy_toml.specs.Shape.{WrittenScenario}
use Rattle.convoy_toml.specs.Times.{bundles_of}
use Rattle.convoy_plans.specs.Ranges.{most_table}
use Rattle.convoy_plans.specs.declared.plan.Origin.{Origin}
use Rattle.convoy_plans.specs.declared.plan.Origin.TheVariants.{Site, Group}

-- AS IT IS WRITTEN
-- the table of a group: its name, and the sites at which it may be
pub record Home : Type 0 where
  pub name : List ℕ
  pub sites : List (List ℕ)

-- what is written in a plan's table: what a scenario's has too, with sites in its links and as senders; the sites; the tables of the groups; and the lists of groups no two of which are at one site
pub record WrittenPlan : Type 0 where
  pub scenario : WrittenScenario
  pub sites : List (List ℕ)
  pub homes : List Home
  pub apart : List (List (List ℕ))

-- IN NUMBERS
-- a plan: what is written of its scenario; the sites; by group the sites at which it may be; the lists of groups no two of which are at one site; how many nanoseconds a tick lasts where that is known, and the unit of D; by message its deadline; from site to site how many ticks what is written there takes at most; by message where it is sent from, and the groups that it goes to; and the sites from which clients send some message, in their order
pub record Plan : Type 0 where
  pub written : WrittenScenario
  pub sites : List (List ℕ)
  pub housed : List (List ℕ)
  pub apart : List (List ℕ)
  pub tick : Option ℕ
  pub unit : Option TimeUnit
  pub deadlines : List (Option ℕ)
  pub most : List (List ℕ)
  pub origins : List Origin
  pub goes : List (List ℕ)
  pub clients : List ℕ

-- the name of the group of that number
abbrev pub group_name : Plan → ℕ → List ℕ
group_name plan g = slice_index_or plan.written.groups g []

-- the name of the site of that number
abbrev pub site_name : Plan → ℕ → List ℕ
site_name plan s = slice_index_or plan.sites s []

-- the sites at which the group may be
abbrev pub sites_of : Plan → ℕ → List ℕ
sites_of plan g = slice_index_or plan.housed g []

-- the number is one of these
abbrev pub has : ℕ → List ℕ → Bool
has number numbers = list_any (λ n. n == number) numbers

-- the two groups are never at one site
abbrev pub is_apart : Plan → ℕ → ℕ → Bool
is_apart plan g h = not (g == h) && list_any (λ groups. has g groups && has h groups) plan.apart

-- where the message is sent from
abbrev pub origin_of : Plan → ℕ → Origin
origin_of plan m = slice_index_or plan.origins m (Site 0)

-- the name of the site or the group
abbrev pub name_of : Plan → Origin → List ℕ
name_of plan (Site s) = site_name plan s
name_of plan (Group g) = group_name plan g

-- the groups that the message goes to, ascending
abbrev pub goes_of : Plan → ℕ → List ℕ
goes_of plan m = slice_index_or plan.goes m []

-- the deadline of the message, where it has one
abbrev pub deadline_of : Plan → ℕ → Option ℕ
deadline_of plan m = slice_index_or plan.deadlines m None

-- how many ticks at most what goes from the one site to the other takes by the range that is written for it, or 0 where none is
abbrev pub most_between : Plan → ℕ → ℕ → ℕ
most_between plan a b = slice_index_or (slice_index_or plan.most a []) b 0

-- clients at that site send what is sent from there
abbrev pub is_site : ℕ → Origin → Bool
is_site site (Site other) = other == site
is_site site (Group g) = false

-- the sites from which clients send some message, in the order of the sites
abbrev pub client_sites : List Origin → List (List ℕ) → List ℕ
client_sites origins sites = filter (λ s. list_any (is_site s) origins) (range_with_len 0 (length sites))

-- clients at a site from which they send some message, or a group of the plan
abbrev pub IsOrigin : Plan → Origin → Type 0
IsOrigin plan (Site s) = IsTrue (has s plan.clients)
IsOrigin plan (Group g) = g < length plan.written.groups

-- what holds of each plan: its numbers are those of what is written
pub record IsPlan (plan : Plan) : Type 0 where
  pub bundles : List Bundle
  pub ticks : bundles_of plan.tick plan.written.links ≡ Ok bundles
  pub most : plan.most ≡ most_table bundles plan.sites
  pub housed : length plan.housed ≡ length plan.written.groups
  pub known : All (All (λ s. s < length plan.sites)) plan.housed
  pub senders : map (λ message. message.sender) plan.written.messages ≡ map (λ origin. Some (name_of plan origin)) plan.origins
  pub origins : All (IsOrigin plan) plan.origins
  pub differ : IsTrue (all_differ (plan.written.groups ++ plan.sites))
  pub clients : plan.clients ≡ client_sites plan.origins plan.sites
  pub addressed : IsTrue (list_all (λ message. list_all (λ name. is_among name plan.written.groups) message.to) plan.written.messages)
  pub goes : plan.goes ≡ map (λ message. numbers_of plan.written.groups message.to) plan.written.messages
