-- The numbers of a plan: what is written, with numbers in place of names. Each word has a value whatever is written; only where all checks hold do they mean what they say.
use Rattle.std.specs.Prelude.{ℕ, if◌then◌else◌, List, [], map, find, Option, Some, None}
use Rattle.std.specs.Option.{option_map_or}
use Rattle.std.specs.Str.{bytes_eq}
use Rattle.convoy_draft.specs.declared.duration.TimeUnit.{TimeUnit}
use Rattle.convoy_draft.specs.Checks.{is_among}
use Rattle.convoy_scenario.specs.Numbering.{numbers_of, place}
use Rattle.convoy_toml.specs.Links.{Bundle}
use Rattle.convoy_plans.specs.declared.plan.Origin.{Origin}
use Rattle.convoy_plans.specs.declared.plan.Origin.TheVariants.{Site, Group}
use Rattle.convoy_plans.specs.Plans.{Home, Plan, WrittenPlan, client_sites}
use Rattle.convoy_plans.specs.Ranges.{most_table}

-- the places of the names among others
abbrev pub places : List (List ℕ) → List (List ℕ) → List ℕ
places others names = map (λ name. place name others) names

-- the sites of the group of that name: those in the first table of the name
abbrev pub housed_in : List (List ℕ) → List Home → List ℕ → List ℕ
housed_in sites homes group = option_map_or (λ home. places sites home.sites) (find (λ home. bytes_eq group home.name) homes) []

-- the sites of each group
abbrev pub all_housed : WrittenPlan → List (List ℕ)
all_housed written = map (housed_in written.sites written.homes) written.scenario.groups

-- where what is written so is sent from
abbrev pub origin_in : List (List ℕ) → List (List ℕ) → Option (List ℕ) → Origin
origin_in sites groups None = Site 0
origin_in sites groups (Some name) = if is_among name groups then Group (place name groups) else Site (place name sites)

-- where each message is sent from
abbrev pub origins_in : WrittenPlan → List Origin
origins_in written = map (λ message. origin_in written.sites written.scenario.groups message.sender) written.scenario.messages

-- the groups that each message goes to
abbrev pub goes_in : WrittenPlan → List (List ℕ)
goes_in written = map (λ message. numbers_of written.scenario.groups message.to) written.scenario.messages

-- the lists of groups no two of which are at one site
abbrev pub apart_in : WrittenPlan → List (List ℕ)
apart_in written = map (places written.scenario.groups) written.apart

-- the plan that is written so, with its times in ticks
abbrev pub plan_in : WrittenPlan → Option ℕ → Option TimeUnit → List Bundle → List (Option ℕ) → Plan
plan_in written tick unit bundles deadlines = record {
  written = written.scenario;
  sites = written.sites;
  housed = all_housed written;
  apart = apart_in written;
  tick = tick;
  unit = unit;
  deadlines = deadlines;
  most = most_table bundles written.sites;
  origins = origins_in written;
  goes = goes_in written;
  clients = client_sites (origins_in written) written.sites;
}
