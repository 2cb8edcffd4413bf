-- Worked rows: a plan of two sites, and its scenarios.
use Rattle.std.proofs.Common.{◌≡◌, refl, true, false, pos, [], ◌∷◌, Bool, Option, Some, None, ℕ, List, Ok, Err, codes}
use Rattle.toml.specs.Data.{Members, no_items, no_members, member, array, integer, string, table}
use Rattle.convoy_draft.specs.declared.fault.Key.TheVariants.{Stamps, Unknown}
use Rattle.convoy_draft.specs.declared.fault.ScenarioFault.TheVariants.{Shape}
use Rattle.convoy_draft.specs.declared.time.Time.TheVariants.{Real}
use Rattle.convoy_scenario.specs.declared.sender.Sender.{Sender}
use Rattle.convoy_scenario.specs.declared.sender.Sender.TheVariants as sender
use Rattle.convoy_scenario.specs.Scenario.{Link, Scenario}
use Rattle.convoy_toml.specs.Links.{Bundle}
use Rattle.convoy_toml.specs.Reading.{as_written}
use Rattle.convoy_toml.specs.Shape.{LinkEnds, WrittenLink, WrittenMessage}
use Rattle.convoy_toml.specs.declared.target.TargetKey.TheVariants.{Required}
use Rattle.convoy_toml.specs.declared.written.WrittenTime.TheVariants.{Count}
use Rattle.convoy_plans.specs.declared.fault.PlanFault.TheVariants.{NoPlace, NoRange, NoSites, Scenario as InScenario, UnknownSite}
use Rattle.convoy_plans.specs.Numbering.{plan_in}
use Rattle.convoy_plans.specs.Placements.{scenario_at}
use Rattle.convoy_plans.specs.Plans.{Home, Plan, WrittenPlan, most_between}
use Rattle.convoy_plans.specs.Reading.{plan_of_written}
use Rattle.convoy_plans.specs.Shape.{plan_of_table}

-- links from the one site to the other, and perhaps back, that take so long
abbrev ends : List ℕ → List ℕ → Bool → LinkEnds
ends from to both = record { senders = Some (from ∷ []); to = to ∷ []; both = both }

abbrev between : List ℕ → List ℕ → Bool → ℕ → ℕ → WrittenLink
between from to both least most = record { ends = ends from to both; least = Count (pos least); most = Count (pos most); stamps = false }

-- a client at the site x sends a message to the groups a and b
abbrev message : Option (List ℕ) → WrittenMessage
message from = record {
  name = codes "m";
  sender = from;
  to = codes "a" ∷ codes "b" ∷ [];
  at = Count (pos 0);
  until = None;
  within = None;
  longer = None;
}

abbrev links : List WrittenLink
links = between (codes "x") (codes "x") false 1 2 ∷ between (codes "x") (codes "y") true 5 9 ∷ []

-- a is at the site x, and b at x or at y
abbrev written : Option (List ℕ) → List WrittenLink → List Home → WrittenPlan
written from tables homes = record {
  scenario = record {
    time = Real;
    tick = None;
    delay = Some (Count (pos 10));
    least = None;
    groups = codes "a" ∷ codes "b" ∷ [];
    places = [];
    agreements = [];
    links = tables;
    messages = message from ∷ [];
    target_message = codes "m";
    target_group = codes "a";
  };
  sites = codes "x" ∷ codes "y" ∷ [];
  homes = homes;
  apart = [];
}

abbrev home : List ℕ → List (List ℕ) → Home
home name sites = record { name = name; sites = sites }

abbrev homes : List Home
homes = home (codes "b") (codes "x" ∷ codes "y" ∷ []) ∷ home (codes "a") (codes "x" ∷ []) ∷ []

abbrev bundles : List Bundle
bundles =
    record { ends = ends (codes "x") (codes "x") false; least = pos 1; most = pos 2; stamps = false }
    ∷ record { ends = ends (codes "x") (codes "y") true; least = pos 5; most = pos 9; stamps = false }
    ∷ []

abbrev plan : Plan
plan = plan_in (written (Some (codes "x")) links homes) None None bundles (None ∷ [])

read : plan_of_written as_written None (written (Some (codes "x")) links homes) ≡ Ok plan
read = refl

-- the range between the two sites is missing, and b may be at y
no_range : plan_of_written as_written None (written (Some (codes "x")) (between (codes "x") (codes "x") false 1 2 ∷ []) homes) ≡ Err NoRange
no_range = refl

no_table : plan_of_written as_written None (written (Some (codes "x")) links (home (codes "a") (codes "x" ∷ []) ∷ [])) ≡ Err NoSites
no_table = refl

no_such_site : plan_of_written as_written None (written (Some (codes "x")) links (home (codes "b") (codes "z" ∷ []) ∷ home (codes "a") (codes "x" ∷ []) ∷ [])) ≡ Err UnknownSite
no_such_site = refl

no_place : plan_of_written as_written None (written None links homes) ≡ Err NoPlace
no_place = refl

elsewhere : plan_of_written as_written None (written (Some (codes "z")) links homes) ≡ Err UnknownSite
elsewhere = refl

-- no link between sites is for stamps
for_stamps : plan_of_written as_written None (written (Some (codes "x")) (record (between (codes "x") (codes "x") false 1 2) { stamps = true } ∷ between (codes "x") (codes "y") true 5 9 ∷ []) homes) ≡ Err (InScenario (Shape Stamps))
for_stamps = refl

back : most_between plan 1 0 ≡ 9
back = refl

unwritten : most_between plan 1 1 ≡ 0
unwritten = refl

-- the scenario with these links
abbrev scenario : List Link → Scenario
scenario made = record {
  time = Real;
  tick = None;
  delay = 10;
  groups = codes "a" ∷ codes "b" ∷ [];
  places = [];
  links = made;
  multicasts = record { name = codes "m"; sender = sender.Client 0; destinations = 0 ∷ 1 ∷ []; at = 0; longest_wait = 0 } ∷ [];
  target_message = 0;
  target_group = 0;
}

abbrev link : Sender → ℕ → ℕ → ℕ → Link
link from to least most = record { sender = from; to = to; least = least; most = most; stamps = false }

together : scenario_at plan (0 ∷ 0 ∷ []) ≡ Ok (scenario (link (sender.Client 0) 0 1 2 ∷ link (sender.Client 0) 1 1 2 ∷ link (sender.Group 0) 1 1 2 ∷ link (sender.Group 1) 0 1 2 ∷ []))
together = refl

apart : scenario_at plan (0 ∷ 1 ∷ []) ≡ Ok (scenario (link (sender.Client 0) 0 1 2 ∷ link (sender.Client 0) 1 5 9 ∷ link (sender.Group 0) 1 5 9 ∷ link (sender.Group 1) 0 5 9 ∷ []))
apart = refl

-- ---- no places

-- a plan's sites are where its clients are: the key of a scenario's places is unknown there
abbrev placed : Members
placed =
    member (codes "delay") (integer (pos 3)) (member (codes "group") (array no_items) (member (codes "groups") (array no_items) (member (codes "multicast") (array no_items)
    (member (codes "places") (array no_items) (member (codes "sites") (array no_items)
    (member (codes "target") (table (member (codes "group") (string (codes "a")) (member (codes "message") (string (codes "m")) no_members))) no_members))))))

with_places : plan_of_table Required placed ≡ Err (InScenario (Shape Unknown))
with_places = refl
