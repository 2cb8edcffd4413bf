-- Worked rows: a plan of two sites, and the ceilings at its two placements.
use Rattle.std.proofs.Common.{◌≡◌, refl, true, false, pos, [], ◌∷◌, Bool, Some, None, ℕ, List, Ok, codes}
use Rattle.convoy_draft.specs.declared.time.Time.TheVariants.{Real}
use Rattle.convoy_scenario.specs.declared.sender.Sender.{Sender}
use Rattle.convoy_scenario.specs.declared.sender.Sender.TheVariants as sender
use Rattle.convoy_scenario.specs.Scenario.{Link, Scenario}
use Rattle.convoy_toml.specs.Links.{Bundle}
use Rattle.convoy_toml.specs.Shape.{LinkEnds, WrittenLink}
use Rattle.convoy_toml.specs.declared.written.WrittenTime.TheVariants.{Count}
use Rattle.convoy_ceiling.specs.Ceiling.{ceiling_at}
use Rattle.convoy_plans.specs.Numbering.{plan_in}
use Rattle.convoy_plans.specs.Placements.{scenario_at}
use Rattle.convoy_plans.specs.Plans.{Plan, WrittenPlan}
use Rattle.convoy_best_order.specs.declared.wanted.Wanted.TheVariants.{All}
use Rattle.convoy_best_plan.specs.Floors.{is_lower}
use Rattle.convoy_plan_ceilings.specs.Bounds.{ceiling_known}
use Rattle.convoy_plan_ceilings.specs.LeastCeilings.{reach_at, rows_at}

-- links from the one site to the other, and perhaps back, that take so long
abbrev ends : List ℕ → List ℕ → Bool → LinkEnds
ends from to both = record { senders = Some (from ∷ []); to = to ∷ []; both = both }

abbrev between : List ℕ → List ℕ → Bool → ℕ → ℕ → WrittenLink
between from to both least most = record { ends = ends from to both; least = Count (pos least); most = Count (pos most); stamps = false }

-- a client at the site x sends a message to the groups a and b, of which a is at x, and b at x or at y
abbrev written : WrittenPlan
written = record {
  scenario = record {
    time = Real;
    tick = None;
    delay = Some (Count (pos 10));
    least = None;
    groups = codes "a" ∷ codes "b" ∷ [];
    places = [];
    agreements = [];
    links = between (codes "x") (codes "x") false 1 2 ∷ between (codes "x") (codes "y") true 5 9 ∷ [];
    messages = record {
      name = codes "m";
      sender = Some (codes "x");
      to = codes "a" ∷ codes "b" ∷ [];
      at = Count (pos 0);
      until = None;
      within = None;
      longer = None;
    } ∷ [];
    target_message = codes "m";
    target_group = codes "a";
  };
  sites = codes "x" ∷ codes "y" ∷ [];
  homes = record { name = codes "b"; sites = codes "x" ∷ codes "y" ∷ [] } ∷ record { name = codes "a"; sites = codes "x" ∷ [] } ∷ [];
  apart = [];
}

abbrev bundles : List Bundle
bundles =
    record { ends = ends (codes "x") (codes "x") false; least = pos 1; most = pos 2; stamps = false }
    ∷ record { ends = ends (codes "x") (codes "y") true; least = pos 5; most = pos 9; stamps = false }
    ∷ []

abbrev plan : Plan
plan = plan_in written None None bundles (None ∷ [])

-- the scenario with these links
abbrev scenario : List Link → Scenario
scenario made = record {
  time = Real;
  tick = None;
  delay = 10;
  groups = codes "a" ∷ codes "b" ∷ [];
  places = [];
  links = made;
  multicasts = record { name = codes "m"; sender = sender.Client 0; destinations = 0 ∷ 1 ∷ []; at = 0; longest_wait = 0 } ∷ [];
  target_message = 0;
  target_group = 0;
}

abbrev link : Sender → ℕ → ℕ → ℕ → Link
link from to least most = record { sender = from; to = to; least = least; most = most; stamps = false }

-- both groups at x, and b at y
abbrev near : Scenario
near = scenario (link (sender.Client 0) 0 1 2 ∷ link (sender.Client 0) 1 1 2 ∷ link (sender.Group 0) 1 1 2 ∷ link (sender.Group 1) 0 1 2 ∷ [])

abbrev far : Scenario
far = scenario (link (sender.Client 0) 0 1 2 ∷ link (sender.Client 0) 1 5 9 ∷ link (sender.Group 0) 1 5 9 ∷ link (sender.Group 1) 0 5 9 ∷ [])

near_is : scenario_at plan (0 ∷ 0 ∷ []) ≡ Ok near
near_is = refl

far_is : scenario_at plan (0 ∷ 1 ∷ []) ≡ Ok far
far_is = refl

-- at x a commit takes 2 + 2 ticks, and another message may have come a tick after it was issued: 4 + 4 - 1
near_rows : rows_at All plan near
    ≡ record { target = record { message = 0; group = 0; deadline = None }; ceiling = 7 }
    ∷ record { target = record { message = 0; group = 1; deadline = None }; ceiling = 7 }
    ∷ []
unfolding ceiling_at
near_rows = refl

-- with b at y it takes 9 + 9 ticks at a, and 2 + 9 at b
far_rows : rows_at All plan far
    ≡ record { target = record { message = 0; group = 0; deadline = None }; ceiling = 35 }
    ∷ record { target = record { message = 0; group = 1; deadline = None }; ceiling = 17 }
    ∷ []
unfolding ceiling_at
far_rows = refl

near_reach : reach_at All plan near ≡ record { least = record { latency = 7; limit = 0 }; ties = 8 }
unfolding ceiling_at
near_reach = refl

far_reach : reach_at All plan far ≡ record { least = record { latency = 35; limit = 0 }; ties = 29 }
unfolding ceiling_at
far_reach = refl

near_is_better : is_lower (reach_at All plan near) (reach_at All plan far) ≡ true
unfolding ceiling_at
near_is_better = refl

-- what is known of the ceiling at b, which is at y: the commit there, and where it is known that what goes there takes 5 ticks at least, all
half_known : ceiling_known plan far (None ∷ []) (Some 0 ∷ Some 1 ∷ []) 0 1 ≡ 11
half_known = refl

all_known : ceiling_known plan far (None ∷ Some 5 ∷ []) (Some 0 ∷ Some 1 ∷ []) 0 1 ≡ 17
all_known = refl
