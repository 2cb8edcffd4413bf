-- What a look at a region shows, before it is closed or split.
use Rattle.std.specs.Prelude.{◌≡◌, ℕ, ◌≤◌, ◌<◌, ◌^◌, None}
use Rattle.convoy_scenario.specs.Scenario.{Scenario}
use Rattle.convoy_sim.specs.Delivery.{latency_of}
use Rattle.convoy_regions.specs.Regions.{Region, run_of}
use Rattle.convoy_branch.specs.declared.bounds.Bounds.{Bounds}
use Rattle.convoy_branch.specs.declared.step.Look.{Look}
use Rattle.convoy_branch.specs.Asked.{IsAsked}
use Rattle.convoy_branch.specs.Steps.{IsFound, found_in, known_after}

-- what a look at the region's run alone shows
pub record IsLookAtRun (bounds : Bounds) (scenario : Scenario) (region : Region) (seen : ℕ) (look : Look) : Type 0 where
  pub found : look.found ≡ found_in bounds scenario region seen
  pub asked : IsAsked bounds scenario region (known_after seen look.found) look.asked
  pub tried : look.asked.leaf ≡ None → latency_of scenario (run_of scenario region) ≤ known_after seen look.found
  pub named : known_after seen look.found < 2 ^ 32

-- the record that is found, and what was asked for the latency that is known then; where no leaf closes the region for that, the latency of its run is no greater
pub record IsLook (bounds : Bounds) (scenario : Scenario) (region : Region) (seen : ℕ) (look : Look) : Type 0 where
  pub found : IsFound bounds scenario region seen look.found
  pub asked : IsAsked bounds scenario region (known_after seen look.found) look.asked
  pub tried : look.asked.leaf ≡ None → latency_of scenario (run_of scenario region) ≤ known_after seen look.found
  pub named : known_after seen look.found < 2 ^ 32
