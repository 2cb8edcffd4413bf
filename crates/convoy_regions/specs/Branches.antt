-- A region of a scenario, as a search has it.
use Rattle.convoy_scenario.specs.Scenario.{Scenario}
use Rattle.convoy_regions.specs.Regions.{Region}

-- the scenario, and the region: all else follows from the two
pub record Branch : Type 0 where
  pub scenario : Scenario
  pub region : Region

-- a region of a scenario
abbrev pub branch_of : Scenario → Region → Branch
branch_of scenario region = record { scenario = scenario; region = region }
