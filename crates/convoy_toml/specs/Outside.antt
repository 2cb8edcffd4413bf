-- How sure the ranges of links are: the shares that tables of links write. They are no part of the scenario.
use Rattle.std.specs.Prelude.{ℕ, List, [], ◌∷◌, flat_map, Option, Some, None, Result, Ok, Err}
use Rattle.toml.specs.Data.{Members, as_table}
use Rattle.convoy_draft.specs.declared.fault.Key.TheVariants.{Link}
use Rattle.convoy_draft.specs.declared.fault.ScenarioFault.{ScenarioFault}
use Rattle.convoy_toml.specs.Shape.{LinkEnds, ends_of_table, need_all, share_of_table}

-- of the packets that go by links with these ends at most so many billionths are outside their range
pub record LinkShare : Type 0 where
  pub ends : LinkEnds
  pub billionths : ℕ

-- the share that a table of links writes, if it writes one
abbrev pub share_in : Members → Option LinkShare
share_in table = of_reading (share_of_table table) (ends_of_table table) where
  of_reading : Result (Option ℕ) ScenarioFault → Result LinkEnds ScenarioFault → Option LinkShare
  of_reading (Ok (Some billionths)) (Ok ends) = Some (record { ends = ends; billionths = billionths })
  of_reading share ends = None

-- the share, where there is one
abbrev pub if_shared : Option LinkShare → List LinkShare
if_shared None = []
if_shared (Some share) = share ∷ []

-- the shares that tables of links write, in their order
abbrev pub shares_in : List Members → List LinkShare
shares_in tables = flat_map (λ table. if_shared (share_in table)) tables

-- the shares that the tables of links of a scenario's table write; none where the key is absent
abbrev pub shares_of_table : Members → List LinkShare
shares_of_table table = of_tables (need_all Link as_table table) where
  of_tables : Result (List Members) ScenarioFault → List LinkShare
  of_tables (Ok tables) = shares_in tables
  of_tables (Err fault) = []
