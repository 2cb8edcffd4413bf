-- The ceilings of kinds of messages.
use Rattle.std.specs.Prelude.{◌≡◌, ℕ, ◌<◌, ◌≤◌, ◌==◌, List, find, map, unwrap_or, length, slice_index_or}
use Rattle.std.specs.List.{flat_map, All}
use Rattle.convoy_scenario.specs.Scenario.{GoesTo, message_at, message_numbers}
use Rattle.convoy_sim.specs.Delivery.{addressed_to}
use Rattle.convoy_sim.specs.Times.{greatest}
use Rattle.convoy_ceiling.specs.Ceiling.{IsUpperInTraffic, ceiling_of, longest_after, longest_from_arrival}
use Rattle.convoy_kinds.specs.Kinds.{Kinds, all_kinds}
use Rattle.convoy_kinds.specs.Pairs.{pair_of}
use Rattle.convoy_kinds.specs.declared.ceiling_row.CeilingRow.{CeilingRow}
use Rattle.convoy_kinds.specs.declared.slowest.Slowest.{Slowest}

-- the kinds that go to group g, by number
abbrev pub kinds_to : Kinds → ℕ → List ℕ
kinds_to kinds g = addressed_to (all_kinds kinds) g

-- the ceiling of kind k at group g: the greatest that it has there beside any one kind that goes there, itself among them
unfoldable pub ceiling_of_kind : Kinds → ℕ → ℕ → ℕ
ceiling_of_kind kinds k g = greatest (map (λ l. ceiling_of (pair_of kinds k l g)) (kinds_to kinds g))

-- the rival at group g: the first kind, of those that go there, whose messages may be committed longest after their arrival
unfoldable pub rival_at : Kinds → ℕ → ℕ
rival_at kinds g =
    unwrap_or (find (λ l. longest_from_arrival (all_kinds kinds) g l == longest_after (all_kinds kinds) g) (kinds_to kinds g)) 0

-- the kind at each group that it goes to
abbrev pub targets_of_kind : Kinds → ℕ → List (ℕ × ℕ)
targets_of_kind kinds k = map (λ g. (k, g)) (message_at (all_kinds kinds) k).destinations

-- each kind at each group that it goes to, in the order of their numbers
abbrev pub kind_targets : Kinds → List (ℕ × ℕ)
kind_targets kinds = flat_map (targets_of_kind kinds) (message_numbers (all_kinds kinds))

-- the kind of that number goes to the group
pub record IsKindTarget (kinds : Kinds) (target : ℕ × ℕ) : Type 0 where
  pub known : target.0 < length kinds.kinds
  pub goes : GoesTo (all_kinds kinds) target.0 target.1

-- the kind and the group of a row
abbrev pub row_target : CeilingRow → ℕ × ℕ
row_target row = (row.kind, row.group)

-- The row tells the ceiling of its kind at its group, above which no message of the kind has a latency there in traffic of any of the kinds, and the rival beside which it has that ceiling.
pub record IsCeilingRow (kinds : Kinds) (row : CeilingRow) : Type 0 where
  pub kind : row.kind < length kinds.kinds
  pub goes : GoesTo (all_kinds kinds) row.kind row.group
  pub ceiling : row.ceiling ≡ ceiling_of_kind kinds row.kind row.group
  pub safe : IsUpperInTraffic (all_kinds kinds) row.kind row.group row.ceiling
  pub rival : row.rival ≡ rival_at kinds row.group
  pub known : row.rival < length kinds.kinds
  pub comes : GoesTo (all_kinds kinds) row.rival row.group
  pub beside : ceiling_of (pair_of kinds row.kind row.rival row.group) ≡ row.ceiling

-- there is a row for each kind at each group that it goes to, in their order
pub record AreCeilingRows (kinds : Kinds) (rows : List CeilingRow) : Type 0 where
  pub targets : map row_target rows ≡ kind_targets kinds
  pub told : All (IsCeilingRow kinds) rows

-- the row is that of the target, and tells its ceiling
pub record TellsCeiling (kinds : Kinds) (target : ℕ × ℕ) (row : CeilingRow) : Type 0 where
  pub of_target : row_target row ≡ target
  pub told : IsCeilingRow kinds row

-- the rival at the group is told, and how long after its arrival a message of that kind may be committed there
pub record IsSlowest (kinds : Kinds) (g : ℕ) (slowest : Slowest) : Type 0 where
  pub kind : slowest.kind ≡ rival_at kinds g
  pub after : slowest.after ≡ longest_after (all_kinds kinds) g
  pub fits : slowest.after ≤ 131070

-- they are told at the first groups
abbrev pub AreSlowest : Kinds → List Slowest → Type 0
AreSlowest kinds slowest = (g : ℕ) (past : Slowest) → g < length slowest → IsSlowest kinds g (slice_index_or slowest g past)
