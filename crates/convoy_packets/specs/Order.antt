-- The order of ties: what happens at one group in one tick happens in the order of ranks, and where ranks are equal in the fixed order of docs/PROTOCOL.md.
use Rattle.std.specs.Prelude.{◌≡◌, ℕ, ◌+◌, ◌*◌, ◌<◌, ◌≤◌, List, length, replicate, slice_index_or, All, IsFalse}
use Rattle.convoy_draft.specs.declared.limits.TheConstants.{MOST_GROUPS, MOST_MULTICASTS}
use Rattle.convoy_draft.specs.declared.time.Time.TheVariants.{Ticks}
use Rattle.convoy_scenario.specs.Scenario.{Scenario, message_at, is_addressed}
use Rattle.convoy_packets.specs.declared.table_places.TheConstants.{PLACES}
use Rattle.convoy_packets.specs.declared.order.TheConstants.{GREATEST_RANK}

-- the place of message m at group g in a table that has an entry for each message at each group
abbrev pub place : ℕ → ℕ → ℕ
place m g = m * MOST_GROUPS + g

-- an order of ties: the rank of each arrival and of each commit, by the place of its message at its group
pub record Order : Type 0 where
  pub arrivals : List ℕ
  pub commits : List ℕ

-- the order in which all ranks are 0
unfoldable pub no_order : Order
no_order = record { arrivals = replicate PLACES 0; commits = replicate PLACES 0 }

-- the rank of message m at group g
abbrev pub rank_at : List ℕ → ℕ → ℕ → ℕ
rank_at ranks m g = slice_index_or ranks (place m g) 0

-- there is a rank for each place, none is too great, and where a message does not go to a group it is 0
pub record AreRanks (scenario : Scenario) (ranks : List ℕ) : Type 0 where
  pub long : length ranks ≡ PLACES
  pub small : All (λ rank. rank ≤ GREATEST_RANK) ranks
  pub nowhere : (m g : ℕ) → m < MOST_MULTICASTS → g < MOST_GROUPS → IsFalse (is_addressed (message_at scenario m) g) → rank_at ranks m g ≡ 0

-- an order of the scenario's ties; in whole ticks ties fall in the fixed order, and all ranks are 0
pub record IsOrder (scenario : Scenario) (order : Order) : Type 0 where
  pub arrivals : AreRanks scenario order.arrivals
  pub commits : AreRanks scenario order.commits
  pub fixed : scenario.time ≡ Ticks → order ≡ no_order
