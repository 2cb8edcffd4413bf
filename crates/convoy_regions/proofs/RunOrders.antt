-- The order of ties of a region's run is one of the scenario's.
use Rattle.std.proofs.Common.{◌≡◌, List, [], ◌∷◌, map}
use Rattle.convoy_draft.specs.declared.time.Time.{Time}
use Rattle.convoy_draft.specs.declared.time.Time.TheVariants.{Ticks, Real}
use Rattle.convoy_scenario.specs.Scenario.{Scenario}
use Rattle.convoy_packets.specs.Order.{IsOrder}
use Rattle.convoy_packets.specs.ScheduleLaws.{FixedOrderIsOrder, RanksGiveOrders}
use Rattle.convoy_regions.specs.Stages.{Precedence, stages_of}
use Rattle.convoy_regions.specs.Regions.{order_by, rank_by}
use Rattle.convoy_regions.proofs.RunRanks.{ranks_small}

pub order_is : FixedOrderIsOrder → RanksGiveOrders → (plan : Scenario) (time : Time) (before : List Precedence) → plan.time ≡ time → IsOrder plan (order_by time plan before)
order_is fixed ranks plan Ticks before is = fixed plan
order_is fixed ranks plan Real [] is = fixed plan
order_is fixed ranks plan Real (pair ∷ before) is = ranks plan (map (rank_by (pair ∷ before)) (stages_of plan)) is (ranks_small (pair ∷ before) (stages_of plan))
