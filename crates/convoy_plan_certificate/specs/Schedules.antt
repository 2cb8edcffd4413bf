-- The schedule of a witness.
use Rattle.std.specs.Prelude.{ℕ, ◌==◌, Bool, ◌&&◌, List, length, Option, Some, None, if◌then◌else◌}
use Rattle.convoy_draft.specs.declared.time.Time.{Time}
use Rattle.convoy_draft.specs.declared.time.Time.TheVariants.{Ticks, Real}
use Rattle.convoy_scenario.specs.Scenario.{Scenario}
use Rattle.convoy_packets.specs.Assignment.{Schedule}
use Rattle.convoy_packets.specs.Order.{Order, no_order}
use Rattle.convoy_packets.specs.OrderLists.{order_of}
use Rattle.convoy_certificate.specs.Reading.{is_assignment, is_order_list}
use Rattle.convoy_plan_certificate.specs.declared.branch.Witness.{Witness}

-- the order of ties that ranks give where time goes so: in whole ticks there are none, and ties fall in the fixed order
abbrev pub order_in : Time → Scenario → List ℕ → Option Order
order_in Ticks scenario ranks = if length ranks == 0 then Some no_order else None
order_in Real scenario ranks = if is_order_list scenario ranks then Some (order_of scenario ranks) else None

-- the schedule with these delays and that order of ties, if there is one
abbrev pub with_order : List ℕ → Option Order → Option Schedule
with_order delays None = None
with_order delays (Some order) = Some (record { delays = delays; order = order })

-- the schedule of the witness in a scenario, if it is one there
abbrev pub schedule_in : Scenario → Witness → Option Schedule
schedule_in scenario witness =
    if is_assignment scenario witness.delays.items
    then with_order witness.delays.items (order_in scenario.time scenario witness.ranks.items)
    else None
