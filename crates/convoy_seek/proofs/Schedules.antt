-- How long a schedule is, and assignments with another order of ties.
use Rattle.std.proofs.Common.{◌≡◌, ℕ, suc, List, [], ◌∷◌, length, refl, ap, subst, sym, ◌∙◌}
use Rattle.convoy_scenario.specs.Scenario.{Scenario}
use Rattle.convoy_packets.specs.Assignment.{AreWithin, IsAssignment, Schedule, ranges_of}
use Rattle.convoy_packets.specs.ScheduleLaws.{FixedOrderIsOrder}
use Rattle.convoy_packets.specs.Order.{IsOrder, Order, no_order}
use Rattle.convoy_packets.specs.Table.{PacketTable, greatest_of, table_of}
use Rattle.convoy_sim.specs.Record.{IsAttained}
use Rattle.convoy_seek.specs.declared.seeker.Seeker.{Seeker}
use Rattle.convoy_seek.specs.Seeking.{IsSeeking}

-- there are as many delays as ranges
pub length_within : (ranges : List (ℕ × ℕ)) (delays : List ℕ) → AreWithin ranges delays → length delays ≡ length ranges
length_within [] [] within = refl
length_within [] (d ∷ ds) within = absurd within
length_within (r ∷ rs) [] within = absurd within
length_within (r ∷ rs) (d ∷ ds) within = ap suc (length_within rs ds within.1)

-- two assignments are of one length
pub same_length : (plan : Scenario) (some others : Schedule) → IsAssignment plan some → IsAssignment plan others → length some.delays ≡ length others.delays
same_length plan some others first second =
    length_within (ranges_of plan) some.delays first.delays ∙ sym (length_within (ranges_of plan) others.delays second.delays)

-- so are the two of a seeker
pub as_long : (plan : Scenario) (seeker : Seeker) → IsSeeking plan seeker → length seeker.kept.delays ≡ length seeker.tried.delays
as_long plan seeker is = same_length plan seeker.kept seeker.tried is.kept is.tried

-- and so is that of its best record
pub record_as_long : (plan : Scenario) (seeker : Seeker) (schedule : Schedule) → IsSeeking plan seeker → IsAttained seeker.best → schedule ≡ seeker.best.schedule → length seeker.tried.delays ≡ length schedule.delays
record_as_long plan seeker schedule is attained best_is =
    let assigned : IsAssignment plan seeker.best.schedule = subst (λ (s : Scenario). IsAssignment s seeker.best.schedule) is.of_scenario attained.assignment in
    same_length plan seeker.tried seeker.best.schedule is.tried assigned ∙ ap (λ (s : Schedule). length s.delays) (sym best_is)

-- an assignment with another order of ties
pub reordered : (plan : Scenario) (before after : Schedule) (order : Order) → IsOrder plan order → after ≡ record before { order = order } → IsAssignment plan before → IsAssignment plan after
reordered plan before after order of_plan is assigned =
    let next : IsAssignment plan (record before { order = order }) = record { delays = assigned.delays; order = of_plan } in
    subst (λ (s : Schedule). IsAssignment plan s) (sym is) next

-- the fixed order is one of each scenario
pub fixed_order : (plan : Scenario) (order : Order) → FixedOrderIsOrder → order ≡ no_order → IsOrder plan order
fixed_order plan order law none = subst (λ (o : Order). IsOrder plan o) (sym none) (law plan)

-- the greatest delays, with ties in the fixed order
pub greatest_assigned : (plan : Scenario) (table : PacketTable) (schedule : Schedule) → FixedOrderIsOrder → table ≡ table_of plan → schedule ≡ greatest_of table.ranges → AreWithin table.ranges schedule.delays → IsAssignment plan schedule
greatest_assigned plan table schedule law of_plan is within =
    record {
      delays = subst (λ (t : PacketTable). AreWithin t.ranges schedule.delays) of_plan within;
      order = fixed_order plan schedule.order law (ap (λ (s : Schedule). s.order) is);
    }
