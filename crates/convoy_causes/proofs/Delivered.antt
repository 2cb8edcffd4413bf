-- Deliveries of messages that are no target: runs of a scenario with another target are the same, and windows say the same of them.
use Rattle.std.proofs.Common.{◌≡◌, ℕ, ◌+◌, inl, inr, ap, refl, arith}
use Rattle.std.proofs.lemmas.Bool.{cases_lt}
use Rattle.convoy_scenario.specs.Scenario.{Scenario}
use Rattle.convoy_scenario.specs.Targets.{with_target}
use Rattle.convoy_packets.specs.Packets.{packets_of}
use Rattle.convoy_packets.specs.Order.{AreRanks, IsOrder, Order}
use Rattle.convoy_packets.specs.Assignment.{Schedule, IsAssignment, delay_of, ranges_of}
use Rattle.convoy_sim.specs.Times.{arrive, settle}
use Rattle.convoy_sim.specs.Moments.{arrival_rank, commit_rank, moments_of}
use Rattle.convoy_sim.specs.Stamps.{clocks_of, local_stamp, final_stamp}
use Rattle.convoy_sim.specs.Delivery.{holds_back, deliver}
use Rattle.convoy_sure.specs.Windows.{EnclosesAll, LeadTables}
use Rattle.convoy_sure.specs.Windows.{Windows}
use Rattle.convoy_causes.specs.declared.event.Event.{Event}
use Rattle.convoy_causes.specs.Causes.{event_tick, tick_of_cause}
use Rattle.convoy_causes.specs.CauseWindows.{with_causes, with_issue_since}
use Rattle.convoy_causes.specs.CauseLaws.{CausesCut, DeliveredBefore, DeliveriesEnd, LateDeliveriesEnd}
use Rattle.convoy_causes.proofs.CutByCauses.{CutsHold, issued_since}
use Rattle.std.proofs.Common.{List}

module _ (scenario : Scenario) (m g : ℕ) where
  abbrev other : Scenario
  other = with_target scenario m g

  same_ranks : (ranks : List ℕ) → AreRanks scenario ranks → AreRanks other ranks
  same_ranks ranks are = record { long = are.long; small = are.small; nowhere = are.nowhere }

  same_order : (order : Order) → IsOrder scenario order → IsOrder other order
  same_order order is = record {
    arrivals = same_ranks order.arrivals is.arrivals;
    commits = same_ranks order.commits is.commits;
    fixed = is.fixed;
  }

  pub assigned : (schedule : Schedule) → IsAssignment scenario schedule → IsAssignment other schedule
  unfolding packets_of ranges_of
  assigned schedule is = record { delays = is.delays; order = same_order schedule.order is.order }

  enclosed : (schedule : Schedule) (tables : LeadTables) → EnclosesAll scenario schedule tables → EnclosesAll other schedule tables
  unfolding packets_of delay_of arrive settle
  enclosed schedule tables is = record {
    times = record {
      arrival_low = is.times.arrival_low;
      arrival_high = is.times.arrival_high;
      settling_low = is.times.settling_low;
      settling_high = is.times.settling_high;
    };
    multicasts_low = is.multicasts_low;
    multicasts_high = is.multicasts_high;
    proposals_low = is.proposals_low;
    proposals_high = is.proposals_high;
  }

  delivered : (schedule : Schedule) → deliver other schedule m g ≡ deliver scenario schedule m g
  unfolding packets_of delay_of arrive settle arrival_rank commit_rank moments_of clocks_of local_stamp final_stamp holds_back deliver
  delivered schedule = refl

pub deliveries_end : DeliveredBefore → DeliveriesEnd
deliveries_end before scenario causes windows m g tick well enclose shown schedule caused =
    let earlier =
    before (other scenario m g) schedule windows (tick + 1) well (assigned scenario m g schedule caused.assignment) (enclosed scenario m g schedule _ (enclose schedule caused)) shown in
    let same = delivered scenario m g schedule in
    omega arith

pub late_deliveries_end : DeliveredBefore → CausesCut → CutsHold → LateDeliveriesEnd
late_deliveries_end before cut laws scenario causes cause windows tick well well_other are follows delivery enclose shown schedule caused =
    let m : ℕ = cause.message in
    let g : ℕ = cause.group in
    elim (cases_lt (deliver scenario schedule m g) (tick + 1)) [
      | inl l ↦ omega arith
      | inr late ↦
          let event : tick_of_cause scenario schedule cause ≡ deliver scenario schedule m g = ap (λ (e : Event). event_tick scenario schedule e m g) delivery in
          let soonest = (follows schedule caused).soonest in
          let cut_late : Windows = with_issue_since scenario cause.effect (tick + 1 + cause.least) windows in
          let since = issued_since laws scenario schedule well caused.assignment cause.effect (tick + 1 + cause.least) windows (omega arith) (enclose schedule caused) in
          let all = cut scenario schedule causes cut_late well are caused since in
          let earlier =
          before (other scenario m g) schedule (with_causes scenario causes cut_late) (tick + 1) well_other (assigned scenario m g schedule caused.assignment)
          (enclosed scenario m g schedule _ all) shown in
          let same = delivered scenario m g schedule in
          absurd (omega arith)
    ]
