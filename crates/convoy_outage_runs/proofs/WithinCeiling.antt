-- A run through outages keeps the links but for them, so it is not later than the ceiling through outages.
use Rattle.std.proofs.Common.{◌≡◌, ℕ, ◌*◌, ◌<◌, ◌≤◌, false, not, refl, sym, ap, subst, subst₂, ◌∙◌}
use Rattle.std.proofs.lemmas.Bool.{and_parts, false≢true, not-true}
use Rattle.std.proofs.lemmas.List.{get_or_default}
use Rattle.convoy_scenario.specs.Scenario.{Scenario, message_at, no_message, range_between}
use Rattle.convoy_packets.specs.declared.packet.Packet.{Packet}
use Rattle.convoy_packets.specs.declared.packet.Packet.TheVariants.{Wait, Multicast, Propose}
use Rattle.convoy_packets.specs.Packets.{is_wait}
use Rattle.convoy_packets.specs.Assignment.{Schedule, range_of}
use Rattle.convoy_packets.specs.ScheduleLaws.{is_sent}
use Rattle.convoy_sim.specs.Times.{issue}
use Rattle.convoy_sim.specs.Delivery.{deliver, latency_at, latency_of}
use Rattle.convoy_ceiling.specs.Ceiling.{IsOfKind, range_by}
use Rattle.convoy_ceiling.proofs.SameKinds.{kinds_go}
use Rattle.convoy_outages.specs.Outages.{KeepsLinksBut, Outages, worked_of}
use Rattle.convoy_outages.specs.OutageCeiling.{outage_ceiling_at}
use Rattle.convoy_outages.specs.OutageLaws.{OutageCeilingHolds}
use Rattle.convoy_outage_runs.specs.OutageRuns.{IsRunThrough}
use Rattle.convoy_outage_runs.specs.OutageRunLaws.{RunsAreWithinOutageCeiling}
use Rattle.convoy_outage_runs.proofs.Told.{told_alike, told_goes, told_many, told_sends}

module _ (down : Outages) (times : ℕ) (plan told : Scenario) (schedule : Schedule) (run : IsRunThrough down times plan told schedule) where
  -- each message is of the kind of the one with its number
  own_kind : (m : ℕ) → IsOfKind (message_at plan m) (message_at told m)
  own_kind m = let is = told_alike down times plan told schedule run m in record { sender = is.sender; destinations = is.destinations }

  -- the scenario's links give a packet that travels the range that it has in the scenario
  own_range : (packet : Packet) → is_wait packet ≡ false → range_by plan told packet ≡ range_of plan packet
  own_range (Wait m) moves = absurd (false≢true (sym moves))
  own_range (Multicast m g) moves = ap (λ sender. range_between plan sender g) (told_alike down times plan told schedule run m).sender
  own_range (Propose m h g) moves = refl

  pub keeps_links : KeepsLinksBut down times plan told schedule
  keeps_links = record {
    groups = run.groups;
    homes = run.homes;
    kinds = λ m other l.
        let same = get_or_default told.multicasts m other no_message l in
        (m, subst (λ (n : ℕ). m < n) (told_many down times plan told schedule run) l, subst (IsOfKind (message_at plan m)) (sym same) (own_kind m));
    most = λ packet moves.
        let parts = and_parts (is_sent told packet) (not (is_wait packet)) moves in
        let moving : is_wait packet ≡ false = not-true (is_wait packet) parts.1 in
        subst (λ (range : ℕ × ℕ). worked_of down told schedule packet ≤ times * range.1) (sym (own_range packet moving))
        (run.most packet (sym (told_sends down times plan told schedule run packet moving) ∙ parts.0) moving);
  }

pub within_ceiling : OutageCeilingHolds → RunsAreWithinOutageCeiling
unfolding latency_of
within_ceiling holds span plan well down times told schedule run short =
    subst₂ (λ m g. latency_at told schedule m g ≤ times * outage_ceiling_at plan span plan.target_message plan.target_group) (sym run.target_message) (sym run.target_group)
    (holds span plan (kinds_go plan well) plan.target_message plan.target_group down times told schedule (keeps_links down times plan told schedule run)
    plan.target_message (own_kind down times plan told schedule run plan.target_message) (told_goes down times plan told schedule run plan.target_message plan.target_group well.addressed)
    (short (issue told schedule plan.target_message) (deliver told schedule plan.target_message plan.target_group)))
