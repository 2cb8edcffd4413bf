-- One scenario with two choices of links: each run with narrower ranges is one with the wider ones.
use Rattle.std.proofs.Common.{◌≡◌, ℕ, ◌≤◌, Bool, List, [], ◌∷◌, ◌++◌, map, refl, sym, ap₂, subst, arith}
use Rattle.std.specs.List.{enumerate_from, filter, flat_map}
use Rattle.std.proofs.Math.Path.{fun_ext}
use Rattle.convoy_scenario.specs.declared.sender.Sender.{Sender}
use Rattle.convoy_scenario.specs.declared.sender.Sender.TheVariants.{Group}
use Rattle.convoy_scenario.specs.Scenario.{Link, Message, Scenario, message_at, stamp_takes_time, takes_time}
use Rattle.convoy_scenario.specs.ScenarioLaws.{HomesDecideWhatTakesTime}
use Rattle.convoy_packets.specs.declared.packet.Packet.{Packet}
use Rattle.convoy_packets.specs.declared.packet.Packet.TheVariants.{Wait, Multicast, Propose}
use Rattle.convoy_packets.specs.Packets.{packets_of, wait_packets}
use Rattle.convoy_packets.specs.Assignment.{AreWithin, IsAssignment, Schedule, range_of, ranges_of}
use Rattle.convoy_orders.proofs.SameOrder.{same_order}
use Rattle.convoy_orders.proofs.SamePackets.{same_latency}
use Rattle.convoy_orders.specs.NarrowerRanges.{AreNarrowerRanges, IsWithinRange, NarrowerIsNoSlower, NarrowerRunsAreRuns, with_links}

within_wide : (narrow wide : Packet → ℕ × ℕ) (ps : List Packet) (ds : List ℕ) → ((p : Packet) → IsWithinRange (narrow p) (wide p))
    → AreWithin (map narrow ps) ds → AreWithin (map wide ps) ds
within_wide narrow wide [] [] h a = tt
within_wide narrow wide [] (d ∷ ds) h a = absurd a
within_wide narrow wide (p ∷ ps) [] h a = absurd a
within_wide narrow wide (p ∷ ps) (d ∷ ds) h a =
    let low = (h p).0 in
    let high = (h p).1 in
    let least = a.0.0 in
    let most = a.0.1 in
    ((omega arith, omega arith), within_wide narrow wide ps ds h a.1)

module _ (decide : HomesDecideWhatTakesTime) (plan : Scenario) (delay : ℕ) (links : List Link) (narrow : AreNarrowerRanges delay links plan) where
  abbrev narrowed : Scenario
  narrowed = with_links delay links plan

  same_takes : takes_time narrowed ≡ takes_time plan
  same_takes = fun_ext (λ sender. fun_ext (λ to. (decide plan narrowed narrow.homes).messages sender to))

  same_stamps : stamp_takes_time narrowed ≡ stamp_takes_time plan
  same_stamps = fun_ext (λ from. fun_ext (λ to. (decide plan narrowed narrow.homes).stamps from to))

  -- the packets of the messages, where what takes time is told
  abbrev packets_where : (Sender → ℕ → Bool) → (ℕ → ℕ → Bool) → List Packet
  packets_where takes stamp_takes =
      flat_map
      (λ (p : ℕ × Message).
      wait_packets p.0 p.1
      ++ (map (λ g. Multicast p.0 g) (filter (takes p.1.sender) p.1.destinations)
      ++ flat_map (λ h. map (λ g. Propose p.0 h g) (filter (stamp_takes h) p.1.destinations)) p.1.destinations))
      (enumerate_from 0 plan.multicasts)

  same_packets : packets_of narrowed ≡ packets_of plan
  unfolding packets_of
  same_packets = ap₂ packets_where same_takes same_stamps

  packet_range : (p : Packet) → IsWithinRange (range_of narrowed p) (range_of plan p)
  packet_range (Wait m) = (omega arith, omega arith)
  packet_range (Multicast m g) = narrow.ranges (message_at plan m).sender g
  packet_range (Propose m h g) = narrow.ranges (Group h) g

  assigned : (schedule : Schedule) → IsAssignment narrowed schedule → IsAssignment plan schedule
  unfolding ranges_of
  assigned schedule is = record {
    delays = within_wide (range_of narrowed) (range_of plan) (packets_of plan) schedule.delays packet_range
        (subst (λ (ps : List Packet). AreWithin (map (range_of narrowed) ps) schedule.delays) same_packets is.delays);
    order = same_order plan narrowed refl refl schedule.order is.order;
  }

pub narrower_runs : HomesDecideWhatTakesTime → NarrowerRunsAreRuns
narrower_runs decide plan delay links schedule narrow is =
    (assigned decide plan delay links narrow schedule is, same_latency plan delay links (same_packets decide plan delay links narrow) schedule)

pub no_slower : NarrowerRunsAreRuns → NarrowerIsNoSlower
no_slower runs plan delay links m g latency narrow upper schedule is =
    let run = runs plan delay links schedule narrow is in
    subst (λ n. n ≤ latency) (sym (run.1 m g)) (upper schedule run.0)
