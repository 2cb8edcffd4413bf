-- One scenario with other links by which it has the same packets: in a schedule all happens at the same ticks.
use Rattle.std.proofs.Common.{◌≡◌, ℕ, ◌+◌, ◌-◌, ◌==◌, nat_le, nat_lt, Bool, ◌&&◌, not, if◌then◌else◌, List, [], ◌∷◌, fold, map, flat_map, ap, ap₂, ◌∙◌}
use Rattle.std.proofs.Math.Path.{fun_ext}
use Rattle.std.specs.List.{list_any}
use Rattle.convoy_scenario.specs.Scenario.{Link, Scenario, message_at, message_numbers}
use Rattle.convoy_packets.specs.declared.packet.Packet.{Packet}
use Rattle.convoy_packets.specs.declared.packet.Packet.TheVariants.{Wait, Multicast, Propose}
use Rattle.convoy_packets.specs.Order.{rank_at}
use Rattle.convoy_packets.specs.Packets.{packets_of}
use Rattle.convoy_packets.specs.Assignment.{Schedule, delay_in, delay_of}
use Rattle.convoy_sim.specs.declared.moment.Moment.{Moment}
use Rattle.convoy_sim.specs.declared.moment.MomentKind.TheVariants.{Arrival, Commit}
use Rattle.convoy_sim.specs.Times.{arrive, greatest, settle}
use Rattle.convoy_sim.specs.Moments.{arrival_rank, commit_rank, insert_moment, moments_of, rank_in}
use Rattle.convoy_sim.specs.Stamps.{Clocks, after_moment, clocks_of, final_stamp, first_clocks, greatest_in, is_less, local_in, local_stamp}
use Rattle.convoy_sim.specs.Delivery.{addressed_to, deliver, first_tick, holds_back, latency_at}
use Rattle.convoy_orders.specs.NarrowerRanges.{with_links}
use Rattle.convoy_orders.proofs.SameTimes.{moment_at}

module _ (plan : Scenario) (delay : ℕ) (links : List Link) (same : packets_of (with_links delay links plan) ≡ packets_of plan) (schedule : Schedule) where
  abbrev other : Scenario
  other = with_links delay links plan

  same_delays : delay_of other schedule ≡ delay_of plan schedule
  unfolding delay_of
  same_delays = fun_ext (λ packet. ap (λ (ps : List Packet). delay_in ps schedule.delays packet) same)

  same_arrivals : arrive other schedule ≡ arrive plan schedule
  unfolding arrive
  same_arrivals = fun_ext (λ m. fun_ext (λ g. ap (λ (delays : Packet → ℕ). (message_at plan m).at + delays (Wait m) + delays (Multicast m g)) same_delays))

  same_settles : settle other schedule ≡ settle plan schedule
  unfolding settle
  same_settles =
      fun_ext (λ m. fun_ext (λ g.
      ap₂ (λ (arrivals : ℕ → ℕ → ℕ) (delays : Packet → ℕ). greatest (map (λ h. arrivals m h + delays (Propose m h g)) (message_at plan m).destinations))
      same_arrivals same_delays))

  same_ranks : commit_rank other schedule ≡ commit_rank plan schedule
  unfolding arrival_rank commit_rank
  same_ranks =
      fun_ext (λ m. fun_ext (λ g.
      ap₂ (λ (arrivals commits : ℕ → ℕ → ℕ).
      greatest (rank_in plan.time (rank_at schedule.order.commits m g)
      ∷ map (λ h. if arrivals m h == commits m g then arrival_rank plan schedule m h else 0) (message_at plan m).destinations))
      same_arrivals same_settles))

  same_moments : moments_of other schedule ≡ moments_of plan schedule
  unfolding arrival_rank moments_of
  same_moments =
      ap₂ (λ (arrivals commits : ℕ → ℕ → ℕ). moments arrivals commits (commit_rank other schedule)) same_arrivals same_settles
      ∙ ap (moments (arrive plan schedule) (settle plan schedule)) same_ranks where
        moments : (ℕ → ℕ → ℕ) → (ℕ → ℕ → ℕ) → (ℕ → ℕ → ℕ) → List Moment
        moments arrivals commits ranks =
            fold insert_moment []
            (flat_map
            (λ m. flat_map (λ g. moment_at Arrival m g (arrivals m g) (arrival_rank plan schedule m g) ∷ moment_at Commit m g (commits m g) (ranks m g) ∷ []) (message_at plan m).destinations)
            (message_numbers plan))

  same_clocks : clocks_of other schedule ≡ clocks_of plan schedule
  unfolding clocks_of
  same_clocks = ap (fold after_moment (first_clocks plan)) same_moments

  same_holds : (m g : ℕ) → holds_back other schedule m g ≡ holds_back plan schedule m g
  unfolding holds_back local_stamp final_stamp
  same_holds m g =
      fun_ext (λ tick. fun_ext (λ n.
      ap₂ (λ (arrivals commits : ℕ → ℕ → ℕ).
      nat_le (arrivals n g) tick && is_less (local_stamp other schedule n g) (final_stamp other schedule m) && nat_lt tick (commits n g))
      same_arrivals same_settles
      ∙ ap (λ (clocks : Clocks).
      nat_le (arrive plan schedule n g) tick && is_less (local_in clocks n g) (greatest_in clocks m) && nat_lt tick (settle plan schedule n g))
      same_clocks))

  same_delivery : (m g : ℕ) → deliver other schedule m g ≡ deliver plan schedule m g
  unfolding deliver
  same_delivery m g =
      ap₂ (λ (commits : ℕ → ℕ → ℕ) (holds : ℕ → ℕ → Bool).
      first_tick (λ tick. not (list_any (holds tick) (addressed_to plan g))) (greatest (map (λ n. commits n g) (addressed_to plan g)) - commits m g) (commits m g))
      same_settles (same_holds m g)

  pub same_latency : (m g : ℕ) → latency_at other schedule m g ≡ latency_at plan schedule m g
  unfolding latency_at
  same_latency m g =
      ap₂ (λ (delivery : ℕ) (delays : Packet → ℕ). delivery - ((message_at plan m).at + delays (Wait m))) (same_delivery m g) same_delays
