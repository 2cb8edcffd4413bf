-- The delays of traffic, whatever the order of ties, are within the ranges of the scenario of which its kinds are.
use Rattle.std.proofs.Common.{◌≡◌, ℕ, ◌*◌, ◌≤◌, true, false, ◌&&◌, not, inl, inr, refl, sym, ap, ap₂, subst, ◌∙◌, arith}
use Rattle.std.proofs.lemmas.Bool.{cases_Bool, cond-true, cond-false}
use Rattle.convoy_scenario.specs.declared.sender.Sender.{Sender}
use Rattle.convoy_scenario.specs.Scenario.{Scenario, GoesTo, TakeTimeAlike, message_at, stamp_takes_time, takes_time}
use Rattle.convoy_packets.specs.declared.packet.Packet.{Packet}
use Rattle.convoy_packets.specs.declared.packet.Packet.TheVariants.{Multicast, Propose}
use Rattle.convoy_packets.specs.Packets.{is_wait}
use Rattle.convoy_packets.specs.Assignment.{Schedule, AreWithin, IsWithin, delay_of, in_fixed_order, range_of, ranges_of}
use Rattle.convoy_packets.specs.ScheduleLaws.{is_sent}
use Rattle.convoy_ceiling.specs.Ceiling.{IsFinerTrafficOf, delays_between, range_by, stamp_delays}
use Rattle.convoy_ceiling.proofs.Used.{Used}

-- the delay is within so many times the range
abbrev pub IsTimesWithin : ℕ → ℕ × ℕ → ℕ → Type 0
IsTimesWithin times range delay = (times * range.0 ≤ delay) × (delay ≤ times * range.1)

module _ (used : Used) (times : ℕ) (scenario traffic : Scenario) (is : IsFinerTrafficOf times scenario traffic) (schedule : Schedule) (within : AreWithin (ranges_of traffic) schedule.delays) where
  -- delays are the same whatever the order of ties, so those of a packet that is sent are in its range
  sent_within : (packet : Packet) → is_sent traffic packet ≡ true → IsWithin (range_of traffic packet) (delay_of traffic schedule packet)
  unfolding delay_of
  sent_within packet sent =
      used.within traffic (in_fixed_order schedule.delays) packet (record { delays = within; order = used.fixed traffic }) sent

  -- what is sent takes time within so many times the range that the scenario's links give it
  sent_times : (packet : Packet) → is_wait packet ≡ false → is_sent traffic packet ≡ true
      → IsTimesWithin times (range_by scenario traffic packet) (delay_of traffic schedule packet)
  sent_times packet none_waits sent =
      let own = sent_within packet sent in
      let moves = ap₂ (λ a b. a && not b) sent none_waits in
      let least = is.least packet moves in
      let most = is.most packet moves in
      (omega (arith, least, own.0), omega (arith, most, own.1))

  -- what is not sent takes none
  unsent_times : (packet : Packet) → is_sent traffic packet ≡ false → IsTimesWithin times (0, 0) (delay_of traffic schedule packet)
  unsent_times packet away =
      let none : delay_of traffic schedule packet ≡ 0 = used.unsent traffic schedule packet (ap not away) in
      subst (IsTimesWithin times (0, 0)) (sym none) (omega arith, omega arith)

  -- what takes time in the traffic takes time in the scenario, be it a message or a stamp
  alike : TakeTimeAlike scenario traffic
  alike = used.homes scenario traffic is.homes

  -- a message on its way to one of its destinations
  pub multicast_within : (m h : ℕ) → GoesTo traffic m h
      → IsTimesWithin times (delays_between scenario (message_at traffic m).sender h) (delay_of traffic schedule (Multicast m h))
  multicast_within m h goes =
      let sender : Sender = (message_at traffic m).sender in
      let sent : is_sent traffic (Multicast m h) ≡ takes_time scenario sender h = ap (λ b. b && takes_time traffic sender h) goes ∙ alike.messages sender h in
      elim (cases_Bool (takes_time scenario sender h)) [
        | inl takes ↦
            subst (λ range. IsTimesWithin times range (delay_of traffic schedule (Multicast m h))) (sym (cond-true _ _ _ takes))
            (sent_times (Multicast m h) refl (sent ∙ takes))
        | inr home ↦
            subst (λ range. IsTimesWithin times range (delay_of traffic schedule (Multicast m h))) (sym (cond-false _ _ _ home))
            (unsent_times (Multicast m h) (sent ∙ home))
      ]

  -- a proposal for it on its way from the one to another
  pub propose_within : (m h g : ℕ) → GoesTo traffic m h → GoesTo traffic m g
      → IsTimesWithin times (stamp_delays scenario h g) (delay_of traffic schedule (Propose m h g))
  propose_within m h g from to =
      let sent : is_sent traffic (Propose m h g) ≡ stamp_takes_time scenario h g =
      ap₂ (λ a b. a && b && stamp_takes_time traffic h g) from to ∙ alike.stamps h g in
      elim (cases_Bool (stamp_takes_time scenario h g)) [
        | inl takes ↦
            subst (λ range. IsTimesWithin times range (delay_of traffic schedule (Propose m h g))) (sym (cond-true _ _ _ takes))
            (sent_times (Propose m h g) refl (sent ∙ takes))
        | inr home ↦
            subst (λ range. IsTimesWithin times range (delay_of traffic schedule (Propose m h g))) (sym (cond-false _ _ _ home))
            (unsent_times (Propose m h g) (sent ∙ home))
      ]
