-- In traffic that keeps the links but for outages a message is committed after no more work than the longest of its kind.
use Rattle.std.proofs.Common.{◌≡◌, ℕ, ◌+◌, ◌*◌, ◌≤◌, ◌==◌, true, false, ◌&&◌, not, inl, inr, List, [], ◌∷◌, map, refl, sym, ap, ap₂, subst, ◌∙◌, arith}
use Rattle.std.proofs.lemmas.Bool.{cases_Bool, cond-true}
use Rattle.std.proofs.Math.Nat.{mul-le-mul_left}
use Rattle.convoy_scenario.specs.declared.sender.Sender.{Sender}
use Rattle.convoy_scenario.specs.Scenario.{Scenario, GoesTo, TakeTimeAlike, message_at, stamp_takes_time, takes_time}
use Rattle.convoy_packets.specs.declared.packet.Packet.{Packet}
use Rattle.convoy_packets.specs.declared.packet.Packet.TheVariants.{Multicast, Propose}
use Rattle.convoy_packets.specs.Packets.{is_wait}
use Rattle.convoy_packets.specs.Assignment.{Schedule, delay_of}
use Rattle.convoy_packets.specs.ScheduleLaws.{is_sent}
use Rattle.convoy_sim.specs.Times.{arrive, greatest, issue, propose_arrive, settle}
use Rattle.convoy_sim.proofs.Addressed.{goes_from_in, in_of_goes}
use Rattle.convoy_sim.proofs.Membership.{IsIn, greatest_is_one, in_greatest}
use Rattle.convoy_ceiling.specs.Ceiling.{IsOfKind, delays_between, longest_by, longest_to_commit, range_by, stamp_delays}
use Rattle.convoy_outages.specs.Outages.{KeepsLinksBut, Outages, sent_at, worked_of, worked_ticks}
use Rattle.convoy_outages.proofs.Used.{Used}
use Rattle.convoy_outages.proofs.Worked.{worked_joined, worked_none}

-- the greatest of some numbers, of which there are some, is one of them
pub greatest_reached : (f : ℕ → ℕ) (x : ℕ) (xs : List ℕ) → IsIn x xs → (y : ℕ) × IsIn y xs × (f y ≡ greatest (map f xs))
greatest_reached f x [] i = absurd i
greatest_reached f x (y ∷ ys) i = greatest_is_one f y ys

module _ (used : Used) (down : Outages) (times : ℕ) (scenario traffic : Scenario) (schedule : Schedule) (is : KeepsLinksBut down times scenario traffic schedule) where
  -- what is sent is on its way as the links say, but for outages
  sent_within : (packet : Packet) → is_wait packet ≡ false → is_sent traffic packet ≡ true
      → worked_of down traffic schedule packet ≤ times * (range_by scenario traffic packet).1
  sent_within packet none_waits sent = is.most packet (ap₂ (λ a b. a && not b) sent none_waits)

  -- what is not sent takes no work
  unsent_within : (packet : Packet) (most : ℕ) → is_sent traffic packet ≡ false → worked_of down traffic schedule packet ≤ times * most
  unsent_within packet most away =
      let none : delay_of traffic schedule packet ≡ 0 = used.unsent traffic schedule packet (ap not away) in
      let nothing = worked_none down (sent_at traffic schedule packet) (sent_at traffic schedule packet + delay_of traffic schedule packet) (omega arith) in
      omega arith

  -- what takes time in the traffic takes time in the scenario
  alike : TakeTimeAlike scenario traffic
  alike = used.homes scenario traffic is.homes

  -- a message on its way to one of its destinations
  message_work : (m h : ℕ) → GoesTo traffic m h
      → worked_of down traffic schedule (Multicast m h) ≤ times * (delays_between scenario (message_at traffic m).sender h).1
  message_work m h goes =
      let sender : Sender = (message_at traffic m).sender in
      let sent : is_sent traffic (Multicast m h) ≡ takes_time scenario sender h = ap (λ b. b && takes_time traffic sender h) goes ∙ alike.messages sender h in
      elim (cases_Bool (takes_time scenario sender h)) [
        | inl takes ↦
            subst (λ (range : ℕ × ℕ). worked_of down traffic schedule (Multicast m h) ≤ times * range.1) (sym (cond-true _ _ _ takes))
            (sent_within (Multicast m h) refl (sent ∙ takes))
        | inr home ↦ unsent_within (Multicast m h) (delays_between scenario sender h).1 (sent ∙ home)
      ]

  -- a stamp for it on its way from one of them to another
  stamp_work : (m h g : ℕ) → GoesTo traffic m h → GoesTo traffic m g
      → worked_of down traffic schedule (Propose m h g) ≤ times * (stamp_delays scenario h g).1
  stamp_work m h g from to =
      let sent : is_sent traffic (Propose m h g) ≡ stamp_takes_time scenario h g =
      ap₂ (λ a b. a && b && stamp_takes_time traffic h g) from to ∙ alike.stamps h g in
      elim (cases_Bool (stamp_takes_time scenario h g)) [
        | inl takes ↦
            subst (λ (range : ℕ × ℕ). worked_of down traffic schedule (Propose m h g) ≤ times * range.1) (sym (cond-true _ _ _ takes))
            (sent_within (Propose m h g) refl (sent ∙ takes))
        | inr home ↦ unsent_within (Propose m h g) (stamp_delays scenario h g).1 (sent ∙ home)
      ]

  module _ (n m g : ℕ) (kind : IsOfKind (message_at scenario n) (message_at traffic m)) (goes : GoesTo traffic m g) where
    -- the stamp of one of its destinations comes after no more work than the longest way
    stamp_comes : (h : ℕ) → IsIn h (message_at traffic m).destinations
        → worked_ticks down (issue traffic schedule m) (propose_arrive traffic schedule m g h) ≤ times * longest_to_commit scenario n g
    unfolding arrive
    stamp_comes h i =
        let to_h = goes_from_in traffic m h i in
        let sender : Sender = (message_at scenario n).sender in
        let first = subst (λ from. worked_of down traffic schedule (Multicast m h) ≤ times * (delays_between scenario from h).1) kind.sender (message_work m h to_h) in
        let second = stamp_work m h g to_h goes in
        let both = worked_joined down (issue traffic schedule m) (arrive traffic schedule m h) (propose_arrive traffic schedule m g h) (omega arith) (omega arith) in
        let longest = mul-le-mul_left times
        (in_greatest (longest_by scenario sender g) h (message_at scenario n).destinations (subst (IsIn h) kind.destinations i)) in
        omega arith

    -- so it is committed after no more
    pub commit_work : worked_ticks down (issue traffic schedule m) (settle traffic schedule m g) ≤ times * longest_to_commit scenario n g
    unfolding settle
    commit_work =
        let last = greatest_reached (propose_arrive traffic schedule m g) g (message_at traffic m).destinations (in_of_goes traffic m g goes) in
        subst (λ (tick : ℕ). worked_ticks down (issue traffic schedule m) tick ≤ times * longest_to_commit scenario n g) last.2 (stamp_comes last.0 last.1)
