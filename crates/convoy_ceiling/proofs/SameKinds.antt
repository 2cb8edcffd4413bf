-- What traffic has in common with the scenario of which its kinds are.
use Rattle.std.proofs.Common.{All, ◌≡◌, ℕ, ◌*◌, ◌<◌, ◌≤◌, ◌==◌, ◌||◌, not, false, length, refl, sym, ap, ap₂, subst, subst₂, IsTrue, arith}
use Rattle.std.proofs.lemmas.Bool.{and_parts}
use Rattle.std.proofs.lemmas.List.{get_or_default}
use Rattle.std.specs.List.{list_any}
use Rattle.std.specs.List.Sorted.{IsStrictlyIncreasing}
use Rattle.std.specs.Option.{is_some, option_map_or}
use Rattle.convoy_scenario.specs.Scenario.{Link, Scenario, GoesTo, no_message, message_at, is_same_sender, link_between, range_between}
use Rattle.convoy_scenario.specs.declared.sender.Sender.TheVariants.{Group}
use Rattle.convoy_scenario.specs.WellFormed.{IsScenario}
use Rattle.convoy_packets.specs.declared.packet.Packet.{Packet}
use Rattle.convoy_packets.specs.declared.packet.Packet.TheVariants.{Wait, Multicast, Propose}
use Rattle.convoy_packets.specs.Assignment.{range_of, receiver_of, sender_of}
use Rattle.convoy_sim.specs.Traffic.{IsTraffic}
use Rattle.convoy_sim.proofs.Addressed.{number_of_goes}
use Rattle.convoy_ceiling.specs.Ceiling.{IsFinerTrafficOf, IsOfKind, IsOfSomeKind, IsTrafficOf, range_by, travels}

-- a message goes where those of its kind go
pub goes_too : (scenario traffic : Scenario) (n m g : ℕ) → IsOfKind (message_at scenario n) (message_at traffic m) → GoesTo traffic m g → GoesTo scenario n g
goes_too scenario traffic n m g kind goes = subst (λ hs. IsTrue (list_any (λ h. h == g) hs)) kind.destinations goes

-- the messages of a scenario are of their own kinds
pub own_kinds : (scenario : Scenario) → IsTrafficOf scenario scenario
own_kinds scenario = record {
  groups = refl;
  delay = refl;
  links = refl;
  kinds = λ m other l.
      let same = get_or_default scenario.multicasts m other no_message l in
      (m, l, record { sender = ap (λ message. message.sender) same; destinations = ap (λ message. message.destinations) same });
}

-- traffic of a scenario's kinds is the same in the same ticks
pub same_ticks : (scenario traffic : Scenario) → IsTrafficOf scenario traffic → IsFinerTrafficOf 1 scenario traffic
same_ticks scenario traffic is = record {
  groups = is.groups;
  homes = record {
    messages = λ g. ap (λ links. not (is_same_sender (Group g) (Group g)) || is_some (link_between links (Group g) g)) is.links;
    stamps = λ g. ap (λ links. not (g == g) || option_map_or (λ (link : Link). link.stamps) (link_between links (Group g) g) false) is.links;
  };
  kinds = is.kinds;
  least = λ packet moves. subst (λ (range : ℕ × ℕ). 1 * range.0 ≤ (range_of traffic packet).0) (same_range packet moves) (omega arith);
  most = λ packet moves. subst (λ (range : ℕ × ℕ). (range_of traffic packet).1 ≤ 1 * range.1) (same_range packet moves) (omega arith);
} where
  by_links : (packet : Packet) → range_between traffic (sender_of traffic packet) (receiver_of packet) ≡ range_by scenario traffic packet
  by_links packet =
      ap₂ (λ links delay. option_map_or (λ link. (link.least, link.most)) (link_between links (sender_of traffic packet) (receiver_of packet)) (1, delay))
      is.links is.delay

  same_range : (packet : Packet) → IsTrue (travels traffic packet) → range_of traffic packet ≡ range_by scenario traffic packet
  same_range (Wait m) moves = absurd (let never = (and_parts _ false moves).1 in cc)
  same_range (Multicast m g) moves = by_links (Multicast m g)
  same_range (Propose m h g) moves = by_links (Propose m h g)

-- the messages of a scenario go to groups
pub kinds_go : (scenario : Scenario) → IsScenario scenario → IsTraffic scenario
kinds_go scenario well m other l =
    let message = well.messages m other l in
    record { destinations = message.destinations; ascending = message.ascending; known = message.known }

module _ (times : ℕ) (scenario traffic : Scenario) (is : IsFinerTrafficOf times scenario traffic) where
  pub kind_of : (m g : ℕ) → GoesTo traffic m g → IsOfSomeKind scenario (message_at traffic m)
  kind_of m g goes = is.kinds m no_message (number_of_goes traffic m g goes)

  pub is_traffic : IsTraffic scenario → IsTraffic traffic
  is_traffic well m other l =
      let kind = is.kinds m other l in
      let message = well kind.0 no_message kind.1 in
      record {
        destinations = subst (λ hs. 0 < length hs) (sym kind.2.destinations) message.destinations;
        ascending = subst IsStrictlyIncreasing (sym kind.2.destinations) message.ascending;
        known = subst₂ (λ groups hs. All (λ h. h < groups) hs) (sym is.groups) (sym kind.2.destinations) message.known;
      }
