-- The packets of a scenario, and the delay of each in a schedule, by its place in the list.
use Rattle.std.proofs.Common.{◌≡◌, ℕ, zero, suc, ◌<◌, false, true, inl, inr, List, [], ◌∷◌, length, get_or, Option, Some, None, arith, refl, sym, ap, subst, ◌∙◌}
use Rattle.std.specs.List.{slice_get}
use Rattle.std.specs.Option.{is_some}
use Rattle.std.proofs.lemmas.Bool.{true≢false}
use Rattle.std.proofs.lemmas.Bool.Decides.{nat_tests}
use Rattle.std.proofs.lemmas.Option.{same_Some, slice_get-get_or, slice_get_within}
use Rattle.convoy_scenario.specs.Scenario.{Scenario}
use Rattle.convoy_packets.specs.declared.packet.Packet.{Packet}
use Rattle.convoy_packets.specs.declared.packet.Packet.TheVariants.{Wait, Multicast, Propose}
use Rattle.convoy_packets.specs.Packets.{packets_of, place_of, is_packet}
use Rattle.convoy_packets.specs.Assignment.{Schedule, delay_of}
use Rattle.convoy_packets.specs.ScheduleLaws.{PacketsAreThoseSent, is_sent}
use Rattle.convoy_packets.proofs.Places.{stands_where_found}
use Rattle.convoy_packets.proofs.Sent.{found_if_sent}
use Rattle.convoy_sim.proofs.Membership.{IsIn}
use Rattle.convoy_origin.proofs.Lists.{position_in}

pub delay_at_place : (plan : Scenario) (schedule : Schedule) (p : Packet) (i : ℕ) → place_of p (packets_of plan) ≡ Some i
    → delay_of plan schedule p ≡ get_or schedule.delays i 0
unfolding delay_of
delay_at_place plan schedule p i found = rw found refl

pub no_delay : (plan : Scenario) (schedule : Schedule) (p : Packet) → place_of p (packets_of plan) ≡ None → delay_of plan schedule p ≡ 0
unfolding delay_of
no_delay plan schedule p none = rw none refl

pub is_packet_itself : (p : Packet) → is_packet p p ≡ true
is_packet_itself (Wait m) = grind (arith, nat_tests)
is_packet_itself (Multicast m g) = grind (arith, nat_tests)
is_packet_itself (Propose m h g) = grind (arith, nat_tests)

-- a packet stands in the list just where the scenario has it
pub sent_of_in : PacketsAreThoseSent → (plan : Scenario) (p : Packet) → IsIn p (packets_of plan) → is_sent plan p ≡ true
sent_of_in sent plan p i =
    sym (sent plan p) ∙ ap is_some (position_in (is_packet p) (packets_of plan) p i (is_packet_itself p))

pub unsent_if_nowhere : PacketsAreThoseSent → (plan : Scenario) (p : Packet) → place_of p (packets_of plan) ≡ None → is_sent plan p ≡ false
unsent_if_nowhere sent plan p e = sym (sent plan p) ∙ ap is_some e

in_of_get : {X : Type 0} (xs : List X) (i : ℕ) (d : X) → i < length xs → IsIn (get_or xs i d) xs
in_of_get [] i d l = absurd (omega arith)
in_of_get (x ∷ xs) zero d l = inl refl
in_of_get (x ∷ xs) (suc i) d l = inr (in_of_get xs i d (omega arith))

pub in_of_sent : (plan : Scenario) (p : Packet) → is_sent plan p ≡ true → IsIn p (packets_of plan)
in_of_sent plan p sent = by_place (place_of p (packets_of plan)) refl where
  by_place : (o : Option ℕ) → place_of p (packets_of plan) ≡ o → IsIn p (packets_of plan)
  by_place None e = absurd (true≢false (sym sent ∙ sym (found_if_sent plan p) ∙ ap is_some e))
  by_place (Some i) e =
      let stands = stands_where_found (packets_of plan) i p e in
      let here = slice_get_within (packets_of plan) i p stands in
      let same : get_or (packets_of plan) i p ≡ p = same_Some (get_or (packets_of plan) i p) p (sym (slice_get-get_or (packets_of plan) i p here) ∙ stands) in
      subst (λ q. IsIn q (packets_of plan)) same (in_of_get (packets_of plan) i p here)

-- what stands in the list is sent
pub sent_at_place : PacketsAreThoseSent → (plan : Scenario) (p : Packet) (i : ℕ) → slice_get (packets_of plan) i ≡ Some p → is_sent plan p ≡ true
sent_at_place sent plan p i stands =
    let here = slice_get_within (packets_of plan) i p stands in
    let same : get_or (packets_of plan) i p ≡ p = same_Some (get_or (packets_of plan) i p) p (sym (slice_get-get_or (packets_of plan) i p here) ∙ stands) in
    sent_of_in sent plan p (subst (λ q. IsIn q (packets_of plan)) same (in_of_get (packets_of plan) i p here))
