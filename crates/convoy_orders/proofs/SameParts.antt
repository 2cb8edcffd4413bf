-- What two scenarios have in common that are one but for the order of their groups: which messages go where, which packets there are, and their ranges.
use Rattle.std.proofs.Common.{◌≡◌, ℕ, ◌==◌, ◌≤◌, max, Bool, ◌&&◌, nat_lt, inl, inr, map, fold, refl, sym, ap, ap₂, subst, ◌∙◌, arith}
use Rattle.std.specs.List.{range_with_len}
use Rattle.std.proofs.lemmas.Bool.{cases_Bool, eqb-true}
use Rattle.convoy_scenario.specs.declared.sender.Sender.{Sender}
use Rattle.convoy_scenario.specs.declared.sender.Sender.TheVariants.{Client, Group}
use Rattle.convoy_scenario.specs.Scenario.{Scenario, GoesTo, message_at, message_numbers, is_addressed, range_between, stamp_takes_time, takes_time}
use Rattle.convoy_packets.specs.declared.packet.Packet.{Packet}
use Rattle.convoy_packets.specs.declared.packet.Packet.TheVariants.{Wait, Multicast, Propose}
use Rattle.convoy_packets.specs.Assignment.{range_of}
use Rattle.convoy_packets.specs.ScheduleLaws.{is_sent}
use Rattle.convoy_sim.proofs.Membership.{in_greatest, greatest_most}
use Rattle.convoy_sim.proofs.Addressed.{in_of_goes, goes_from_in}
use Rattle.convoy_orders.specs.Renumbered.{IsRenumbered, IsRenumberedMessage, renumbered_sender}
use Rattle.convoy_orders.proofs.Renumbering.{renumbered_packet, same_number, sender_again}

module _ (renumber back : ℕ → ℕ) (plan other : Scenario) (is : IsRenumbered renumber back plan other) where
  pub same_numbers : message_numbers other ≡ message_numbers plan
  same_numbers = ap (range_with_len 0) is.message_count

  pub goes_there : (m g : ℕ) → GoesTo plan m g → GoesTo other m (renumber g)
  goes_there m g goes = (is.messages m).destinations g ∙ goes

  pub goes_here : (m g : ℕ) → GoesTo other m (renumber g) → GoesTo plan m g
  goes_here m g goes = sym ((is.messages m).destinations g) ∙ goes

  pub goes_back : (m h : ℕ) → GoesTo other m h → GoesTo plan m (back h)
  goes_back m h goes = goes_here m (back h) (subst (λ k. GoesTo other m k) (sym (is.there_again h)) goes)

  -- ---- what takes time
  pub takes_too : (sender : Sender) (to : ℕ) → takes_time other (renumbered_sender renumber sender) (renumber to) ≡ takes_time plan sender to
  takes_too (Client p) to = refl
  takes_too (Group g) to = elim (cases_Bool (g == to)) [
    | inl home ↦
        subst (λ (k : ℕ). takes_time other (Group (renumber k)) (renumber to) ≡ takes_time plan (Group k) to) (sym (eqb-true g to home)) (is.homes.messages to)
    | inr away ↦ rw (same_number renumber back is.back_again g to, away) refl
  ]

  pub stamp_takes_too : (from to : ℕ) → stamp_takes_time other (renumber from) (renumber to) ≡ stamp_takes_time plan from to
  stamp_takes_too from to = elim (cases_Bool (from == to)) [
    | inl home ↦
        subst (λ (k : ℕ). stamp_takes_time other (renumber k) (renumber to) ≡ stamp_takes_time plan k to) (sym (eqb-true from to home)) (is.homes.stamps to)
    | inr away ↦ rw (same_number renumber back is.back_again from to, away) refl
  ]

  -- ---- packets
  pub same_sent : (p : Packet) → is_sent other (renumbered_packet renumber p) ≡ is_sent plan p
  same_sent (Wait m) = ap (λ n. nat_lt 0 n) (is.messages m).wait
  same_sent (Multicast m g) =
      ap₂ (λ (a b : Bool). a && b) ((is.messages m).destinations g)
      (ap (λ (s : Sender). takes_time other s (renumber g)) (is.messages m).sender ∙ takes_too (message_at plan m).sender g)
  same_sent (Propose m h g) =
      ap₂ (λ (a b : Bool). a && b) (ap₂ (λ (a b : Bool). a && b) ((is.messages m).destinations h) ((is.messages m).destinations g)) (stamp_takes_too h g)

  pub same_range : (p : Packet) → range_of other (renumbered_packet renumber p) ≡ range_of plan p
  same_range (Wait m) = ap (λ (n : ℕ). (0, n)) (is.messages m).wait
  same_range (Multicast m g) =
      ap (λ (s : Sender). range_between other s (renumber g)) (is.messages m).sender ∙ is.ranges (message_at plan m).sender g
  same_range (Propose m h g) = is.ranges (Group h) g

  -- ---- the greatest of some numbers over the destinations of a message
  pub same_greatest : (f there : ℕ → ℕ) (m : ℕ) → ((h : ℕ) → GoesTo plan m h → there (renumber h) ≡ f h)
      → fold max 0 (map there (message_at other m).destinations) ≡ fold max 0 (map f (message_at plan m).destinations)
  same_greatest f there m same =
      let low = greatest_most there (fold max 0 (map f (message_at plan m).destinations)) (message_at other m).destinations (λ h i. low_at h (goes_from_in other m h i)) in
      let high = greatest_most f (fold max 0 (map there (message_at other m).destinations)) (message_at plan m).destinations (λ h i. high_at h (goes_from_in plan m h i)) in
      omega arith where
        low_at : (h : ℕ) → GoesTo other m h → there h ≤ fold max 0 (map f (message_at plan m).destinations)
        low_at h goes =
            let here = goes_back m h goes in
            let first = same (back h) here in
            let again : there (renumber (back h)) ≡ there h = ap there (is.there_again h) in
            let most = in_greatest f (back h) (message_at plan m).destinations (in_of_goes plan m (back h) here) in
            omega arith

        high_at : (h : ℕ) → GoesTo plan m h → f h ≤ fold max 0 (map there (message_at other m).destinations)
        high_at h goes =
            let first = same h goes in
            let most = in_greatest there (renumber h) (message_at other m).destinations (in_of_goes other m (renumber h) (goes_there m h goes)) in
            omega arith

  -- ---- the one is the other with its groups listed as in the one
  message_back : (m : ℕ) → IsRenumberedMessage back (message_at other m) (message_at plan m)
  message_back m = record {
    sender = sym (sender_again renumber back is.back_again (message_at plan m).sender) ∙ ap (renumbered_sender back) (sym (is.messages m).sender);
    destinations = λ g. sym ((is.messages m).destinations (back g)) ∙ ap (is_addressed (message_at other m)) (is.there_again g);
    at = sym (is.messages m).at;
    wait = sym (is.messages m).wait;
  }

  pub turned : IsRenumbered back renumber other plan
  turned = record {
    back_again = is.there_again;
    there_again = is.back_again;
    time = sym is.time;
    message_count = sym is.message_count;
    messages = message_back;
    homes = record {
      messages = λ g. sym (is.homes.messages (back g)) ∙ ap (λ (k : ℕ). takes_time other (Group k) k) (is.there_again g);
      stamps = λ g. sym (is.homes.stamps (back g)) ∙ ap (λ (k : ℕ). stamp_takes_time other k k) (is.there_again g);
    };
    ranges = λ sender to.
        sym (is.ranges (renumbered_sender back sender) (back to))
        ∙ ap₂ (range_between other) (sender_again back renumber is.there_again sender) (is.there_again to);
    target_message = sym is.target_message;
    target_group = sym (is.back_again plan.target_group) ∙ ap back (sym is.target_group);
  }
